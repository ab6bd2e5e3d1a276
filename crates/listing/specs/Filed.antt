-- A request as a batch takes it.
use Rattle.std.specs.Prelude.{ℕ, ◌+◌, ◌*◌, Bool, cond, List, eqb, set, ℤ, pos}
use Rattle.figures.specs.Outcome.{Outcome, answered, refused}
use Rattle.figures.specs.Points.{point27, point83}
use Rattle.lines.specs.Text.{newline}
use Rattle.convert.specs.Batch.{way_to83, way_to27}
use Rattle.requests.specs.Requests.{other_form}
use Rattle.requests.specs.declared.Request.{Request}

-- the most lines of a batch
abbrev pub max_batch : ℕ
max_batch = 2048

abbrev pub is_newline : (byte : ℕ) → Bool
is_newline byte = eqb byte newline

-- a way and two numbers
pub record Filed : Type 0 where
  pub way : ℕ
  pub lat : ℤ
  pub lon : ℤ

-- 0, which is no way, for a line that asks nothing
abbrev pub filed : Outcome Request → Filed
filed (answered (Request.To83 p)) = record { way = way_to83; lat = p.lat.0; lon = p.lon.0 }
filed (answered (Request.To27 f)) = record { way = way_to27; lat = f.lat.0; lon = f.lon.0 }
filed (refused n k) = record { way = 0; lat = pos 0; lon = pos 0 }

-- two numbers in the place of request k
abbrev pub pair_put : (k : ℕ) (y x : ℤ) → List ℤ → List ℤ
pair_put k y x points = set (set points (2 * k) y) (2 * k + 1) x

-- what a way and two numbers ask
unfoldable pub request_by : (way : ℕ) (y x : ℤ) → Outcome Request
request_by way y x =
    cond (eqb way way_to83) (answered (Request.To83 (point27 y x)))
    (cond (eqb way way_to27) (answered (Request.To27 (point83 y x))) other_form)
