-- How the code finds the point of a figure: six rounds of a contraction come to a candidate, and the candidate's own answer decides. On a
-- grid that passes the checks it comes to `to27`: the theorem `sought-passes`.
use Rattle.std.specs.Prelude.{ℕ, cond, Option, Some, None}
use Rattle.bilinear.specs.Search.{iterate}
use Rattle.figures.specs.Outcome.{Outcome, answered, refused}
use Rattle.figures.specs.Same.{same83}
use Rattle.figures.specs.Points.{Point27, Point83}
use Rattle.grid.specs.Grid.{Grid}
use Rattle.grid.specs.Rules.{shape}
use Rattle.shift.specs.Shift.{component, raise}
use Rattle.convert.specs.Points.{point_at, width, height}
use Rattle.convert.specs.Convert.{answer}
use Rattle.convert.specs.declared.offsets.Spot.{Spot}

-- the raised shifts, which the rounds use
unfoldable pub raised_lat : Grid → (x y : ℕ) → ℕ
raised_lat g x y = raise (component (shape g.header) g.nodes.lat x y)

unfoldable pub raised_lon : Grid → (x y : ℕ) → ℕ
raised_lon g x y = raise (component (shape g.header) g.nodes.lon x y)

unfoldable pub candidate : Grid → (X Y : ℕ) → Point27
candidate g X Y =
    let q = iterate (width g.header) (height g.header) (raised_lon g) (raised_lat g) X Y 6 in point_at g.header q.0 q.1

-- a candidate `p` with the answer `f'` is the point of the figure `f` if that is the figure
abbrev pub settle : (f f' : Point83) → Point27 → Outcome Point27
settle f f' p = cond (same83 f f') (answered p) (refused 7 0)

-- what is found for a figure `f`, which stands at a place among the answers that there could be, or at none
unfoldable pub sought : Grid → Point83 → Option Spot → Outcome Point27
sought g f None = refused 7 0
sought g f (Some at) = settle f (answer g (candidate g at.x at.y)) (candidate g at.x at.y)
