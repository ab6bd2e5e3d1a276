-- What the private functions ask of their arguments.
use Rattle.std.specs.Prelude.{ℕ, ◌*◌, ◌≤◌, ◌<◌, ◌≡◌, List, length, ℤ}
use Rattle.laws.specs.Parts.{Within}
use Rattle.grid.specs.Nodes.{max_shift, node}
use Rattle.grid.specs.declared.Shape.{Shape}

-- what the rules leave of the header's sizes
pub record Extent (s : Shape) : Type 0 where
  pub rows_low : 2 ≤ s.rows
  pub rows_high : s.rows ≤ 256
  pub cols_low : 2 ≤ s.cols
  pub cols_high : s.cols ≤ 256
  pub dlat_low : 1000 ≤ s.dlat
  pub dlat_high : s.dlat ≤ 900_000
  pub dlon_low : 1000 ≤ s.dlon
  pub dlon_high : s.dlon ≤ 900_000
  pub nodes : s.rows * s.cols ≤ 2048

-- the first `n` shifts are in range
pub record InRange (n : ℕ) (S : List ℤ) : Type 0 where
  pub range : (k : ℕ) → k < n → Within max_shift (node S k)

-- one component's shifts, as neighbours are judged: one for each node, all in range
pub record Judgeable (s : Shape) (S : List ℤ) : Type 0 where
  pub cut : length S ≡ s.rows * s.cols
  pub ranged : InRange (s.rows * s.cols) S
