-- What the routine asks of a cell, its corners and distances.
use Rattle.std.specs.Prelude.{suc, ◌+◌, ◌≤◌, ◌<◌, ◌≡◌}
use Rattle.laws.specs.Parts.{Within}
use Rattle.grid.specs.declared.Shape.{Shape}
use Rattle.shift.specs.declared.Cell.{Cell}
use Rattle.shift.specs.declared.Corners.{Corners}
use Rattle.shift.specs.declared.Distances.{Distances}
use Rattle.shift.specs.declared.ExactShift.{ExactShift}
use Rattle.grid.specs.Nodes.{max_shift}

-- a cell of the grid, with distances that make up its sides
pub record CellIn (s : Shape) (k : Cell) : Type 0 where
  pub row_in : suc k.row < s.rows
  pub col_in : suc k.col < s.cols
  pub width : k.distances.a + k.distances.b ≡ s.dlon
  pub height : k.distances.c + k.distances.d ≡ s.dlat

-- distances that keep the numerator and the denominator small
pub record Weighted (k : Distances) : Type 0 where
  pub wide : 0 < k.a + k.b
  pub narrow : k.a + k.b ≤ 900_000
  pub high : 0 < k.c + k.d
  pub low : k.c + k.d ≤ 900_000

-- corners in their range
pub record CornersIn (s : Corners) : Type 0 where
  pub sw : Within max_shift s.s1
  pub se : Within max_shift s.s2
  pub nw : Within max_shift s.s3
  pub ne : Within max_shift s.s4

-- an exact shift of such corners and distances
pub record ExactIn (e : ExactShift) : Type 0 where
  pub lat_in : Within 4_860_000_000_000_000_000 e.lat
  pub lon_in : Within 4_860_000_000_000_000_000 e.lon
  pub positive : 0 < e.denominator
  pub small : e.denominator ≤ 810_000_000_000
