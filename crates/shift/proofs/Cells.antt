-- The cell of a point: it is one of the grid's, and its distances make up its sides.
use Prim.Native.Nat.{ℕ, suc, ◌+◌, ◌*◌, ◌-◌, ◌≤◌, ◌<◌}
use native.Mathlib.Nat.{mul-le-mul, mul-le-mul_right}
use native.Mathlib.Omega.{arith}
use mathlib.Core.Path.{◌≡◌}
use Rattle.bilinear.specs.Axis.{cell_found}
use Rattle.grid.specs.Needs.{Extent}
use Rattle.grid.specs.declared.Shape.{Shape}
use Rattle.shift.specs.Shift.{CellOf, cell_at, northwest}
use Rattle.shift.specs.Needs.{CellIn, Weighted}
use Rattle.shift.specs.declared.Cell.{Cell}

module _ {s : Shape} (z : Extent s) where
  -- the edges, as `bilinear` has them
  pub edges : (s.dlon * suc (s.cols - 2) ≡ (s.cols - 1) * s.dlon) × (s.dlat * suc (s.rows - 2) ≡ (s.rows - 1) * s.dlat)
  edges =
      let a : suc (s.cols - 2) ≡ s.cols - 1 = omega (arith, z) in
      let b : suc (s.rows - 2) ≡ s.rows - 1 = omega (arith, z) in
      (rw a (omega arith), rw b (omega arith))

  pub edges_small : ((s.cols - 1) * s.dlon ≤ 229_500_000) × ((s.rows - 1) * s.dlat ≤ 229_500_000)
  edges_small =
      let i : (s.cols - 1 ≤ 255) × (s.rows - 1 ≤ 255) = omega (arith, z) in
      (mul-le-mul i.0 z.dlon_high, mul-le-mul i.1 z.dlat_high)

  pub spacings : (0 < s.dlon) × (0 < s.dlat)
  spacings = (omega (arith, z), omega (arith, z))

  pub cell_of_point : {x y : ℕ} → x ≤ (s.cols - 1) * s.dlon → y ≤ (s.rows - 1) * s.dlat → CellOf s x y (cell_at s x y)
  unfolding cell_at
  cell_of_point {x} {y} hx hy =
      record {
        along = cell_found s.dlon (s.cols - 2) spacings.0 x (rw edges.0 hx);
        up = cell_found s.dlat (s.rows - 2) spacings.1 y (rw edges.1 hy);
      }

  pub cell_in : {x y : ℕ} {k : Cell} → CellOf s x y k → CellIn s k
  cell_in c =
      record {
        row_in = omega (arith, z, c.up);
        col_in = omega (arith, z, c.along);
        width = c.along.width;
        height = c.up.width;
      }

  module _ {k : Cell} (c : CellIn s k) where
    pub weighted : Weighted k.distances
    weighted = record { wide = omega (arith, z, c); narrow = omega (arith, z, c); high = omega (arith, z, c); low = omega (arith, z, c) }

    -- its four corners are nodes
    pub corners_in_lem : northwest s.cols k + 1 < s.rows * s.cols
    corners_in_lem = omega (arith, c.col_in, mul-le-mul_right s.cols c.row_in)
