use Rattle.std.proofs.Common.{arith, rules, Fits, w64, ℕ, ◌*◌, ◌-◌, ◌≤◌, ap}
use Rattle.bilinear.specs.Axis.{cell_of}
use Rattle.grid.specs.Needs.{Extent}
use Rattle.grid.specs.declared.Shape.{Shape}
use Rattle.shift.specs.Shift.{cell_at}
use Rattle.shift.proofs.Cells.{cell_of_point}
use Rattle.convert.proofs.cells.cell_at.Goals as goal

-- the point lies in the cell that is found, along each axis
module _ (s : Shape) (x y : ℕ) (z : Extent s) (hx : x ≤ (s.cols - 1) * s.dlon) (hy : y ≤ (s.rows - 1) * s.dlat) where
  along : let q = s.dlon * cell_of s.dlon (s.cols - 2) x in (q ≤ x) × (x - q ≤ s.dlon)
  unfolding cell_at
  along = let k = (cell_of_point z hx hy).along in (omega (arith, k), omega (arith, k))

  up : let q = s.dlat * cell_of s.dlat (s.rows - 2) y in (q ≤ y) × (y - q ≤ s.dlat)
  unfolding cell_at
  up = let k = (cell_of_point z hx hy).up in (omega (arith, k), omega (arith, k))

pub overflow_mul-a : goal.overflow_mul-a
overflow_mul-a c = let a = c.args in let p = c.requires in let f : Fits w64 a.at.x = search rules in record { fits = omega (arith, along a.shape a.at.x a.at.y p.0 p.1 p.2, f, ap (λ (t : ℕ). a.shape.dlon * t) c.cell_of-col.ensures) }

pub overflow_sub-a : goal.overflow_sub-a
overflow_sub-a c = let a = c.args in let p = c.requires in omega (arith, along a.shape a.at.x a.at.y p.0 p.1 p.2, ap (λ (t : ℕ). a.shape.dlon * t) c.cell_of-col.ensures)

pub overflow_mul-c : goal.overflow_mul-c
overflow_mul-c c = let a = c.args in let p = c.requires in let f : Fits w64 a.at.y = search rules in record { fits = omega (arith, up a.shape a.at.x a.at.y p.0 p.1 p.2, f, ap (λ (t : ℕ). a.shape.dlat * t) c.cell_of-row.ensures) }

pub overflow_sub-c : goal.overflow_sub-c
overflow_sub-c c = let a = c.args in let p = c.requires in omega (arith, up a.shape a.at.x a.at.y p.0 p.1 p.2, ap (λ (t : ℕ). a.shape.dlat * t) c.cell_of-row.ensures)

pub overflow_sub-b : goal.overflow_sub-b
overflow_sub-b c = let a = c.args in let p = c.requires in omega (arith, along a.shape a.at.x a.at.y p.0 p.1 p.2, ap (λ (t : ℕ). a.shape.dlon * t) c.cell_of-col.ensures)

pub overflow_sub-d : goal.overflow_sub-d
overflow_sub-d c = let a = c.args in let p = c.requires in omega (arith, up a.shape a.at.x a.at.y p.0 p.1 p.2, ap (λ (t : ℕ). a.shape.dlat * t) c.cell_of-row.ensures)
