use Rattle.std.proofs.Common.{arith, ℕ, ◌+◌, ◌*◌, ◌<◌, ◌≡◌, ap, ◌∙◌}
use Rattle.grid.specs.Grid.{Grid}
use Rattle.grid.specs.Lent.{lent}
use Rattle.grid.specs.declared.Shape.{Shape}
use Rattle.shift.specs.Shift.{northwest, cell_at, exact_in, exact_of}
use Rattle.shift.specs.declared.Cell.{Cell}
use Rattle.shift.proofs.OnGrid.{found_corners, found_weights, found_range, found_exact}
use Rattle.convert.proofs.CellLaws.{AtPoint, at_point}
use Rattle.convert.proofs.cells.exact_at.Goals as goal

-- the corners are nodes
module _ (g : Grid) (s : Shape) (x y : ℕ) (k : Cell) (t : AtPoint g s x y) (e : k ≡ cell_at s x y) where
  corners : northwest s.cols k + 1 < s.rows * s.cols
  corners = found_corners t.sizes t.in_x t.in_y e

  few : northwest s.cols k + 1 < 2048
  few = omega (arith, corners, t.sizes.nodes)

pub cell_at-cell-requires : goal.cell_at-cell-requires
cell_at-cell-requires c =
    let a = c.args in
    let t = at_point (lent a.checked.grid) a.checked.passes c.shape_of-shape.ensures.value c.requires.0 c.requires.1 in
    (t.sizes, t.in_x, t.in_y)

pub overflow_mul-sw : goal.overflow_mul-sw
overflow_mul-sw c =
    let a = c.args in
    let t = at_point (lent a.checked.grid) a.checked.passes c.shape_of-shape.ensures.value c.requires.0 c.requires.1 in
    record { fits = omega (arith, few _ _ _ _ c.cell_at-cell.result t c.cell_at-cell.ensures) }

pub overflow_add-sw : goal.overflow_add-sw
overflow_add-sw c =
    let a = c.args in
    let t = at_point (lent a.checked.grid) a.checked.passes c.shape_of-shape.ensures.value c.requires.0 c.requires.1 in
    record { fits = omega (arith, few _ _ _ _ c.cell_at-cell.result t c.cell_at-cell.ensures) }

pub overflow_add-nw : goal.overflow_add-nw
overflow_add-nw c =
    let a = c.args in
    let t = at_point (lent a.checked.grid) a.checked.passes c.shape_of-shape.ensures.value c.requires.0 c.requires.1 in
    record { fits = omega (arith, few _ _ _ _ c.cell_at-cell.result t c.cell_at-cell.ensures) }

pub corners_at-requires : goal.corners_at-requires
corners_at-requires c =
    let a = c.args in
    let t = at_point (lent a.checked.grid) a.checked.passes c.shape_of-shape.ensures.value c.requires.0 c.requires.1 in
    let k = corners _ _ _ _ c.cell_at-cell.result t c.cell_at-cell.ensures in
    (omega (arith, k, t.room_lat), omega (arith, k, t.room_lat))

pub corners_at-requires-2 : goal.corners_at-requires-2
corners_at-requires-2 c =
    let a = c.args in
    let t = at_point (lent a.checked.grid) a.checked.passes c.shape_of-shape.ensures.value c.requires.0 c.requires.1 in
    let k = corners _ _ _ _ c.cell_at-cell.result t c.cell_at-cell.ensures in
    (omega (arith, k, t.room_lon), omega (arith, k, t.room_lon))

pub interpolate-requires : goal.interpolate-requires
interpolate-requires c =
    let a = c.args in
    let t = at_point (lent a.checked.grid) a.checked.passes c.shape_of-shape.ensures.value c.requires.0 c.requires.1 in (
      rw c.corners_at.ensures (found_range t.sizes t.in_x t.in_y c.cell_at-cell.ensures t.sound_lat),
      rw c.corners_at-2.ensures (found_range t.sizes t.in_x t.in_y c.cell_at-cell.ensures t.sound_lon),
      found_weights t.sizes t.in_x t.in_y c.cell_at-cell.ensures,
    )

pub returns : goal.returns
returns c =
    let a = c.args in
    let t = at_point (lent a.checked.grid) a.checked.passes c.shape_of-shape.ensures.value c.requires.0 c.requires.1 in
    let ns = (lent a.checked.grid).nodes in
    let y = c.corners_at.ensures in
    let x = c.corners_at-2.ensures in (
      c.interpolate.ensures.0 ∙ (λ i. exact_in (y i) (x i) c.cell_at-cell.result.distances) ∙ found_exact t.sizes t.in_x t.in_y c.cell_at-cell.ensures ns ∙ ap (λ (s : Shape). exact_of s ns a.at.x a.at.y) c.shape_of-shape.ensures.value,
      c.interpolate.ensures.1,
    )
