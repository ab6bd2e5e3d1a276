use Rattle.std.proofs.Common.{◌*◌, mul-le-mul, arith, ap}
use Rattle.grid.specs.Needs.{Extent}
use Rattle.grid.specs.Lent.{lent}
use Rattle.grid.specs.declared.Shape.{Shape}
use Rattle.grid.proofs.RuleLaws.{extent}
use Rattle.grid.proofs.Passing.{good}
use Rattle.grid.proofs.checked.CheckedGrid.node_count.Goals as goal

pub overflow_mul-result : goal.overflow_mul-result
overflow_mul-result c =
    let g = c.args.self in
    let z : Extent c.shape-shape.result = rw c.shape-shape.ensures (extent (good (lent g.grid) g.passes).header) in
    omega (arith, z.nodes, mul-le-mul z.rows_high z.rows_high)

pub returns : goal.returns
returns c =
    let g = c.args.self in
    let z : Extent c.shape-shape.result = rw c.shape-shape.ensures (extent (good (lent g.grid) g.passes).header) in
    (ap (λ (s : Shape). s.rows * s.cols) c.shape-shape.ensures, z.nodes)
