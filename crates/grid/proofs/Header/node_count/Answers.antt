use Rattle.std.proofs.Common.{◌*◌, mul-le-mul, arith, ap}
use Rattle.grid.specs.Rules.{node_count_or0}
use Rattle.grid.specs.declared.Shape.{Shape}
use Rattle.grid.proofs.RuleLaws.{node_count_is}
use Rattle.grid.proofs.Passing.{sizes, header_broken}
use Rattle.grid.proofs.Header.node_count.Goals as goal

pub overflow_mul-result : goal.overflow_mul-result
overflow_mul-result c = let z = sizes c.in-Ok.ensures in omega (arith, z.extent.nodes, mul-le-mul z.extent.rows_high z.extent.rows_high)

pub returns-in-Ok : goal.returns-in-Ok
returns-in-Ok c = let z = sizes c.in-Ok.ensures in (rw (node_count_is c.args.self z.unbroken) (ap (λ (s : Shape). s.rows * s.cols) z.is), z.extent.nodes)

pub returns-in-Err : goal.returns-in-Err
unfolding node_count_or0
returns-in-Err c = (rw (header_broken c.args.self c.in-Err.ensures).1, omega arith)
