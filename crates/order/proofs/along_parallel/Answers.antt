use Rattle.std.proofs.Common.{ap, ◌∙◌}
use Rattle.figures.specs.Outcome.{answered}
use Rattle.figures.proofs.Laws.{at_exit}
use Rattle.grid.specs.Lent.{lent}
use Rattle.order.specs.Comparing.{on_parallel}
use Rattle.order.proofs.Laws.{both_refused, longitudes_named, parallel_kept}
use Rattle.order.proofs.along_parallel.Goals as goal

pub returns-in_err-a : goal.returns-in_err-a
returns-in_err-a c =
    let s = c.args in at_exit c.from_residual.result c.in_err-a.field-0.0 c.from_residual.ensures.1 ∙ both_refused (lent s.grid) s.p s.q (on_parallel s.p s.q) c.in_err-a.ensures

pub parallel_order-requires : goal.parallel_order-requires
parallel_order-requires c = let s = c.args in longitudes_named (lent s.grid) s.p s.q c.in_ok-a.ensures

pub returns : goal.returns
returns c = let s = c.args in ap answered c.parallel_order.ensures ∙ parallel_kept (lent s.grid) s.p s.q c.in_ok-a.ensures
