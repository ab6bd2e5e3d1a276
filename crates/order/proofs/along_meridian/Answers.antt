use Rattle.std.proofs.Common.{ap, ◌∙◌}
use Rattle.figures.specs.Outcome.{answered}
use Rattle.figures.proofs.Laws.{at_exit}
use Rattle.grid.specs.Lent.{lent}
use Rattle.order.specs.Comparing.{on_meridian}
use Rattle.order.proofs.Laws.{both_refused, meridian_kept}
use Rattle.order.proofs.along_meridian.Goals as goal

pub returns-in_err-a : goal.returns-in_err-a
returns-in_err-a c =
    let s = c.args in at_exit c.from_residual.result c.in_err-a.field-0.0 c.from_residual.ensures.1 ∙ both_refused (lent s.grid) s.p s.q (on_meridian s.p s.q) c.in_err-a.ensures

pub returns : goal.returns
returns c = let s = c.args in ap answered c.meridian_order.ensures ∙ meridian_kept (lent s.grid) s.p s.q c.in_ok-a.ensures
