use Rattle.std.proofs.Common.{◌∙◌}
use Rattle.figures.proofs.SameLaws.{one_axis}
use Rattle.order.specs.Comparing.{order_of}
use Rattle.order.proofs.meridian_order.Goals as goal

pub returns : goal.returns
returns c = let e = c.eq.ensures ∙ one_axis _ _ in c.order_of.ensures ∙ (λ i. order_of (e i) (c.cmp-points.ensures i) (c.cmp-answers.ensures i))
