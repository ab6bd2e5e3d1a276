use Rattle.std.proofs.Common.{ap, ◌∙◌}
use Rattle.figures.specs.Outcome.{map_answer}
use Rattle.figures.proofs.Laws.{at_exit}
use Rattle.grid.specs.Lent.{lent}
use Rattle.round_trip.specs.RoundTrip.{goes_again}
use Rattle.round_trip.proofs.Laws.{back_there}
use Rattle.round_trip.proofs.back_and_there.Goals as goal

pub returns-in_err-to27 : goal.returns-in_err-to27
unfolding goes_again
returns-in_err-to27 c = at_exit c.from_residual.result c.in_err-to27.field-0.0 c.from_residual.ensures.1 ∙ ap (map_answer _) c.in_err-to27.ensures

pub returns : goal.returns
returns c = c.to83.ensures ∙ back_there (lent c.args.grid) c.args.f c.in_ok-to27.ensures
