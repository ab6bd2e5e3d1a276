use Rattle.std.proofs.Common.{◌≡◌, ◌∙◌, rules}
use Rattle.figures.specs.Outcome.{refusal}
use Rattle.figures.proofs.Laws.{at_exit, refused_first}
use Rattle.grid.specs.Lent.{lent}
use Rattle.convert.specs.Convert.{to83}
use Rattle.round_trip.specs.RoundTrip.{comes_back}
use Rattle.round_trip.proofs.Laws.{there_back}
use Rattle.round_trip.proofs.there_and_back.Goals as goal

pub returns-in_err-to83 : goal.returns-in_err-to83
unfolding comes_back
returns-in_err-to83 c =
    let w = c.in_err-to83.field-0.0 in
    let told : refusal w ≡ to83 (lent c.args.grid) c.args.p = search rules in
    at_exit c.from_residual.result w c.from_residual.ensures.1 ∙ refused_first _ told

pub returns : goal.returns
returns c = c.to27.ensures ∙ there_back (lent c.args.grid) c.args.p c.in_ok-to83.ensures
