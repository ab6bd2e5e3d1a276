use Rattle.std.proofs.Common.{◌≡◌, ◌∙◌, rules}
use Rattle.figures.specs.Outcome.{refusal}
use Rattle.figures.proofs.Laws.{at_exit, refused_first}
use Rattle.grid.specs.Lent.{lent}
use Rattle.grid.specs.Check.{verdict}
use Rattle.convert.specs.Convert.{to27}
use Rattle.convert.proofs.to27.Goals as goal

pub returns-in_err-check : goal.returns-in_err-check
unfolding to27
returns-in_err-check c =
    let w = c.in_err-check.field-0.0 in
    let told : refusal w ≡ verdict (lent c.args.grid) = search rules in
    at_exit c.from_residual.result w c.from_residual.ensures.1 ∙ refused_first _ told
