use Rattle.std.proofs.Common.{◌≡◌, length, sym, ap, ◌∙◌, rules}
use Rattle.figures.specs.Outcome.{answered, refusal}
use Rattle.figures.proofs.Laws.{at_exit, refused_first, passed_first}
use Rattle.grid.specs.Lent.{lent}
use Rattle.grid.specs.Check.{verdict}
use Rattle.convert.specs.Batch.{request_outcome, converting, answers_to, refusals_to, answers_after, refusals_after}
use Rattle.convert.proofs.BatchLaws.{roomy}
use Rattle.convert.proofs.batch.convert_batch.Goals as goal

-- What the check told is searched for and `verdict` unfolded, so that a wrong check is refused for what it leaves out and not for a name.

-- a grid that is refused, and slices that are too short
pub returns-in_err-checked-clause-answer : goal.returns-in_err-checked-clause-answer
unfolding converting verdict
returns-in_err-checked-clause-answer c =
    let told : refusal c.in_err-checked.field-0.0 ≡ verdict (lent c.args.grid) = search rules in
    at_exit c.from_residual.result c.in_err-checked.field-0.0 c.from_residual.ensures.1 ∙ refused_first _ told

pub returns-in_err-checked-clause-answers : goal.returns-in_err-checked-clause-answers
unfolding converting answers_after verdict
returns-in_err-checked-clause-answers c =
    let a = c.args in
    let told : refusal c.in_err-checked.field-0.0 ≡ verdict (lent a.grid) = search rules in
    ap (λ o. answers_after o (request_outcome (lent a.grid) a.ways.now a.points.now) a.answers.now) (refused_first _ told)

pub returns-in_err-checked-clause-refusals : goal.returns-in_err-checked-clause-refusals
unfolding converting refusals_after verdict
returns-in_err-checked-clause-refusals c =
    let a = c.args in
    let told : refusal c.in_err-checked.field-0.0 ≡ verdict (lent a.grid) = search rules in
    ap (λ o. refusals_after o (request_outcome (lent a.grid) a.ways.now a.points.now) a.refusals.now) (refused_first _ told)

pub returns-in_err-n-clause-answer : goal.returns-in_err-n-clause-answer
unfolding converting
returns-in_err-n-clause-answer c =
    let r = c.from_residual-in_err-n in
    let passed : answered tt ≡ verdict (lent c.args.grid) = search rules in
    at_exit r.result c.in_err-n.field-0.0 r.ensures.1 ∙ c.in_err-n.ensures ∙ passed_first _ passed

pub returns-in_err-n-clause-answers : goal.returns-in_err-n-clause-answers
unfolding converting answers_after
returns-in_err-n-clause-answers c =
    let a = c.args in
    let passed : answered tt ≡ verdict (lent a.grid) = search rules in
    ap (λ o. answers_after o (request_outcome (lent a.grid) a.ways.now a.points.now) a.answers.now) (c.in_err-n.ensures ∙ passed_first _ passed)

pub returns-in_err-n-clause-refusals : goal.returns-in_err-n-clause-refusals
unfolding converting refusals_after
returns-in_err-n-clause-refusals c =
    let a = c.args in
    let passed : answered tt ≡ verdict (lent a.grid) = search rules in
    ap (λ o. refusals_after o (request_outcome (lent a.grid) a.ways.now a.points.now) a.refusals.now) (c.in_err-n.ensures ∙ passed_first _ passed)

-- room for each request
pub fill-requires : goal.fill-requires
fill-requires c =
    let a = c.args in
    let r = roomy (length a.ways.now) a.points.now a.answers.now a.refusals.now c.in_ok-n.ensures in
    (r.points_fit, r.answers_fit, r.refusals_fit)

pub returns-clause-answer : goal.returns-clause-answer
unfolding converting
returns-clause-answer c =
    let passed : answered tt ≡ verdict (lent c.args.grid) = search rules in
    c.in_ok-n.ensures ∙ passed_first _ passed

pub returns-clause-answers : goal.returns-clause-answers
unfolding converting answers_after
returns-clause-answers c =
    let a = c.args in
    let r = roomy (length a.ways.now) a.points.now a.answers.now a.refusals.now c.in_ok-n.ensures in
    let same : lent c.in_ok-checked.checked.grid ≡ lent a.grid = search rules in
    let passed : answered tt ≡ verdict (lent a.grid) = search rules in
    c.fill.ensures.answers
    ∙ (λ i. answers_to (request_outcome (same i) a.ways.now a.points.now) (sym r.all i) a.answers.now)
    ∙ ap (λ o. answers_after o (request_outcome (lent a.grid) a.ways.now a.points.now) a.answers.now) (c.in_ok-n.ensures ∙ passed_first _ passed)

pub returns-clause-refusals : goal.returns-clause-refusals
unfolding converting refusals_after
returns-clause-refusals c =
    let a = c.args in
    let r = roomy (length a.ways.now) a.points.now a.answers.now a.refusals.now c.in_ok-n.ensures in
    let same : lent c.in_ok-checked.checked.grid ≡ lent a.grid = search rules in
    let passed : answered tt ≡ verdict (lent a.grid) = search rules in
    c.fill.ensures.refusals
    ∙ (λ i. refusals_to (request_outcome (same i) a.ways.now a.points.now) (sym r.all i) a.refusals.now)
    ∙ ap (λ o. refusals_after o (request_outcome (lent a.grid) a.ways.now a.points.now) a.refusals.now) (c.in_ok-n.ensures ∙ passed_first _ passed)
