use Rattle.std.proofs.Common.{ap, ◌∙◌}
use Rattle.figures.specs.Outcome.{answered}
use Rattle.figures.proofs.Laws.{at_exit}
use Rattle.grid.specs.Lent.{lent}
use Rattle.convert.proofs.ToNad83.{refused_as, at_of, place_in, on_within, rounded_within, comes_to}
use Rattle.convert.proofs.forward.Goals as goal

pub exact_at-requires : goal.exact_at-requires
exact_at-requires c = let k = c.args.checked in place_in (lent k.grid) c.args.p k.passes (at_of c.in_ok-at.ensures.value c.position_of.ensures)

pub shift_point-requires-clause-ranges : goal.shift_point-requires-clause-ranges
shift_point-requires-clause-ranges c =
    let k = c.args.checked in
    let w = on_within (lent k.grid) c.args.p k.passes (at_of c.in_ok-at.ensures.value c.position_of.ensures) in
    (w.0, w.1, c.exact_at.ensures.1)

pub shift_point-requires-clause-shifts : goal.shift_point-requires-clause-shifts
shift_point-requires-clause-shifts c =
    let k = c.args.checked in rounded_within (lent k.grid) c.args.p k.passes (at_of c.in_ok-at.ensures.value c.position_of.ensures) c.exact_at.ensures.0

pub returns-in_err-at : goal.returns-in_err-at
returns-in_err-at c =
    let k = c.args.checked in
    at_exit c.from_residual.result c.in_err-at.field-0.0 c.from_residual.ensures.1 ∙ refused_as (lent k.grid) c.args.p k.passes c.in_err-at.ensures.value c.position_of.ensures

pub returns : goal.returns
returns c =
    let k = c.args.checked in
    ap answered c.shift_point.ensures ∙ comes_to (lent k.grid) c.args.p k.passes (at_of c.in_ok-at.ensures.value c.position_of.ensures) c.exact_at.ensures.0
