use Rattle.std.proofs.Common.{length, arith, ap, sym, ◌∙◌}
use Rattle.script.proofs.ReadingLaws.{same_left, rest_left}
use Rattle.script.proofs.cursor.Cursor.unsigned.Goals as goal

pub loop-digit-preserved : goal.loop-digit-preserved
loop-digit-preserved c =
    let i = c.loop-digit.invariant in
    let e = c.in-Some-48-to-57.ensures.steps in
    (omega (arith, i.0, ap length e), rest_left i.1 e)

pub returns-in_default-clause-left : goal.returns-in_default-clause-left
returns-in_default-clause-left c = rest_left c.loop-digit.invariant.1 c.in_default.ensures.steps

pub returns-in_default-2-clause-left : goal.returns-in_default-2-clause-left
returns-in_default-2-clause-left c = rest_left c.loop-digit.invariant.1 c.in_default.ensures.steps

pub returns-in_default-3-clause-left : goal.returns-in_default-3-clause-left
returns-in_default-3-clause-left c = let e = rw c.in_default.is at c.next.ensures.steps in same_left c.loop-digit.invariant.1 (e.1 ∙ sym e.0)
