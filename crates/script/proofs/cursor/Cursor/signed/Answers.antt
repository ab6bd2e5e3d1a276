use Rattle.script.proofs.ReadingLaws.{less_left}
use Rattle.script.proofs.cursor.Cursor.signed.Goals as goal

pub returns-in-Some-clause-left : goal.returns-in-Some-clause-left
returns-in-Some-clause-left c = less_left (record { passed = 1; left = c.in-Some.ensures.cases.1 }) c.unsigned.ensures.left
