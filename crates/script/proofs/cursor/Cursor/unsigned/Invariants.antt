use Rattle.std.proofs.Common.{length, ◌≤◌}
use Rattle.script.specs.Reading.{LeftOf}
use Rattle.script.proofs.cursor.Cursor.unsigned.Given as goal

abbrev pub invariant-loop-digit : goal.invariant-loop-digit
invariant-loop-digit l = (length l.self.rest.now ≤ length l.fn.self.rest.now) × LeftOf l.fn.self.rest.now l.self.rest.now

abbrev pub decreases-loop-digit : goal.decreases-loop-digit
decreases-loop-digit l = length l.self.rest.now
