-- The first k bytes of the text are written.
use Rattle.std.proofs.Common.{take}
use Rattle.writing.specs.Writing.{Put}
use Rattle.writing.proofs.put_text.Given as goal

abbrev pub invariant-loop-k : goal.invariant-loop-k
invariant-loop-k l = Put (take l.k l.text) l.fn.room l.room l.k
