-- The first k numbers are put.
use Rattle.std.proofs.Common.{◌*◌, ◌≤◌, length, take}
use Rattle.writing.specs.Writing.{Put}
use Rattle.lines.specs.Text.{listed}
use Rattle.lines.proofs.put_numbers.Given as goal

abbrev pub invariant-loop-k : goal.invariant-loop-k
invariant-loop-k l = record {
  put : Put (listed (take l.k-counter l.numbers)) l.fn.room l.room l.at;
  short : length (listed (take l.k-counter l.numbers)) ≤ 21 * l.k-counter;
}
