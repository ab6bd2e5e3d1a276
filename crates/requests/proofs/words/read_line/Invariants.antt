-- None of the words before this one starts the line.
use Rattle.std.proofs.Common.{◌≡◌, drop}
use Rattle.requests.specs.Requests.{words, asked}
use Rattle.requests.proofs.words.read_line.Given as goal

abbrev pub invariant-loop-word : goal.invariant-loop-word
invariant-loop-word l = asked (drop l.word-index words) l.line ≡ asked words l.line
