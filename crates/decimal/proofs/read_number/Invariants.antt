-- What is left of the text comes to what the whole text is.
use Rattle.std.proofs.Common.{◌≡◌, drop}
use Rattle.decimal.specs.Spelling.{number_in}
use Rattle.decimal.specs.Pushing.{pushed_all}
use Rattle.decimal.proofs.read_number.Given as goal

abbrev pub invariant-loop-byte : goal.invariant-loop-byte
invariant-loop-byte l = pushed_all l.number (drop l.byte-index l.text) ≡ number_in l.text
