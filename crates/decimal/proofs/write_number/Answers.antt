use Rattle.std.proofs.Common.{arith, rules}
use Rattle.decimal.specs.Spelling.{spell}
use Rattle.decimal.proofs.Lengths.{length_i64}
use Rattle.decimal.proofs.write_number.Goals as goal

pub returns : goal.returns
returns c = c.write.ensures.wrote (spell c.args.x) (record { each = λ before after n p. search rules }) (λ h. omega (arith, length_i64 c.ranges.x))
