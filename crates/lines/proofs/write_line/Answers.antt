use Rattle.std.proofs.Common.{arith, rules}
use Rattle.lines.specs.Text.{line}
use Rattle.lines.proofs.write_line.Goals as goal

pub returns : goal.returns
returns c =
    let called = c.write.ensures.called.met in
    c.write.ensures.wrote (line c.args.key.now c.args.numbers.now) (record { each = λ before after n q. search rules }) (λ h. omega arith)
