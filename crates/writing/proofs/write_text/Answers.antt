use Rattle.std.proofs.Common.{rules}
use Rattle.writing.proofs.write_text.Goals as goal

pub returns : goal.returns
returns c = c.write.ensures.wrote c.args.text.now (record { each = λ before after n q. search rules }) (λ h. h)
