use Rattle.std.proofs.Common.{arith, rules}
use Rattle.requests.specs.Replies.{reply_text}
use Rattle.requests.proofs.Reply.write.Goals as goal

pub returns-clause-wrote : goal.returns-clause-wrote
returns-clause-wrote c =
    let called = c.write.ensures.called.met in
    c.write.ensures.wrote (reply_text c.args.self) (record { each = λ before after n q. search rules }) (λ h. omega arith)
