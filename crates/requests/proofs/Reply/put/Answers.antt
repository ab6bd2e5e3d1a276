use Rattle.requests.specs.Replies.{reply_text}
use Rattle.requests.proofs.ReplyLaws.{answer_short}
use Rattle.requests.proofs.Reply.put.Goals as goal

pub returns-in-In83-clause-short : goal.returns-in-In83-clause-short
unfolding reply_text
returns-in-In83-clause-short c = let s = c.numbers.ensures.sizes in rw c.in-In83.is (answer_short c.in-In83.a s.0 s.1)
