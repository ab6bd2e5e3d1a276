use Rattle.std.proofs.Common.{arith, rules}
use Rattle.requests.specs.Replies.{reply_text}
use Rattle.listing.specs.Batch.{reply_at}
use Rattle.listing.proofs.ReplyLaws.{put_none, put_one}
use Rattle.listing.proofs.batch.Batch.put.Goals as goal

pub loop-k-init : goal.loop-k-init
loop-k-init c = put_none (reply_at c.args.self.now) _ _

pub loop-k-preserved : goal.loop-k-preserved
loop-k-preserved c =
    let e = c.put_behind-bytes.ensures in
    let a = e.added (reply_text c.reply-reply.result) (record { each = λ before after n q. search rules }) in
    let called = e.called.met in
    put_one (reply_at c.args.self.now) _ c.loop-k.invariant (omega arith) c.reply-reply.ensures c.count.ensures a (search rules)
