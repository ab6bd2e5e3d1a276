use Rattle.std.proofs.Common.{ap, ◌∙◌, eq-eqb, ne_eqb, arith, rules}
use Rattle.writing.proofs.Laws.{put_added}
use Rattle.list_state.specs.State.{totals_reply}
use Rattle.requests.specs.Replies.{reply_text}
use Rattle.listing.specs.Pieces.{end_text}
use Rattle.listing.proofs.putting.put_end.Goals as goal

pub returns-then-list-eq0 : goal.returns-then-list-eq0
unfolding end_text
returns-then-list-eq0 c =
    rw (eq-eqb c.args.list.length 0 c.if-list-eq0.true) (rw c.reply.ensures at c.put.ensures.put)

pub returns : goal.returns
unfolding end_text
returns c =
    let e = c.reply-done.ensures ∙ ap totals_reply c.count.ensures in
    let d = reply_text c.reply-done.result in
    rw (ne_eqb c.args.list.length 0 c.if-list-eq0.false, ← e) (put_added c.put-2.ensures.put (c.put_behind.ensures.added d (record { each = λ before after n p. search rules })) (omega arith))
