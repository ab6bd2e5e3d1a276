use Rattle.std.proofs.Common.{arith, rules}
use Rattle.writing.proofs.Laws.{put_rest, put_added}
use Rattle.grid.specs.Lent.{lent}
use Rattle.listing.specs.Pieces.{end_text}
use Rattle.listing.proofs.Whole.{sheet_told, list_text_lem}
use Rattle.listing.proofs.putting.put_list.Goals as goal

pub returns : goal.returns
returns c =
    let g = lent c.args.grid.grid in
    let f = rw c.new-list.ensures at c.put_replies-replies.ensures in
    let start = rw (sheet_told g c.args.grid.passes c.node_count.ensures) at c.put-start.ensures.put in
    let last = c.put_behind.ensures.added (end_text c.put_replies-replies.new.list) (record { each = λ before after n p. search rules }) in
    rw (list_text_lem g c.args.text.now (omega arith), ← f.next)
    (put_added (put_rest start c.min-from.ensures (omega arith) f.put c.saturating_add.ensures) last (omega arith))
