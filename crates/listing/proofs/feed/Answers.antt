use Rattle.std.proofs.Common.{◌≡◌, Ok, refl, ap, ◌∙◌, length, arith, rules}
use Rattle.figures.specs.Outcome.{answered}
use Rattle.figures.proofs.Laws.{passed_first}
use Rattle.grid.specs.Lent.{lent}
use Rattle.grid.specs.Check.{verdict}
use Rattle.writing.specs.Writing.{Wrote}
use Rattle.listing.specs.Pieces.{feeding, fed_text}
use Rattle.writing.proofs.Laws.{wrote_short, wrote_fits, wrote_room, counted_room}
use Rattle.listing.proofs.feed.Goals.{then-room-piece+else-room-needed, else-room-piece}
use Rattle.listing.proofs.Exits.{wrote_within}
use Rattle.listing.proofs.feed.Goals as goal

-- What the check told is searched for, so that a wrong check is refused for what it leaves out and not for a name.

pub returns-then-room-needed : goal.returns-then-room-needed
unfolding feeding
returns-then-room-needed c =
    let room = c.args.room.now in
    let same : lent c.in_ok-grid.grid.grid ≡ lent c.args.grid = search rules in
    let passed : answered tt ≡ verdict (lent c.args.grid) = search rules in
    let p = rw same at c.put_replies-needed.ensures in
    let kept = counted_room room p.put in
    let w = wrote_short _ room p.put.counted (omega (arith, ap length kept, p.put.counted)) in
    record { answer = w.answer ∙ passed_first _ passed; list = refl; text = kept ∙ wrote_room w; within = tt }

pub returns : goal.returns
unfolding feeding
returns c =
    let room = c.args.room.now in
    let same : lent c.in_ok-grid.grid.grid ≡ lent c.args.grid = search rules in
    let passed : answered tt ≡ verdict (lent c.args.grid) = search rules in
    let p = rw same at c.put_replies.ensures in
    let w : Wrote (fed_text (lent c.args.grid) c.args.list.now c.args.piece.now) room c.put_replies.new.room (Ok c.put_replies.result) =
    elim c.if-room-piece.branch [
      | then-room-piece+else-room-needed w ↦
          let q = rw same at w.put_replies-needed.ensures in
          let kept = counted_room room q.put in
          wrote_fits (rw (w.room-is, kept) at p.put) (omega (arith, ap length kept, q.put.counted)) (omega arith)
      | else-room-piece w ↦ wrote_fits (rw w.room-is at p.put) (omega (arith, p.small)) (omega arith)
    ] in
    record { answer = w.answer ∙ passed_first _ passed; list = p.next; text = wrote_room w; within = wrote_within (Ok c.put_replies.result) w }
