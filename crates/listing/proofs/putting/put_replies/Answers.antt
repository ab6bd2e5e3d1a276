use Rattle.std.proofs.Common.{arith}
use Rattle.writing.proofs.Laws.{added}
use Rattle.grid.specs.Lent.{lent}
use Rattle.listing.proofs.Runs.{fed-none, fed_more}
use Rattle.listing.proofs.putting.put_replies.Goals as goal

pub loop-rest-init : goal.loop-rest-init
loop-rest-init c = fed-none (lent c.args.grid.grid) c.args.list.now c.args.piece.now c.args.room.now c.hold.ensures

pub loop-rest-preserved : goal.loop-rest-preserved
loop-rest-preserved c =
    fed_more (lent c.args.grid.grid) (omega arith) c.loop-rest.invariant c.put_batch-front.ensures (λ part p. added c.min-from.ensures p c.saturating_add-bytes.ensures)
