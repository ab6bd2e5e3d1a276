use Rattle.std.proofs.Common.{length}
use Rattle.grid.specs.Lent.{lent}
use Rattle.listing.proofs.Runs.{FedSoFar}
use Rattle.listing.proofs.putting.put_replies.Given as goal

abbrev pub invariant-loop-rest : goal.invariant-loop-rest
invariant-loop-rest l = FedSoFar (lent l.grid.grid) l.fn.list l.piece l.fn.room l.list l.rest l.room l.bytes

abbrev pub decreases-loop-rest : goal.decreases-loop-rest
decreases-loop-rest l = length l.rest
