use Rattle.listing.specs.Batch.{reply_at, up_to, RepliesPut}
use Rattle.listing.proofs.batch.Batch.put.Given as goal

abbrev pub invariant-loop-k : goal.invariant-loop-k
invariant-loop-k l = RepliesPut (up_to (reply_at l.fn.self) l.k) l.k l.initial.totals l.totals l.initial.room l.room l.bytes
