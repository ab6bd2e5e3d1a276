use Rattle.listing.proofs.RequestLaws.{ReadSoFar}
use Rattle.listing.proofs.batch.Batch.read.Given as goal

abbrev pub invariant-loop-k : goal.invariant-loop-k
invariant-loop-k l = ReadSoFar l.fn.list l.text l.self.ways l.self.points l.line l.k l.taken
