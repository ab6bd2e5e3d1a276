use Rattle.std.proofs.Common.{rules}
use Rattle.grid.specs.Lent.{lent}
use Rattle.listing.proofs.Batches.{replies_converted}
use Rattle.listing.proofs.batch.Batch.convert.Goals as goal

pub returns-clause-replies : goal.returns-clause-replies
returns-clause-replies c =
    let b = c.args.self.now in
    replies_converted (lent c.args.grid.grid) c.args.grid.passes b b.few (search rules) (search rules) (search rules) (search rules)
    c.convert_batch.ensures.answers c.convert_batch.ensures.refusals
