use Rattle.std.proofs.Common.{arith, rules}
use Rattle.listing.specs.Pieces.{end_text}
use Rattle.listing.proofs.Exits.{wrote_within}
use Rattle.listing.proofs.finish.Goals as goal

pub returns : goal.returns
returns c =
    let w = c.write.ensures.wrote (end_text c.args.list) (record { each = λ before after n q. search rules }) (λ h. absurd (omega arith)) in
    record { wrote = w; within = wrote_within c.write.result w }
