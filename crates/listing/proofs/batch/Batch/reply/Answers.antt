use Rattle.std.proofs.Common.{ap, ◌∙◌, eq-eqb, ne_eqb, SFits, to_z-of_z, rules}
use Rattle.std.specs.Int.{w64}
use Rattle.convert.specs.Batch.{way_to83}
use Rattle.requests.specs.declared.Reply.{Reply}
use Rattle.listing.specs.Batch.{reply_by}
use Rattle.listing.proofs.batch.Batch.reply.Goals as goal

pub returns-then-number-ne0 : goal.returns-then-number-ne0
unfolding reply_by
returns-then-number-ne0 c =
    let f : SFits w64 c.from.result = search rules in
    rw (ne_eqb _ 0 c.if-number-ne0.true) (ap (λ n. Reply.No n) (to_z-of_z f ∙ c.from.ensures))

pub returns-then-self-k : goal.returns-then-self-k
unfolding reply_by
returns-then-self-k c =
    rw (eq-eqb _ 0 c.if-number-ne0.false, ne_eqb _ way_to83 (rw c.from-2.ensures at c.if-self-k.true)) (ap (λ p. Reply.In27 p) (search rules))

pub returns : goal.returns
unfolding reply_by
returns c =
    rw (eq-eqb _ 0 c.if-number-ne0.false, eq-eqb _ way_to83 (c.if-self-k.false ∙ c.from-2.ensures)) (ap (λ a. Reply.In83 a) (search rules))
