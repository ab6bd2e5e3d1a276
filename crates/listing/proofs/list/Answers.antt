use Rattle.std.proofs.Common.{◌∙◌, arith, rules}
use Rattle.figures.proofs.Laws.{passed_first}
use Rattle.grid.specs.Lent.{lent}
use Rattle.listing.specs.Listing.{listing, list_text}
use Rattle.writing.proofs.Laws.{wrote_room}
use Rattle.listing.proofs.Exits.{wrote_within}
use Rattle.listing.proofs.list.Goals as goal

pub returns : goal.returns
unfolding listing
returns c =
    let e = c.in_ok-checked.ensures in
    let text = list_text (lent c.args.grid) c.args.text.now in
    let w = c.write.ensures.wrote text (record { each = λ before after n p. rw (← e.same) (search rules) }) (λ h. absurd (omega arith)) in
    record { answer = w.answer ∙ passed_first _ e.verdict; text = wrote_room w; within = wrote_within c.write.result w }
