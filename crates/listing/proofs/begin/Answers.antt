use Rattle.std.proofs.Common.{ap, ◌∙◌}
use Rattle.figures.proofs.Laws.{passed_first}
use Rattle.writing.proofs.Laws.{wrote_room}
use Rattle.grid.specs.Lent.{lent}
use Rattle.listing.specs.Listing.{beginning, sheet_text}
use Rattle.listing.proofs.Whole.{sheet_told}
use Rattle.listing.proofs.Exits.{wrote_within}
use Rattle.listing.proofs.begin.Goals as goal

pub returns : goal.returns
unfolding beginning
returns c =
    let k = c.in_ok-check in
    let told = sheet_told (lent k.field-0.grid) k.field-0.passes c.node_count-nodes.ensures ∙ ap sheet_text k.ensures.same in
    let w = rw told at c.write.ensures.wrote in
    record { answer = w.answer ∙ passed_first _ k.ensures.verdict; text = wrote_room w; within = wrote_within c.write.result w }
