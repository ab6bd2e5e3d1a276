use Rattle.std.proofs.Common.{◌++◌, take, ap, ◌∙◌}
use Rattle.requests.specs.Requests.{request_in}
use Rattle.list_state.specs.State.{held_line}
use Rattle.list_state.proofs.Holding.{at_most_65, capped_request, held_of}
use Rattle.list_state.proofs.Listing.asks.Goals as goal

pub returns : goal.returns
returns c =
    let s = c.args.self in
    let l = held_line s ++ c.args.part.now in
    let held = c.line.ensures ∙ ap held_line c.hold-whole.ensures ∙ held_of (take 65 l) s.totals (at_most_65 l) in
    c.read_request-2.ensures ∙ ap request_in held ∙ capped_request l
