use Rattle.std.proofs.Common.{◌≡◌, length, rules}
use Rattle.list_state.proofs.Holding.{held_more}
use Rattle.list_state.proofs.Listing.hold.Goals as goal

pub returns : goal.returns
returns c =
    let s = c.args.self in
    -- the array of the list has 65 bytes
    let long : length s.held ≡ 65 = search rules in
    held_more s c.args.part.now long c.line-line.ensures c.min.ensures c.put_all.ensures c.put_all-2.ensures
