use Rattle.std.proofs.Common.{◌≡◌, true, false, length, rules, tests}
use Rattle.std.proofs.lemmas.Iterator.{first_from_Range}
use Rattle.grid.specs.Grid.{node_lists}
use Rattle.grid.specs.Nodes.{steep_at}
use Rattle.grid.proofs.Passing.{found_lowest}
use Rattle.grid.proofs.nodes.lowest_steep.Goals as goal

pub returns : goal.returns
returns c =
    let test = steep_at c.args.lat.shape (node_lists c.args.lat.shifts.now c.args.lon.shifts.now) in
    found_lowest (length c.args.lat.shifts.now) test _
    (first_from_Range _ _ _ _ (λ k. test k ≡ true) (λ k. test k ≡ false) c.find.ensures.ran (λ k q h. search (rules, tests)) (λ k q h. search (rules, tests)))
