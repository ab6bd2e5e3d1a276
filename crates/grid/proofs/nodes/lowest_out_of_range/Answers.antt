use Rattle.std.proofs.Common.{◌≡◌, true, false, length, rules, tests}
use Rattle.std.proofs.lemmas.Iterator.{first_from_Range}
use Rattle.grid.specs.Grid.{node_lists}
use Rattle.grid.specs.Nodes.{out_of_range}
use Rattle.grid.proofs.Passing.{found_lowest}
use Rattle.grid.proofs.nodes.lowest_out_of_range.Goals as goal

pub returns : goal.returns
unfolding out_of_range
returns c =
    let test = out_of_range (node_lists c.args.lat.now c.args.lon.now) in
    found_lowest (length c.args.lat.now) test _
    (first_from_Range _ _ _ _ (λ k. test k ≡ true) (λ k. test k ≡ false) c.find.ensures.ran (λ k q h. search (rules, tests)) (λ k q h. search (rules, tests)))
