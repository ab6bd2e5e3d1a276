use Rattle.std.proofs.Common.{◌≡◌, ℕ, None, ℤ, List, length, sym, ap, ◌∙◌}
use Rattle.grid.specs.Grid.{node_lists}
use Rattle.grid.specs.Nodes.{out_of_range}
use Rattle.grid.specs.Check.{lowest}
use Rattle.grid.specs.Needs.{InRange}
use Rattle.grid.proofs.Passing.{none_found, ranges}
use Rattle.grid.proofs.nodes.check.Goals as goal

-- no shift is out of its range
all_in_range : {n : ℕ} {lat lon : List ℤ} → None ≡ lowest (length lat) (out_of_range (node_lists lat lon)) → length lat ≡ n → InRange n lat × InRange n lon
all_in_range {n} {lat} {lon} e l =
    let test = out_of_range (node_lists lat lon) in
    ranges (node_lists lat lon) (none_found n test (ap (λ (m : ℕ). lowest m test) (sym l) ∙ sym e))

pub invariant_of-lat : goal.invariant_of-lat
invariant_of-lat c =
    let p = c.requires in
    record { sizes = p.0; judgeable = record { cut = p.1; ranged = (all_in_range c.in_default.ensures p.1).0 } }

pub invariant_of-lon : goal.invariant_of-lon
invariant_of-lon c =
    let p = c.requires in
    record { sizes = p.0; judgeable = record { cut = p.2; ranged = (all_in_range c.in_default.ensures p.1).1 } }
