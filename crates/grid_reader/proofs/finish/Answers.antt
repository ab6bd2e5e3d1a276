use Rattle.std.proofs.Common.{ℤ, ℕ, List, ◌≡◌, ◌≤◌, ◌++◌, length, take, drop, sym, arith, eq-eqb}
use Rattle.std.proofs.Math.Seq.{length-take-le}
use Rattle.laws.specs.Over.{over}
use Rattle.grid.specs.Grid.{node_lists}
use Rattle.grid_reader.specs.Scan.{whole_at}
use Rattle.grid_reader.specs.Reading.{nodes_after}
use Rattle.grid_reader.proofs.finish.Goals as goal

-- copied over the front of a slice
copied : {front : List ℤ} (n : ℕ) (from to : List ℤ) → front ≡ take n from → n ≤ length from → front ++ drop n to ≡ over (take n from) to
unfolding over
copied n from to e l = rw (e, length-take-le n from l)

pub returns-clause-nodes : goal.returns-clause-nodes
unfolding nodes_after
returns-clause-nodes c =
    let a = c.args in
    let n = a.end.count in
    let passes = c.in_ok-check.ensures.verdict in
    let whole : a.end.at ≡ whole_at = omega arith in
    let room = c.requires whole in
    let lats = copied n a.lats.now a.lat.now c.copy_from_slice.ensures.after (omega (arith, room)) in
    let lons = copied n a.lons.now a.lon.now c.copy_from_slice-2.ensures.after (omega (arith, room)) in
    rw (eq-eqb a.end.at whole_at whole, sym passes) (λ i. node_lists (lats i) (lons i))
