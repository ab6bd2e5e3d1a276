use Rattle.std.proofs.Common.{◌≤◌, replicate, arith, pos}
use Rattle.std.proofs.lemmas.List.{length-replicate}
use Rattle.figures.proofs.Laws.{at_exit}
use Rattle.grid.specs.Grid.{node_lists, node_room}
use Rattle.grid_reader.specs.Reading.{nodes_after}
use Rattle.grid_reader.proofs.Endings.{scanned, stored}
use Rattle.grid_reader.proofs.read.Goals as goal

-- the two lists of the call have room for the nodes
zeros : 2048 ≤ node_room (node_lists (replicate 2048 (pos 0)) (replicate 2048 (pos 0)))
zeros = omega (arith, length-replicate 2048 (pos 0))

pub returns-in_err-end : goal.returns-in_err-end
unfolding nodes_after
returns-in_err-end c =
    let a = c.args in
    let t = c.in_err-end.ensures in
    let e = at_exit _ _ c.from_residual.ensures.1 in
    let s = scanned a.text.now (node_lists a.lat.now a.lon.now) _ zeros c.min-room.ensures (t.out, t.nodes) in
    record { answer = rw (e, s); nodes = rw s }

pub finish-requires : goal.finish-requires
finish-requires c =
    let a = c.args in
    let t = c.in_ok-end.ensures in
    stored a.text.now (node_lists a.lat.now a.lon.now) _ zeros c.min-room.ensures (t.out, t.nodes)

pub returns : goal.returns
returns c =
    let a = c.args in
    let t = c.in_ok-end.ensures in
    rw (scanned a.text.now (node_lists a.lat.now a.lon.now) _ zeros c.min-room.ensures (t.out, t.nodes)) c.finish.ensures
