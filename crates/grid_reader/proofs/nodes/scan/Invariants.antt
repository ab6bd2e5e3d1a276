-- What is left of the text, from here on, gives what the whole of it gives.
use Rattle.std.proofs.Common.{◌≡◌, drop}
use Rattle.figures.specs.Outcome.{answered}
use Rattle.grid.specs.Grid.{node_lists}
use Rattle.grid_reader.specs.Scan.{start, fed}
use Rattle.grid_reader.proofs.nodes.scan.Given as goal

abbrev pub invariant-loop-byte : goal.invariant-loop-byte
invariant-loop-byte l = fed l.room (answered l.scan) (node_lists l.lat l.lon) (drop l.byte-index l.text) ≡ fed l.room (answered start) (node_lists l.fn.lat l.fn.lon) l.text
