-- The lines of the nodes so far are put.
use Rattle.std.proofs.Common.{length}
use Rattle.writing.specs.Writing.{Put}
use Rattle.grid.specs.Lent.{lent}
use Rattle.grid_text.specs.Text.{node_lines}
use Rattle.grid_text.proofs.parts.put_nodes.Given as goal

abbrev pub invariant-loop-lat : goal.invariant-loop-lat
invariant-loop-lat l = Put (node_lines (lent l.checked.grid).nodes (length l.yielded)) l.fn.room l.room l.at
