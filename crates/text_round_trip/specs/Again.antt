-- Demand 2's two returns: "A sheet text that is accepted, read and written again is the same text. A sheet that passes the checks,
-- written and read again, is the same sheet."
use Rattle.std.specs.Prelude.{ℕ, List, ltb, replicate, pos}
use Rattle.figures.specs.Outcome.{Outcome, answered, refused, and_then, refuse_if}
use Rattle.writing.specs.Writing.{in_room}
use Rattle.grid.specs.Grid.{Nodes, node_lists, first_nodes, over_nodes, node_room, Grid}
use Rattle.grid.specs.Rules.{node_count}
use Rattle.grid.specs.Check.{verdict}
use Rattle.grid.specs.declared.Header.{Header}
use Rattle.grid_reader.specs.Reading.{reading}

-- room for the nodes of every grid
unfoldable pub scratch : Nodes
scratch = node_lists (replicate 2048 (pos 0)) (replicate 2048 (pos 0))

-- a text that is refused is refused alike; one that is accepted is written again, as many bytes as it has
unfoldable pub text_again : (text room : List ℕ) → Outcome ℕ
text_again text room = and_then (reading text scratch) (in_room text room)

-- a grid that is refused is refused alike; one that passes comes back, where there is room for its nodes
unfoldable pub grid_again : Grid → (slices : Nodes) → Outcome Header
grid_again g slices =
    let n = node_count g.header in
    and_then (verdict g) (refuse_if (ltb (node_room slices) n) 5 n (answered g.header))

-- the same nodes stand at the front of the slices, or after a refusal what these held
unfoldable pub nodes_again : Outcome Header → (ns slices : Nodes) → Nodes
nodes_again (answered h) ns slices = over_nodes (first_nodes (node_count h) ns) slices
nodes_again (refused n k) ns slices = slices
