-- A grid, which document 01 calls a sheet: its header, and the shifts of its nodes.
use Rattle.std.specs.Prelude.{ℕ, min, List, [], ◌∷◌, ◌++◌, length, take, set, ℤ}
use Rattle.laws.specs.Over.{over}
use Rattle.grid.specs.Rules.{node_count}
use Rattle.grid.specs.declared.Header.{Header}

-- a header of its six numbers
abbrev pub header : (south west dlat dlon rows cols : ℤ) → Header
header south west dlat dlon rows cols =
    record { south = record { 0 = south }; west = record { 0 = west }; dlat = dlat; dlon = dlon; rows = rows; cols = cols }

-- a list of shifts for each component
pub record Nodes : Type 0 where
  pub lat : List ℤ
  pub lon : List ℤ

-- as a function is lent them
abbrev pub node_lists : (lat lon : List ℤ) → Nodes
node_lists lat lon = record { lat = lat; lon = lon }

abbrev pub no_nodes : Nodes
no_nodes = node_lists [] []

-- with one more behind the others
abbrev pub add_node : Nodes → (lat lon : ℤ) → Nodes
add_node ns a b = node_lists (ns.lat ++ (a ∷ [])) (ns.lon ++ (b ∷ []))

-- with these shifts at node `k`
abbrev pub set_node : Nodes → (k : ℕ) → (lat lon : ℤ) → Nodes
set_node ns k a b = node_lists (set ns.lat k a) (set ns.lon k b)

-- the first `n` of them
abbrev pub first_nodes : (n : ℕ) → Nodes → Nodes
first_nodes n ns = node_lists (take n ns.lat) (take n ns.lon)

-- over the front of the lists `slices`
abbrev pub over_nodes : (ns slices : Nodes) → Nodes
over_nodes ns slices = node_lists (over ns.lat slices.lat) (over ns.lon slices.lon)

-- how many nodes there is room for: the length of the shorter list
abbrev pub node_room : Nodes → ℕ
node_room ns = min (length ns.lat) (length ns.lon)

pub record Grid : Type 0 where
  pub header : Header
  pub nodes : Nodes

abbrev pub grid_with : Header → Nodes → Grid
grid_with h ns = record { header = h; nodes = ns }

-- of two lists of shifts
abbrev pub grid_of : Header → (lat lon : List ℤ) → Grid
grid_of h lat lon = grid_with h (node_lists lat lon)

-- without what stands in its slices behind its nodes
abbrev pub trimmed : Grid → Grid
trimmed g = grid_with g.header (first_nodes (node_count g.header) g.nodes)
