-- The text of a grid (document 01, "The sheet").
use Rattle.std.specs.Prelude.{ℕ, zero, suc, List, [], ◌∷◌, ◌++◌, ℤ, pos}
use Rattle.laws.specs.Bytes.{bytes}
use Rattle.lines.specs.Text.{line}
use Rattle.grid.specs.Grid.{Nodes, Grid}
use Rattle.grid.specs.Rules.{node_count}
use Rattle.grid.specs.Nodes.{node}
use Rattle.grid.specs.declared.Header.{Header}

unfoldable pub header_text : Header → List ℕ
header_text h =
    bytes "from=NAD27\n"
    ++ bytes "to=NAD83\n"
    ++ line (bytes "south=") (h.south.0 ∷ [])
    ++ line (bytes "west=") (h.west.0 ∷ [])
    ++ line (bytes "dlat=") (h.dlat ∷ [])
    ++ line (bytes "dlon=") (h.dlon ∷ [])
    ++ line (bytes "rows=") (h.rows ∷ [])
    ++ line (bytes "cols=") (h.cols ∷ [])

-- `node=LAT,LON`
unfoldable pub node_line : (lat lon : ℤ) → List ℕ
node_line a b = line (bytes "node=") (a ∷ b ∷ [])

-- the lines of the first k nodes
unfoldable pub node_lines : Nodes → (k : ℕ) → List ℕ
node_lines ns zero = []
node_lines ns (suc k) = node_lines ns k ++ node_line (node ns.lat k) (node ns.lon k)

-- "`end=` and the number of nodes"
unfoldable pub grid_text : Grid → List ℕ
grid_text g = header_text g.header ++ node_lines g.nodes (node_count g.header) ++ line (bytes "end=") (pos (node_count g.header) ∷ [])
