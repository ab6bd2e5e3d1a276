-- A header as a slice of six numbers: south, west, dlat, dlon, rows, cols.
use Rattle.std.specs.Prelude.{ℕ, List, [], ◌∷◌, ltb, length, get_or, ℤ, pos}
use Rattle.laws.specs.Over.{over}
use Rattle.figures.specs.Outcome.{Outcome, answered, refused, refuse_if}
use Rattle.grid.specs.Grid.{header, node_lists, Grid, grid_of}
use Rattle.grid.specs.Rules.{node_count_or0}
use Rattle.grid.specs.declared.Header.{Header}
use Rattle.grid_reader.specs.Reading.{reading}

-- a number that the slice does not have is 0
abbrev pub number : List ℤ → ℕ → ℤ
number s k = get_or s k (pos 0)

-- so a slice of fewer than six numbers has no columns, and breaks a rule
unfoldable pub header_in : List ℤ → Header
header_in s = header (number s 0) (number s 1) (number s 2) (number s 3) (number s 4) (number s 5)

abbrev pub grid_in : (header lat lon : List ℤ) → Grid
grid_in header lat lon = grid_of (header_in header) lat lon

abbrev pub numbers : Header → List ℤ
numbers h = h.south.0 ∷ h.west.0 ∷ h.dlat ∷ h.dlon ∷ h.rows ∷ h.cols ∷ []

-- reading, where a slice is lent for the header too: 8 with the six numbers needed, before the text is looked at, since nothing may
-- be stored when that slice is too short
unfoldable pub reading_all : (text : List ℕ) → (header lat lon : List ℤ) → Outcome Grid
reading_all text header lat lon = refuse_if (ltb (length header) 6) 8 6 (reading text (node_lists lat lon))

abbrev pub node_count_in : Grid → ℕ
node_count_in g = node_count_or0 g.header

-- the header takes the front of its slice; after a refusal the slice is as it was
unfoldable pub header_after : Outcome Grid → List ℤ → List ℤ
header_after (answered g) s = over (numbers g.header) s
header_after (refused n k) s = s
