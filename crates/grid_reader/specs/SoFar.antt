-- The text that was read so far, as the state and the nodes that were read tell it.
use Rattle.std.specs.Prelude.{ℕ, zero, suc, ◌+◌, ◌-◌, cond, List, [], ◌∷◌, ◌++◌, ltb, eqb, ℤ, pos}
use Rattle.decimal.specs.Spelling.{spell}
use Rattle.decimal.specs.Pushing.{part}
use Rattle.grid.specs.Grid.{Nodes}
use Rattle.grid.specs.declared.Header.{Header}
use Rattle.grid_text.specs.Text.{header_text, node_lines}
use Rattle.lines.specs.Text.{newline}
use Rattle.grid_reader.specs.Scan.{number_sign, south_at, west_at, dlat_at, dlon_at, rows_at, node_line_at, end_line_at, form_at}
use Rattle.grid_reader.specs.declared.scanner.Scan.{Scan}

-- the number of the header at a place of the form
abbrev pub number_at : Header → (place : ℕ) → ℤ
number_at h i =
    cond (eqb i south_at) h.south.0
    (cond (eqb i west_at) h.west.0
    (cond (eqb i dlat_at) h.dlat
    (cond (eqb i dlon_at) h.dlon
    (cond (eqb i rows_at) h.rows h.cols))))

-- `length` places of the form from a place on, each `#` replaced by its number
unfoldable pub filled_form : (number : ℕ → ℤ) → (from length : ℕ) → List ℕ
filled_form number a zero = []
filled_form number a (suc i) = filled_form number a i ++ cond (eqb (form_at (a + i)) number_sign) (spell (number (a + i))) (form_at (a + i) ∷ [])

-- in the header; in the line of a node; in the end line
unfoldable pub lines_so_far : Scan → Nodes → List ℕ
lines_so_far s ns =
    cond (ltb s.at node_line_at) (filled_form (number_at s.header) 0 s.at)
    (cond (ltb s.at end_line_at)
    (header_text s.header ++ node_lines ns s.node ++ filled_form (λ _. s.lat) node_line_at (s.at - node_line_at))
    (header_text s.header ++ node_lines ns s.count ++ filled_form (λ _. pos s.count) end_line_at (s.at - end_line_at)))

-- and the number under way
unfoldable pub so_far : Scan → Nodes → List ℕ
so_far s ns = lines_so_far s ns ++ part s.number

-- the newlines of a text
unfoldable pub newlines : List ℕ → ℕ
newlines [] = 0
newlines (b ∷ t) = cond (eqb b newline) 1 0 + newlines t
