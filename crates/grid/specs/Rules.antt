-- The rules of the header (document 01, "Header rules, in order").
use Rattle.std.specs.Prelude.{ℕ, suc, ◌*◌, Bool, true, false, ◌&&◌, cond, List, [], ◌∷◌, ◌++◌, Option, Some, None, is_none, ℤ, pos, neg_ℤ, ◌+ℤ◌, ◌-ℤ◌, ◌*ℤ◌}
use Rattle.std.specs.Int.Signed.{le_z}
use Rattle.laws.specs.Parts.{pos_part}
use Rattle.grid.specs.declared.Header.{Header}
use Rattle.grid.specs.declared.Shape.{Shape}

-- −n
abbrev pub minus : ℕ → ℤ
minus n = neg_ℤ (pos n)

-- lo ≤ x ≤ hi
unfoldable pub between : (lo x hi : ℤ) → Bool
between lo x hi = le_z lo x && le_z x hi

-- the last of `n` nodes that are `step` apart and start at `from`: "south + (rows − 1) × dlat"
unfoldable pub last_node : (from step n : ℤ) → ℤ
last_node from step n = from +ℤ (n -ℤ pos 1) *ℤ step

-- rules 1 to 6, which bound each number by itself
abbrev pub bounds : Header → List Bool
bounds h =
    between (minus 323940000) h.south.0 (pos 323940000)
    ∷ between (minus 648000000) h.west.0 (pos 647999999)
    ∷ between (pos 1000) h.dlat (pos 900000)
    ∷ between (pos 1000) h.dlon (pos 900000)
    ∷ between (pos 2) h.rows (pos 256)
    ∷ between (pos 2) h.cols (pos 256)
    ∷ []

-- the north edge
abbrev pub north_edge : Header → ℤ
north_edge h = last_node h.south.0 h.dlat h.rows

-- rules 7 and 8
abbrev pub size_rules : Header → List Bool
size_rules h = le_z (h.rows *ℤ h.cols) (pos 2048) ∷ le_z (north_edge h) (pos 323940000) ∷ []

-- in their order. Document 02, request 6: "rule 2 takes the new range, rule 9 goes"
abbrev pub rules : Header → List Bool
rules h = bounds h ++ size_rules h

-- where the first `false` stands, counted from `n`
unfoldable pub first_false : ℕ → List Bool → Option ℕ
first_false n [] = None
first_false n (true ∷ l) = first_false (suc n) l
first_false n (false ∷ l) = Some n

-- the number of the first rule that the header breaks
unfoldable pub broken_rule : Header → Option ℕ
broken_rule h = first_false 1 (rules h)

-- the header's sizes, as naturals
abbrev pub shape : Header → Shape
shape h = record { rows = pos_part h.rows; cols = pos_part h.cols; dlat = pos_part h.dlat; dlon = pos_part h.dlon }

-- rows × cols
abbrev pub node_count : Header → ℕ
node_count h = (shape h).rows * (shape h).cols

-- the same of any header: 0 where a rule is broken
unfoldable pub node_count_or0 : Header → ℕ
node_count_or0 h = cond (is_none (broken_rule h)) (node_count h) 0
