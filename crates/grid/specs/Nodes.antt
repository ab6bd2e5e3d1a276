-- The range and the steepness of the nodes (document 01, "The sheet"), and the twist of the cells (document 02, request 11). Node k stands
-- in row k / cols and column k % cols.
use Rattle.std.specs.Prelude.{ℕ, ◌+◌, ◌*◌, ◌%◌, min, Bool, not, ◌&&◌, ◌||◌, List, ltb, get_or, ℤ, pos, nat_abs, ◌+ℤ◌, ◌-ℤ◌}
use Rattle.grid.specs.Grid.{Nodes}
use Rattle.grid.specs.Rules.{minus, between}
use Rattle.grid.specs.declared.Shape.{Shape}

-- the shift of node `k`
abbrev pub node : List ℤ → ℕ → ℤ
node S k = get_or S k (pos 0)

-- the largest size of a shift, 60 arc seconds
abbrev pub max_shift : ℕ
max_shift = 6000000

-- "Each shift is from −6,000,000 to 6,000,000", denied
unfoldable pub beyond_range : ℤ → Bool
beyond_range x = not (between (minus max_shift) x (pos max_shift))

unfoldable pub out_of_range : Nodes → ℕ → Bool
out_of_range ns k = beyond_range (node ns.lat k) || beyond_range (node ns.lon k)

-- the neighbours that a node has: none to the east of the last column, none to the north of the last row
unfoldable pub has_east : Shape → ℕ → Bool
has_east s k = ltb (k % s.cols + 1) s.cols

unfoldable pub has_north : Shape → ℕ → Bool
has_north s k = ltb (k + s.cols) (s.rows * s.cols)

-- the size of `x`, so many times, is above 100 times the spacing
unfoldable pub too_much : (times spacing : ℕ) → (x : ℤ) → Bool
too_much times spacing x = ltb (100 * spacing) (times * nat_abs x)

-- "the size of the difference between a node and its east neighbour, times 16, is at most 100 × dlon", denied; so to the north
unfoldable pub steep_to : (spacing : ℕ) → List ℤ → (k to : ℕ) → Bool
steep_to spacing S k to = too_much 16 spacing (node S to -ℤ node S k)

unfoldable pub steep_east : Shape → List ℤ → ℕ → Bool
steep_east s S k = has_east s k && steep_to s.dlon S k (k + 1)

unfoldable pub steep_north : Shape → List ℤ → ℕ → Bool
steep_north s S k = has_north s k && steep_to s.dlat S k (k + s.cols)

-- "the east neighbour stands before the north one, then latitude before longitude"
unfoldable pub steep_at : Shape → Nodes → ℕ → Bool
steep_at s ns k = (steep_east s ns.lat k || steep_east s ns.lon k) || (steep_north s ns.lat k || steep_north s ns.lon k)

-- the southwest node of a cell has both neighbours: the last row and the last column have no cell of their own
unfoldable pub is_southwest : Shape → ℕ → Bool
is_southwest s k = has_east s k && has_north s k

-- S1 − S2 − S3 + S4 of the cell whose southwest node is `k`: S1 southwest, S2 southeast, S3 northwest, S4 northeast
unfoldable pub twist : (cols : ℕ) → List ℤ → ℕ → ℤ
twist cols S k = node S k -ℤ node S (k + 1) -ℤ node S (k + cols) +ℤ node S (k + cols + 1)

-- "For each component of each cell, the size of S1 − S2 − S3 + S4, times 64, must be at most 100 times the smaller spacing", denied
unfoldable pub twisted : Shape → List ℤ → ℕ → Bool
twisted s S k = is_southwest s k && too_much 64 (min s.dlat s.dlon) (twist s.cols S k)

unfoldable pub twisted_at : Shape → Nodes → ℕ → Bool
twisted_at s ns k = twisted s ns.lat k || twisted s ns.lon k
