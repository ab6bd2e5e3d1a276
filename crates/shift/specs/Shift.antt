-- The shift at a point (document 01, "The shift at a point"; Bulletin 1875-B, equation 2), in distances from the southwest corner.
use Rattle.std.specs.Prelude.{ℕ, ◌+◌, ◌*◌, ◌-◌, cond, List, ℤ, pos, ◌+ℤ◌, ◌*ℤ◌}
use Rattle.std.specs.Int.Signed.{le_z}
use Rattle.laws.specs.Parts.{pos_part}
use Rattle.bilinear.specs.Axis.{InCell, cell_of}
use Rattle.grid.specs.Grid.{Nodes}
use Rattle.grid.specs.Nodes.{max_shift, node}
use Rattle.grid.specs.declared.Shape.{Shape}
use Rattle.shift.specs.Round.{nearest}
use Rattle.shift.specs.Sign.{rounding_sign}
use Rattle.shift.specs.declared.Cell.{Cell}
use Rattle.shift.specs.declared.Corners.{Corners}
use Rattle.shift.specs.declared.Distances.{Distances}
use Rattle.shift.specs.declared.ExactShift.{ExactShift}
use Rattle.shift.specs.declared.Shift.{Shift}
use Rattle.shift.specs.declared.Sign.{Sign}
use Rattle.shift.specs.declared.Signs.{Signs}

-- the sum along one row, what equation 1 divides by A + B: S1·B + S2·A of the southern row, S3·B + S4·A of the northern one (document 02,
-- request 4: "the two row sums")
unfoldable pub row_sum : (s1 s2 : ℤ) → Distances → ℤ
row_sum s1 s2 k = s1 *ℤ pos k.b +ℤ s2 *ℤ pos k.a

-- S1·B·D + S2·A·D + S3·B·C + S4·A·C
unfoldable pub numerator : Corners → Distances → ℤ
numerator s k =
    s.s1 *ℤ pos k.b *ℤ pos k.d
    +ℤ s.s2 *ℤ pos k.a *ℤ pos k.d
    +ℤ s.s3 *ℤ pos k.b *ℤ pos k.c
    +ℤ s.s4 *ℤ pos k.a *ℤ pos k.c

-- that over (A + B)(C + D), rounded
abbrev pub denominator : Distances → ℕ
denominator k = (k.a + k.b) * (k.c + k.d)

unfoldable pub four_corner : Corners → Distances → ℤ
four_corner s k = nearest (denominator k) (numerator s k)

-- "the sign of the rounded shift minus the exact fraction"
unfoldable pub four_corner_sign : Corners → Distances → Sign
four_corner_sign s k = rounding_sign (denominator k) (numerator s k) (four_corner s k)

-- the corners of a cell whose west corners are the nodes `sw` and `nw`
abbrev pub corners_at : List ℤ → (sw nw : ℕ) → Corners
corners_at S sw nw = record { s1 = node S sw; s2 = node S (sw + 1); s3 = node S nw; s4 = node S (nw + 1) }

-- the west corners of a cell of a grid with so many columns
abbrev pub southwest : (cols : ℕ) → Cell → ℕ
southwest cols k = k.row * cols + k.col

abbrev pub northwest : (cols : ℕ) → Cell → ℕ
northwest cols k = southwest cols k + cols

-- "the least and greatest of its cell's corners" (document 02, request 10)
abbrev pub lesser : ℤ → ℤ → ℤ
lesser a b = cond (le_z a b) a b

abbrev pub greater : ℤ → ℤ → ℤ
greater a b = cond (le_z a b) b a

unfoldable pub least : Corners → ℤ
least s = lesser (lesser s.s1 s.s2) (lesser s.s3 s.s4)

unfoldable pub greatest : Corners → ℤ
greatest s = greater (greater s.s1 s.s2) (greater s.s3 s.s4)

-- one component's corners, its shift and its sign in a cell
abbrev pub corners_in : (cols : ℕ) → List ℤ → Cell → Corners
corners_in cols S k = corners_at S (southwest cols k) (northwest cols k)

unfoldable pub component_in : (cols : ℕ) → List ℤ → Cell → ℤ
component_in cols S k = four_corner (corners_in cols S k) k.distances

unfoldable pub sign_in : (cols : ℕ) → List ℤ → Cell → Sign
sign_in cols S k = four_corner_sign (corners_in cols S k) k.distances

-- the point `x` east and `y` north lies in the cell `k`, a side of it included; on a side shared by cells it lies in each of them
pub record CellOf (s : Shape) (x y : ℕ) (k : Cell) : Type 0 where
  pub along : InCell s.dlon (s.cols - 2) x k.col k.distances.a k.distances.b
  pub up : InCell s.dlat (s.rows - 2) y k.row k.distances.c k.distances.d

-- the cell that is taken, and the point's distances from its sides
unfoldable pub cell_at : Shape → (x y : ℕ) → Cell
cell_at s x y =
    let col = cell_of s.dlon (s.cols - 2) x in
    let row = cell_of s.dlat (s.rows - 2) y in
    let A = x - s.dlon * col in
    let C = y - s.dlat * row in
    record { row = row; col = col; distances = record { a = A; b = s.dlon - A; c = C; d = s.dlat - C } }

-- the shift at a point of the grid, in its cell, and its sign
unfoldable pub component : Shape → List ℤ → (x y : ℕ) → ℤ
component s S x y = component_in s.cols S (cell_at s x y)

unfoldable pub sign_at : Shape → List ℤ → (x y : ℕ) → Sign
sign_at s S x y = sign_in s.cols S (cell_at s x y)

-- both components
abbrev pub shift_of : Shape → Nodes → (x y : ℕ) → Shift
shift_of s ns x y = record { lat = component s ns.lat x y; lon = component s ns.lon x y }

abbrev pub signs_of : Shape → Nodes → (x y : ℕ) → Signs
signs_of s ns x y = record { lat = sign_at s ns.lat x y; lon = sign_at s ns.lon x y }

-- ---- the same from the exact fractions, as the code works it

abbrev pub exact_in : (lat lon : Corners) → Distances → ExactShift
exact_in lat lon k = record { lat = numerator lat k; lon = numerator lon k; denominator = denominator k }

unfoldable pub exact_of : Shape → Nodes → (x y : ℕ) → ExactShift
exact_of s ns x y = let k = cell_at s x y in exact_in (corners_in s.cols ns.lat k) (corners_in s.cols ns.lon k) k.distances

abbrev pub rounded_shift : ExactShift → Shift
rounded_shift e = record { lat = nearest e.denominator e.lat; lon = nearest e.denominator e.lon }

abbrev pub rounding_signs : ExactShift → Shift → Signs
rounding_signs e s = record { lat = rounding_sign e.denominator e.lat s.lat; lon = rounding_sign e.denominator e.lon s.lon }

-- a shift in its range, raised so that it is a natural number: for the search of the way back, and for the theorems
unfoldable pub raise : ℤ → ℕ
raise z = pos_part (z +ℤ pos max_shift)
