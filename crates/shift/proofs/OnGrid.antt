-- The shift on a grid that passes the checks. Raised by 6,000,000 it is a natural number, the nearest to the bilinear surface through
-- the raised nodes; so the theorems of `bilinear` hold of it.
use Prim.Native.Nat.{ℕ, suc, ◌+◌, ◌*◌, ◌-◌, ◌%◌, ◌≤◌, ◌<◌}
use native.Mathlib.Nat.{mul-add-mod_self_right, mod-eq_of_lt, mul-pos, mul-le-mul_left, mul-le-mul_right}
use native.Mathlib.Omega.{arith}
use mathlib.Core.Path.{◌≡◌, sym, ap, ◌∙◌}
use mathlib.Core.List.{List}
use lib.IntN.{ℤ, pos, nat_abs, ◌+ℤ◌, ◌-ℤ◌, ◌*ℤ◌}
use Rattle.laws.specs.Parts.{pos_part, neg_part, ints, Within, parts_disjoint, abs_parts}
use Rattle.laws.specs.Expr.{linear, lit, ◌⊕◌, ◌⊖◌, ◌⊛◌}
use Rattle.bilinear.specs.Axis.{Near, near16, on_axis, Among}
use Rattle.bilinear.specs.Surface.{surface, SlopeBound, surface_is, Nearest}
use Rattle.bilinear.proofs.AnswerLaws.{lipschitz, shift_between, shift_node}
use Rattle.bilinear.specs.Search.{Regular}
use Rattle.grid.specs.Grid.{Nodes}
use Rattle.grid.specs.Nodes.{max_shift, node}
use Rattle.grid.specs.Needs.{Extent}
use Rattle.grid.specs.declared.Shape.{Shape}
use Rattle.grid.proofs.RuleLaws.{Between}
use Rattle.grid.proofs.NodeLaws.{Sound}
use Rattle.shift.specs.Round.{NearestEven, nearest}
use Rattle.shift.specs.Shift.{numerator, four_corner, four_corner_sign, southwest, northwest, least, greatest, CellOf, corners_in, component_in, sign_in, cell_at, component, sign_at, shift_of, signs_of, exact_in, exact_of, rounded_shift, rounding_signs, raise}
use Rattle.shift.specs.Sign.{rounding_sign}
use Rattle.shift.specs.Needs.{CellIn, Weighted, CornersIn}
use Rattle.shift.specs.declared.Cell.{Cell}
use Rattle.shift.specs.declared.Corners.{Corners}
use Rattle.shift.specs.declared.Distances.{Distances}
use Rattle.shift.specs.declared.ExactShift.{ExactShift}
use Rattle.shift.proofs.Rounding.{nearest-raised, nearest_even, one_nearest_even}
use Rattle.shift.proofs.SignLaws.{Tells, sign_tells}
use Rattle.shift.proofs.Sums.{four_corner_within}
use Rattle.shift.proofs.Extremes.{extremes_in, corners-between}
use Rattle.shift.proofs.Cells.{edges, spacings, cell_of_point, cell_in, corners_in_lem, weighted}

-- ---- raised shifts

pub raise_is : {z : ℤ} → Within max_shift z → pos (raise z) ≡ z +ℤ pos max_shift
unfolding raise
raise_is {z} h = omega (arith, ints, linear (lit z ⊕ lit (pos max_shift)), parts_disjoint (z +ℤ pos max_shift))

pub raise_by : {z : ℤ} → Within max_shift z → raise z + neg_part z ≡ pos_part z + max_shift
raise_by {z} h = omega (arith, ints, raise_is h, linear (lit z ⊕ lit (pos max_shift)))

lowered : (n : ℕ) (a b : ℤ) → a +ℤ pos n ≡ b +ℤ pos n → a ≡ b
lowered n a b e = omega (arith, ints, linear (lit a ⊕ lit (pos n)), linear (lit b ⊕ lit (pos n)))

-- a step that is not too steep
near_raised : (d : ℕ) {a b : ℤ} → Within max_shift a → Within max_shift b → 16 * nat_abs (b -ℤ a) ≤ 100 * d → Near (25 * d) (raise a) (raise b)
near_raised d {a} {b} p q h =
    (near16 d (raise a) (raise b)).1 (omega (arith, ints, raise_by p, raise_by q, abs_parts (b -ℤ a), linear (lit b ⊖ lit a)))

-- ---- the numerator

-- a corner's term, raised
term : {S : ℤ} (p q : ℕ) → Within max_shift S → let t = S *ℤ pos p *ℤ pos q in raise S * p * q + neg_part t ≡ pos_part t + max_shift * (p * q)
term {S} p q h = omega (arith, ap (λ t. t * (p * q)) (raise_by h), linear (lit S ⊛ lit (pos p) ⊛ lit (pos q)))

-- raised corners give the raised numerator
numerator-raised : (s : Corners) (k : Distances) → CornersIn s
    → pos (raise s.s1 * k.b * k.d + raise s.s2 * k.a * k.d + raise s.s3 * k.b * k.c + raise s.s4 * k.a * k.c)
    ≡ numerator s k +ℤ pos (max_shift * ((k.a + k.b) * (k.c + k.d)))
unfolding numerator
numerator-raised s k i =
    let t₁ = lit (s.s1 *ℤ pos k.b *ℤ pos k.d) in
    let t₂ = lit (s.s2 *ℤ pos k.a *ℤ pos k.d) in
    let t₃ = lit (s.s3 *ℤ pos k.b *ℤ pos k.c) in
    let t₄ = lit (s.s4 *ℤ pos k.a *ℤ pos k.c) in
    omega
    (arith, ints, linear (t₁ ⊕ t₂ ⊕ t₃ ⊕ t₄ ⊕ lit (pos (max_shift * ((k.a + k.b) * (k.c + k.d))))), term k.b k.d i.sw, term k.a k.d i.se, term k.b k.c i.nw, term k.a k.c i.ne)

-- ---- one component of a grid that passes

-- the raised nodes, by row and column
abbrev pub raised_nodes : ℕ → List ℤ → ℕ → ℕ → ℕ
raised_nodes cols S r c = raise (node S (r * cols + c))

module _ {s : Shape} (z : Extent s) {S : List ℤ} (p : Sound s S) where
  index_in : (r c : ℕ) → r < s.rows → c < s.cols → r * s.cols + c < s.rows * s.cols
  index_in r c hr hc = omega (arith, mul-le-mul_right s.cols hr)

  node_range : (r c : ℕ) → r < s.rows → c < s.cols → Within max_shift (node S (r * s.cols + c))
  node_range r c hr hc = p.ranged.range _ (index_in r c hr hc)

  slopes : SlopeBound s.dlon s.dlat (s.cols - 2) (s.rows - 2) (raised_nodes s.cols S)
  slopes =
      record {
        east = λ r c hr hc.
            let i : r < s.rows = omega (arith, z) in
            let j : suc c < s.cols = omega (arith, z) in
            let e : r * s.cols + c + 1 ≡ r * s.cols + suc c = omega arith in
            let m : (r * s.cols + c) % s.cols ≡ c = mul-add-mod_self_right r s.cols c ∙ mod-eq_of_lt (omega arith) in
            near_raised s.dlon (node_range r c i (omega arith)) (node_range r (suc c) i j)
            (rw e at (p.east (r * s.cols + c) (index_in r c i (omega arith)) (omega (arith, m))));
        north = λ r c hr hc.
            let i : suc r < s.rows = omega (arith, z) in
            let j : c < s.cols = omega (arith, z) in
            let e : r * s.cols + c + s.cols ≡ suc r * s.cols + c = omega arith in
            near_raised s.dlat (node_range r c (omega arith) j) (node_range (suc r) c i j)
            (rw e at (p.north (r * s.cols + c) (omega (arith, index_in (suc r) c i j))));
      }

  -- in any cell of the grid
  module _ {k : Cell} (c : CellIn s k) where
    pub corners_range : CornersIn (corners_in s.cols S k)
    corners_range =
        let l = corners_in_lem z c in
        record {
          sw = p.ranged.range _ (omega (arith, l));
          se = p.ranged.range _ (omega (arith, l));
          nw = p.ranged.range _ (omega (arith, l));
          ne = p.ranged.range _ l;
        }

    whole : (k.distances.a + k.distances.b) * (k.distances.c + k.distances.d) ≡ s.dlon * s.dlat
    whole = rw (c.width, c.height)

    component_is : component_in s.cols S k ≡ nearest (s.dlon * s.dlat) (numerator (corners_in s.cols S k) k.distances)
    unfolding component_in four_corner
    component_is = rw whole

    sign_is : let n = numerator (corners_in s.cols S k) k.distances in sign_in s.cols S k ≡ rounding_sign (s.dlon * s.dlat) n (nearest (s.dlon * s.dlat) n)
    unfolding sign_in four_corner_sign four_corner
    sign_is = rw whole

    pub component_range : Within max_shift (component_in s.cols S k)
    unfolding component_in
    component_range = four_corner_within _ k.distances corners_range (weighted z c)

  -- in any cell of a point the numerator is the surface's
  module _ {x y : ℕ} {k : Cell} (o : CellOf s x y k) where
    abbrev corners : Corners
    corners = corners_in s.cols S k

    se : k.row * s.cols + suc k.col ≡ southwest s.cols k + 1
    se = omega arith

    nw : suc k.row * s.cols + k.col ≡ northwest s.cols k
    nw = omega arith

    ne : suc k.row * s.cols + suc k.col ≡ northwest s.cols k + 1
    ne = omega arith

    numerator_is : pos (surface s.dlon s.dlat (s.cols - 2) (s.rows - 2) (raised_nodes s.cols S) x y)
        ≡ numerator corners k.distances +ℤ pos (max_shift * (s.dlon * s.dlat))
    numerator_is =
        let n = rw (se, nw, ne) at (surface_is s.dlon s.dlat (s.cols - 2) (s.rows - 2) (spacings z).0 (spacings z).1 (raised_nodes s.cols S) o.along o.up) in
        ap pos n ∙ (rw (whole (cell_in z o)) at (numerator-raised corners k.distances (corners_range (cell_in z o))))

    component-nearest : Nearest (s.dlon * s.dlat) (surface s.dlon s.dlat (s.cols - 2) (s.rows - 2) (raised_nodes s.cols S) x y) (raise (component_in s.cols S k))
    component-nearest =
        let c = cell_in z o in
        nearest-raised max_shift (s.dlon * s.dlat) _ _ _ (mul-pos (spacings z).0 (spacings z).1) numerator_is (raise_is (component_range c) ∙ ap (λ t. t +ℤ pos max_shift) (component_is c))

  -- "On a side shared by two cells either cell gives the same shift", and the same sign
  module _ {x y : ℕ} {k k' : Cell} (o : CellOf s x y k) (o' : CellOf s x y k') where
    shared_numerator : numerator (corners_in s.cols S k) k.distances ≡ numerator (corners_in s.cols S k') k'.distances
    shared_numerator = lowered (max_shift * (s.dlon * s.dlat)) _ _ (sym (numerator_is o) ∙ numerator_is o')

    pub shared_side : component_in s.cols S k ≡ component_in s.cols S k'
    shared_side = component_is (cell_in z o) ∙ ap (nearest (s.dlon * s.dlat)) shared_numerator ∙ sym (component_is (cell_in z o'))

    pub shared_sign : sign_in s.cols S k ≡ sign_in s.cols S k'
    shared_sign =
        sign_is (cell_in z o)
        ∙ ap (λ n. rounding_sign (s.dlon * s.dlat) n (nearest (s.dlon * s.dlat) n)) shared_numerator
        ∙ sym (sign_is (cell_in z o'))

  -- at a point of the grid
  module _ {x y : ℕ} (hx : x ≤ (s.cols - 1) * s.dlon) (hy : y ≤ (s.rows - 1) * s.dlat) where
    pub shift_range : Within max_shift (component s S x y)
    unfolding component
    shift_range = component_range (cell_in z (cell_of_point z hx hy))

    -- equation 2's exact numerator; the denominator is the cell's area
    abbrev pub exact_numerator : ℤ
    exact_numerator = let k = cell_at s x y in numerator (corners_in s.cols S k) k.distances

    -- demand 2: it is the exact fraction, rounded once, a tie to the even number
    pub shift_rounded : NearestEven (s.dlon * s.dlat) exact_numerator (component s S x y)
    unfolding component
    shift_rounded = rw (component_is (cell_in z (cell_of_point z hx hy))) (nearest_even _ _ (mul-pos (spacings z).0 (spacings z).1))

    -- and no other number is
    pub shift_only : {r : ℤ} → NearestEven (s.dlon * s.dlat) exact_numerator r → r ≡ component s S x y
    shift_only h = one_nearest_even (mul-pos (spacings z).0 (spacings z).1) h shift_rounded

    -- document 02, request 7: the sign tells on which side of the shift the exact fraction lies, and by 0 that it is whole
    pub shift_tells : Tells (s.dlon * s.dlat) exact_numerator (component s S x y) (sign_at s S x y)
    unfolding component sign_at
    shift_tells = let c = cell_in z (cell_of_point z hx hy) in rw (sign_is c, component_is c) (sign_tells (s.dlon * s.dlat) _ (mul-pos (spacings z).0 (spacings z).1))

    shift_nearest : Nearest (s.dlon * s.dlat) (surface s.dlon s.dlat (s.cols - 2) (s.rows - 2) (raised_nodes s.cols S) x y) (raise (component s S x y))
    unfolding component
    shift_nearest = component-nearest (cell_of_point z hx hy)

  -- the same, as `bilinear` asks for it
  nearest_everywhere : (x y : ℕ) → x ≤ s.dlon * suc (s.cols - 2) → y ≤ s.dlat * suc (s.rows - 2)
      → Nearest (s.dlon * s.dlat) (surface s.dlon s.dlat (s.cols - 2) (s.rows - 2) (raised_nodes s.cols S) x y) (raise (component s S x y))
  nearest_everywhere x y hx hy = shift_nearest (rw (← (edges z).0) hx) (rw (← (edges z).1) hy)

  -- it changes slowly and is in its range
  pub shift_regular : Regular ((s.cols - 1) * s.dlon) ((s.rows - 1) * s.dlat) (λ x y. raise (component s S x y))
  shift_regular =
      record {
        slow =
            rw (← (edges z).0, ← (edges z).1)
            (lipschitz s.dlon s.dlat (s.cols - 2) (s.rows - 2) (spacings z).0 (spacings z).1 (raised_nodes s.cols S) _ nearest_everywhere slopes);
        fits = λ x y hx hy. let k = shift_range hx hy in omega (arith, ints, raise_by k);
      }

  -- at a node it is the node's
  pub node_shift_is : (r c : ℕ) → r < s.rows → c < s.cols → component s S (s.dlon * c) (s.dlat * r) ≡ node S (r * s.cols + c)
  node_shift_is r c hr hc =
      let hx : s.dlon * c ≤ (s.cols - 1) * s.dlon = rw (← (edges z).0) (mul-le-mul_left s.dlon (omega arith)) in
      let hy : s.dlat * r ≤ (s.rows - 1) * s.dlat = rw (← (edges z).1) (mul-le-mul_left s.dlat (omega arith)) in
      let e = shift_node s.dlon s.dlat (s.cols - 2) (s.rows - 2) (spacings z).0 (spacings z).1 (raised_nodes s.cols S) _ nearest_everywhere r c (omega (arith, z)) (omega (arith, z)) in
      lowered max_shift _ _ (sym (raise_is (shift_range hx hy)) ∙ ap pos e ∙ raise_is (node_range r c hr hc))

  -- and at every point it lies between what bounds the corners of any cell of the point
  module _ {x y : ℕ} {k : Cell} (o : CellOf s x y k) {lo hi : ℤ} (l : Within max_shift lo) (h : Within max_shift hi) where
    raised_among : {S' : ℤ} → Within max_shift S' → Between lo S' hi → Among (raise lo) (raise hi) (raise S')
    raised_among w b = record { low = omega (arith, ints, b.low, raise_by l, raise_by w); high = omega (arith, ints, b.high, raise_by h, raise_by w) }

    pub between-corners : (let t = corners o in Between lo t.s1 hi × Between lo t.s2 hi × Between lo t.s3 hi × Between lo t.s4 hi)
        → Between lo (component s S x y) hi
    between-corners b =
        let i = corners_range (cell_in z o) in
        let w = shift_range {x = x} {y = y} (rw (← (edges z).0) (on_axis o.along)) (rw (← (edges z).1) (on_axis o.up)) in
        let m = shift_between s.dlon s.dlat (s.cols - 2) (s.rows - 2) (spacings z).0 (spacings z).1 (raised_nodes s.cols S) _ nearest_everywhere o.along o.up
        (raised_among i.sw b.0) (rw (se o) (raised_among i.se b.1)) (rw (nw o) (raised_among i.nw b.2)) (rw (ne o) (raised_among i.ne b.3)) in
        record { low = omega (arith, ints, m.low, raise_by l, raise_by w); high = omega (arith, ints, m.high, raise_by h, raise_by w) }

  -- document 02, request 10: "between the least and greatest of its cell's corners"
  pub between_own_corners : {x y : ℕ} {k : Cell} → CellOf s x y k → let t = corners_in s.cols S k in Between (least t) (component s S x y) (greatest t)
  between_own_corners {k = k} o = let w = extremes_in (corners_range (cell_in z o)) in between-corners o w.0 w.1 (corners-between (corners_in s.cols S k))

-- ---- for the code: the cell `k` that it has found for a point of the grid

module _ {s : Shape} (z : Extent s) {x y : ℕ} (hx : x ≤ (s.cols - 1) * s.dlon) (hy : y ≤ (s.rows - 1) * s.dlat) {k : Cell} (e : k ≡ cell_at s x y) where
  found_in : CellIn s k
  found_in = rw e (cell_in z (cell_of_point z hx hy))

  pub found_corners : northwest s.cols k + 1 < s.rows * s.cols
  found_corners = corners_in_lem z found_in

  pub found_weights : Weighted k.distances
  found_weights = weighted z found_in

  module _ {S : List ℤ} (p : Sound s S) where
    pub found_range : CornersIn (corners_in s.cols S k)
    found_range = corners_range z p found_in

  pub found_exact : (ns : Nodes) → exact_in (corners_in s.cols ns.lat k) (corners_in s.cols ns.lon k) k.distances ≡ exact_of s ns x y
  unfolding exact_of
  found_exact ns = ap (λ (c : Cell). exact_in (corners_in s.cols ns.lat c) (corners_in s.cols ns.lon c) c.distances) e

-- the exact shift, rounded, is the shift, and its signs are the signs
module _ (s : Shape) (ns : Nodes) (x y : ℕ) {v : ExactShift} (e : v ≡ exact_of s ns x y) where
  pub exact_shift : rounded_shift v ≡ shift_of s ns x y
  unfolding exact_of component component_in four_corner
  exact_shift = ap rounded_shift e

  pub exact_signs : rounding_signs v (rounded_shift v) ≡ signs_of s ns x y
  unfolding exact_of sign_at sign_in four_corner_sign four_corner
  exact_signs = ap (λ (v : ExactShift). rounding_signs v (rounded_shift v)) e
