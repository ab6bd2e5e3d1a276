-- Laws of range, steepness and twist, node by node.
use Prim.Native.Nat.{ℕ, ◌+◌, ◌*◌, ◌/◌, ◌%◌, ◌≤◌, ◌<◌, min}
use mathlib.Core.Path.{◌≡◌, refl, sym, ap, ◌∙◌}
use mathlib.Core.Bool.{Bool, true, false, not, ◌&&◌}
use mathlib.Core.List.{List}
use mathlib.Core.Logic.{◌⊎◌, inl, inr}
use native.Mathlib.Omega.{arith}
use native.Mathlib.Nat.{div-add-mod, add-mod_right, mul-le-mul_left, div-lt_iff_lt-mul}
use borrow.Author.Tests.{ltb-true, ltb-false, lt-ltb, le-ltb}
use lib.Dec.{ltb}
use lib.ListN.{length}
use lib.IntN.{ℤ, pos, nat_abs, ◌-ℤ◌}
use lib.Signed.{◌≤ℤ◌}
use Rattle.laws.specs.Parts.{Within, ints}
use Rattle.laws.specs.Bounds.{own_size, within_neg}
use Rattle.laws.specs.Expr.{linear, lit, ⊝}
use Rattle.laws.specs.Logic.{never, and_last, both, not_both, second_fails, lt_or_ge, ltb_same}
use Rattle.grid.specs.Rules.{minus, between}
use Rattle.grid.specs.Nodes.{max_shift, node, beyond_range, has_east, has_north, is_southwest, too_much, steep_to, steep_east, steep_north, twist, twisted}
use Rattle.grid.specs.Needs.{InRange, Judgeable}
use Rattle.grid.specs.declared.Shape.{Shape}
use Rattle.grid.proofs.RuleLaws.{between_holds, between_true, between_within}

-- ---- sizes, as the code judges them

beyond_size : (K : ℕ) (x : ℤ) → not (between (minus K) x (pos K)) ≡ ltb K (nat_abs x)
beyond_size K x = go (between (minus K) x (pos K)) refl (lt_or_ge K (nat_abs x))
  where
    go : (t : Bool) → between (minus K) x (pos K) ≡ t → (K < nat_abs x) ⊎ (nat_abs x ≤ K) → not t ≡ ltb K (nat_abs x)
    go true e l = sym (le-ltb _ _ (between_within K (between_holds e) (within_neg (own_size (pos K))) (own_size (pos K))).size)
    go false e (inl l) = sym (lt-ltb _ _ l)
    go false e (inr l) =
        let w : Within K x = record { size = l } in
        let a : minus K ≤ℤ x = omega (arith, ints, linear (⊝ (lit (pos K)))) in
        let b : x ≤ℤ pos K = omega (arith, ints) in
        absurd (not_both (between_true a b) e)

-- by the most that the size may be
pub too_much_is : (times spacing : ℕ) (x : ℤ) → 0 < times → ltb (100 * spacing / times) (nat_abs x) ≡ too_much times spacing x
unfolding too_much
too_much_is times spacing x p =
    ltb_same (100 * spacing / times) (nat_abs x) (100 * spacing) (times * nat_abs x) (λ l. omega (arith, (div-lt_iff_lt-mul p).0 l)) (λ l. (div-lt_iff_lt-mul p).1 (omega arith))

-- a shift in its range
pub in_range : {x : ℤ} → beyond_range x ≡ false → Within max_shift x
unfolding beyond_range
in_range {x} e = record { size = ltb-false _ _ (sym (beyond_size max_shift x) ∙ e) }

pub not_beyond : {x : ℤ} → Within max_shift x → beyond_range x ≡ false
unfolding beyond_range
not_beyond {x} h = beyond_size max_shift x ∙ le-ltb _ _ h.size

-- ---- neighbours are nodes of the grid

-- the end of a node's row
pub row_end : (cols k : ℕ) → (k / cols + 1) * cols + k % cols ≡ k + cols
row_end cols k = omega (arith, div-add-mod k cols)

-- the next node is in the same row
pub east_is : (s : Shape) (k : ℕ) → ltb (k + 1) ((k / s.cols + 1) * s.cols) ≡ has_east s k
unfolding has_east
east_is s k = ltb_same (k + 1) ((k / s.cols + 1) * s.cols) (k % s.cols + 1) s.cols (λ l. omega (arith, row_end s.cols k)) (λ l. omega (arith, row_end s.cols k))

module _ (s : Shape) (some_cols : 0 < s.cols) (k : ℕ) where
  abbrev n : ℕ
  n = s.rows * s.cols

  pub east_in : k < n → has_east s k ≡ true → k + 1 < n
  unfolding has_east
  east_in h e =
      let q : k / s.cols < s.rows = (div-lt_iff_lt-mul some_cols).1 h in
      let e' : k % s.cols + 1 < s.cols = ltb-true _ _ e in
      omega (arith, div-add-mod k s.cols, mul-le-mul_left s.cols q)

-- the neighbours, as the code looks for them in a slice that is cut to the nodes
module _ {s : Shape} {S : List ℤ} (c : Judgeable s S) (k : ℕ) where
  pub east_there : 0 < s.cols → k < s.rows * s.cols → has_east s k ≡ true → ltb (k + 1) (length S) ≡ true
  east_there some_cols l e = lt-ltb (k + 1) (length S) (omega (arith, c.cut, east_in s some_cols k l e))

  pub north_there : ltb (k + s.cols) (length S) ≡ has_north s k
  unfolding has_north
  north_there = ap (ltb (k + s.cols)) c.cut

-- below the last row it is the east neighbour that makes a cell
pub southwest_is : (s : Shape) (k : ℕ) → k + s.cols < s.rows * s.cols → has_east s k ≡ is_southwest s k
unfolding is_southwest has_north
southwest_is s k l = and_last (has_east s k) (lt-ltb _ _ l) refl

-- the northeast node of a cell
module _ (s : Shape) (some_cols : 0 < s.cols) (k : ℕ) where
  above : has_east s (k + s.cols) ≡ has_east s k
  unfolding has_east
  above = rw (add-mod_right k s.cols)

  pub cell_in : is_southwest s k ≡ true → k + s.cols + 1 < s.rows * s.cols
  unfolding is_southwest has_north
  cell_in e =
      let b = both (has_east s k) (ltb (k + s.cols) (s.rows * s.cols)) e in
      east_in s some_cols (k + s.cols) (ltb-true _ _ b.1) (above ∙ b.0)

  pub no_cell : s.rows * s.cols ≤ k + s.cols + 1 → is_southwest s k ≡ false
  no_cell l = never (λ e. omega (arith, cell_in e))

-- ---- what the checks leave of each component

pub record Sound (s : Shape) (S : List ℤ) : Type 0 where
  pub ranged : InRange (s.rows * s.cols) S
  pub east : (k : ℕ) → k < s.rows * s.cols → k % s.cols + 1 < s.cols → 16 * nat_abs (node S (k + 1) -ℤ node S k) ≤ 100 * s.dlon
  pub north : (k : ℕ) → k + s.cols < s.rows * s.cols → 16 * nat_abs (node S (k + s.cols) -ℤ node S k) ≤ 100 * s.dlat
  pub untwisted : (k : ℕ) → k % s.cols + 1 < s.cols → k + s.cols < s.rows * s.cols → 64 * nat_abs (twist s.cols S k) ≤ 100 * min s.dlat s.dlon

pub sound : (s : Shape) (S : List ℤ) → InRange (s.rows * s.cols) S
    → ((k : ℕ) → k < s.rows * s.cols → (steep_east s S k ≡ false) × (steep_north s S k ≡ false) × (twisted s S k ≡ false)) → Sound s S
unfolding steep_east steep_north steep_to twisted is_southwest has_east has_north too_much
sound s S r g =
    record {
      ranged = r;
      east = λ k l e. ltb-false _ _ (second_fails _ _ (g k l).0 (lt-ltb _ _ e));
      north = λ k e. ltb-false _ _ (second_fails _ _ (g k (omega arith)).1 (lt-ltb _ _ e));
      untwisted = λ k e f. ltb-false _ _ (second_fails (ltb (k % s.cols + 1) s.cols && ltb (k + s.cols) (s.rows * s.cols)) _ (g k (omega arith)).2 (rw (lt-ltb _ _ e, lt-ltb _ _ f)));
    }

-- a shift of a component is in its range
pub in_component : {s : Shape} {S : List ℤ} → Judgeable s S → (k : ℕ) → k < length S → Within max_shift (node S k)
in_component c k l = c.ranged.range k (omega (arith, c.cut))
