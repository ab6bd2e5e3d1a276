-- Laws of standings: of two, one at the most is ahead of the other; and two standings are the same where each way round leads to the other.
use Prim.Native.Nat.{ℕ, ◌<◌}
use native.Mathlib.Omega.{arith}
use mathlib.Core.Path.{◌≡◌, refl, sym, ap, ◌∙◌}
use mathlib.Core.Bool.{Bool, true, false}
use borrow.Author.Tests.{ltb-true, lt-ltb, le-ltb, eq-eqb}
use Rattle.std.specs.declared.cmp.Ordering.{Ordering}
use Rattle.std.specs.Ordering.{ordering_index, nat_cmp, MatchOrdering}
use Rattle.std.specs.Cmp.{ranks}
use lib.Dec.{ltb}
use lib.IntN.{ℤ}
use lib.Signed.{lt_z, ◌<ℤ◌, ◌≤ℤ◌}
use Rattle.laws.specs.Parts.{ints}
use Rattle.laws.specs.Logic.{both, never, not_both, and_false, lt_z_false, lt_z_holds}
use Rattle.laws.specs.Circle.{distance, distance_back}
use Rattle.figures.specs.Points.{half_turn83}
use Rattle.convert.proofs.Places.{half83}
use Rattle.order.specs.Standings.{standing_by, is_east, same_standing}

-- what is ahead is not behind
abbrev pub Asymmetric : {A : Type 0} → (A → A → Bool) → Type 0
Asymmetric {A} before = (u v : A) → before u v ≡ true → before v u ≡ false

pub line_asymmetric : Asymmetric lt_z
line_asymmetric u v e = let l : u <ℤ v = lt_z_holds e in let m : u ≤ℤ v = omega (arith, ints) in lt_z_false m

pub distances_asymmetric : Asymmetric ltb
distances_asymmetric x y e = le-ltb y x (omega (arith, ltb-true x y e))

-- two distances as the library compares them
pub distances_stand : (x y : ℕ) → nat_cmp x y ≡ standing_by ltb x y
distances_stand x y = go (nat_cmp x y) (ranks x y)
  where
    go : (o : Ordering) → MatchOrdering o (x < y) (x ≡ y) (y < x) → o ≡ standing_by ltb x y
    go Ordering.Less h = rw (lt-ltb x y h)
    go Ordering.Equal h = rw (le-ltb x y (omega arith), le-ltb y x (omega arith))
    go Ordering.Greater h = rw (le-ltb x y (omega arith), lt-ltb y x h)

pub is_east_lem : (u v : ℤ) → 0 < distance half_turn83 u v → distance half_turn83 u v < half_turn83 → is_east u v ≡ true
unfolding is_east
is_east_lem u v a b = rw (lt-ltb _ _ a, lt-ltb _ _ b)

pub circle_asymmetric : Asymmetric is_east
unfolding is_east
circle_asymmetric u v e =
    let way = distance half_turn83 u v in
    let back = distance half_turn83 v u in
    let s = both (ltb 0 way) (ltb way half_turn83) e in
    let a = ltb-true 0 way s.0 in
    let b = ltb-true way half_turn83 s.1 in
    rw (le-ltb back half_turn83 (omega (arith, distance_back half83 u v a))) (and_false (ltb 0 back))

-- ---- two standings

module _ {A B : Type 0} {f : A → A → Bool} {f' : B → B → Bool} (w : Asymmetric f) (w' : Asymmetric f') (u v : A) {x y : B} where
  -- the same: what is ahead stays ahead, either way round, and what is level stays level
  pub alike : (f u v ≡ true → f' x y ≡ true) → (f v u ≡ true → f' y x ≡ true) → (f u v ≡ false → f v u ≡ false → x ≡ y)
      → standing_by f u v ≡ standing_by f' x y
  alike forward backward level = go (f u v) refl (f v u) refl
    where
      none : f' x x ≡ false
      none = never (λ h. not_both h (w' x x h))

      go : (s : Bool) → f u v ≡ s → (t : Bool) → f v u ≡ t → standing_by f u v ≡ standing_by f' x y
      go true a t b = rw (a, forward a)
      go false a true b = let d = backward b in rw (a, b, d, w' y x d)
      go false a false b = let e = sym (level a b) in rw (a, b, ap (f' x) e ∙ none, ap (λ z. f' z x) e ∙ none)

pub same_as_itself : {s t : Ordering} → s ≡ t → same_standing s t ≡ true
same_as_itself {s} {t} e = rw (e, eq-eqb (ordering_index t) (ordering_index t) refl)
