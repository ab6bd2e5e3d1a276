-- What a branch of the code tells of the numbers that it compares, and what a cast to `usize` gives.
use Rattle.std.specs.Prelude.{◌≡◌, refl, ◌<◌, ◌^◌, Bool, true, false, not, ◌&&◌, T, eqb, ℤ, pos, negsuc, nat_abs, ◌<ℤ◌, ◌≤ℤ◌}
use Rattle.std.proofs.Common.{sym, ap, subst, ◌∙◌, arith, eqb-true, SFits, Fits, of_z, to_z, to_z-of_z}
use Rattle.std.proofs.lemmas.Bool.{eqb-false}
use Rattle.std.specs.Int.Signed.{mag, non_neg, lt_z, lt_z_yes, lt_z_no, yes_non_neg, pos-nat_abs}
use Rattle.std.specs.Int.{w64}
use Rattle.std.proofs.Math.Facts.{and_yes, Fits-nat_abs}
use Rattle.laws.specs.Parts.{pos_part, ints}
use Rattle.laws.specs.Expr.{Expr, machine, reads, reads₂}
use Rattle.laws.specs.Logic.{not_both, eq_z, eq_z_holds, eq_z_true}

-- a and b are what is compared, as `fitting c.fits.x` for a parameter x
is_true : {t : Bool} → t ≡ true → T t
is_true p = subst T (sym p) tt

is_false : {t : Bool} → t ≡ false → T (not t)
is_false p = subst (λ (t : Bool). T (not t)) (sym p) tt

module _ {x y : ℤ} (a : Expr x) (b : Expr y) (t : T ((a.parts && a.small) && (b.parts && b.small))) where
  pub lt_yes : lt_z a.got b.got ≡ true → x <ℤ y
  lt_yes p = lt_z_yes (is_true (sym (reads₂ lt_z a b t) ∙ p))

  pub lt_no : lt_z a.got b.got ≡ false → y ≤ℤ x
  lt_no p = lt_z_no (is_false (sym (reads₂ lt_z a b t) ∙ p))

-- an equality is tested on the bits
pub eq_yes : {x y : ℤ} → SFits w64 x → SFits w64 y → of_z w64 x ≡ of_z w64 y → x ≡ y
eq_yes f g p = sym (to_z-of_z f) ∙ ap (to_z w64) p ∙ to_z-of_z g

-- so the test of the bits is the test of the numbers
pub eq_bits : {x y : ℤ} → SFits w64 x → SFits w64 y → eqb (of_z w64 x) (of_z w64 y) ≡ eq_z x y
eq_bits {x} {y} f g = go (eqb (of_z w64 x) (of_z w64 y)) refl (eq_z x y) refl
  where
    go : (a : Bool) → eqb (of_z w64 x) (of_z w64 y) ≡ a → (b : Bool) → eq_z x y ≡ b → a ≡ b
    go true p true q = refl
    go true p false q = absurd (not_both (eq_z_true (eq_yes f g (eqb-true _ _ p))) q)
    go false p true q = absurd (eqb-false _ _ p (ap (of_z w64) (eq_z_holds q)))
    go false p false q = refl

-- ---- the cast to `usize` of what is not negative

pub need_cast : {z : ℤ} (e : Expr z) → pos 0 ≤ℤ z → T (e.parts && e.small) → T (non_neg e.got) × Fits w64 (nat_abs e.got)
need_cast {z} e h t = subst (λ (v : ℤ). T (non_neg v) × Fits w64 (nat_abs v)) (sym (reads e t)) (yes_non_neg h, Fits-nat_abs tt (e.fit (and_yes e.parts e.small t).1))

pub reads_cast : {z : ℤ} (e : Expr z) → pos 0 ≤ℤ z → T (e.parts && e.small) → pos (nat_abs e.got) ≡ z
reads_cast {z} e h t = subst (λ (v : ℤ). pos (nat_abs v) ≡ z) (sym (reads e t)) (pos-nat_abs z (yes_non_neg h))

-- the natural part of a number, as the code has it, by cases
pub part_none : {x : ℤ} → x <ℤ pos 0 → 0 ≡ pos_part x
part_none {x = pos n} h = omega (arith, ints)
part_none {x = negsuc n} h = refl

pub part-whole : {x : ℤ} → pos 0 ≤ℤ x → nat_abs x ≡ pos_part x
part-whole {x = pos n} h = refl
part-whole {x = negsuc n} h = absurd h.le

-- what is read of a slice, as it comes back from the machine
pub element : {z : ℤ} → mag z < 2 ^ 63 → machine z ≡ z
element h = to_z-of_z {w = w64} (record { sfits = h })
