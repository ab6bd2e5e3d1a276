-- A number under way: the bytes that were read are its part, and a byte that is not refused stands behind them.
use Prim.Native.Nat.{ℕ, zero, suc, ◌+◌, ◌-◌, ◌*◌, ◌^◌, ◌≤◌, ◌<◌}
use mathlib.Core.Path.{◌≡◌, refl, sym, ◌∙◌}
use mathlib.Core.Bool.{Bool, true, false, ◌&&◌, cond, true≢false}
use mathlib.Core.List.{[], ◌∷◌, ◌++◌, append_assoc, append-nil}
use native.Mathlib.Omega.{arith}
use borrow.Author.Tests.{ltb-false, le-ltb, ne_eqb}
use lib.Dec.{ltb, eqb}
use lib.IntN.{ℤ, pos}
use Rattle.std.specs.Prelude.{Option, Some, None, unwrap_or}
use Rattle.laws.specs.Logic.{and_false}
use Rattle.decimal.specs.Spelling.{digits, sign, spell, Short}
use Rattle.decimal.specs.Pushing.{number, none, pushed, signed, signed_value, value_of, value_or0, part}
use Rattle.decimal.specs.declared.Number.{Number}
use Rattle.decimal.proofs.Bytes.{digit_range}
use Rattle.decimal.proofs.Pushes.{Pushes, digit_first, digit_more, minus, pushes_grown}
use Rattle.decimal.proofs.Digits.{digits_small, digits_snoc}

-- ---- what a number under way has

-- a magnitude of at most 11 digits, which is not that of `-0`
pub record Spells (negative : Bool) (m : ℕ) : Type 0 where
  pub small : m < 10 ^ 11
  pub signed : (negative && eqb m 0) ≡ false

pub record Good (n : Number) : Type 0 where
  pub spells : (m : ℕ) → n.magnitude ≡ Some m → Spells n.negative m

pub good_none : Good none
good_none = record { spells = λ m e. absurd cc }

pub good_digits : {negative : Bool} {m : ℕ} → Spells negative m → Good (number negative (Some m))
good_digits {negative} {m} h = record { spells = λ k e. let f : m ≡ k = cc in rw f at h }

-- ---- one byte

module _ (n : Number) (b : ℕ) where
  grown : {m : Number} → Pushes n b (Some m) → Good m × (part m ≡ part n ++ (b ∷ []))
  grown (digit_first d e s) =
      let r : (48 ≤ b) × (b ≤ 57) = digit_range b d in
      let q : 48 + (b - 48) ≡ b = omega arith in
      (good_digits (record { small = omega arith; signed = s }), rw (e, digits_small (b - 48) (omega arith), q, append-nil))
  grown (digit_more d k e o l) =
      let r : (48 ≤ b) × (b ≤ 57) = digit_range b d in
      let q : 48 + (b - 48) ≡ b = omega arith in (
        good_digits (record { small = omega arith; signed = rw (ne_eqb (k * 10 + (b - 48)) 0 (omega arith)) (and_false n.negative) }),
        rw (e, digits_snoc k (b - 48) o (omega arith), q) (sym (append_assoc (sign n.negative) (digits k) (b ∷ []))),
      )
  grown (minus c e s) = (record { spells = λ m f. absurd cc }, rw (e, s, c))

pub push-grown : (n : Number) (b : ℕ) (m : Number) → pushed n b ≡ Some m → Good m × (part m ≡ part n ++ (b ∷ []))
push-grown n b m e = grown n b (pushes_grown n b e)

-- ---- what was read

spell-signed : (negative : Bool) (m : ℕ) → (negative && eqb m 0) ≡ false → spell (signed negative m) ≡ sign negative ++ digits m
unfolding spell
spell-signed false m e = refl
spell-signed true zero e = absurd (true≢false e)
spell-signed true (suc m) e = refl

signed_short : (negative : Bool) (m : ℕ) → m < 10 ^ 11 → Short (signed negative m)
signed_short false m h = h
signed_short true zero h = h
signed_short true (suc m) h = h

-- whatever a caller has made of a number, its value is no longer than a text's
pub value_short : (n : Number) → Short (value_or0 n)
unfolding value_of
value_short n = go n.magnitude
  where
    small : (m : ℕ) (t : Bool) → ltb 99999999999 m ≡ t → Short (unwrap_or (cond t None (Some (signed n.negative m))) (pos 0))
    small m true e = omega arith
    small m false e = signed_short n.negative m (omega (arith, ltb-false 99999999999 m e))

    go : (o : Option ℕ) → Short (unwrap_or (signed_value n.negative o) (pos 0))
    go None = omega arith
    go (Some m) = small m (ltb 99999999999 m) refl

pub value_small : (n : Number) (m : ℕ) → n.magnitude ≡ Some m → m < 10 ^ 11 → value_of n ≡ Some (signed n.negative m)
unfolding value_of
value_small n m e h = rw (e, le-ltb 99999999999 m (omega arith))

pub value_none : (n : Number) → n.magnitude ≡ None → value_of n ≡ None
unfolding value_of
value_none n e = rw e

-- a value is that of a magnitude, whose spelling was read
pub value_spelled : (n : Number) → Good n → {x : ℤ} → value_of n ≡ Some x → (part n ≡ spell x) × Short x
value_spelled n g {x} e = go n.magnitude refl
  where
    go : (o : Option ℕ) → n.magnitude ≡ o → (part n ≡ spell x) × Short x
    go None f = let z : None ≡ Some x = sym (value_none n f) ∙ e in absurd cc
    go (Some m) f =
        let h = g.spells m f in
        let z : signed n.negative m ≡ x = let y = sym (value_small n m f h.small) ∙ e in cc in
        rw (← z, f) (sym (spell-signed n.negative m h.signed), signed_short n.negative m h.small)
