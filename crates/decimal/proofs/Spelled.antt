-- A text whose bytes are all pushed is a spelled number, and a spelled number is pushed to its end.
use Prim.Native.Nat.{ℕ, suc, ◌+◌, ◌-◌, ◌*◌, ◌/◌, ◌%◌, ◌^◌, ◌≤◌, ◌<◌}
use mathlib.Core.Path.{◌≡◌, refl, sym, ap, ◌∙◌}
use mathlib.Core.Bool.{Bool, true, false, ◌&&◌}
use mathlib.Core.List.{List, [], ◌∷◌, ◌++◌, append_assoc, append-nil}
use native.Mathlib.Omega.{arith}
use borrow.Author.Tests.{le-ltb, ne_eqb}
use lib.Dec.{eqb}
use lib.IntN.{ℤ, pos, negsuc}
use Rattle.std.specs.Prelude.{Option, Some, None, option_and_then}
use Rattle.laws.specs.Logic.{and_false}
use Rattle.decimal.specs.Spelling.{digits, sign, spell, Short}
use Rattle.decimal.specs.Pushing.{none, number, minus_pushed, digit_pushed, pushed, signed, part, pushed_all}
use Rattle.decimal.specs.declared.Number.{Number}
use Rattle.decimal.proofs.Bytes.{is_digit_lem}
use Rattle.decimal.proofs.Digits.{tens, digits_small, digits_more}
use Rattle.decimal.proofs.Grown.{Spells, Good, good_none, good_digits, push-grown, value_small, value_spelled}

-- ---- a spelled number is pushed to its end

pub first_digit : (negative : Bool) (d : ℕ) → d < 10 → (negative && eqb d 0) ≡ false
    → pushed (number negative None) (48 + d) ≡ Some (number negative (Some d))
unfolding pushed digit_pushed
first_digit negative d l s =
    let q : 48 + d - 48 ≡ d = omega arith in
    rw (is_digit_lem (48 + d) (omega arith) (omega arith), q, s)

pub more_digit : (negative : Bool) (m d : ℕ) → d < 10 → 0 < m → m ≤ 9999999999
    → pushed (number negative (Some m)) (48 + d) ≡ Some (number negative (Some (m * 10 + d)))
unfolding pushed digit_pushed
more_digit negative m d l h g =
    let q : 48 + d - 48 ≡ d = omega arith in
    rw (is_digit_lem (48 + d) (omega arith) (omega arith), q, ne_eqb m 0 (omega arith), le-ltb 9999999999 m g)

digits-pushed : (negative : Bool) (m : ℕ) → m < 10 ^ 11 → (negative && eqb m 0) ≡ false → (w : List ℕ)
    → pushed_all (number negative None) (digits m ++ w) ≡ pushed_all (number negative (Some m)) w
unfolding pushed_all
digits-pushed negative =
    tens
    (λ m. m < 10 ^ 11 → (negative && eqb m 0) ≡ false → (w : List ℕ) → pushed_all (number negative None) (digits m ++ w) ≡ pushed_all (number negative (Some m)) w)
    (λ m h l s w. rw (digits_small m h) (ap (option_and_then (λ n. pushed_all n w)) (first_digit negative m h s)))
    (λ m h f l s w.
    let q : m / 10 * 10 + m % 10 ≡ m = omega arith in
    let t : (negative && eqb (m / 10) 0) ≡ false = rw (ne_eqb (m / 10) 0 (omega arith)) (and_false negative) in
    rw (digits_more m h, append_assoc)
    (f (omega arith) t ((48 + m % 10) ∷ w)
    ∙ ap (option_and_then (λ n. pushed_all n w)) (more_digit negative (m / 10) (m % 10) (omega arith) (omega arith) (omega arith))
    ∙ rw q))

minus_pushed_lem : pushed none 45 ≡ Some (number true None)
unfolding pushed minus_pushed
minus_pushed_lem = refl

-- what was read, read again, comes to the same place
pub part-pushed : (n : Number) → Good n → (w : List ℕ) → pushed_all none (part n ++ w) ≡ pushed_all n w
unfolding pushed_all
part-pushed n g w = go n.negative n.magnitude g.spells
  where
    go : (s : Bool) (o : Option ℕ) → ((m : ℕ) → o ≡ Some m → Spells s m) → pushed_all none (part (number s o) ++ w) ≡ pushed_all (number s o) w
    go false None f = refl
    go true None f = ap (option_and_then (λ n. pushed_all n w)) minus_pushed_lem
    go false (Some m) f = let h = f m refl in digits-pushed false m h.small h.signed w
    go true (Some m) f = let h = f m refl in ap (option_and_then (λ n. pushed_all n (digits m ++ w))) minus_pushed_lem ∙ digits-pushed true m h.small h.signed w

digits_read : (negative : Bool) (m : ℕ) → m < 10 ^ 11 → (negative && eqb m 0) ≡ false → pushed_all none (sign negative ++ digits m) ≡ Some (signed negative m)
unfolding pushed_all
digits_read negative m l s =
    let n = number negative (Some m) in
    ap (pushed_all none) (sym (append-nil (part n)))
    ∙ part-pushed n (good_digits (record { small = l; signed = s })) []
    ∙ value_small n m refl l

pub pushed-spell : (x : ℤ) → Short x → pushed_all none (spell x) ≡ Some x
unfolding spell
pushed-spell (pos m) h = digits_read false m h refl
pushed-spell (negsuc m) h = digits_read true (suc m) h (ne_eqb (suc m) 0 (omega arith))

-- ---- and back

spell-pushed-from : (n : Number) → Good n → (w : List ℕ) {x : ℤ} → pushed_all n w ≡ Some x → (part n ++ w ≡ spell x) × Short x
unfolding pushed_all
spell-pushed-from n g [] e = let h = value_spelled n g e in (append-nil (part n) ∙ h.0, h.1)
spell-pushed-from n g (b ∷ w) {x} e = go (λ m h. spell-pushed-from m h w) (pushed n b) refl e
  where
    go : ((m : Number) → Good m → pushed_all m w ≡ Some x → (part m ++ w ≡ spell x) × Short x)
        → (p : Option Number) → pushed n b ≡ p → option_and_then (λ m. pushed_all m w) p ≡ Some x → (part n ++ (b ∷ w) ≡ spell x) × Short x
    go next (Some m) q e =
        let h = push-grown n b m q in
        let r = next m h.0 e in
        (sym (append_assoc (part n) (b ∷ []) w) ∙ ap (λ (t : List ℕ). t ++ w) (sym h.1) ∙ r.0, r.1)
    go next None q e = absurd cc

pub spell-pushed : (w : List ℕ) {x : ℤ} → pushed_all none w ≡ Some x → (w ≡ spell x) × Short x
spell-pushed w e = spell-pushed-from none good_none w e
