-- The texts that are numbers are the spelled numbers, and those whose bytes are all pushed.
use Prim.Native.Nat.{ℕ, zero, suc, ◌+◌, ◌-◌, ◌*◌, ◌%◌, ◌/◌, ◌^◌, ◌≤◌, ◌<◌}
use mathlib.Core.Path.{◌≡◌, refl, sym, ap, ◌∙◌}
use mathlib.Core.Bool.{true, not, ◌&&◌, ◌||◌, false≢true}
use mathlib.Core.List.{List, [], ◌∷◌, ◌++◌, append_assoc, append-nil}
use native.Mathlib.Omega.{arith}
use native.Mathlib.Nat.{pow-suc, mul_assoc, mul_comm, mul-le-mul_right, lt_of_lt_of_le, pow-le-pow_right}
use borrow.Author.Tests.{le-leb, leb-true, ne_eqb, eqb-true, eqb-false, not-true}
use lib.ListN.{length, get_or, get_or-append}
use lib.Dec.{leb, eqb}
use lib.IntN.{ℤ, pos, negsuc}
use Rattle.std.specs.Prelude.{Option, Some, None}
use Rattle.laws.specs.Logic.{or_true, both, by_cond}
use Rattle.decimal.specs.Spelling.{digits, spell, Short, is_digit, all_digits, value_from, is_magnitude, magnitude_in, behind_minus, plain, number_in}
use Rattle.decimal.specs.Pushing.{none, part, pushed_all}
use Rattle.decimal.specs.declared.Number.{Number}
use Rattle.decimal.proofs.Bytes.{is_digit_lem, digit_range}
use Rattle.decimal.proofs.Digits.{tens, digits_small, digits_more, digits_snoc, value_digits, digits_injective, length_digits, length-digits-pos}
use Rattle.decimal.proofs.Grown.{Good}
use Rattle.decimal.proofs.Spelled.{part-pushed, pushed-spell, spell-pushed}

-- ---- a spelling is of digits, and none but that of 0 begins with 0

digits_append : (x y : List ℕ) → all_digits x ≡ true → all_digits y ≡ true → all_digits (x ++ y) ≡ true
digits_append [] y h g = g
digits_append (b ∷ x) y h g = let f = both (is_digit b) (all_digits x) h in rw f.0 (digits_append x y f.1 g)

digits-digits : (n : ℕ) → all_digits (digits n) ≡ true
digits-digits =
    tens (λ n. all_digits (digits n) ≡ true)
    (λ n h. rw (digits_small n h, is_digit_lem (48 + n) (omega arith) (omega arith)))
    (λ n h d. rw (digits_more n h) (digits_append (digits (n / 10)) ((48 + n % 10) ∷ []) d (rw (is_digit_lem (48 + n % 10) (omega arith) (omega arith)))))

digits_head : (n : ℕ) → 0 < n → 48 < get_or (digits n) 0 0
digits_head =
    tens (λ n. 0 < n → 48 < get_or (digits n) 0 0)
    (λ n h p. rw (digits_small n h) (omega arith))
    (λ n h f p. rw (digits_more n h, get_or-append (digits (n / 10)) ((48 + n % 10) ∷ []) 0 0 (length-digits-pos (n / 10))) (f (omega arith)))

no_lead : (n : ℕ) → (eqb (length (digits n)) 1 || not (eqb (get_or (digits n) 0 0) 48)) ≡ true
no_lead zero = rw (digits_small 0 (omega arith))
no_lead (suc n) = rw (ne_eqb (get_or (digits (suc n)) 0 0) 48 (omega (arith, digits_head (suc n) (omega arith)))) (or_true (eqb (length (digits (suc n))) 1) true refl)

-- ---- digits with no 0 before them are the spelling of what they say

value_lt : (a : ℕ) (t : List ℕ) → all_digits t ≡ true → value_from a t < (a + 1) * 10 ^ length t
value_lt a [] h = omega arith
value_lt a (d ∷ t) h =
    let f = both (is_digit d) (all_digits t) h in
    let r : (48 ≤ d) × (d ≤ 57) = digit_range d f.0 in
    let e : (a + 1) * 10 ^ suc (length t) ≡ ((a + 1) * 10) * 10 ^ length t = rw (pow-suc, mul_comm (10 ^ length t) 10, mul_assoc) in
    rw e (lt_of_lt_of_le (value_lt (a * 10 + (d - 48)) t f.1) (mul-le-mul_right (10 ^ length t) (omega arith)))

digits-onward : (a : ℕ) (t : List ℕ) → 0 < a → all_digits t ≡ true → digits (value_from a t) ≡ digits a ++ t
digits-onward a [] p h = sym (append-nil (digits a))
digits-onward a (d ∷ t) p h =
    let f = both (is_digit d) (all_digits t) h in
    let r : (48 ≤ d) × (d ≤ 57) = digit_range d f.0 in
    let e : 48 + (d - 48) ≡ d = omega arith in
    digits-onward (a * 10 + (d - 48)) t (omega arith) f.1
    ∙ rw (digits_snoc a (d - 48) p (omega arith), e, append_assoc)

digit_one : (d : ℕ) → is_digit d ≡ true → digits (0 * 10 + (d - 48)) ≡ d ∷ []
digit_one d h =
    let r : (48 ≤ d) × (d ≤ 57) = digit_range d h in
    let e : 48 + (0 * 10 + (d - 48)) ≡ d = omega arith in
    digits_small (0 * 10 + (d - 48)) (omega arith) ∙ rw e

digits_value : (t : List ℕ) → all_digits t ≡ true → 1 ≤ length t → (eqb (length t) 1 || not (eqb (get_or t 0 0) 48)) ≡ true → digits (value_from 0 t) ≡ t
digits_value [] h p c = absurd (omega arith)
digits_value (d ∷ []) h p c = digit_one d (both (is_digit d) true h).0
digits_value (d ∷ x ∷ t) h p c =
    let f = both (is_digit d) (all_digits (x ∷ t)) h in
    let n : not (eqb d 48) ≡ true = rw (ne_eqb (suc (suc (length t))) 1 (omega arith)) at c in
    let z : d ≡ 48 → ⊥ = eqb-false d 48 (not-true (eqb d 48) n) in
    digits-onward (0 * 10 + (d - 48)) (x ∷ t) (omega (arith, digit_range d f.0)) f.1 ∙ rw (digit_one d f.0)

-- ---- magnitudes

magnitude_digits : (n : ℕ) → n < 10 ^ 11 → magnitude_in (digits n) ≡ Some n
unfolding magnitude_in is_magnitude
magnitude_digits n h = rw (
  digits-digits n,
  le-leb 1 (length (digits n)) (length-digits-pos n),
  le-leb (length (digits n)) 11 (length_digits n 11 h (omega arith)),
  no_lead n,
  value_digits n,
)

digits_magnitude : (t : List ℕ) {n : ℕ} → magnitude_in t ≡ Some n → (t ≡ digits n) × (n < 10 ^ 11)
unfolding magnitude_in is_magnitude
digits_magnitude t {n} e =
    by_cond (is_magnitude t) e
    (λ q e.
    let f = both (all_digits t && (leb 1 (length t) && leb (length t) 11)) (eqb (length t) 1 || not (eqb (get_or t 0 0) 48)) q in
    let g = both (all_digits t) (leb 1 (length t) && leb (length t) 11) f.0 in
    let h = both (leb 1 (length t)) (leb (length t) 11) g.1 in
    let b : 10 ^ length t ≤ 10 ^ 11 = pow-le-pow_right (omega arith) (leb-true (length t) 11 h.1) in
    let v : value_from 0 t ≡ n = cc in
    (sym (digits_value t g.0 (leb-true 1 (length t) h.0) f.1) ∙ ap digits v, omega (arith, value_lt 0 t g.0)))
    (λ _ e. absurd cc)

-- ---- numbers

-- digits are no minus
plain-digits : (t : List ℕ) → all_digits t ≡ true → number_in t ≡ plain (magnitude_in t)
unfolding number_in magnitude_in is_magnitude
plain-digits [] h = refl
plain-digits (b ∷ t) h = rw (ne_eqb b 45 (omega (arith, digit_range b (both (is_digit b) (all_digits t) h).0)))

pub grammar_spell : (x : ℤ) → Short x → number_in (spell x) ≡ Some x
unfolding spell number_in
grammar_spell (pos n) h = plain-digits (digits n) (digits-digits n) ∙ ap plain (magnitude_digits n h)
grammar_spell (negsuc n) h = ap behind_minus (magnitude_digits (suc n) h)

plain-spell : (t : List ℕ) (o : Option ℕ) {x : ℤ} → magnitude_in t ≡ o → plain o ≡ Some x → (t ≡ spell x) × Short x
unfolding spell
plain-spell t (Some n) {x} q e = let f : pos n ≡ x = cc in rw (← f) (digits_magnitude t q)
plain-spell t None {x} q e = absurd cc

minus-spell : (t : List ℕ) (o : Option ℕ) {x : ℤ} → magnitude_in t ≡ o → behind_minus o ≡ Some x → ((45 ∷ t) ≡ spell x) × Short x
unfolding spell
minus-spell t (Some (suc n)) {x} q e =
    let h = digits_magnitude t q in
    let f : negsuc n ≡ x = cc in
    rw (← f) (ap (λ (r : List ℕ). 45 ∷ r) h.0, h.1)
minus-spell t (Some zero) {x} q e = absurd cc
minus-spell t None {x} q e = absurd cc

pub spell_grammar : (w : List ℕ) {x : ℤ} → number_in w ≡ Some x → (w ≡ spell x) × Short x
unfolding number_in
spell_grammar [] {x} e = absurd cc
spell_grammar (b ∷ t) e =
    by_cond (eqb b 45) e
    (λ q e. rw (eqb-true b 45 q) (minus-spell t (magnitude_in t) refl e))
    (λ _ e. plain-spell (b ∷ t) (magnitude_in (b ∷ t)) refl e)

-- ---- the grammar and the pushing of bytes say the same

same_option : {A : Type 0} (a b : Option A) → ((x : A) → a ≡ Some x → b ≡ Some x) → ((x : A) → b ≡ Some x → a ≡ Some x) → a ≡ b
same_option None None f g = refl
same_option None (Some y) f g = g y refl
same_option (Some x) b f g = sym (f x refl)

pub number_pushed : (n : Number) → Good n → (w : List ℕ) → number_in (part n ++ w) ≡ pushed_all n w
number_pushed n g w =
    same_option (number_in v) (pushed_all none v)
    (λ x e. let h = spell_grammar v e in rw h.0 (pushed-spell x h.1))
    (λ x e. let h = spell-pushed v e in rw h.0 (grammar_spell x h.1))
    ∙ part-pushed n g w
  where
    v : List ℕ
    v = part n ++ w

-- ---- no two spellings of one number, and no two numbers of one spelling

pub one_spelling : (v w : List ℕ) {x : ℤ} → number_in v ≡ Some x → number_in w ≡ Some x → v ≡ w
one_spelling v w e f = (spell_grammar v e).0 ∙ sym (spell_grammar w f).0

no_minus : (m : ℕ) (t : List ℕ) → digits m ≡ 45 ∷ t → ⊥
no_minus m t e = false≢true (sym (ap all_digits e) ∙ digits-digits m)

pub spell_injective : (x y : ℤ) → spell x ≡ spell y → x ≡ y
unfolding spell
spell_injective (pos m) (pos n) e = ap pos (digits_injective m n e)
spell_injective (pos m) (negsuc n) e = absurd (no_minus m (digits (suc n)) e)
spell_injective (negsuc m) (pos n) e = absurd (no_minus n (digits (suc m)) (sym e))
spell_injective (negsuc m) (negsuc n) e =
    let t : digits (suc m) ≡ digits (suc n) = cc in
    let q : suc m ≡ suc n = digits_injective (suc m) (suc n) t in
    ap negsuc (omega arith)
