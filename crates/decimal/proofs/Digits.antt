-- The laws of `digits`.
use Prim.Native.Nat.{ℕ, zero, suc, ◌+◌, ◌-◌, ◌*◌, ◌/◌, ◌%◌, ◌^◌, ◌≤◌, ◌<◌}
use mathlib.Core.Path.{◌≡◌, refl, sym, ap, ◌∙◌}
use mathlib.Core.List.{List, [], ◌∷◌, ◌++◌, map}
use mathlib.Core.Logic.{⊎_elim}
use native.Mathlib.Omega.{arith}
use lib.ListN.{length, length-append}
use Rattle.std.specs.Int.Digits.{digits_of}
use Rattle.std.proofs.lemmas.List.{map-append, length-map}
use Rattle.std.proofs.lemmas.Int.Digits.{digits_of_step, length-digits_of-le}
use Rattle.laws.specs.Logic.{lt_or_ge}
use Rattle.decimal.specs.Spelling.{digits, value_from}

-- induction: what holds below ten, and of n where it holds of n / 10, holds of every number
pub tens : (P : ℕ → Type 0) → ((n : ℕ) → n < 10 → P n) → ((n : ℕ) → 10 ≤ n → P (n / 10) → P n) → (n : ℕ) → P n
tens P small more n = go (suc n) n (omega arith)
  where
    go : (k m : ℕ) → m < k → P m
    go zero m h = absurd (omega arith)
    go (suc k) m h = ⊎_elim (small m) (λ g. more m g (go k (m / 10) (omega arith))) (lt_or_ge m 10)

-- ---- `digits` by its two equations

pub digits_small : (n : ℕ) → n < 10 → digits n ≡ (48 + n) ∷ []
unfolding digits
digits_small zero h = refl
digits_small (suc n) h =
    let q : suc n / 10 ≡ 0 = omega arith in
    let r : suc n % 10 ≡ suc n = omega arith in
    rw (digits_of_step 10 (suc n) (omega arith) (omega arith), q, r)

-- those of a number above 0
digits_above : (n : ℕ) → 0 < n → digits n ≡ map (λ d. 48 + d) (digits_of 10 n)
unfolding digits
digits_above zero h = absurd (omega arith)
digits_above (suc n) h = refl

pub digits_more : (n : ℕ) → 10 ≤ n → digits n ≡ digits (n / 10) ++ ((48 + n % 10) ∷ [])
digits_more n h = rw (digits_above n (omega arith), digits_above (n / 10) (omega arith), digits_of_step 10 n (omega arith) (omega arith), map-append)

pub digits_snoc : (a d : ℕ) → 0 < a → d < 10 → digits (a * 10 + d) ≡ digits a ++ ((48 + d) ∷ [])
digits_snoc a d h g =
    let q : (a * 10 + d) / 10 ≡ a = omega arith in
    let r : (a * 10 + d) % 10 ≡ d = omega arith in
    digits_more (a * 10 + d) (omega arith) ∙ rw (q, r)

value_append : (a : ℕ) (x y : List ℕ) → value_from a (x ++ y) ≡ value_from (value_from a x) y
value_append a [] y = refl
value_append a (d ∷ x) y = value_append (a * 10 + (d - 48)) x y

-- what was written reads as the number
pub value_digits : (n : ℕ) → value_from 0 (digits n) ≡ n
value_digits =
    tens (λ n. value_from 0 (digits n) ≡ n)
    (λ n h. rw (digits_small n h) (omega arith))
    (λ n h e. rw (digits_more n h, value_append, e) (omega arith))

pub digits_injective : (m n : ℕ) → digits m ≡ digits n → m ≡ n
digits_injective m n e = sym (value_digits m) ∙ ap (value_from 0) e ∙ value_digits n

pub length_digits : (n k : ℕ) → n < 10 ^ k → 0 < k → length (digits n) ≤ k
unfolding digits
length_digits zero k h p = omega arith
length_digits (suc n) k h p = omega (arith, length-map (digits_of 10 (suc n)) (λ d. 48 + d), length-digits_of-le 10 k (suc n) (omega arith) h)

pub length-digits-pos : (n : ℕ) → 0 < length (digits n)
length-digits-pos =
    tens (λ n. 0 < length (digits n))
    (λ n h. rw (digits_small n h) (omega arith))
    (λ n h e. rw (digits_more n h, length-append) (omega arith))

pub length_more : (n : ℕ) → 10 ≤ n → length (digits n) ≡ length (digits (n / 10)) + 1
length_more n h = rw (digits_more n h, length-append) refl
