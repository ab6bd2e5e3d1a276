-- What a byte makes of a number, by cases.
use Prim.Native.Nat.{ℕ, ◌+◌, ◌-◌, ◌*◌, ◌≤◌, ◌<◌}
use mathlib.Core.Path.{◌≡◌, refl, subst}
use mathlib.Core.Bool.{true, false, ◌&&◌, ◌||◌}
use native.Mathlib.Nat.{pos_of_ne-zero}
use borrow.Author.Tests.{eqb-true, eqb-false, ltb-false}
use lib.Dec.{ltb, eqb}
use Rattle.std.specs.Prelude.{Option, Some, None, is_some}
use Rattle.laws.specs.Logic.{neither, by_test}
use Rattle.decimal.specs.Spelling.{is_digit}
use Rattle.decimal.specs.Pushing.{number, magnitude_pushed, digit_pushed, minus_pushed, pushed}
use Rattle.decimal.specs.declared.Number.{Number}

pub data Pushes (n : Number) (b : ℕ) : Option Number → Type 0 where
  digit_first : is_digit b ≡ true → n.magnitude ≡ None → (n.negative && eqb (b - 48) 0) ≡ false → Pushes n b (Some (number n.negative (Some (b - 48))))
  digit_more : is_digit b ≡ true → (m : ℕ) → n.magnitude ≡ Some m → 0 < m → m ≤ 9999999999 → Pushes n b (Some (number n.negative (Some (m * 10 + (b - 48)))))
  minus : b ≡ 45 → n.magnitude ≡ None → n.negative ≡ false → Pushes n b (Some (number true None))
  refused : Pushes n b None

module _ (n : Number) (b : ℕ) where
  digit : is_digit b ≡ true → (o : Option ℕ) → n.magnitude ≡ o → Pushes n b (magnitude_pushed n.negative o (b - 48))
  digit d None e = by_test (Pushes n b) (n.negative && eqb (b - 48) 0) (λ _. refused) (digit_first d e)
  digit d (Some m) e =
      by_test (Pushes n b) (eqb m 0 || ltb 9999999999 m) (λ _. refused)
      (λ z.
      let h = neither (eqb m 0) (ltb 9999999999 m) z in
      digit_more d m e (pos_of_ne-zero (eqb-false m 0 h.0)) (ltb-false 9999999999 m h.1))

  no_digit : (o : Option ℕ) → is_some o ≡ false → o ≡ None
  no_digit None e = refl
  no_digit (Some m) e = cc

  pushes : Pushes n b (pushed n b)
  unfolding pushed digit_pushed minus_pushed
  pushes =
      by_test (Pushes n b) (is_digit b) (λ d. digit d n.magnitude refl)
      (λ _. by_test (Pushes n b) (eqb b 45)
      (λ e. by_test (Pushes n b) (n.negative || is_some n.magnitude) (λ _. refused)
      (λ t. let h = neither n.negative (is_some n.magnitude) t in minus (eqb-true b 45 e) (no_digit n.magnitude h.1) h.0))
      (λ _. refused))

  -- of a byte that is not refused
  pub pushes_grown : {m : Number} → pushed n b ≡ Some m → Pushes n b (Some m)
  pushes_grown e = subst (Pushes n b) e pushes
