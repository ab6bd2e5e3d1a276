-- A number's spelling, by its sign and its size.
use Prim.Native.Nat.{ℕ}
use mathlib.Core.Path.{◌≡◌, refl, ap, ◌∙◌}
use mathlib.Core.Bool.{true, false}
use mathlib.Core.List.{◌∷◌}
use native.Mathlib.Omega.{arith}
use lib.IntN.{ℤ, pos, negsuc, nat_abs}
use lib.Signed.{le_z, ◌<ℤ◌, ◌≤ℤ◌}
use mir.Syntax.{w64}
use mir.Val.{SFits}
use mir.Facts.{to_z-of_z}
use Rattle.laws.specs.Parts.{ints}
use Rattle.laws.specs.Expr.{machine}
use Rattle.laws.specs.Logic.{le_z_holds, le_z_fails}
use Rattle.decimal.specs.Spelling.{spell, digits}

minus-digits : {x : ℤ} → x <ℤ pos 0 → spell x ≡ 45 ∷ digits (nat_abs x)
unfolding spell
minus-digits {x = pos n} h = absurd (omega (arith, ints))
minus-digits {x = negsuc n} h = refl

plain-digits : {x : ℤ} → pos 0 ≤ℤ x → spell x ≡ digits (nat_abs x)
unfolding spell
plain-digits {x = pos n} h = refl
plain-digits {x = negsuc n} h = absurd h.le

-- m is what the code has for the size
module _ {x : ℤ} (f : SFits w64 x) {m : ℕ} (e : m ≡ nat_abs (machine x)) where
  size : m ≡ nat_abs x
  size = e ∙ ap nat_abs (to_z-of_z f)

  pub spell-plain : le_z (pos 0) (machine x) ≡ true → spell x ≡ digits m
  spell-plain t = rw size (plain-digits (le_z_holds (rw (to_z-of_z f) at t)))

  pub spell-minus : le_z (pos 0) (machine x) ≡ false → spell x ≡ 45 ∷ digits m
  spell-minus t = rw size (minus-digits (le_z_fails (rw (to_z-of_z f) at t)))
