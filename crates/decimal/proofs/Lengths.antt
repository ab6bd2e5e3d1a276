-- How long the spelling of a number is.
use Prim.Native.Nat.{ℕ, suc, ◌+◌, ◌^◌, ◌≤◌, ◌<◌}
use native.Mathlib.Omega.{arith}
use lib.ListN.{length}
use lib.IntN.{ℤ, pos, negsuc, nat_abs}
use mir.Syntax.{w64}
use mir.Val.{SFits}
use Rattle.laws.specs.Bounds.{within_fits}
use Rattle.decimal.specs.Spelling.{spell}
use Rattle.decimal.proofs.Digits.{length_digits}

-- at most k digits, and a minus
pub length-spell : (x : ℤ) (k : ℕ) → 0 < k → nat_abs x < 10 ^ k → length (spell x) ≤ k + 1
unfolding spell
length-spell (pos n) k p h = omega (arith, length_digits n k h p)
length-spell (negsuc n) k p h = omega (arith, length_digits (suc n) k h p)

-- an `i64`
pub length_i64 : {x : ℤ} → SFits w64 x → length (spell x) ≤ 20
length_i64 {x} f = length-spell x 19 (omega arith) (omega (arith, within_fits f))
