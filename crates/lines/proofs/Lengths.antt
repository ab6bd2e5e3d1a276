-- How long a line is, number by number.
use Prim.Native.Nat.{ℕ, ◌+◌, ◌*◌, ◌≤◌}
use mathlib.Core.Path.{◌≡◌, refl}
use mathlib.Core.List.{List, [], ◌∷◌, map}
use native.Mathlib.Omega.{arith}
use lib.ListN.{length, length-append}
use lib.IntN.{ℤ}
use mir.Syntax.{w64}
use mir.Val.{SFits}
use mir.Facts.{to_z-of_z}
use Rattle.laws.specs.Expr.{machine}
use Rattle.decimal.specs.Spelling.{spell}
use Rattle.decimal.proofs.Lengths.{length_i64}
use Rattle.lines.specs.Text.{listed, line}

pub length-line : (key : List ℕ) (xs : List ℤ) → length (line key xs) ≡ length key + length (listed xs) + 1
unfolding line
length-line key xs = simp length-append (omega arith)

pub length-one : (x : ℤ) → length (listed (x ∷ [])) ≡ length (spell x)
unfolding listed
length-one x = refl

pub length_more : (x y : ℤ) (xs : List ℤ) → length (listed (x ∷ y ∷ xs)) ≡ length (spell x) + 1 + length (listed (y ∷ xs))
unfolding listed
length_more x y xs = simp length-append (omega arith)

-- ---- numbers that an `i64` holds

abbrev pub Fit : List ℤ → Type 0
Fit [] = Unit
Fit (x ∷ xs) = SFits w64 x × Fit xs

-- as the machine has them
pub all_read : (xs : List ℤ) → Fit xs → map machine xs ≡ xs
all_read [] f = refl
all_read (x ∷ xs) f = λ i. to_z-of_z f.0 i ∷ all_read xs f.1 i

-- each takes 20 bytes and the one behind it at the most
pub listed_short : (x : ℤ) (xs : List ℤ) → Fit (x ∷ xs) → length (listed (x ∷ xs)) + 1 ≤ 21 * length (x ∷ xs)
listed_short x [] f = omega (arith, length-one x, length_i64 f.0)
listed_short x (y ∷ xs) f = omega (arith, length_more x y xs, length_i64 f.0, listed_short y xs f.1)
