-- One number more of a line.
use Prim.Native.Nat.{ℕ, zero, suc, ◌+◌, ◌<◌}
use mathlib.Core.Path.{◌≡◌, refl, sym, ap, ◌∙◌}
use mathlib.Core.List.{List, [], ◌∷◌, ◌++◌, append_assoc}
use native.Mathlib.Omega.{arith}
use native.Mathlib.Nat.{le_of_suc-le-suc}
use native.Mathlib.Numerals.{add-one}
use lib.ListN.{length, get_or, take}
use lib.IntN.{ℤ, pos}
use Rattle.laws.specs.Bytes.{bytes}
use Rattle.decimal.specs.Spelling.{spell}
use Rattle.lines.specs.Text.{listed, separator}

listed_more : (xs : List ℤ) (k : ℕ) → k < length xs → listed (take (suc k) xs) ≡ listed (take k xs) ++ (separator k ++ spell (get_or xs k (pos 0)))
unfolding listed
listed_more [] k h = absurd (omega arith)
listed_more (x ∷ xs) zero h = refl
listed_more (x ∷ []) (suc k) h = absurd (omega arith)
listed_more (x ∷ y ∷ xs) (suc zero) h = append_assoc (spell x) (bytes ",") (spell y)
listed_more (x ∷ y ∷ xs) (suc (suc k)) h =
    ap (λ t. spell x ++ bytes "," ++ t) (listed_more (y ∷ xs) (suc k) (le_of_suc-le-suc h))
    ∙ sym (append_assoc (spell x ++ bytes ",") (listed (y ∷ take k xs)) (bytes "," ++ spell (get_or xs k (pos 0))))

pub listed_next : (xs : List ℤ) (k : ℕ) → k < length xs → listed (take (k + 1) xs) ≡ listed (take k xs) ++ (separator k ++ spell (get_or xs k (pos 0)))
listed_next xs k h = rw add-one (listed_more xs k h)

-- a number that is not the first stands behind a comma
pub separator_behind : (k : ℕ) → (k ≡ 0 → ⊥) → separator k ≡ bytes ","
separator_behind zero h = absurd (h refl)
separator_behind (suc k) h = refl
