-- The text of a line.
use Rattle.std.specs.Prelude.{ℕ, zero, suc, List, [], ◌∷◌, ◌++◌, ℤ}
use Rattle.laws.specs.Bytes.{bytes}
use Rattle.decimal.specs.Spelling.{spell}

abbrev pub newline : ℕ
newline = 10

-- `NUMBER,NUMBER..`
unfoldable pub listed : List ℤ → List ℕ
listed [] = []
listed (x ∷ []) = spell x
listed (x ∷ y ∷ xs) = spell x ++ bytes "," ++ listed (y ∷ xs)

-- what stands before number k
abbrev pub separator : ℕ → List ℕ
separator zero = []
separator (suc k) = bytes ","

-- `key=NUMBER,NUMBER..`, of any number of numbers
unfoldable pub line : (key : List ℕ) → List ℤ → List ℕ
line key xs = key ++ listed xs ++ bytes "\n"
