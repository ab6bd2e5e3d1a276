-- A number as decimal text (document 01, "The sheet"): how it is spelled, and which texts are numbers.
use Rattle.std.specs.Prelude.{ℕ, zero, suc, ◌+◌, ◌-◌, ◌*◌, ◌^◌, ◌<◌, Bool, true, false, not, ◌&&◌, ◌||◌, cond, List, [], ◌∷◌, map, length, get_or, leb, eqb, ℤ, pos, negsuc, nat_abs, Option, Some, None}
use Rattle.std.specs.Int.Digits.{digits_of}

-- ---- spelling

-- "A number is written from its leading digit"
unfoldable pub digits : ℕ → List ℕ
digits zero = 48 ∷ []
digits (suc n) = map (λ d. 48 + d) (digits_of 10 (suc n))

-- a minus, or nothing
abbrev pub sign : (negative : Bool) → List ℕ
sign true = 45 ∷ []
sign false = []

unfoldable pub spell : ℤ → List ℕ
spell (pos n) = digits n
spell (negsuc n) = 45 ∷ digits (suc n)

-- the number has at most 11 digits
abbrev pub Short : ℤ → Type 0
Short x = nat_abs x < 10 ^ 11

-- ---- which texts are numbers: "an optional minus and 1 to 11 digits; no plus, no leading zero, no `-0`"

abbrev pub is_digit : ℕ → Bool
is_digit b = leb 48 b && leb b 57

abbrev pub all_digits : List ℕ → Bool
all_digits [] = true
all_digits (b ∷ t) = is_digit b && all_digits t

-- what digits say, behind those that say a
abbrev pub value_from : (a : ℕ) → List ℕ → ℕ
value_from a [] = a
value_from a (b ∷ t) = value_from (a * 10 + (b - 48)) t

unfoldable pub is_magnitude : List ℕ → Bool
is_magnitude t = all_digits t && (leb 1 (length t) && leb (length t) 11) && (eqb (length t) 1 || not (eqb (get_or t 0 0) 48))

unfoldable pub magnitude_in : List ℕ → Option ℕ
magnitude_in t = cond (is_magnitude t) (Some (value_from 0 t)) None

-- behind a minus there is no 0
abbrev pub behind_minus : Option ℕ → Option ℤ
behind_minus None = None
behind_minus (Some zero) = None
behind_minus (Some (suc n)) = Some (negsuc n)

abbrev pub plain : Option ℕ → Option ℤ
plain None = None
plain (Some n) = Some (pos n)

-- the number that a text is
unfoldable pub number_in : List ℕ → Option ℤ
number_in [] = None
number_in (b ∷ t) = cond (eqb b 45) (behind_minus (magnitude_in t)) (plain (magnitude_in (b ∷ t)))
