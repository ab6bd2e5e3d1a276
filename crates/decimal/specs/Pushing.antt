-- A number read byte by byte, and refused at the first byte after which no number can follow.
use Rattle.std.specs.Prelude.{ℕ, ◌+◌, ◌*◌, ◌-◌, Bool, true, false, ◌&&◌, ◌||◌, cond, List, [], ◌∷◌, ◌++◌, ltb, eqb, ℤ, pos, neg_ℤ, Option, Some, None, is_some, option_and_then, unwrap_or}
use Rattle.decimal.specs.Spelling.{is_digit, digits, sign}
use Rattle.decimal.specs.declared.Number.{Number}

abbrev pub number : (negative : Bool) (magnitude : Option ℕ) → Number
number n m = record { negative = n; magnitude = m }

-- no byte was read yet
abbrev pub none : Number
none = number false None

-- a minus stands before all digits, once
unfoldable pub minus_pushed : Number → Option Number
minus_pushed n = cond (n.negative || is_some n.magnitude) None (Some (number true None))

-- after a leading 0 and after 11 digits no digit follows, and no 0 after a minus
abbrev pub magnitude_pushed : (negative : Bool) (magnitude : Option ℕ) (digit : ℕ) → Option Number
magnitude_pushed n None d = cond (n && eqb d 0) None (Some (number n (Some d)))
magnitude_pushed n (Some m) d = cond (eqb m 0 || ltb 9999999999 m) None (Some (number n (Some (m * 10 + d))))

unfoldable pub digit_pushed : Number → (digit : ℕ) → Option Number
digit_pushed n d = magnitude_pushed n.negative n.magnitude d

unfoldable pub pushed : Number → (byte : ℕ) → Option Number
pushed n b = cond (is_digit b) (digit_pushed n (b - 48)) (cond (eqb b 45) (minus_pushed n) None)

abbrev pub signed : (negative : Bool) (magnitude : ℕ) → ℤ
signed false m = pos m
signed true m = neg_ℤ (pos m)

abbrev pub signed_value : (negative : Bool) → Option ℕ → Option ℤ
signed_value n None = None
signed_value n (Some m) = cond (ltb 99999999999 m) None (Some (signed n m))

-- the integer that was read, once there is a digit; no text has a magnitude beyond 11 digits
unfoldable pub value_of : Number → Option ℤ
value_of n = signed_value n.negative n.magnitude

-- the same, or 0 where there is none
abbrev pub value_or0 : Number → ℤ
value_or0 n = unwrap_or (value_of n) (pos 0)

abbrev pub digits_of : Option ℕ → List ℕ
digits_of None = []
digits_of (Some m) = digits m

-- the bytes that were read
abbrev pub part : Number → List ℕ
part n = sign n.negative ++ digits_of n.magnitude

-- the number that comes of all of a text's bytes, from `n` on
unfoldable pub pushed_all : Number → List ℕ → Option ℤ
pushed_all n [] = value_of n
pushed_all n (b ∷ w) = option_and_then (λ m. pushed_all m w) (pushed n b)
