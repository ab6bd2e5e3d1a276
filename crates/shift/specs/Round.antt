-- A fraction rounded to a whole number: "to the nearest" (document 01, "The shift at a point"), and "a tie goes to the even number"
-- (document 02, request 3).
use Rattle.std.specs.Prelude.{ℕ, suc, ◌+◌, ◌*◌, ◌/◌, ◌%◌, ◌≤◌, ◌≡◌, cond, ltb, ℤ, pos, negsuc, neg_ℤ, nat_abs, ◌-ℤ◌, ◌*ℤ◌}

-- ---- what it means

-- twice a whole number
pub record Even (r : ℤ) : Type 0 where
  pub half : ℤ
  pub twice : r ≡ pos 2 *ℤ half

-- `r` is a whole number nearest to z / d, and at a tie, where two are equally near, it is the even one
pub record NearestEven (d : ℕ) (z r : ℤ) : Type 0 where
  pub near : 2 * nat_abs (pos d *ℤ r -ℤ z) ≤ d
  pub tie : 2 * nat_abs (pos d *ℤ r -ℤ z) ≡ d → Even r

-- ---- how it is computed: by quotient and remainder, since twice the numerator need not fit

-- twice the remainder, and one more where the quotient is odd
abbrev pub size_twice : (d n : ℕ) → ℕ
size_twice d n = 2 * (n % d) + (n / d) % 2

-- of a size: the quotient, raised by one where more than half of the divisor remains, and at a tie if the quotient is odd
unfoldable pub round_size : (d n : ℕ) → ℕ
round_size d n = cond (ltb d (size_twice d n)) (suc (n / d)) (n / d)

-- the nearest whole number to z / d: the size is rounded, and the sign stays
unfoldable pub nearest : (d : ℕ) → ℤ → ℤ
nearest d (pos n) = pos (round_size d n)
nearest d (negsuc n) = neg_ℤ (pos (round_size d (suc n)))
