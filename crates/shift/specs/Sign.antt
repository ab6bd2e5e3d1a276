-- Which way a fraction was rounded (document 02, request 7): "for each component, −1, 0 or 1: the sign of the rounded shift minus the exact
-- fraction".
use Rattle.std.specs.Prelude.{ℕ, zero, suc, ℤ, pos, negsuc, neg_ℤ, ◌-ℤ◌, ◌*ℤ◌}
use Rattle.shift.specs.declared.Sign.{Sign}

abbrev pub sign_of : ℤ → Sign
sign_of (negsuc n) = Sign.Negative
sign_of (pos zero) = Sign.Zero
sign_of (pos (suc n)) = Sign.Positive

abbrev pub sign_number : Sign → ℤ
sign_number Sign.Negative = neg_ℤ (pos 1)
sign_number Sign.Zero = pos 0
sign_number Sign.Positive = pos 1

-- the sign of r − z / d, which is that of r·d − z
unfoldable pub rounding_sign : (d : ℕ) (z r : ℤ) → Sign
rounding_sign d z r = sign_of (r *ℤ pos d -ℤ z)
