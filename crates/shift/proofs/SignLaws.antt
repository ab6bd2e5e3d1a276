-- Laws of the sign of a rounding: it says on which side of the rounded number the exact fraction lies, and 0 says that the fraction is whole.
use Prim.Native.Nat.{ℕ, zero, suc, ◌+◌, ◌*◌, ◌≤◌, ◌<◌}
use native.Mathlib.Omega.{arith}
use mathlib.Core.Path.{◌≡◌, refl, sym, ap, subst, ◌∙◌}
use lib.IntN.{ℤ, pos, negsuc, nat_abs, ◌-ℤ◌, ◌*ℤ◌}
use lib.Signed.{◌≤ℤ◌, ◌<ℤ◌}
use Rattle.laws.specs.Parts.{pos_part, neg_part, Diff, ints, Within, abs_diff}
use Rattle.laws.specs.Expr.{lit, linear, ◌⊖◌, ◌⊛◌}
use Rattle.shift.specs.Round.{NearestEven, nearest}
use Rattle.shift.specs.Sign.{sign_of, sign_number, rounding_sign}
use Rattle.shift.specs.declared.Sign.{Sign}
use Rattle.shift.proofs.Rounding.{nearest_even, one_nearest_even}

-- ---- the sign of a number

pub sign_below : {z : ℤ} → z <ℤ pos 0 → Sign.Negative ≡ sign_of z
sign_below {z = pos n} h = absurd (omega (arith, ints, h))
sign_below {z = negsuc n} h = refl

pub sign_above : {z : ℤ} → pos 0 <ℤ z → Sign.Positive ≡ sign_of z
sign_above {z = pos zero} h = absurd (omega (arith, ints, h))
sign_above {z = pos (suc n)} h = refl
sign_above {z = negsuc n} h = absurd (omega (arith, ints, h))

pub sign_zero : {z : ℤ} → pos 0 ≤ℤ z → z ≤ℤ pos 0 → Sign.Zero ≡ sign_of z
sign_zero {z = pos zero} h k = refl
sign_zero {z = pos (suc n)} h k = absurd (omega (arith, ints, k))
sign_zero {z = negsuc n} h k = absurd (omega (arith, ints, h))

-- a sign is the sign of its number
pub sign_told : (s : Sign) → sign_of (sign_number s) ≡ s
sign_told Sign.Negative = refl
sign_told Sign.Zero = refl
sign_told Sign.Positive = refl

-- ---- the sign of a rounding

-- where the exact fraction z / d lies, seen from the whole number r: above it where the sign is −1, on it, or below it
abbrev pub Side : (d : ℕ) (z r : ℤ) → Sign → Type 0
Side d z r Sign.Negative = (r *ℤ pos d) <ℤ z
Side d z r Sign.Zero = z ≡ r *ℤ pos d
Side d z r Sign.Positive = z <ℤ (r *ℤ pos d)

module _ (d : ℕ) (z r : ℤ) where
  abbrev over : ℤ
  over = r *ℤ pos d -ℤ z

  parts : Diff over (pos_part (r *ℤ pos d) + neg_part z) (neg_part (r *ℤ pos d) + pos_part z)
  parts = linear (lit (r *ℤ pos d) ⊖ lit z)

  -- the sign tells the side
  pub sign_side : Side d z r (rounding_sign d z r)
  unfolding rounding_sign
  sign_side = go over refl
    where
      go : (v : ℤ) → over ≡ v → Side d z r (sign_of v)
      go (negsuc n) e = omega (arith, ints, e, parts)
      go (pos zero) e = omega (arith, ints, e, parts)
      go (pos (suc n)) e = omega (arith, ints, e, parts)

  -- and the side has no other sign
  pub side_sign : (s : Sign) → Side d z r s → rounding_sign d z r ≡ s
  unfolding rounding_sign
  side_sign Sign.Negative h = sym (sign_below {z = over} (omega (arith, ints, h, parts)))
  side_sign Sign.Zero h = sym (sign_zero {z = over} (omega (arith, ints, h, parts)) (omega (arith, ints, h, parts)))
  side_sign Sign.Positive h = sym (sign_above {z = over} (omega (arith, ints, h, parts)))

-- z is a whole number of times d
pub record Divides (d : ℕ) (z : ℤ) : Type 0 where
  pub quotient : ℤ
  pub product : z ≡ quotient *ℤ pos d

-- what a sign tells: the side, and by 0 exactly that the denominator divides the numerator
pub record Tells (d : ℕ) (z r : ℤ) (s : Sign) : Type 0 where
  pub side : Side d z r s
  pub whole : s ≡ Sign.Zero → Divides d z
  pub exact : Divides d z → s ≡ Sign.Zero

pub sign_tells : (d : ℕ) (z : ℤ) → 0 < d → Tells d z (nearest d z) (rounding_sign d z (nearest d z))
sign_tells d z p =
    record {
      side = sign_side d z r;
      whole = λ e. record { quotient = r; product = subst (Side d z r) e (sign_side d z r) };
      exact = λ h. side_sign d z r Sign.Zero (h.product ∙ ap (λ q. q *ℤ pos d) (one_nearest_even p (itself h) (nearest_even d z p)));
    }
  where
    r : ℤ
    r = nearest d z

    -- a whole quotient is the nearest number, and no tie
    itself : (h : Divides d z) → NearestEven d z h.quotient
    itself h =
        let gap : nat_abs (pos d *ℤ h.quotient -ℤ z) ≡ 0 =
        omega (arith, ints, h.product, abs_diff (pos d *ℤ h.quotient -ℤ z), linear (lit (pos d) ⊛ lit h.quotient ⊖ lit z), linear (lit h.quotient ⊛ lit (pos d))) in
        record { near = omega (arith, gap); tie = λ t. absurd (omega (arith, gap, t, p)) }

-- ---- for the code: r·d is not much larger than z, and differs little from it

module _ {K d : ℕ} {z r : ℤ} (p : 0 < d) (h : Within K z) (e : r ≡ nearest d z) where
  near : 2 * nat_abs (pos d *ℤ r -ℤ z) ≤ d
  near = (subst (NearestEven d z) (sym e) (nearest_even d z p)).near

  pub product_within : Within (K + d) (r *ℤ pos d)
  product_within =
      record { size = omega (arith, near, h.size, abs_diff z, abs_diff (r *ℤ pos d), abs_diff (pos d *ℤ r -ℤ z), linear (lit r ⊛ lit (pos d)), linear (lit (pos d) ⊛ lit r ⊖ lit z)) }

  pub over_within : Within d (r *ℤ pos d -ℤ z)
  over_within =
      record { size = omega (arith, near, abs_diff (r *ℤ pos d -ℤ z), abs_diff (pos d *ℤ r -ℤ z), linear (lit r ⊛ lit (pos d) ⊖ lit z), linear (lit (pos d) ⊛ lit r ⊖ lit z)) }
