-- How far a number is from zero, through sums, differences and products; and which numbers an `i64` holds.
use Rattle.std.specs.Prelude.{◌≡◌, refl, ℕ, zero, suc, ◌+◌, ◌*◌, ◌≤◌, ◌^◌, T, ltb, leb, ℤ, pos, negsuc, neg_ℤ, nat_abs, ◌+ℤ◌, ◌-ℤ◌, ◌*ℤ◌}
use Rattle.std.proofs.Common.{le_refl, le_trans, mul-le-mul, arith, ltb→lt, leb→le, SFits}
use Rattle.std.specs.Int.Signed.{mag}
use Rattle.std.specs.Int.{w64}
use Rattle.laws.specs.Parts.{diff_at, diff_add, Within, within→, within←}

pub abs_neg : (z : ℤ) → nat_abs (neg_ℤ z) ≡ nat_abs z
abs_neg (pos zero) = refl
abs_neg (pos (suc n)) = refl
abs_neg (negsuc n) = refl

pub own_size : (z : ℤ) → Within (nat_abs z) z
own_size z = record { size = le_refl (nat_abs z) }

pub abs-add : (x y : ℤ) → nat_abs (x +ℤ y) ≤ nat_abs x + nat_abs y
abs-add x y = (within← {K = nat_abs x + nat_abs y} {z = x +ℤ y} (omega (arith, diff_add (diff_at x) (diff_at y), within→ (own_size x), within→ (own_size y)))).size

pub abs-sub : (x y : ℤ) → nat_abs (x -ℤ y) ≤ nat_abs x + nat_abs y
abs-sub x y = omega (arith, abs-add x (neg_ℤ y), abs_neg y)

pub abs-mul : (x y : ℤ) → nat_abs (x *ℤ y) ≡ nat_abs x * nat_abs y
abs-mul (pos a) (pos b) = refl
abs-mul (pos a) (negsuc b) = abs_neg (pos (a * suc b))
abs-mul (negsuc a) (pos b) = abs_neg (pos (suc a * b))
abs-mul (negsuc a) (negsuc b) = refl

mag_abs : (z : ℤ) → mag z ≤ nat_abs z
mag_abs (pos n) = omega arith
mag_abs (negsuc n) = omega arith

abs_mag : (z : ℤ) → nat_abs z ≤ suc (mag z)
abs_mag (pos n) = omega arith
abs_mag (negsuc n) = omega arith

pub within_add : {K L : ℕ} {x y : ℤ} → Within K x → Within L y → Within (K + L) (x +ℤ y)
within_add {x = x} {y = y} h k = record { size = omega (arith, abs-add x y) }

pub within_sub : {K L : ℕ} {x y : ℤ} → Within K x → Within L y → Within (K + L) (x -ℤ y)
within_sub {x = x} {y = y} h k = record { size = omega (arith, abs-sub x y) }

pub within_mul : {K L : ℕ} {x y : ℤ} → Within K x → Within L y → Within (K * L) (x *ℤ y)
within_mul {x = x} {y = y} h k = record { size = le_trans (omega (arith, abs-mul x y)) (mul-le-mul h.size k.size) }

pub within_neg : {K : ℕ} {x : ℤ} → Within K x → Within K (neg_ℤ x)
within_neg {x = x} h = record { size = omega (arith, abs_neg x) }

pub within_fits : {z : ℤ} → SFits w64 z → Within (2 ^ 63) z
within_fits {z} h = record { size = omega (arith, abs_mag z, h.sfits) }

-- a bound that is larger
pub widen : {K L : ℕ} {z : ℤ} → Within K z → T (leb K L) → Within L z
widen {K} {L} {z} h t = record { size = le_trans h.size (leb→le K L t) }

-- a bound below 2 ^ 63 is a fit
pub fits : {K : ℕ} {z : ℤ} → Within K z → T (ltb K (2 ^ 63)) → SFits w64 z
fits {K} {z} h t = record { sfits = omega (arith, mag_abs z, ltb→lt K (2 ^ 63) t) }
