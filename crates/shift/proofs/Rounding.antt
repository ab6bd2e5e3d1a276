-- Laws of rounding: what the theorems use (a nearest whole number, raised or not), what the rounding means, and what the code has at each
-- of its answers.
use Prim.Native.Nat.{ℕ, suc, ◌+◌, ◌*◌, ◌-◌, ◌/◌, ◌%◌, ◌≤◌, ◌<◌}
use native.Mathlib.Nat.{mod-lt, div-add-mod, mul-le-mul_left, le_of_mul-le-mul_left}
use native.Mathlib.Omega.{arith}
use mathlib.Core.Path.{◌≡◌, refl, ap}
use mathlib.Core.Logic.{⊎_elim}
use borrow.Author.Tests.{lt-ltb, le-ltb}
use lib.IntN.{ℤ, pos, negsuc, neg_ℤ, nat_abs, ◌+ℤ◌, ◌-ℤ◌, ◌*ℤ◌}
use lib.Signed.{◌≤ℤ◌, ◌<ℤ◌}
use Rattle.laws.specs.Logic.{lt_or_ge}
use Rattle.laws.specs.Parts.{pos_part, neg_part, ints, Within, abs_diff}
use Rattle.laws.specs.Bounds.{abs_neg}
use Rattle.laws.specs.Expr.{lit, linear, ◌⊕◌, ◌⊖◌, ◌⊛◌, ⊝}
use Rattle.bilinear.specs.Surface.{Nearest, nearest-up, nearest-down, nearest-between}
use Rattle.shift.specs.Round.{Even, NearestEven, size_twice, round_size, nearest}

-- ---- the two cases of a size

pub size-up : (d n : ℕ) → d < size_twice d n → round_size d n ≡ suc (n / d)
unfolding round_size
size-up d n l = rw (lt-ltb d (size_twice d n) l)

pub size_kept : (d n : ℕ) → size_twice d n ≤ d → round_size d n ≡ n / d
unfolding round_size
size_kept d n l = rw (le-ltb d (size_twice d n) l)

-- ---- for the theorems: any rounding to nearest has these, whatever it does with a tie

size-nearest : (d n : ℕ) → 0 < d → Nearest d n (round_size d n)
size-nearest d n p =
    ⊎_elim
    (λ l. rw (size-up d n l) (nearest-up n d p (omega (arith, l))))
    (λ l. rw (size_kept d n l) (nearest-down n d p (omega (arith, l))))
    (lt_or_ge d (size_twice d n))

-- raised by `K`, or by `K * d` before the division, it is a nearest whole number still
pub nearest-raised : (K d M R : ℕ) (z : ℤ) → 0 < d → pos M ≡ z +ℤ pos (K * d) → pos R ≡ nearest d z +ℤ pos K → Nearest d M R
unfolding nearest
nearest-raised K d M R (pos n) p e f =
    let q = size-nearest d n p in
    let g : R ≡ round_size d n + K = omega (arith, ints, linear (lit (pos (round_size d n)) ⊕ lit (pos K))) in
    omega (arith, ints, linear (lit (pos n) ⊕ lit (pos (K * d))), q, ap (λ t. d * t) g)
nearest-raised K d M R (negsuc n) p e f =
    let q = size-nearest d (suc n) p in
    let r = round_size d (suc n) in
    let g : R + r ≡ K = omega (arith, ints, linear (⊝ (lit (pos r)) ⊕ lit (pos K))) in
    omega (arith, ints, linear (lit (negsuc n) ⊕ lit (pos (K * d))), q, ap (λ t. d * t) g)

-- a mean of numbers within `K` is within `K`
pub size_within : (K d n : ℕ) → 0 < d → n ≤ d * K → round_size d n ≤ K
size_within K d n p h = (nearest-between p (size-nearest d n p) 0 K (record { low = omega arith; high = h })).high

pub nearest_within : (K d : ℕ) (z : ℤ) → 0 < d → Within (d * K) z → Within K (nearest d z)
unfolding nearest
nearest_within K d (pos n) p h = record { size = size_within K d n p h.size }
nearest_within K d (negsuc n) p h = record { size = omega (arith, abs_neg (pos (round_size d (suc n))), size_within K d (suc n) p h.size) }

-- ---- what the rounding is, said without quotient and remainder

-- of sizes: at a tie the result is even
size_tie : (d n : ℕ) → 0 < d → let r = round_size d n in 2 * (d * r - n) + 2 * (n - d * r) ≡ d → r % 2 ≡ 0
size_tie d n p t =
    ⊎_elim
    (λ l. let e = size-up d n l in omega (arith, e, l, t, ap (λ r. d * r) e, div-add-mod n d, mod-lt n p))
    (λ l. let e = size_kept d n l in omega (arith, e, l, t, ap (λ r. d * r) e, div-add-mod n d))
    (lt_or_ge d (size_twice d n))

even_size : (r : ℕ) → r % 2 ≡ 0 → Even (pos r)
even_size r e = record { half = pos (r / 2); twice = omega (arith, ints, linear (lit (pos 2) ⊛ lit (pos (r / 2)))) }

even_neg : {r : ℤ} → Even r → Even (neg_ℤ r)
even_neg {r} e = record { half = neg_ℤ e.half; twice = omega (arith, ints, e.twice, linear (⊝ (lit r)), linear (lit (pos 2) ⊛ lit e.half), linear (lit (pos 2) ⊛ ⊝ (lit e.half))) }

pub nearest_even : (d : ℕ) (z : ℤ) → 0 < d → NearestEven d z (nearest d z)
unfolding nearest
nearest_even d (pos n) p =
    let r = round_size d n in
    let k = size-nearest d n p in
    let e = linear (lit (pos d) ⊛ lit (pos r) ⊖ lit (pos n)) in
    let a = abs_diff (pos d *ℤ pos r -ℤ pos n) in
    record { near = omega (arith, e, a, k); tie = λ t. even_size r (size_tie d n p (omega (arith, e, a, t))) }
nearest_even d (negsuc n) p =
    let r = round_size d (suc n) in
    let k = size-nearest d (suc n) p in
    let e = linear (lit (pos d) ⊛ ⊝ (lit (pos r)) ⊖ lit (negsuc n)) in
    let a = abs_diff (pos d *ℤ neg_ℤ (pos r) -ℤ negsuc n) in
    record { near = omega (arith, e, a, k); tie = λ t. even_neg (even_size r (size_tie d (suc n) p (omega (arith, e, a, t)))) }

-- of two neighbours one is odd
not_both_even : {r r' : ℤ} → Even r → Even r' → pos_part r' + neg_part r ≡ suc (pos_part r + neg_part r') → ⊥
not_both_even {r} {r'} e e' s = omega (arith, ints, e.twice, e'.twice, linear (lit (pos 2) ⊛ lit e.half), linear (lit (pos 2) ⊛ lit e'.half))

-- of two such numbers the greater would be the next one, both at a tie, and so both even
none-greater : {d : ℕ} {z r r' : ℤ} → 0 < d → NearestEven d z r → NearestEven d z r' → pos_part r + neg_part r' < pos_part r' + neg_part r → ⊥
none-greater {d} {z} {r} {r'} p h h' l =
    let e = linear (lit (pos d) ⊛ lit r ⊖ lit z) in
    let e' = linear (lit (pos d) ⊛ lit r' ⊖ lit z) in
    let a = abs_diff (pos d *ℤ r -ℤ z) in
    let a' = abs_diff (pos d *ℤ r' -ℤ z) in
    let m = mul-le-mul_left d l in
    let n : pos_part r' + neg_part r ≤ pos_part r + neg_part r' + 1 = le_of_mul-le-mul_left {k = d} (omega (arith, e, e', a, a', h.near, h'.near)) p in
    let t = h.tie (omega (arith, e, e', a, a', m, h.near, h'.near)) in
    let t' = h'.tie (omega (arith, e, e', a, a', m, h.near, h'.near)) in
    not_both_even t t' (omega (arith, l, n))

-- the meaning fixes the number
pub one_nearest_even : {d : ℕ} {z r r' : ℤ} → 0 < d → NearestEven d z r → NearestEven d z r' → r ≡ r'
one_nearest_even {d} {z} {r} {r'} p h h' =
    ⊎_elim
    (λ l. absurd (none-greater p h h' l))
    (λ g. ⊎_elim (λ l. absurd (none-greater p h' h l)) (λ g'. omega (arith, ints, g, g')) (lt_or_ge (pos_part r' + neg_part r) (pos_part r + neg_part r')))
    (lt_or_ge (pos_part r + neg_part r') (pos_part r' + neg_part r))

-- ---- for the code: the sign stays

pub nearest-below : (d : ℕ) {z : ℤ} → z <ℤ pos 0 → pos 0 -ℤ pos (round_size d (nat_abs z)) ≡ nearest d z
unfolding nearest
nearest-below d {z = pos n} h = absurd (omega (arith, ints, h))
nearest-below d {z = negsuc n} h = omega (arith, ints, linear (lit (pos 0) ⊖ lit (pos (round_size d (suc n)))), linear (⊝ (lit (pos (round_size d (suc n))))))

pub nearest_above : (d : ℕ) {z : ℤ} → pos 0 ≤ℤ z → pos (round_size d (nat_abs z)) ≡ nearest d z
unfolding nearest
nearest_above d {z = pos n} h = refl
nearest_above d {z = negsuc n} h = absurd h.le
