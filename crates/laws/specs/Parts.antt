-- An integer as a difference of two naturals, z = pos_part z - neg_part z, so that `omega`, which reads naturals alone, proves what is linear
-- over ℤ. `ints` are the rules that carry an order or an equation of integers, or a bound on one, to their parts, in a hypothesis and in a goal.
-- So a linear goal over ℤ is `omega (arith, ints, linear e₁, .., linear eₙ)`, with one `linear` (of `Expr`) for each compound expression in the goal
-- or in a fact that is used.
use Rattle.std.specs.Prelude.{◌≡◌, refl, ℕ, zero, suc, ◌+◌, ◌*◌, ◌-◌, ◌≤◌, ◌<◌, ◌^◌, min, Bool, true, false, not, cond, T, ltb, ℤ, pos, negsuc, neg_ℤ, nat_abs, ◌+ℤ◌, ◌*ℤ◌, ◌≤ℤ◌, ◌<ℤ◌}
use Rattle.std.proofs.Common.{sym, ap, ◌∙◌, arith, ltb→lt, nltb→le, leb→le, lt→ltb, le→leb}
use Rattle.std.proofs.Math.IntN.{sub_ℕ}
use Rattle.std.specs.Int.Signed.{mag, le_z, lt_z}
use Rattle.std.specs.Int.{Width}
use mir.Val.{SFits, hbits}

abbrev pub pos_part : ℤ → ℕ
pos_part (pos n) = n
pos_part (negsuc n) = 0

abbrev pub neg_part : ℤ → ℕ
neg_part (pos n) = 0
neg_part (negsuc n) = suc n

-- one of the parts is 0: a fact for `omega` where a part stands alone, under `/` or `%`
pub parts_disjoint : (z : ℤ) → min (pos_part z) (neg_part z) ≡ 0
parts_disjoint (pos n) = omega arith
parts_disjoint (negsuc n) = omega arith

-- z is p - n
pub record Diff (z : ℤ) (p n : ℕ) : Type 0 where
  pub diff : pos_part z + n ≡ neg_part z + p

-- ---- the operations

pub pos_part-neg : (z : ℤ) → pos_part (neg_ℤ z) ≡ neg_part z
pos_part-neg (pos zero) = refl
pos_part-neg (pos (suc n)) = refl
pos_part-neg (negsuc n) = refl

pub neg_part-neg : (z : ℤ) → neg_part (neg_ℤ z) ≡ pos_part z
neg_part-neg (pos zero) = refl
neg_part-neg (pos (suc n)) = refl
neg_part-neg (negsuc n) = refl

by_test : (c : Bool) (x y : ℤ) (F : ℤ → Type 0) → (T c → F x) → (T (not c) → F y) → F (cond c x y)
by_test true x y F f g = f tt
by_test false x y F f g = g tt

sub_parts : (a b : ℕ) → pos_part (sub_ℕ a b) + b ≡ neg_part (sub_ℕ a b) + a
sub_parts a b = by_test (ltb a b) (negsuc (b - suc a)) (pos (a - b)) (λ z. pos_part z + b ≡ neg_part z + a)
    (λ t. lower a b (ltb→lt a b t)) (λ t. upper a b (nltb→le a b t))
  where
    lower : (a b : ℕ) → a < b → 0 + b ≡ suc (b - suc a) + a
    lower a b h = omega arith

    upper : (a b : ℕ) → b ≤ a → a - b + b ≡ 0 + a
    upper a b h = omega arith

add_parts : (x y : ℤ) → pos_part (x +ℤ y) + (neg_part x + neg_part y) ≡ neg_part (x +ℤ y) + (pos_part x + pos_part y)
add_parts (pos a) (pos b) = omega arith
add_parts (pos a) (negsuc b) = omega (arith, sub_parts a (suc b))
add_parts (negsuc a) (pos b) = omega (arith, sub_parts b (suc a))
add_parts (negsuc a) (negsuc b) = omega arith

mul_parts : (x y : ℤ) → pos_part (x *ℤ y) + (pos_part x * neg_part y + neg_part x * pos_part y) ≡ neg_part (x *ℤ y) + (pos_part x * pos_part y + neg_part x * neg_part y)
mul_parts (pos a) (pos b) = omega arith
mul_parts (pos a) (negsuc b) = omega (arith, pos_part-neg (pos (a * suc b)), neg_part-neg (pos (a * suc b)))
mul_parts (negsuc a) (pos b) = omega (arith, pos_part-neg (pos (suc a * b)), neg_part-neg (pos (suc a * b)))
mul_parts (negsuc a) (negsuc b) = omega arith

pub diff_at : (z : ℤ) → Diff z (pos_part z) (neg_part z)
diff_at z = record { diff = omega arith }

pub diff_add : {x y : ℤ} {p n q m : ℕ} → Diff x p n → Diff y q m → Diff (x +ℤ y) (p + q) (n + m)
diff_add {x} {y} h k = record { diff = omega (arith, add_parts x y) }

pub diff_neg : {x : ℤ} {p n : ℕ} → Diff x p n → Diff (neg_ℤ x) n p
diff_neg {x} h = record { diff = omega (arith, pos_part-neg x, neg_part-neg x) }

pub diff_mul : {x y : ℤ} {p n q m : ℕ} → Diff x p n → Diff y q m → Diff (x *ℤ y) (p * q + n * m) (p * m + n * q)
diff_mul {x} {y} {p} {n} h k = record {
  diff =
      omega (arith, mul_parts x y, ap (λ (v : ℕ). v * pos_part y) h.diff, ap (λ (v : ℕ). v * neg_part y) h.diff, ap (λ (v : ℕ). p * v) k.diff, ap (λ (v : ℕ). n * v) k.diff);
}

-- ---- the rules

le_parts : (a b : ℤ) → T (le_z a b) → pos_part a + neg_part b ≤ pos_part b + neg_part a
le_parts (pos a) (pos b) t = omega (arith, leb→le a b t)
le_parts (pos a) (negsuc b) t = absurd t
le_parts (negsuc a) (pos b) t = omega arith
le_parts (negsuc a) (negsuc b) t = omega (arith, leb→le b a t)

le-whole : (a b : ℤ) → pos_part a + neg_part b ≤ pos_part b + neg_part a → T (le_z a b)
le-whole (pos a) (pos b) h = le→leb a b (omega arith)
le-whole (pos a) (negsuc b) h = no_le a b h
  where
    no_le : (a b : ℕ) → a + suc b ≤ 0 + 0 → ⊥
    no_le a b h = omega arith
le-whole (negsuc a) (pos b) h = tt
le-whole (negsuc a) (negsuc b) h = le→leb b a (omega arith)

lt_parts : (a b : ℤ) → T (lt_z a b) → pos_part a + neg_part b < pos_part b + neg_part a
lt_parts (pos a) (pos b) t = omega (arith, ltb→lt a b t)
lt_parts (pos a) (negsuc b) t = absurd t
lt_parts (negsuc a) (pos b) t = omega arith
lt_parts (negsuc a) (negsuc b) t = omega (arith, ltb→lt b a t)

lt-whole : (a b : ℤ) → pos_part a + neg_part b < pos_part b + neg_part a → T (lt_z a b)
lt-whole (pos a) (pos b) h = lt→ltb a b (omega arith)
lt-whole (pos a) (negsuc b) h = no_lt a b h
  where
    no_lt : (a b : ℕ) → a + suc b < 0 + 0 → ⊥
    no_lt a b h = omega arith
lt-whole (negsuc a) (pos b) h = tt
lt-whole (negsuc a) (negsuc b) h = lt→ltb b a (omega arith)

eq-whole : (a b : ℤ) → pos_part a + neg_part b ≡ pos_part b + neg_part a → a ≡ b
eq-whole (pos a) (pos b) h = ap pos (omega arith)
eq-whole (pos a) (negsuc b) h = absurd (no_eq a b h)
  where
    no_eq : (a b : ℕ) → a + suc b ≡ 0 + 0 → ⊥
    no_eq a b h = omega arith
eq-whole (negsuc a) (pos b) h = absurd (no_eq' a b h)
  where
    no_eq' : (a b : ℕ) → 0 + 0 ≡ b + suc a → ⊥
    no_eq' a b h = omega arith
eq-whole (negsuc a) (negsuc b) h = ap negsuc (omega arith)

pub ≤→ : {a b : ℤ} → a ≤ℤ b → pos_part a + neg_part b ≤ pos_part b + neg_part a
≤→ {a} {b} h = le_parts a b h.le

pub ≤← : {a b : ℤ} → pos_part a + neg_part b ≤ pos_part b + neg_part a → a ≤ℤ b
≤← {a} {b} h = record { le = le-whole a b h }

pub <→ : {a b : ℤ} → a <ℤ b → pos_part a + neg_part b < pos_part b + neg_part a
<→ {a} {b} h = lt_parts a b h.lt

pub <← : {a b : ℤ} → pos_part a + neg_part b < pos_part b + neg_part a → a <ℤ b
<← {a} {b} h = record { lt = lt-whole a b h }

pub ≡→ : {a b : ℤ} → a ≡ b → pos_part a + neg_part b ≡ pos_part b + neg_part a
≡→ {a} {b} h = ap (λ (z : ℤ). pos_part a + neg_part z) (sym h) ∙ ap (λ (z : ℤ). pos_part z + neg_part a) h

pub ≡← : {a b : ℤ} → pos_part a + neg_part b ≡ pos_part b + neg_part a → a ≡ b
≡← {a} {b} h = eq-whole a b h

-- ---- bounds

-- z is at most K away from 0. A record, so that K and z are inferred from a hypothesis
pub record Within (K : ℕ) (z : ℤ) : Type 0 where
  pub size : nat_abs z ≤ K

pub abs_parts : (z : ℤ) → nat_abs z ≡ pos_part z + neg_part z
abs_parts (pos n) = omega arith
abs_parts (negsuc n) = omega arith

pub abs_diff : (z : ℤ) → nat_abs z ≡ (pos_part z - neg_part z) + (neg_part z - pos_part z)
abs_diff (pos n) = omega arith
abs_diff (negsuc n) = omega arith

mag_parts : (z : ℤ) → mag z ≡ pos_part z + (neg_part z - 1)
mag_parts (pos n) = omega arith
mag_parts (negsuc n) = omega arith

mag_diff : (z : ℤ) → mag z ≡ (pos_part z - neg_part z) + (neg_part z - pos_part z - 1)
mag_diff (pos n) = omega arith
mag_diff (negsuc n) = omega arith

pub within→ : {K : ℕ} {z : ℤ} → Within K z → pos_part z + neg_part z ≤ K
within→ {K} {z} h = omega (arith, abs_parts z)

pub within← : {K : ℕ} {z : ℤ} → (pos_part z - neg_part z) + (neg_part z - pos_part z) ≤ K → Within K z
within← {K} {z} h = record { size = omega (arith, abs_diff z) }

pub sfits→ : {w : Width} {z : ℤ} → SFits w z → pos_part z + (neg_part z - 1) < 2 ^ hbits w
sfits→ {w} {z} h = omega (arith, mag_parts z)

pub sfits← : {w : Width} {z : ℤ} → (pos_part z - neg_part z) + (neg_part z - pos_part z - 1) < 2 ^ hbits w → SFits w z
sfits← {w} {z} h = record { sfits = omega (arith, mag_diff z) }

pub ruleset ints = (≤→, ≤←, <→, <←, ≡→, ≡←, within→, within←, sfits→, sfits←)
