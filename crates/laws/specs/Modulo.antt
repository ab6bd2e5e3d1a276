-- The remainder of a whole number, from 0 on for numbers below zero too.
use Prim.Native.Nat.{ℕ, suc, ◌+◌, ◌*◌, ◌-◌, ◌/◌, ◌%◌, ◌<◌}
use native.Mathlib.Omega.{arith}
use Rattle.std.proofs.Math.Nat.{mod-lt, div-add-mod, mul-add-mod_self_right}
use Rattle.std.proofs.Common.{mod-eq_of_lt, ap, ◌∙◌}
use Rattle.std.specs.Prelude.{◌≡◌, ℤ, pos, negsuc, ◌+ℤ◌, ◌*ℤ◌}
use Rattle.laws.specs.Parts.{ints}
use Rattle.laws.specs.Expr.{linear, lit, ◌⊕◌, ◌⊛◌}

-- by `n`, from 0 to n − 1
unfoldable pub modulo : ℤ → (n : ℕ) → ℕ
modulo (pos m) n = m % n
modulo (negsuc m) n = n - suc (m % n)

pub modulo_small : {m n : ℕ} → m < n → modulo (pos m) n ≡ m
unfolding modulo
modulo_small l = mod-eq_of_lt l

module _ {n : ℕ} (l : 0 < n) where
  pub modulo-below : (z : ℤ) → modulo z n < n
  unfolding modulo
  modulo-below (pos m) = mod-lt m l
  modulo-below (negsuc m) = omega arith

  -- there is a quotient
  pub divided : (z : ℤ) → (q : ℤ) × (z ≡ q *ℤ pos n +ℤ pos (modulo z n))
  unfolding modulo
  divided (pos m) = (pos (m / n), omega (arith, ints, div-add-mod m n, linear (lit (pos (m / n)) ⊛ lit (pos n) ⊕ lit (pos (m % n)))))
  divided (negsuc m) = (negsuc (m / n), omega (arith, ints, div-add-mod m n, mod-lt m l, linear (lit (negsuc (m / n)) ⊛ lit (pos n) ⊕ lit (pos (n - suc (m % n))))))

-- and no other remainder has one
only : (z q : ℤ) {n r : ℕ} → z ≡ q *ℤ pos n +ℤ pos r → r < n → modulo z n ≡ r
unfolding modulo
only (pos m) (pos a) {n} {r} e l =
    let d : m ≡ a * n + r = omega (arith, ints, linear (lit (pos a) ⊛ lit (pos n) ⊕ lit (pos r))) in
    ap (λ k. k % n) d ∙ mul-add-mod_self_right a n r ∙ mod-eq_of_lt l
only (pos m) (negsuc a) {n} {r} e l = absurd (omega (arith, ints, linear (lit (negsuc a) ⊛ lit (pos n) ⊕ lit (pos r))))
only (negsuc m) (pos a) {n} {r} e l = absurd (omega (arith, ints, linear (lit (pos a) ⊛ lit (pos n) ⊕ lit (pos r))))
only (negsuc m) (negsuc a) {n} {r} e l =
    let d : m ≡ a * n + (n - suc r) = omega (arith, ints, linear (lit (negsuc a) ⊛ lit (pos n) ⊕ lit (pos r))) in
    let s : n - suc r < n = omega arith in
    let t : m % n ≡ n - suc r = ap (λ k. k % n) d ∙ mul-add-mod_self_right a n (n - suc r) ∙ mod-eq_of_lt s in
    omega (arith, t)

-- whole multiples of `n` leave it as it is
pub modulo_turned : (z k : ℤ) {n : ℕ} → 0 < n → modulo (z +ℤ k *ℤ pos n) n ≡ modulo z n
modulo_turned z k {n} l =
    let q = divided l z in
    let e : z +ℤ k *ℤ pos n ≡ (q.0 +ℤ k) *ℤ pos n +ℤ pos (modulo z n) =
    omega (arith, ints, q.1, linear (lit z ⊕ lit k ⊛ lit (pos n)), linear (lit q.0 ⊛ lit (pos n) ⊕ lit (pos (modulo z n))), linear ((lit q.0 ⊕ lit k) ⊛ lit (pos n) ⊕ lit (pos (modulo z n)))) in
    only (z +ℤ k *ℤ pos n) (q.0 +ℤ k) e (modulo-below l z)
