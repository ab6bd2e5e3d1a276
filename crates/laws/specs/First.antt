-- The lowest number at which a test holds, and what a search loop over it finds.
use Rattle.std.specs.Prelude.{ℕ, zero, suc, ◌≤◌, ◌<◌, ◌≡◌, refl, Bool, true, false, cond, ltb}
use Rattle.std.proofs.Common.{ap, arith, ltb-true, ltb-false}

-- the lowest number below `n` at which `p` holds, or `n` where there is none
unfoldable pub first : (ℕ → Bool) → ℕ → ℕ
first p zero = 0
first p (suc n) = cond (p 0) 0 (suc (first (λ k. p (suc k)) n))

-- a search that has come to `k`: nothing below it, and it is what is looked for unless it is the end
pub first_is : (p : ℕ → Bool) (n k : ℕ) → k ≤ n → ((j : ℕ) → j < k → p j ≡ false) → (k < n → p k ≡ true) → k ≡ first p n
unfolding first
first_is p zero k l none found = omega arith
first_is p (suc n) zero l none found = rw (found (omega arith))
first_is p (suc n) (suc k) l none found =
    rw (none 0 (omega arith)) (ap suc (first_is (λ j. p (suc j)) n k (omega arith) (λ j h. none (suc j) (omega arith)) (λ h. found (omega arith))))

past : (p : ℕ → Bool) (m : ℕ) (b : Bool) → p 0 ≡ b → (n : ℕ) → ((j : ℕ) → n ≤ m → j < n → p (suc j) ≡ false)
    → (j : ℕ) → suc n ≤ cond b 0 (suc m) → j < suc n → p j ≡ false
past p m true e n k j l h = absurd (omega arith)
past p m false e n k zero l h = e
past p m false e n k (suc j) l h = k j (omega arith) (omega arith)

first_past : (p : ℕ → Bool) (n j : ℕ) → n ≤ first p n → j < n → p j ≡ false
unfolding first
first_past p zero j l h = absurd (omega arith)
first_past p (suc n) j l h = past p (first (λ k. p (suc k)) n) (p 0) refl n (λ j l h. first_past (λ k. p (suc k)) n j l h) j l h

-- where the search came to the end, the test holds nowhere
pub first-none : (p : ℕ → Bool) (n : ℕ) → ltb (first p n) n ≡ false → (j : ℕ) → j < n → p j ≡ false
first-none p n e j h = first_past p n j (ltb-false _ _ e) h

holds : (p : ℕ → Bool) (m : ℕ) (b : Bool) → p 0 ≡ b → (n : ℕ) → (m < n → p (suc m) ≡ true) → cond b 0 (suc m) < suc n → p (cond b 0 (suc m)) ≡ true
holds p m true e n k l = e
holds p m false e n k l = k (omega arith)

first_holds : (p : ℕ → Bool) (n : ℕ) → first p n < n → p (first p n) ≡ true
unfolding first
first_holds p zero l = absurd (omega arith)
first_holds p (suc n) l = holds p (first (λ k. p (suc k)) n) (p 0) refl n (λ h. first_holds (λ k. p (suc k)) n h) l

-- where the search stopped before the end, the test holds
pub first_found : (p : ℕ → Bool) (n : ℕ) → ltb (first p n) n ≡ true → p (first p n) ≡ true
first_found p n e = first_holds p n (ltb-true _ _ e)

-- a search looks at the numbers below its end alone
pub first_same : (p q : ℕ → Bool) (n : ℕ) → ((j : ℕ) → j < n → p j ≡ q j) → first p n ≡ first q n
unfolding first
first_same p q zero h = refl
first_same p q (suc n) h = rw (h 0 (omega arith), first_same (λ k. p (suc k)) (λ k. q (suc k)) n (λ j l. h (suc j) (omega arith)))
