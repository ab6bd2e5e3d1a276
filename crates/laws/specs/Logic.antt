-- Tests joined by `and` and `or`, and the order of the integers as a test.
use Rattle.std.specs.Prelude.{◌≡◌, refl, ℕ, ◌+◌, ◌-◌, ◌≤◌, ◌<◌, Bool, true, false, not, ◌&&◌, ◌||◌, cond, ◌⊎◌, T, ltb, ℤ, ◌≤ℤ◌, ◌<ℤ◌}
use Rattle.std.proofs.Common.{sym, subst, ◌∙◌, inl, inr, ltb-true, ltb-false, lt-ltb, arith}
use Rattle.std.specs.Int.Signed.{le_z, lt_z, le_z_yes, lt_z_yes, lt_z_no, clash_ℤ, ≤ℤ_refl}
use Rattle.laws.specs.Parts.{ints}

pub is_true : (t : Bool) → T t → t ≡ true
is_true true h = refl
is_true false h = absurd h

pub is_false : (t : Bool) → (T t → ⊥) → t ≡ false
is_false true h = absurd (h tt)
is_false false h = refl

pub never : {t : Bool} → (t ≡ true → ⊥) → t ≡ false
never {t} h = is_false t (λ s. h (is_true t s))

pub not_both : {t : Bool} → t ≡ true → t ≡ false → ⊥
not_both {t} e f = subst T (sym e ∙ f) tt

pub neither : (a b : Bool) → (a || b) ≡ false → (a ≡ false) × (b ≡ false)
neither true b e = absurd (subst T e tt)
neither false b e = (refl, e)

pub or_true : (a b : Bool) → b ≡ true → (a || b) ≡ true
or_true true b e = refl
or_true false b e = e

pub and_false : (p : Bool) → (p && false) ≡ false
and_false true = refl
and_false false = refl

-- where `b` is judged first
pub and_last : (a : Bool) {b r : Bool} → b ≡ true → r ≡ a → r ≡ (a && b)
and_last true e f = f ∙ sym e
and_last false e f = f

pub both : (a b : Bool) → (a && b) ≡ true → (a ≡ true) × (b ≡ true)
both true true e = (refl, refl)
both true false e = absurd (subst T (sym e) tt)
both false b e = absurd (subst T (sym e) tt)

-- where `a` holds and not both do, `b` does not
pub second_fails : (a b : Bool) → (a && b) ≡ false → a ≡ true → b ≡ false
second_fails true b e h = e
second_fails false b e h = absurd (subst T (sym h) tt)

-- a test that implies another fails beside what fails beside the other
pub and_implied : (a b c : Bool) → (a ≡ true → c ≡ true) → (c && b) ≡ false → (a && b) ≡ false
and_implied true b c h e = second_fails c b e (h refl)
and_implied false b c h e = refl

pub le_z_true : {a b : ℤ} → a ≤ℤ b → le_z a b ≡ true
le_z_true {a} {b} h = is_true (le_z a b) h.le

pub le_z_false : {a b : ℤ} → b <ℤ a → le_z a b ≡ false
le_z_false {a} {b} h = is_false (le_z a b) (λ t. clash_ℤ h (le_z_yes t))

pub lt_z_true : {a b : ℤ} → a <ℤ b → lt_z a b ≡ true
lt_z_true {a} {b} h = is_true (lt_z a b) h.lt

pub lt_z_false : {a b : ℤ} → b ≤ℤ a → lt_z a b ≡ false
lt_z_false {a} {b} h = is_false (lt_z a b) (λ t. clash_ℤ (lt_z_yes t) h)

pub le_z_holds : {a b : ℤ} → le_z a b ≡ true → a ≤ℤ b
le_z_holds e = le_z_yes (subst T (sym e) tt)

pub lt_z_holds : {a b : ℤ} → lt_z a b ≡ true → a <ℤ b
lt_z_holds e = lt_z_yes (subst T (sym e) tt)

pub lt_z_fails : {a b : ℤ} → lt_z a b ≡ false → b ≤ℤ a
lt_z_fails e = lt_z_no (subst (λ (t : Bool). T (not t)) (sym e) tt)

pub le_z_fails : {a b : ℤ} → le_z a b ≡ false → b <ℤ a
le_z_fails {a} {b} e = go (lt_z b a) refl
  where
    go : (t : Bool) → lt_z b a ≡ t → b <ℤ a
    go true p = lt_z_holds p
    go false p = absurd (not_both (le_z_true (lt_z_fails {a = b} {b = a} p)) e)

-- equality as a test
unfoldable pub eq_z : ℤ → ℤ → Bool
eq_z a b = le_z a b && le_z b a

pub eq_z_holds : {a b : ℤ} → eq_z a b ≡ true → a ≡ b
unfolding eq_z
eq_z_holds {a} {b} e =
    let s = both (le_z a b) (le_z b a) e in
    let p : a ≤ℤ b = le_z_holds s.0 in
    let q : b ≤ℤ a = le_z_holds s.1 in
    omega (arith, ints)

pub eq_z_true : {a b : ℤ} → a ≡ b → eq_z a b ≡ true
unfolding eq_z
eq_z_true {a} e = rw (e, le_z_true (≤ℤ_refl _))

-- ---- a value by a test

-- what holds of both answers holds of every test
pub either_way : (P : Bool → Type 0) (p : Bool) → P true → P false → P p
either_way P true t f = t
either_way P false t f = f

-- what holds of both sides of a test holds of the value
pub by_test : {A : Type 0} (P : A → Type 0) (p : Bool) {x y : A} → (p ≡ true → P x) → (p ≡ false → P y) → P (cond p x y)
by_test P true f g = f refl
by_test P false f g = g refl

-- and a value that is known is that of one side
pub by_cond : {A P : Type 0} (p : Bool) {x y r : A} → cond p x y ≡ r → (p ≡ true → x ≡ r → P) → (p ≡ false → y ≡ r → P) → P
by_cond true e f g = f refl e
by_cond false e f g = g refl e

-- one of two natural numbers is below the other, or not
pub lt_or_ge : (a b : ℕ) → (a < b) ⊎ (b ≤ a)
lt_or_ge a b = go (ltb a b) refl
  where
    go : (t : Bool) → ltb a b ≡ t → (a < b) ⊎ (b ≤ a)
    go true e = inl (ltb-true a b e)
    go false e = inr (ltb-false a b e)

-- two tests that hold together are the same
pub ltb_same : (a b c d : ℕ) → (a < b → c < d) → (c < d → a < b) → ltb a b ≡ ltb c d
ltb_same a b c d f g = go (ltb a b) refl
  where
    go : (t : Bool) → ltb a b ≡ t → t ≡ ltb c d
    go true e = sym (lt-ltb c d (f (ltb-true a b e)))
    go false e = sym (never (λ h. not_both (lt-ltb a b (g (ltb-true c d h))) e))

-- less is left of a loop's work
pub less_left : (a t b : ℕ) → t < a → 0 < b → a - (t + b) < a - t
less_left a t b h g = omega arith
