-- Laws of outcomes and refusals: an answer is no refusal, an outcome that is an answer has passed each test before it, and the numbers of
-- the refusals are small.
use Prim.Native.Nat.{ℕ, ◌≤◌}
use mathlib.Core.Path.{◌≡◌, refl, sym}
use mathlib.Core.Bool.{Bool, true, false}
use native.Mathlib.Omega.{arith}
use Rattle.std.specs.Prelude.{Option, Some, None, Result, Ok, Err, ok_or}
use Rattle.std.specs.Result.{IsErrAnd}
use Rattle.std.proofs.lemmas.Result.{err_from_is_err_and}
use Rattle.figures.specs.Refusal.{number_of}
use Rattle.figures.specs.declared.Refusal.{Refusal}
use Rattle.figures.specs.Outcome.{Outcome, answered, refused, refusal, outcome, and_then, refuse_if, map_answer}

pub answer_not_refusal : {A : Type 0} {a : A} {n k : ℕ} → answered a ≡ refused n k → ⊥
answer_not_refusal e = let z : ◌≡◌ {A = ℕ} 0 1 = cc in omega arith

pub both_answered : {A B : Type 0} (o : Outcome A) (p : Outcome B) {b : B} → and_then o p ≡ answered b → ((a : A) × (o ≡ answered a)) × (p ≡ answered b)
both_answered (answered a) p e = ((a, refl), e)
both_answered (refused n k) p e = let z : ◌≡◌ {A = ℕ} 0 1 = cc in absurd (omega arith)

-- "2, 5, 3, 4, 14, then ..": the first refusal is the outcome's, and what passes leaves it to the second
pub refused_first : {A B : Type 0} {n k : ℕ} {o : Outcome A} (p : Outcome B) → refused n k ≡ o → refused n k ≡ and_then o p
refused_first p e = rw (← e)

pub passed_first : {A B : Type 0} {a : A} {o : Outcome A} (p : Outcome B) → answered a ≡ o → p ≡ and_then o p
passed_first p e = rw (← e)

pub not_refused : {A : Type 0} (t : Bool) (n k : ℕ) (o : Outcome A) {a : A} → refuse_if t n k o ≡ answered a → (t ≡ false) × (o ≡ answered a)
not_refused true n k o e = let z : ◌≡◌ {A = ℕ} 0 1 = cc in absurd (omega arith)
not_refused false n k o e = (refl, e)

pub same_answer : {A : Type 0} {a b : A} → answered a ≡ answered b → a ≡ b
same_answer e = cc

pub refused_map : {A B : Type 0} (f : A → B) (o : Outcome A) {n k : ℕ} → refused n k ≡ map_answer f o → o ≡ refused n k
refused_map f (answered a) e = absurd (answer_not_refusal (sym e))
refused_map f (refused m j) e = cc

pub answered_map : {A B : Type 0} (f : A → B) (o : Outcome A) {b : B} → answered b ≡ map_answer f o → (a : A) × (o ≡ answered a) × (f a ≡ b)
answered_map f (answered a) e = (a, refl, sym (same_answer e))
answered_map f (refused m j) e = absurd (answer_not_refusal e)

-- what the exit of a `?` returns
pub at_exit : {A : Type 0} (r : Result A Refusal) (w : Refusal) → IsErrAnd r (λ v. v ≡ w) → outcome r ≡ refusal w
at_exit r w e = let t = err_from_is_err_and r e in rw (t.1, t.2)

-- `o.ok_or(w)?`: what goes on, and what is refused
pub some_of : {A : Type 0} {o : Option A} (w : Refusal) {a : A} → Ok a ≡ ok_or o w → Some a ≡ o
some_of {o = Some b} w e = cc
some_of {o = None} w e = cc

pub none_of : {A : Type 0} {o : Option A} (w : Refusal) {v : Refusal} → Err v ≡ ok_or o w → (None ≡ o) × (v ≡ w)
none_of {o = Some b} w e = cc
none_of {o = None} w e = (refl, cc)

-- the numbers of the refusals are small
pub number_small : (w : Refusal) → number_of w ≤ 99
number_small (Refusal.Form line) = omega arith
number_small (Refusal.Rule rule) = omega arith
number_small (Refusal.Range node) = omega arith
number_small (Refusal.Steep node) = omega arith
number_small (Refusal.NodeRoom nodes) = omega arith
number_small Refusal.OffGrid = omega arith
number_small Refusal.NoPoint = omega arith
number_small (Refusal.Room needed) = omega arith
number_small (Refusal.File limit) = omega arith
number_small (Refusal.Twist node) = omega arith
