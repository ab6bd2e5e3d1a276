-- What a call comes to, in document 01's words: an answer, or a refusal by its number and place ("A refusal answers its number and
-- place and nothing more"). Each enum that the code answers has a definition that takes it to this, and contracts speak through it.
use Rattle.std.specs.Prelude.{ℕ, Bool, true, false, Result, Ok, Err}
use Rattle.figures.specs.Refusal.{number_of, place_of}
use Rattle.figures.specs.declared.Refusal.{Refusal}

pub data Outcome (A : Type 0) : Type 0 where
  answered : A → Outcome A
  refused : (number place : ℕ) → Outcome A

abbrev pub refusal : {A : Type 0} → Refusal → Outcome A
refusal w = refused (number_of w) (place_of w)

-- what a `Result` of the code comes to
abbrev pub outcome : {A : Type 0} → Result A Refusal → Outcome A
outcome (Ok a) = answered a
outcome (Err w) = refusal w

-- the first refusal, or else the second outcome
abbrev pub and_then : {A B : Type 0} → Outcome A → Outcome B → Outcome B
and_then (answered a) o = o
and_then (refused n k) o = refused n k

-- refused where the test holds
abbrev pub refuse_if : {A : Type 0} → Bool → (number place : ℕ) → Outcome A → Outcome A
refuse_if true n k o = refused n k
refuse_if false n k o = o

abbrev pub map_answer : {A B : Type 0} → (A → B) → Outcome A → Outcome B
map_answer f (answered a) = answered (f a)
map_answer f (refused n k) = refused n k

-- it is an answer, and `P` holds of it
abbrev pub AnswerWith : {A : Type 0} → (A → Type 0) → Outcome A → Type 0
AnswerWith P (answered a) = P a
AnswerWith P (refused n k) = ⊥
