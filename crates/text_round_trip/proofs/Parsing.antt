-- Reading by pieces, both ways: what was accepted was there, and what is there is accepted.
use Prim.Native.Nat.{ℕ, suc, ◌+◌, ◌/◌, ◌%◌, ◌<◌}
use mathlib.Core.Path.{◌≡◌, refl, sym, ap, ◌∙◌}
use mathlib.Core.Bool.{Bool, true, false, cond}
use mathlib.Core.List.{List, [], ◌∷◌, ◌++◌, append_assoc, append-nil}
use native.Mathlib.Omega.{arith}
use borrow.Author.Tests.{eqb-true, eq-eqb, ne_eqb}
use lib.Dec.{eqb}
use lib.IntN.{ℤ, pos, negsuc}
use Rattle.std.specs.Prelude.{Option, Some, None}
use Rattle.figures.specs.Outcome.{Outcome, answered, refused}
use Rattle.figures.proofs.Laws.{answer_not_refusal}
use Rattle.decimal.specs.Spelling.{digits, spell, Short, number_in}
use Rattle.decimal.proofs.Digits.{tens, digits_small, digits_more}
use Rattle.decimal.proofs.Grammar.{grammar_spell, spell_grammar}
use Rattle.grid_reader.specs.Reading.{fixed, whole, word}

-- ---- what was accepted was there

module _ {A : Type 0} {g : A} where
  refusal_answered : {n k : ℕ} → refused n k ≡ answered g → ⊥
  refusal_answered e = answer_not_refusal (sym e)

  pub fixed_there : (line : ℕ) (p t : List ℕ) (next : List ℕ → Outcome A) → fixed line p t next ≡ answered g → (u : List ℕ) × (t ≡ p ++ u) × (next u ≡ answered g)
  unfolding fixed
  fixed_there line [] t next e = (t, refl, e)
  fixed_there line (c ∷ p) [] next e = absurd (refusal_answered e)
  fixed_there line (c ∷ p) (b ∷ t) next e = go (fixed_there line p t next) (eqb b c) refl e
    where
      go : (fixed line p t next ≡ answered g → (u : List ℕ) × (t ≡ p ++ u) × (next u ≡ answered g))
          → (d : Bool) → eqb b c ≡ d → cond d (fixed line p t next) (refused 1 line) ≡ answered g → (u : List ℕ) × ((b ∷ t) ≡ (c ∷ p) ++ u) × (next u ≡ answered g)
      go rest true q e = let r = rest e in (r.0, (λ i. eqb-true b c q i ∷ r.1 i), r.2)
      go rest false q e = absurd (refusal_answered e)

  pub word_there : (line stop : ℕ) (w t : List ℕ) (next : ℤ → List ℕ → Outcome A) → word line stop w t next ≡ answered g
      → (x : ℤ) × (u : List ℕ) × (w ++ t ≡ spell x ++ (stop ∷ u)) × Short x × (next x u ≡ answered g)
  unfolding word
  word_there line stop w [] next e = absurd (refusal_answered e)
  word_there line stop w (b ∷ t) next e = go (word_there line stop (w ++ (b ∷ [])) t next) (eqb b stop) refl e
    where
      ends : (o : Option ℤ) → number_in w ≡ o → whole line o (λ x. next x t) ≡ answered g → b ≡ stop
          → (x : ℤ) × (u : List ℕ) × (w ++ (b ∷ t) ≡ spell x ++ (stop ∷ u)) × Short x × (next x u ≡ answered g)
      ends None q e f = absurd (refusal_answered e)
      ends (Some x) q e f = let s = spell_grammar w q in (x, t, (λ i. s.0 i ++ (f i ∷ t)), s.1, e)

      go : (word line stop (w ++ (b ∷ [])) t next ≡ answered g
          → (x : ℤ) × (u : List ℕ) × ((w ++ (b ∷ [])) ++ t ≡ spell x ++ (stop ∷ u)) × Short x × (next x u ≡ answered g))
          → (d : Bool) → eqb b stop ≡ d → cond d (whole line (number_in w) (λ x. next x t)) (word line stop (w ++ (b ∷ [])) t next) ≡ answered g
          → (x : ℤ) × (u : List ℕ) × (w ++ (b ∷ t) ≡ spell x ++ (stop ∷ u)) × Short x × (next x u ≡ answered g)
      go rest true q e = ends (number_in w) refl e (eqb-true b stop q)
      go rest false q e = let r = rest e in (r.0, r.1, sym (append_assoc w (b ∷ []) t) ∙ r.2, r.3, r.4)

-- ---- what is there is accepted

pub fixed_here : {A : Type 0} (line : ℕ) (p t : List ℕ) (next : List ℕ → Outcome A) → fixed line p (p ++ t) next ≡ next t
unfolding fixed
fixed_here line [] t next = refl
fixed_here line (c ∷ p) t next = rw (eq-eqb c c refl) (fixed_here line p t next)

-- no byte of the text is `stop`
abbrev Free : (stop : ℕ) → List ℕ → Type 0
Free stop [] = Unit {0}
Free stop (b ∷ t) = (b ≡ stop → ⊥) × Free stop t

free_append : (stop : ℕ) (v w : List ℕ) → Free stop v → Free stop w → Free stop (v ++ w)
free_append stop [] w f g = g
free_append stop (b ∷ v) w f g = (f.0, free_append stop v w f.1 g)

-- a byte below the minus and the digits stands in no number
digits_free : (stop : ℕ) → stop < 45 → (n : ℕ) → Free stop (digits n)
digits_free stop l =
    tens (λ n. Free stop (digits n))
    (λ n h. rw (digits_small n h) (omega arith, tt))
    (λ n h f. rw (digits_more n h) (free_append stop (digits (n / 10)) ((48 + n % 10) ∷ []) f (omega arith, tt)))

spell_free : (stop : ℕ) → stop < 45 → (x : ℤ) → Free stop (spell x)
unfolding spell
spell_free stop l (pos n) = digits_free stop l n
spell_free stop l (negsuc n) = (omega arith, digits_free stop l (suc n))

module _ {A : Type 0} (line stop : ℕ) (next : ℤ → List ℕ → Outcome A) where
  words : (w v t : List ℕ) → Free stop v → word line stop w (v ++ (stop ∷ t)) next ≡ whole line (number_in (w ++ v)) (λ x. next x t)
  unfolding word
  words w [] t f = rw (eq-eqb stop stop refl, append-nil w)
  words w (b ∷ v) t f =
      rw (ne_eqb b stop f.0) (words (w ++ (b ∷ [])) v t f.1 ∙ ap (λ (q : List ℕ). whole line (number_in q) (λ x. next x t)) (append_assoc w (b ∷ []) v))

  pub word_here : (x : ℤ) → Short x → stop < 45 → (t : List ℕ) → word line stop [] (spell x ++ (stop ∷ t)) next ≡ next x t
  word_here x s l t = words [] (spell x) t (spell_free stop l x) ∙ rw (grammar_spell x s)
