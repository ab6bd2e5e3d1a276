-- Laws of what is left of a text.
use Rattle.std.proofs.Common.{ℕ, ◌+◌, ◌≡◌, List, ◌∷◌, drop, refl, ap, sym, ◌∙◌}
use Rattle.std.proofs.lemmas.List.{drop-drop}
use Rattle.script.specs.Reading.{LeftOf}

pub all_left : (text : List ℕ) → LeftOf text text
all_left text = record { passed = 0; left = refl }

module _ {before text : List ℕ} (l : LeftOf before text) where
  pub same_left : {after : List ℕ} → after ≡ text → LeftOf before after
  same_left e = record { passed = l.passed; left = e ∙ l.left }

  pub less_left : {after : List ℕ} → LeftOf text after → LeftOf before after
  less_left r = record { passed = l.passed + r.passed; left = r.left ∙ ap (drop r.passed) l.left ∙ drop-drop r.passed l.passed before }

  -- without its first byte
  pub rest_left : {byte : ℕ} {after : List ℕ} → text ≡ byte ∷ after → LeftOf before after
  rest_left e = less_left (record { passed = 1; left = sym (ap (drop 1) e) })
