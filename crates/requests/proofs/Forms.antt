-- A line that is no request is refused 1, at no place.
use Rattle.std.specs.Prelude.{◌≡◌, ℕ, List, [], ◌∷◌, cond, ltb, length, drop, ℤ, Option, Some, None}
use Rattle.std.proofs.Common.{refl}
use Rattle.laws.specs.Logic.{either_way}
use Rattle.figures.specs.Outcome.{Outcome, answered, refused}
use Rattle.requests.specs.Requests.{words, text_of, asks, starts, pair_in, asking, other_form, asked, request_in}
use Rattle.requests.specs.declared.Request.{Request}
use Rattle.requests.specs.declared.words.Word.{Word}

abbrev pub Formed : Outcome Request → Type 0
Formed (answered q) = Unit
Formed (refused n k) = other_form ≡ refused n k

asking_formed : (f : (lat lon : ℤ) → Request) (p : Option (ℤ × ℤ)) → Formed (asking f p)
asking_formed f (Some p) = tt
asking_formed f None = refl

asked_formed : (ws : List Word) (line : List ℕ) → Formed (asked ws line)
unfolding asked
asked_formed [] line = refl
asked_formed (w ∷ ws) line =
    let p = pair_in (drop (length (text_of w)) line) in
    either_way (λ b. Formed (cond b (asking (asks w) p) (asked ws line))) (starts (text_of w) line) (asking_formed (asks w) p) (asked_formed ws line)

pub request_formed : (line : List ℕ) → Formed (request_in line)
unfolding request_in
request_formed line = either_way (λ p. Formed (cond p other_form (asked words line))) (ltb 64 (length line)) refl (asked_formed words line)
