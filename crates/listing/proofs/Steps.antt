-- What the front of a text comes to: up to and with its first newline, or all of it where there is none.
use Rattle.std.specs.Prelude.{◌≡◌, ℕ, zero, suc, ◌+◌, ◌≤◌, ◌<◌, cond, not, List, [], ◌∷◌, ◌++◌, eqb, nat_lt, length, take, Some, None}
use Rattle.std.specs.List.{position, position_or_len}
use Rattle.std.proofs.Common.{refl, sym, ap, ◌∙◌, arith, append_assoc, ltb-true, ltb-false}
use mathlib.Core.List.{append-nil}
use Rattle.laws.specs.Logic.{either_way, by_cond}
use Rattle.lines.specs.Text.{newline}
use Rattle.requests.specs.Requests.{request_in}
use Rattle.listing.specs.Lines.{requests_in, rest}
use Rattle.listing.specs.Filed.{is_newline}

pub newline_at : (t : List ℕ) {n : ℕ} → position is_newline t ≡ Some n → (n ≡ position_or_len is_newline t) × (n < length t)
newline_at t {n} e = let k = position_or_len is_newline t in by_cond (nat_lt k (length t)) e (λ h r. let s : n ≡ k = cc in (s, omega (arith, ltb-true k (length t) h, s))) (λ h r. cc)

no_place : (t : List ℕ) → position is_newline t ≡ None → length t ≤ position_or_len is_newline t
no_place t e = let k = position_or_len is_newline t in by_cond (nat_lt k (length t)) e (λ h r. cc) (λ h r. ltb-false k (length t) h)

all_held : (line t : List ℕ) → length t ≤ position_or_len is_newline t → (requests_in line t ≡ []) × (rest line t ≡ line ++ t)
unfolding requests_in rest
all_held line [] h = (refl, sym (append-nil line))
all_held line (b ∷ t) h =
    let more = line ++ (b ∷ []) in
    let k = position_or_len is_newline t in
    either_way
    (λ p. suc (length t) ≤ cond (not p) (1 + k) 0 → (cond p (request_in line ∷ requests_in [] t) (requests_in more t) ≡ []) × (cond p (rest [] t) (rest more t) ≡ line ++ (b ∷ t)))
    (eqb b newline)
    (λ g. absurd (omega arith))
    (λ g. let e = all_held more t (omega arith) in (e.0, e.1 ∙ append_assoc line (b ∷ []) t))
    h

pub no_newline : (line t : List ℕ) → position is_newline t ≡ None → (requests_in line t ≡ []) × (rest line t ≡ line ++ t)
no_newline line t e = all_held line t (no_place t e)

pub to_newline : (line t : List ℕ) (n : ℕ) → n ≡ position_or_len is_newline t → n < length t
    → (requests_in line (take (suc n) t) ≡ request_in (line ++ take n t) ∷ []) × (rest line (take (suc n) t) ≡ [])
unfolding requests_in rest
to_newline line [] n e h = absurd (omega arith)
to_newline line (b ∷ t) zero e h =
    let more = line ++ (b ∷ []) in
    either_way
    (λ p. 0 ≡ cond (not p) (1 + position_or_len is_newline t) 0
    → (cond p (request_in line ∷ requests_in [] []) (requests_in more []) ≡ request_in (line ++ []) ∷ []) × (cond p (rest [] []) (rest more []) ≡ []))
    (eqb b newline)
    (λ g. (ap (λ l. request_in l ∷ []) (sym (append-nil line)), refl))
    (λ g. absurd (omega arith))
    e
to_newline line (b ∷ t) (suc n) e h =
    let more = line ++ (b ∷ []) in
    either_way
    (λ p. suc n ≡ cond (not p) (1 + position_or_len is_newline t) 0
    → (cond p (request_in line ∷ requests_in [] (take (suc n) t)) (requests_in more (take (suc n) t)) ≡ request_in (line ++ (b ∷ take n t)) ∷ []) × (cond p (rest [] (take (suc n) t)) (rest more (take (suc n) t)) ≡ []))
    (eqb b newline)
    (λ g. absurd (omega arith))
    (λ g. let f = to_newline more t n (omega arith) (omega arith) in (f.0 ∙ ap (λ l. request_in l ∷ []) (append_assoc line (b ∷ []) (take n t)), f.1))
    e
