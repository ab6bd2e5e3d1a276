-- Replies put one behind the other, and counted: what the loop keeps.
use Prim.Native.Nat.{ℕ, suc, ◌+◌, ◌^◌, ◌≤◌, ◌<◌}
use mathlib.Core.Path.{◌≡◌, refl, sym, ap, ◌∙◌}
use mathlib.Core.Bool.{cond}
use mathlib.Core.List.{List, [], ◌∷◌, ◌++◌, append-nil}
use native.Mathlib.Omega.{arith}
use native.Mathlib.Numerals.{add-one}
use lib.ListN.{length, length-append}
use Rattle.laws.specs.Logic.{either_way}
use Rattle.writing.specs.Writing.{Added}
use Rattle.writing.proofs.Laws.{put_nothing, put_added}
use Rattle.requests.specs.Replies.{is_answer, reply_text, max_text}
use Rattle.requests.specs.declared.Reply.{Reply}
use Rattle.list_state.specs.State.{one_more, counted}
use Rattle.list_state.specs.declared.Totals.{Totals}
use Rattle.listing.specs.Lines.{texts, answers, refusals}
use Rattle.listing.specs.Pieces.{raised, counted_all}
use Rattle.listing.specs.Batch.{up_to, RepliesPut}
use Rattle.listing.proofs.Cuts.{texts-append, counted-append}

one-text : (r : Reply) → texts (r ∷ []) ≡ reply_text r
unfolding texts
one-text r = append-nil (reply_text r)

one-counted : (t : Totals) (r : Reply) → counted t r ≡ counted_all t (r ∷ [])
unfolding answers refusals
one-counted t r =
    either_way
    (λ p. ◌≡◌ {A = Totals} (cond p (record { answered = one_more t.answered; refused = t.refused }) (record { answered = t.answered; refused = one_more t.refused }))
    (record { answered = raised t.answered (cond p 1 0); refused = raised t.refused (cond p 0 1) }))
    (is_answer r) refl refl

module _ (f : ℕ → Reply) (t : Totals) where
  pub put_none : (room : List ℕ) → RepliesPut (up_to f 0) 0 t t room room 0
  unfolding texts answers refusals
  put_none room = record { totals = refl; put = put_nothing room; small = omega arith }

  -- one reply more
  pub put_one : {before now after : List ℕ} {u v : Totals} {k bytes m : ℕ} {r : Reply} → RepliesPut (up_to f k) k t u before now bytes → length before < 2 ^ 63 → r ≡ f k
      → v ≡ counted u r → Added (reply_text r) bytes now after m → length (reply_text r) ≤ max_text → RepliesPut (up_to f (k + 1)) (k + 1) t v before after m
  put_one {u = u} {k = k} {r = r} p b e c a s =
      let one = ap (λ x. up_to f k ++ (x ∷ [])) (sym e) in
      let text : texts (up_to f (suc k)) ≡ texts (up_to f k) ++ reply_text r = ap texts one ∙ texts-append (up_to f k) (r ∷ []) ∙ ap (λ x. texts (up_to f k) ++ x) (one-text r) in
      rw (add-one k) (record {
        totals = c ∙ one-counted u r ∙ ap (λ x. counted_all x (r ∷ [])) p.totals ∙ sym (counted-append t (up_to f k) (r ∷ [])) ∙ ap (counted_all t) (sym one);
        put = rw text (put_added p.put a b);
        small = omega (arith, ap length text, length-append (texts (up_to f k)) (reply_text r), p.small);
      })
