-- The list as a whole: however its requests are cut, what is written is the list; and what its totals count.
use Prim.Native.Nat.{ℕ, suc, ◌+◌, ◌^◌, ◌<◌}
use mathlib.Core.Path.{◌≡◌, refl, sym, ap, ◌∙◌}
use mathlib.Core.Bool.{cond}
use mathlib.Core.List.{List, [], ◌∷◌, ◌++◌, append-nil}
use native.Mathlib.Omega.{arith}
use lib.ListN.{length}
use lib.IntN.{pos}
use Rattle.laws.specs.Logic.{either_way}
use Rattle.laws.specs.Over.{over}
use Rattle.grid.specs.Grid.{Grid}
use Rattle.requests.specs.Requests.{request_in}
use Rattle.requests.specs.Replies.{is_answer, reply_to}
use Rattle.requests.specs.declared.Reply.{Reply}
use Rattle.listing.specs.Lines.{requests_in, replies, rest, texts, answers, refusals}
use Rattle.listing.specs.Listing.{list_text}
use Rattle.list_state.specs.State.{fresh}
use Rattle.listing.specs.Pieces.{fed_replies, fed_text, fed_list}
use Rattle.listing.specs.Joined.{joined, fed_texts, fed_lists, in_pieces}
use Rattle.list_state.specs.declared.Listing.{Listing}
use Rattle.list_state.proofs.Holding.{too_long}
use Rattle.listing.proofs.Cuts.{cut_text, cut_list}
use Rattle.listing.proofs.Whole.{list_text_lem}

-- ---- pieces

-- a list that was fed already, as `fresh` was by nothing
module _ (g : Grid) where
  pub feed_joined : (s : Listing) → s ≡ fed_list g s [] → (ps : List (List ℕ)) → (fed_texts g s ps ≡ fed_text g s (joined ps)) × (fed_lists g s ps ≡ fed_list g s (joined ps))
  unfolding fed_text fed_replies replies requests_in texts
  feed_joined s e [] = (refl, e)
  feed_joined s e (p ∷ ps) =
      let r = feed_joined (fed_list g s p) (sym (ap (fed_list g s) (append-nil p)) ∙ cut_list g s p []) ps in
      (ap (λ t. fed_text g s p ++ t) r.0 ∙ sym (cut_text g s p (joined ps)), r.1 ∙ sym (cut_list g s p (joined ps)))

  fresh-fed : fresh ≡ fed_list g fresh []
  unfolding fed_list fed_replies replies requests_in rest answers refusals over
  fresh-fed = refl

  -- the pieces written, joined, are what the list writes for the pieces read, joined
  pub in_pieces_lem : (pieces : List (List ℕ)) → length (joined pieces) < 2 ^ 63 → in_pieces g pieces ≡ list_text g (joined pieces)
  unfolding in_pieces
  in_pieces_lem pieces b = let r = feed_joined fresh fresh-fed pieces in rw (r.0, r.1) (sym (list_text_lem g (joined pieces) b))

-- ---- totals

-- every reply is an answer or a refusal, and none is both
pub all_counted : (rs : List Reply) → answers rs + refusals rs ≡ length rs
unfolding answers refusals
all_counted [] = omega arith
all_counted (r ∷ rs) =
    either_way (λ p. cond p (suc (answers rs)) (answers rs) + cond p (refusals rs) (suc (refusals rs)) ≡ suc (length rs)) (is_answer r)
    (omega (arith, all_counted rs)) (omega (arith, all_counted rs))

-- ---- a line above 64 bytes

-- is refused 1, however long it is
pub long_line : (g : Grid) (line : List ℕ) → 64 < length line → reply_to g (request_in line) ≡ Reply.No (pos 1)
long_line g line h = ap (reply_to g) (too_long line h)
