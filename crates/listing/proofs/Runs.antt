-- A piece fed batch by batch: a batch is the front of a text, fed, and what the loop over the batches keeps.
use Prim.Native.Nat.{ℕ, ◌+◌, ◌-◌, ◌*◌, ◌^◌, ◌≤◌, ◌<◌}
use mathlib.Core.Path.{◌≡◌, refl, sym, ap, subst, ◌∙◌}
use mathlib.Core.List.{List, [], ◌++◌, append-nil, map}
use native.Mathlib.Omega.{arith}
use native.Mathlib.Nat.{le_refl}
use borrow.Rule.Slice.PartMut.{mid_of}
use Rattle.std.specs.Prelude.{None}
use Rattle.std.specs.List.{position}
use Rattle.std.proofs.Common.{drop-drop}
use lib.ListN.{length, take, drop, length-append, length-drop}
use lib.Seq.{take_all, take-add, length-take-le}
use Rattle.writing.specs.Writing.{Put, Added}
use Rattle.writing.proofs.Laws.{rest-lent, put_nothing, put_added}
use Rattle.grid.specs.Grid.{Grid}
use Rattle.requests.specs.Replies.{max_text, reply_to}
use Rattle.requests.specs.declared.Reply.{Reply}
use Rattle.list_state.specs.State.{listing_of, held_line}
use Rattle.list_state.specs.declared.Listing.{Listing}
use Rattle.list_state.specs.declared.Totals.{Totals}
use Rattle.listing.specs.Lines.{requests_in, replies, rest, texts, answers, refusals}
use Rattle.listing.specs.Pieces.{fed_replies, fed_text, fed_list}
use Rattle.listing.specs.Filed.{is_newline}
use Rattle.listing.specs.Batch.{requests_of, BatchRead, RepliesPut}
use Rattle.listing.specs.Needs.{FedFront, FedWhole}
use Rattle.listing.specs.declared.batch.Batch.{Batch}
use Rattle.listing.specs.declared.putting.Advance.{Advance}
use Rattle.listing.proofs.Cuts.{cut_text, cut_list}
use Rattle.listing.proofs.Steps.{no_newline}

-- ---- a batch of lines

module _ (g : Grid) (s : Listing) (text : List ℕ) where
  -- no line ends: the bytes are held
  module _ (h : position is_newline text ≡ None) where
    all : take (length text) text ≡ text
    all = take_all (length text) text (le_refl (length text))

    no_replies : fed_replies g s (take (length text) text) ≡ []
    unfolding fed_replies replies
    no_replies = ap (λ qs. map (reply_to g) qs) (ap (requests_in (held_line s)) all ∙ (no_newline (held_line s) text h).0)

    held_text : fed_text g s (take (length text) text) ≡ []
    unfolding fed_text texts
    held_text = ap texts no_replies

    held_list : listing_of (take 65 (held_line s ++ text)) s.totals ≡ fed_list g s (take (length text) text)
    unfolding fed_list answers refusals
    held_list = rw (no_replies, all, (no_newline (held_line s) text h).1)

    pub fed_held : (room : List ℕ) {t : Listing} → t ≡ listing_of (take 65 (held_line s ++ text)) s.totals → FedFront g s text t room room (record { taken = length text; bytes = 0 })
    fed_held room p = record {
      within = omega arith;
      onward = λ k. k;
      fed = record { next = p ∙ held_list; put = rw held_text (put_nothing room); small = rw held_text (omega arith) };
    }

  -- lines that were read, converted and replied to
  pub fed_batch : {b : Batch} {rs : List Reply} {n taken bytes : ℕ} {room after : List ℕ} {u : Totals} {t : Listing} → BatchRead s text b taken → (b.lines ≡ 0 → ⊥) → n ≡ b.lines → rs ≡ map (reply_to g) (requests_of b)
      → RepliesPut rs n s.totals u room after bytes → t ≡ listing_of [] u → FedFront g s text t room after (record { taken = taken; bytes = bytes })
  unfolding fed_text fed_list fed_replies replies
  fed_batch {n = n} {taken = k} {bytes} {room} {after} {u} r h l e p z =
      let q = subst (λ rs. RepliesPut rs n s.totals u room after bytes) (e ∙ sym (ap (map (reply_to g)) r.asks)) p in
      record {
        within = r.within;
        onward = λ _. omega (arith, h, r.counts);
        fed = record {
          next = z ∙ (λ i. listing_of (take 65 (sym (r.ended (omega (arith, h))) i)) (q.totals i));
          put = q.put;
          small = omega (arith, q.small, r.counts, length-take-le k text r.within);
        };
      }

-- ---- the loop

-- of a piece the bytes before `rest` were fed to the list s, and t has come of it
pub record FedSoFar (g : Grid) (s : Listing) (piece before : List ℕ) (t : Listing) (rest now : List ℕ) (bytes : ℕ) : Type 0 where
  pub within : length rest ≤ length piece
  pub behind : rest ≡ drop (length piece - length rest) piece
  pub fed : FedWhole g s (take (length piece - length rest) piece) t before now bytes

module _ (g : Grid) where
  no_text : (s : Listing) → fed_text g s [] ≡ []
  unfolding fed_text fed_replies replies requests_in texts
  no_text s = refl

  -- a list to which nothing was added
  fed-nothing : (s : Listing) → listing_of (take 65 (held_line s ++ [])) s.totals ≡ fed_list g s []
  unfolding fed_list fed_replies replies requests_in rest answers refusals
  fed-nothing s = ap (λ v. listing_of (take 65 v) s.totals) (append-nil (held_line s))

  pub fed-none : (s : Listing) (piece room : List ℕ) {t : Listing} → t ≡ listing_of (take 65 (held_line s ++ [])) s.totals → FedSoFar g s piece room t piece room 0
  fed-none s piece room e =
      let z : length piece - length piece ≡ 0 = omega arith in
      record {
        within = omega arith;
        behind = rw z refl;
        fed = rw z (record { next = e ∙ fed-nothing s; put = rw (no_text s) (put_nothing room); small = rw (no_text s) (omega arith) });
      }

  -- one batch more: the front of what is left of the piece was fed
  module _ {s t u : Listing} {before now after : List ℕ} {bytes n : ℕ} (b : length before < 2 ^ 63) where
    both : {v : List ℕ} (w : List ℕ) → FedWhole g s v t before now bytes → u ≡ fed_list g t w → Added (fed_text g t w) bytes now after n → length (fed_text g t w) ≤ max_text * length w → FedWhole g s (v ++ w) u before after n
    both {v} w f l a h =
        let text : fed_text g s (v ++ w) ≡ fed_text g s v ++ fed_text g t w = cut_text g s v w ∙ ap (λ x. fed_text g s v ++ fed_text g x w) (sym f.next) in
        record {
          next = l ∙ ap (λ x. fed_list g x w) f.next ∙ sym (cut_list g s v w);
          put = rw text (put_added f.put a b);
          small = rw text (omega (arith, length-append (fed_text g s v) (fed_text g t w), length-append v w, f.small));
        }

    pub fed_more : {piece rest room back : List ℕ} {r : Advance} → FedSoFar g s piece before t rest now bytes → FedFront g t rest u room back r → ((part : List ℕ) → Put part room back r.bytes → Added part bytes now after n)
        → FedSoFar g s piece before u (mid_of r.taken (length rest - r.taken) rest) after n
    fed_more {piece} {rest} {r = r} f p a =
        let k = length piece - length rest in
        let back : mid_of r.taken (length rest - r.taken) rest ≡ drop r.taken rest = rest-lent r.taken rest in
        let d : length (drop r.taken rest) ≡ length rest - r.taken = length-drop r.taken rest in
        let e : length piece - (length rest - r.taken) ≡ k + r.taken = omega (arith, p.within, f.within) in
        let fed : take (k + r.taken) piece ≡ take k piece ++ take r.taken rest = take-add k r.taken piece ∙ ap (λ x. take k piece ++ take r.taken x) (sym f.behind) in
        rw back (record {
          within = omega (arith, d, f.within);
          behind = rw (d, e) (simp drop-drop at (ap (drop r.taken) f.behind));
          fed = rw (d, e, fed) (both (take r.taken rest) f.fed p.fed.next (a (fed_text g t (take r.taken rest)) p.fed.put) p.fed.small);
        })

  pub fed_all : {s t : Listing} {piece before rest now : List ℕ} {bytes : ℕ} → FedSoFar g s piece before t rest now bytes → length rest ≡ 0 → FedWhole g s piece t before now bytes
  fed_all {piece = piece} {rest = rest} f z = rw (take_all (length piece - length rest) piece (omega arith)) at f.fed
