-- The list in pieces: what a piece of the requests adds to a list, and how it ends.
use Rattle.std.specs.Prelude.{ℕ, zero, suc, cond, List, ◌++◌, eqb, take, ℤ, pos}
use Rattle.figures.specs.Outcome.{Outcome, answered, refused, and_then}
use Rattle.writing.specs.Writing.{in_room}
use Rattle.grid.specs.Grid.{Grid}
use Rattle.grid.specs.Check.{verdict}
use Rattle.requests.specs.Replies.{reply_text}
use Rattle.requests.specs.declared.Reply.{Reply}
use Rattle.listing.specs.Lines.{replies, rest, texts, answers, refusals}
use Rattle.list_state.specs.State.{one_more, counted, totals_reply, listing_of, held_line}
use Rattle.list_state.specs.declared.Listing.{Listing}
use Rattle.list_state.specs.declared.Totals.{Totals}

-- ---- totals

-- so many lines more
abbrev pub raised : ℤ → (by : ℕ) → ℤ
raised x zero = x
raised x (suc n) = raised (one_more x) n

-- all lines that were replied to
abbrev pub counted_all : Totals → List Reply → Totals
counted_all t rs = record { answered = raised t.answered (answers rs); refused = raised t.refused (refusals rs) }

-- ---- what a piece adds

unfoldable pub fed_replies : Grid → Listing → (piece : List ℕ) → List Reply
fed_replies g s piece = replies g (held_line s) piece

unfoldable pub fed_text : Grid → Listing → (piece : List ℕ) → List ℕ
fed_text g s piece = texts (fed_replies g s piece)

-- a line above 64 bytes is refused whatever it is, so 65 of its bytes are enough
unfoldable pub fed_list : Grid → Listing → (piece : List ℕ) → Listing
fed_list g s piece = listing_of (take 65 (rest (held_line s) piece)) (counted_all s.totals (fed_replies g s piece))

-- 2, 5, 3, 4, 14, then 8
unfoldable pub feeding : Grid → Listing → (piece room : List ℕ) → Outcome ℕ
feeding g s piece room = and_then (verdict g) (in_room (fed_text g s piece) room)

-- where a piece is refused, the list stays
abbrev pub list_after : Outcome ℕ → (next now : Listing) → Listing
list_after (answered n) next now = next
list_after (refused n k) next now = now

-- ---- the end

unfoldable pub end_text : Listing → List ℕ
end_text s =
    let t = s.totals in
    cond (eqb s.length 0)
    (reply_text (totals_reply t))
    (reply_text (Reply.No (pos 1)) ++ reply_text (totals_reply (counted t (Reply.No (pos 1)))))
