-- What a list has come to: the line under way, and the totals.
use Rattle.std.specs.Prelude.{ℕ, min, cond, List, [], length, take, replicate, ℤ, pos, ◌+ℤ◌}
use Rattle.std.specs.Int.Signed.{lt_z}
use Rattle.laws.specs.Over.{over}
use Rattle.requests.specs.Replies.{is_answer}
use Rattle.requests.specs.declared.Reply.{Reply}
use Rattle.list_state.specs.declared.Listing.{Listing}
use Rattle.list_state.specs.declared.Totals.{Totals}

-- ---- totals

-- a total of lines is at most 2 ^ 63 − 1
unfoldable pub one_more : ℤ → ℤ
one_more x = cond (lt_z x (pos 9223372036854775807)) (x +ℤ pos 1) x

-- one line more
abbrev pub counted : Totals → Reply → Totals
counted t r =
    cond (is_answer r) (record { answered = one_more t.answered; refused = t.refused })
    (record { answered = t.answered; refused = one_more t.refused })

-- "`done` gives lines answered and lines refused."
abbrev pub totals_reply : Totals → Reply
totals_reply t = Reply.Done t.answered t.refused

-- ---- a list

-- with the line `line` under way
abbrev pub listing_of : (line : List ℕ) → Totals → Listing
listing_of l t = record { held = over l (replicate 65 0); length = length l; totals = t }

abbrev pub fresh : Listing
fresh = listing_of [] (record { answered = pos 0; refused = pos 0 })

-- the bytes of the line that has not ended, 65 at the most
abbrev pub held_line : Listing → List ℕ
held_line s = take (min s.length 65) s.held
