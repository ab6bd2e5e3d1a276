-- A list as plain memory: the first bytes of its line under way, and three numbers, how many bytes these are, the lines answered and the
-- lines refused. Every memory of enough elements is taken as a list.
use Rattle.std.specs.Prelude.{ℕ, min, List, [], ◌∷◌, ltb, length, take, ℤ, pos}
use Rattle.laws.specs.Parts.{pos_part}
use Rattle.laws.specs.Over.{over}
use Rattle.figures.specs.Outcome.{Outcome, answered, refused, refuse_if, and_then}
use Rattle.writing.specs.Writing.{in_room}
use Rattle.grid.specs.Grid.{Grid}
use Rattle.grid.specs.Check.{verdict}
use Rattle.list_state.specs.State.{listing_of, held_line}
use Rattle.listing.specs.Pieces.{fed_text, end_text}
use Rattle.list_state.specs.declared.Listing.{Listing}
use Rattle.dagglehurst.specs.Header.{number}

-- a length below 0 counts as 0, and one above 65 as 65
abbrev pub line_length : ℤ → ℕ
line_length x = min (pos_part x) 65

unfoldable pub list_in : (line : List ℕ) → (state : List ℤ) → Listing
list_in line state =
    listing_of (take (line_length (number state 0)) line) (record { answered = number state 1; refused = number state 2 })

abbrev pub state_of : Listing → List ℤ
state_of s = pos (length (held_line s)) ∷ s.totals.answered ∷ s.totals.refused ∷ []

-- 8 with the elements needed: 65 bytes for the line, then three numbers
unfoldable pub lent : (line : List ℕ) → (state : List ℤ) → Outcome Unit
lent line state = refuse_if (ltb (length line) 65) 8 65 (refuse_if (ltb (length state) 3) 8 3 (answered tt))

-- 2, 5, 3, 4, 14, then 8 for the list's memory, then 8 for the room
unfoldable pub feeding_in : Grid → (line : List ℕ) → (state : List ℤ) → (piece room : List ℕ) → Outcome ℕ
feeding_in g line state piece room = and_then (verdict g) (and_then (lent line state) (in_room (fed_text g (list_in line state) piece) room))

unfoldable pub finishing_in : (line : List ℕ) → (state : List ℤ) → (room : List ℕ) → Outcome ℕ
finishing_in line state room = and_then (lent line state) (in_room (end_text (list_in line state)) room)

-- the numbers of the list take the front of their slice; after a refusal the slice is as it was
unfoldable pub state_after : Outcome ℕ → Listing → (state : List ℤ) → List ℤ
state_after (answered n) s state = over (state_of s) state
state_after (refused n k) s state = state
