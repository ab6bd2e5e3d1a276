-- A point's answer in a lent slice: latitude and longitude, and the number of the sign of each on the way to NAD 83.
use Rattle.std.specs.Prelude.{ℕ, List, ltb, length, ℤ}
use Rattle.laws.specs.Over.{over}
use Rattle.figures.specs.Outcome.{Outcome, answered, refused, refuse_if}

-- an answer needs room for its numbers: 8 with how many these are, after the refusals of converting
unfoldable pub fitted : Outcome (List ℤ) → (room : List ℤ) → Outcome (List ℤ)
fitted (answered numbers) room = refuse_if (ltb (length room) (length numbers)) 8 (length numbers) (answered numbers)
fitted (refused n k) room = refused n k

-- one point was answered
abbrev pub one : List ℤ → ℕ
one numbers = 1

-- the answer takes the front of the room; after a refusal the room is as it was
unfoldable pub answer_after : Outcome (List ℤ) → (room : List ℤ) → List ℤ
answer_after (answered numbers) room = over numbers room
answer_after (refused n k) room = room
