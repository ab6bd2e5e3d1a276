-- Writing a text into lent room (document 01, "When the answer is no": 8).
use Rattle.std.specs.Prelude.{ℕ, ◌+◌, ◌≤◌, min, ◌≡◌, List, ◌++◌, ltb, length, take, drop, Result}
use Rattle.std.specs.Fn.{Shared}
use denote.Ref.{MutBor}
use Rattle.laws.specs.Over.{over}
use Rattle.figures.specs.Outcome.{Outcome, answered, refused, outcome, refuse_if}
use Rattle.figures.specs.declared.Refusal.{Refusal}

-- a number of bytes as it can be told, at most 2 ^ 64 − 1
abbrev pub saturated : ℕ → ℕ
saturated n = min n 18446744073709551615

-- "the lent room for text is too short", with the bytes needed; else the number of bytes that were written
unfoldable pub in_room : (text room : List ℕ) → Outcome ℕ
in_room text room = refuse_if (ltb (length room) (length text)) 8 (saturated (length text)) (answered (length text))

-- "the text takes the front of the room and the bytes behind it stay"; after a refusal the room is as it was
unfoldable pub room_after : Outcome ℕ → (text room : List ℕ) → List ℕ
room_after (answered n) text room = over text room
room_after (refused n k) text room = room

-- ---- what a writer answers

-- the room `before` was lent for a text, is `after` now, and the answer is `r`
pub record Wrote (text before after : List ℕ) (r : Result ℕ Refusal) : Type 0 where
  pub answer : outcome r ≡ in_room text before
  pub room : after ≡ room_after (in_room text before) text before

-- ---- a text of parts, each written into what the one before it left of the room

-- its bytes were counted; where the room has them all they were also written, and a room of none is enough to count
pub record Put (text before after : List ℕ) (count : ℕ) : Type 0 where
  pub counted : count ≡ saturated (length text)
  pub kept : length after ≡ length before
  pub wrote : length text ≤ length before → after ≡ over text before

-- the same of a part, by a writer that was told the place where it stands and kept what is before it; the answer is the place behind it
pub record Added (part : List ℕ) (at : ℕ) (before after : List ℕ) (end : ℕ) : Type 0 where
  pub counted : end ≡ saturated (at + length part)
  pub kept : length after ≡ length before
  pub wrote : at + length part ≤ length before → after ≡ take at before ++ over part (drop at before)

module _ {F : Type 0} (g : Shared F (MutBor (List ℕ) × Unit {0}) (ℕ × (MutBor (List ℕ) × Unit {0}))) (f : F) where
  -- each call of `f`, at any room, puts the text
  pub record Puts (text : List ℕ) : Type 0 where
    pub each : (before after : MutBor (List ℕ)) (count : ℕ) → g.post f (before, tt) (count, (after, tt)) → Put text before.now after.now count

  -- a call of `f`, which tells what holds whatever the room is
  pub record Called : Type 0 where
    pub before : MutBor (List ℕ)
    pub after : MutBor (List ℕ)
    pub count : ℕ
    pub met : g.post f (before, tt) (count, (after, tt))
