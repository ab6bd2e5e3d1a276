-- A batch of requests, converted with one check of the grid. "answers and refusal numbers side by side": the answers stand in a slice, four
-- places for each, the numbers of the refusals in one of their own.
use Rattle.std.specs.Prelude.{ℕ, zero, suc, ◌+◌, ◌*◌, cond, List, [], ltb, eqb, length, get_or, set, ℤ, pos}
use Rattle.std.proofs.lemmas.List.Edits.{sets}
use Rattle.figures.specs.Outcome.{Outcome, answered, refused, refuse_if, and_then, map_answer}
use Rattle.figures.specs.Points.{point27, point83}
use Rattle.grid.specs.Grid.{Grid}
use Rattle.grid.specs.Check.{verdict}
use Rattle.convert.specs.Convert.{to83, numbers83, numbers27, to27}
use Rattle.convert.specs.declared.batch.Converted.{Converted}
use Rattle.convert.specs.declared.batch.Way.{Way}

-- ---- one request

-- the numbers of the ways. 0 is none, so that ways that nobody has filled in are refused
abbrev pub way_to83 : ℕ
way_to83 = 1

abbrev pub way_to27 : ℕ
way_to27 = 2

abbrev pub number_of : Way → ℕ
number_of Way.To83 = way_to83
number_of Way.To27 = way_to27

-- "a way that does not exist refused 1"
abbrev pub way_of : (number : ℕ) → Outcome Way
way_of n = cond (eqb n way_to83) (answered Way.To83) (cond (eqb n way_to27) (answered Way.To27) (refused 1 0))

-- what two numbers come to by a way
unfoldable pub converted : Grid → (way : ℕ) → (y x : ℤ) → Outcome Converted
converted g way y x =
    cond (eqb way way_to83) (map_answer Converted.In83 (to83 g (point27 y x)))
    (cond (eqb way way_to27) (map_answer Converted.In27 (to27 g (point83 y x))) (refused 1 0))

-- ---- a batch

-- a request for each way, with its two numbers: what request `k` comes to
abbrev pub request_outcome : Grid → (ways : List ℕ) → (points : List ℤ) → (k : ℕ) → Outcome Converted
request_outcome g ways points k = converted g (get_or ways k 0) (get_or points (2 * k) (pos 0)) (get_or points (2 * k + 1) (pos 0))

-- n requests need 2n numbers, 4n more for their answers and n for their refusals: 8 with the elements needed
unfoldable pub room_for : (n : ℕ) → (points answers : List ℤ) → (refusals : List ℕ) → Outcome ℕ
room_for n points answers refusals =
    refuse_if (ltb (length points) (2 * n)) 8 (2 * n)
    (refuse_if (ltb (length answers) (4 * n)) 8 (4 * n)
    (refuse_if (ltb (length refusals) n) 8 n (answered n)))

-- 2, 5, 3, 4, 14, then 8; else the number of requests
unfoldable pub converting : Grid → (ways : List ℕ) → (points answers : List ℤ) → (refusals : List ℕ) → Outcome ℕ
converting g ways points answers refusals = and_then (verdict g) (room_for (length ways) points answers refusals)

-- ---- what stands in the slices afterwards

-- the numbers of an answer; a refusal has none
abbrev pub numbers_of : Outcome Converted → List ℤ
numbers_of (answered (Converted.In83 a)) = numbers83 a
numbers_of (answered (Converted.In27 p)) = numbers27 p
numbers_of (refused n k) = []

-- the numbers of request `k` from the first of its four places on; what they do not reach stays as it was
abbrev pub stored : (k : ℕ) → Outcome Converted → List ℤ → List ℤ
stored k o answers = sets answers (4 * k) (numbers_of o)

-- the number of a request's refusal, or 0
abbrev pub refusal_number : Outcome Converted → ℕ
refusal_number (answered a) = 0
refusal_number (refused n k) = n

-- after the first `k` requests, of which each comes to its outcome in `o`
unfoldable pub answers_to : (o : ℕ → Outcome Converted) → (k : ℕ) → List ℤ → List ℤ
answers_to o zero answers = answers
answers_to o (suc k) answers = stored k (o k) (answers_to o k answers)

unfoldable pub refusals_to : (o : ℕ → Outcome Converted) → (k : ℕ) → List ℕ → List ℕ
refusals_to o zero refusals = refusals
refusals_to o (suc k) refusals = set (refusals_to o k refusals) k (refusal_number (o k))

-- a call that is refused changes nothing
unfoldable pub answers_after : Outcome ℕ → (o : ℕ → Outcome Converted) → List ℤ → List ℤ
answers_after (answered n) o answers = answers_to o n answers
answers_after (refused n k) o answers = answers

unfoldable pub refusals_after : Outcome ℕ → (o : ℕ → Outcome Converted) → List ℕ → List ℕ
refusals_after (answered n) o refusals = refusals_to o n refusals
refusals_after (refused n k) o refusals = refusals
