-- What a round trip comes to.
use Rattle.std.specs.Prelude.{Bool, true, false, ◌&&◌}
use Rattle.figures.specs.Outcome.{Outcome, answered, refused, and_then, map_answer}
use Rattle.figures.specs.Same.{same27}
use Rattle.figures.specs.Points.{Point27, Point83}
use Rattle.grid.specs.Grid.{Grid}
use Rattle.convert.specs.Convert.{answer_signs, to83, to27}
use Rattle.convert.specs.declared.Shifted.{Shifted}

-- "That answer, taken back on the same sheet, gives exactly that point"
unfoldable pub comes_back : Grid → Point27 → Outcome Point27
comes_back g p = and_then (to83 g p) (answered p)

-- the point that a figure is taken back to has it as its answer, with its own signs
unfoldable pub goes_again : Grid → Point83 → Outcome Shifted
goes_again g f = map_answer (λ (p : Point27). record { point = f; signs = answer_signs g p }) (to27 g f)

abbrev pub is_answered : {A : Type 0} → Outcome A → Bool
is_answered (answered a) = true
is_answered (refused n k) = false

-- "No two points share an answer"
unfoldable pub one_answer : Grid → (p q : Point27) → Bool
one_answer g p q = is_answered (to83 g p) && same27 p q
