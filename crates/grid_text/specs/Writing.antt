-- Writing a grid (document 01, "When the answer is no": "Writing: 2, 5, 3, 4, 8"; and 14 directly after 4, document 02, request 11).
use Rattle.std.specs.Prelude.{ℕ, List}
use Rattle.figures.specs.Outcome.{Outcome, and_then}
use Rattle.writing.specs.Writing.{in_room}
use Rattle.grid.specs.Grid.{Grid}
use Rattle.grid.specs.Check.{verdict}
use Rattle.grid_text.specs.Text.{grid_text}

-- the checks, and then the room for the text
unfoldable pub writing : Grid → (room : List ℕ) → Outcome ℕ
writing g room = and_then (verdict g) (in_room (grid_text g) room)
