-- What a program read of a grid's file (document 01, "When the answer is no"): 9 where "the sheet file can't be read, or is longer than
-- 48,000 bytes", at "0, or 48000".
use Rattle.std.specs.Prelude.{List, ℕ, Option, Some, None, length, ltb, take}
use Rattle.figures.specs.Outcome.{Outcome, refused, refuse_if}
use Rattle.grid.specs.Grid.{Nodes, Grid}
use Rattle.grid_reader.specs.Reading.{reading}

-- its bytes, or none where it can't be read, read into the lent slices
unfoldable pub reading_file : Option (List ℕ) → (slices : Nodes) → Outcome Grid
reading_file None slices = refused 9 0
reading_file (Some text) slices = refuse_if (ltb 48000 (length text)) 9 48000 (reading text slices)

-- a file of so many bytes, of which the room has the first
unfoldable pub reading_front : (n : ℕ) → (room : List ℕ) → (slices : Nodes) → Outcome Grid
reading_front n room slices = refuse_if (ltb 48000 n) 9 48000 (reading (take n room) slices)
