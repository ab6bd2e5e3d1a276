-- What a file comes to by its length.
use Rattle.std.proofs.Common.{ℕ, ◌≤◌, ◌<◌, min, ◌≡◌, List, length, take, lt-ltb, le-ltb}
use Rattle.std.proofs.lemmas.List.{take_min}
use Rattle.std.proofs.Math.Seq.{take-length}
use Rattle.std.specs.Prelude.{Some}
use Rattle.figures.specs.Outcome.{refused}
use Rattle.grid.specs.Grid.{Nodes}
use Rattle.grid_reader.specs.Reading.{reading}
use Rattle.grid_file.specs.File.{reading_file, reading_front}

module _ (n : ℕ) (room : List ℕ) (slices : Nodes) where
  pub too_long : 48000 < n → reading_front n room slices ≡ refused 9 48000
  unfolding reading_front
  too_long h = rw (lt-ltb 48000 n h)

  pub not_too_long : {m : ℕ} → n ≤ 48000 → m ≡ min n (length room) → reading_front n room slices ≡ reading (take m room) slices
  unfolding reading_front
  not_too_long h e = rw (le-ltb 48000 n h, e, take_min n room)

-- a room that has all of its bytes
pub all_in_front : (text : List ℕ) (slices : Nodes) → reading_front (length text) text slices ≡ reading_file (Some text) slices
unfolding reading_front reading_file
all_in_front text slices = rw (take-length text)
