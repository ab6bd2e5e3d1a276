-- Each answer of the writer is the one that the definitions name.
use Prim.Native.Nat.{ℕ}
use mathlib.Core.Path.{◌≡◌, refl}
use mathlib.Core.List.{List}
use Rattle.std.specs.Prelude.{Result}
use Rattle.figures.specs.Outcome.{refused, outcome}
use Rattle.figures.specs.declared.Refusal.{Refusal}
use Rattle.writing.specs.Writing.{room_after, Wrote}
use Rattle.writing.proofs.Laws.{wrote_room}
use Rattle.grid.specs.Grid.{Grid}
use Rattle.grid.specs.Check.{verdict, Passes}
use Rattle.grid_text.specs.Text.{grid_text}
use Rattle.grid_text.specs.Writing.{writing}

module _ (g : Grid) (room : List ℕ) where
  pub checks_refuse : {n k : ℕ} → refused n k ≡ verdict g → (refused n k ≡ writing g room) × (room ≡ room_after (refused n k) (grid_text g) room)
  unfolding writing room_after
  checks_refuse e = (rw (← e), refl)

  pub checks_pass : {after : List ℕ} {r : Result ℕ Refusal} → Passes g → Wrote (grid_text g) room after r → (outcome r ≡ writing g room) × (after ≡ room_after (outcome r) (grid_text g) room)
  unfolding writing
  checks_pass e w = (rw e w.answer, wrote_room w)
