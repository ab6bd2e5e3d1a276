-- Demand 2: "A sheet text that is accepted, read and written again is the same text. A sheet that passes the checks, written and read
-- again, is the same sheet." And document 01: "no acceptable sheet is longer" than 48,000 bytes.
use Prim.Native.Nat.{ℕ, ◌≤◌}
use mathlib.Core.Path.{◌≡◌, sym, ap, ◌∙◌, subst}
use mathlib.Core.List.{List}
use lib.ListN.{length}
use Rattle.figures.specs.Outcome.{Outcome, answered, and_then}
use Rattle.grid.specs.Grid.{Nodes, Grid, trimmed}
use Rattle.grid.specs.Check.{Passes}
use Rattle.grid.proofs.Passing.{good}
use Rattle.grid_text.specs.Text.{grid_text}
use Rattle.grid_text.proofs.Lengths.{text-length}
use Rattle.grid_reader.specs.Reading.{reading}
use Rattle.text_round_trip.proofs.Accepted.{accepted}
use Rattle.text_round_trip.proofs.ReadBack.{read_back}

module _ (text : List ℕ) (slices : Nodes) (g : Grid) (e : reading text slices ≡ answered g) where
  pub text_returns : grid_text g ≡ text
  text_returns = sym (accepted text slices g e).same

  pub accepted_passes : Passes g
  accepted_passes = (accepted text slices g e).passes

  pub at_most_48000 : length text ≤ 48000
  at_most_48000 = subst (λ (t : List ℕ). length t ≤ 48000) text_returns (text-length g accepted_passes)

-- the first rows × cols elements of its slices are its nodes
pub grid_returns : (g : Grid) → Passes g → reading (grid_text g) g.nodes ≡ answered (trimmed g)
grid_returns g p = read_back g p g.nodes ∙ ap (λ (o : Outcome Unit). and_then o (answered (trimmed g))) (good g p).laid_out
