-- Laws of a list in lent memory: of its line, and of the memory from call to call.
use Prim.Native.Nat.{ℕ, ◌≤◌}
use mathlib.Core.Path.{◌≡◌, refl, ap, ◌∙◌}
use mathlib.Core.List.{List, ◌∷◌}
use native.Mathlib.Omega.{arith}
use lib.ListN.{length, take, length-take}
use lib.Seq.{take_all, length-take-le}
use lib.IntN.{ℤ, pos}
use Rattle.laws.specs.Over.{over, over-take}
use Rattle.grid.specs.Grid.{Grid}
use Rattle.list_state.specs.State.{listing_of, fresh, held_line}
use Rattle.listing.specs.Pieces.{fed_list}
use Rattle.list_state.specs.declared.Listing.{Listing}
use Rattle.listing.proofs.Cuts.{held_fed}
use Rattle.dagglehurst.specs.Pieces.{line_length, list_in, state_of}

-- ---- its line

-- 65 bytes of it are all of it
pub whole-line : (x : ℤ) (line : List ℕ) {n : ℕ} → n ≡ line_length x → 65 ≤ length line → take 65 (take n line) ≡ take (line_length x) line
whole-line x line {n} e h =
    take_all 65 (take n line) (omega (arith, length-take-le n line (omega arith))) ∙ ap (λ k. take k line) e

pub held_short : (s : Listing) → length (held_line s) ≤ 65
held_short s = simp length-take (omega arith)

-- ---- the memory from call to call

-- three zeros are a list that no byte was fed to
pub fresh_in : (line : List ℕ) (more : List ℤ) → list_in line (pos 0 ∷ pos 0 ∷ pos 0 ∷ more) ≡ fresh
unfolding list_in
fresh_in line more = refl

-- a list after a piece is all in its line and totals
whole-fed : (g : Grid) (s : Listing) (piece : List ℕ) → listing_of (held_line (fed_list g s piece)) (fed_list g s piece).totals ≡ fed_list g s piece
unfolding fed_list
whole-fed g s piece = ap (λ l. listing_of l (fed_list g s piece).totals) (held_fed g s piece)

-- the memory that a piece leaves is the list that it came to: the next call goes on from there
pub handed_on : (g : Grid) (s : Listing) (piece : List ℕ) (line : List ℕ) (state : List ℤ) → let next = fed_list g s piece in list_in (over (held_line next) line) (over (state_of next) state) ≡ next
unfolding list_in over
handed_on g s piece line state =
    let next = fed_list g s piece in
    let e : line_length (pos (length (held_line next))) ≡ length (held_line next) = omega (arith, held_short next) in
    ap (λ l. listing_of l next.totals) (ap (λ k. take k (over (held_line next) line)) e ∙ over-take (held_line next) line (length (held_line next)) refl) ∙ whole-fed g s piece
