-- What the private functions have done.
use Rattle.std.specs.Prelude.{ℕ, ◌*◌, ◌≤◌, ◌<◌, ◌≡◌, List, length, take}
use Rattle.writing.specs.Writing.{Put}
use Rattle.grid.specs.Grid.{Grid}
use Rattle.requests.specs.Replies.{max_text}
use Rattle.listing.specs.Pieces.{fed_text, fed_list}
use Rattle.list_state.specs.declared.Listing.{Listing}
use Rattle.listing.specs.declared.putting.Advance.{Advance}

-- a piece was fed to the list `s`, which is `t` now
pub record FedWhole (g : Grid) (s : Listing) (piece : List ℕ) (t : Listing) (room after : List ℕ) (bytes : ℕ) : Type 0 where
  pub next : t ≡ fed_list g s piece
  pub put : Put (fed_text g s piece) room after bytes
  pub small : length (fed_text g s piece) ≤ max_text * length piece

-- the front of a text was fed
pub record FedFront (g : Grid) (s : Listing) (text : List ℕ) (t : Listing) (room after : List ℕ) (r : Advance) : Type 0 where
  pub within : r.taken ≤ length text
  pub onward : 0 < length text → 0 < r.taken
  pub fed : FedWhole g s (take r.taken text) t room after r.bytes
