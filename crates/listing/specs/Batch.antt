-- A batch of request lines side by side: their ways and their numbers, as `convert` takes them; their answers and the numbers of their
-- refusals, as it answers them.
use Rattle.std.specs.Prelude.{ℕ, zero, suc, ◌+◌, ◌*◌, ◌≤◌, ◌<◌, ◌≡◌, cond, List, [], ◌∷◌, ◌++◌, eqb, length, take, get_or, ℤ, pos, None}
use Rattle.std.specs.List.{position}
use Rattle.figures.specs.Outcome.{Outcome}
use Rattle.figures.specs.Points.{point27, point83}
use Rattle.figures.specs.Points.{Point27}
use Rattle.writing.specs.Writing.{Put}
use Rattle.shift.specs.Sign.{sign_of}
use Rattle.convert.specs.Batch.{way_to83}
use Rattle.convert.specs.declared.Shifted.{Shifted}
use Rattle.requests.specs.Replies.{max_text}
use Rattle.requests.specs.declared.Request.{Request}
use Rattle.requests.specs.declared.Reply.{Reply}
use Rattle.list_state.specs.State.{held_line}
use Rattle.list_state.specs.declared.Listing.{Listing}
use Rattle.list_state.specs.declared.Totals.{Totals}
use Rattle.listing.specs.Lines.{requests_in, rest, texts}
use Rattle.listing.specs.Pieces.{counted_all}
use Rattle.listing.specs.Filed.{is_newline, request_by}
use Rattle.listing.specs.declared.batch.Batch.{Batch}

-- the first n of them
abbrev pub up_to : {A : Type 0} → (f : ℕ → A) (n : ℕ) → List A
up_to f zero = []
up_to f (suc n) = up_to f n ++ (f n ∷ [])

-- ---- what the lines ask

abbrev pub request_at : (ways : List ℕ) (points : List ℤ) (k : ℕ) → Outcome Request
request_at ways points k = request_by (get_or ways k 0) (get_or points (2 * k) (pos 0)) (get_or points (2 * k + 1) (pos 0))

abbrev pub requests_of : Batch → List (Outcome Request)
requests_of b = up_to (request_at b.ways b.points) b.lines

-- ---- the replies to them

-- the answer of request k from its places: four in NAD 83, and two in NAD 27
abbrev pub shifted_at : (answers : List ℤ) (k : ℕ) → Shifted
shifted_at answers k =
    record {
      point = point83 (get_or answers (4 * k) (pos 0)) (get_or answers (4 * k + 1) (pos 0));
      signs = record { lat = sign_of (get_or answers (4 * k + 2) (pos 0)); lon = sign_of (get_or answers (4 * k + 3) (pos 0)) };
    }

abbrev pub point_at : (answers : List ℤ) (k : ℕ) → Point27
point_at answers k = point27 (get_or answers (4 * k) (pos 0)) (get_or answers (4 * k + 1) (pos 0))

-- by the way of a request, its answer, and the number of its refusal or 0
unfoldable pub reply_by : (way : ℕ) (answers : List ℤ) (k number : ℕ) → Reply
reply_by way answers k number =
    cond (eqb number 0) (cond (eqb way way_to83) (Reply.In83 (shifted_at answers k)) (Reply.In27 (point_at answers k))) (Reply.No (pos number))

abbrev pub reply_at : Batch → (k : ℕ) → Reply
reply_at b k = reply_by (get_or b.ways k 0) b.answers k (get_or b.refusals k 0)

abbrev pub replies_of : Batch → List Reply
replies_of b = up_to (reply_at b) b.lines

-- ---- what the steps have done

-- the first lines that end in a text were read
pub record BatchRead (s : Listing) (text : List ℕ) (b : Batch) (taken : ℕ) : Type 0 where
  pub within : taken ≤ length text
  pub counts : b.lines ≤ taken
  pub none : b.lines ≡ 0 → position is_newline text ≡ None
  pub ended : 0 < b.lines → rest (held_line s) (take taken text) ≡ []
  pub asks : requests_in (held_line s) (take taken text) ≡ requests_of b

-- n replies were written and counted
pub record RepliesPut (rs : List Reply) (n : ℕ) (before after : Totals) (room room' : List ℕ) (bytes : ℕ) : Type 0 where
  pub totals : after ≡ counted_all before rs
  pub put : Put (texts rs) room room' bytes
  pub small : length (texts rs) ≤ max_text * n
