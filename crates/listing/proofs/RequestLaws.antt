-- Request lines read into ways and points: what each asks there, and what the loop keeps.
use Prim.Native.Nat.{ℕ, zero, suc, ◌+◌, ◌*◌, ◌≤◌, ◌<◌}
use mathlib.Core.Path.{◌≡◌, refl, sym, ap, ◌∙◌}
use mathlib.Core.List.{List, [], ◌∷◌, ◌++◌}
use native.Mathlib.Omega.{arith}
use native.Mathlib.Numerals.{add-one}
use Rattle.std.specs.Prelude.{Option, Some, None}
use Rattle.std.specs.List.{position, position_or_len}
use lib.IntN.{ℤ, pos}
use lib.ListN.{length, take, drop, set, length-set, length-drop}
use lib.Seq.{get_or-set_same, get_or-set_other, take-add}
use Rattle.figures.specs.Outcome.{Outcome, answered, refused}
use Rattle.requests.specs.Requests.{request_in}
use Rattle.requests.proofs.Forms.{Formed, request_formed}
use Rattle.requests.specs.declared.Request.{Request}
use Rattle.list_state.specs.State.{fresh, held_line}
use Rattle.list_state.specs.declared.Listing.{Listing}
use Rattle.list_state.proofs.Holding.{held_of}
use Rattle.listing.specs.Lines.{requests_in, rest}
use Rattle.listing.specs.Filed.{max_batch, is_newline, filed, pair_put, request_by}
use Rattle.listing.specs.Batch.{request_at, up_to, BatchRead}
use Rattle.listing.specs.declared.batch.Batch.{Batch}
use Rattle.listing.proofs.Cuts.{requests_cut, rest_cut}
use Rattle.listing.proofs.Steps.{newline_at, to_newline}

pub up_to_same : {A : Type 0} (f g : ℕ → A) (n : ℕ) → ((k : ℕ) → k < n → f k ≡ g k) → up_to f n ≡ up_to g n
up_to_same f g zero h = refl
up_to_same f g (suc n) h = λ i. up_to_same f g n (λ k b. h k (omega arith)) i ++ (h n (omega arith) i ∷ [])

-- ---- one line

-- it asks what was read
filed_asks : (q : Outcome Request) → Formed q → let f = filed q in request_by f.way f.lat f.lon ≡ q
unfolding request_by
filed_asks (answered (Request.To83 p)) e = refl
filed_asks (answered (Request.To27 f)) e = refl
filed_asks (refused n place) e = e

module _ (k j : ℕ) (ways : List ℕ) (points : List ℤ) (w : ℕ) (y x : ℤ) where
  abbrev m : List ℤ
  m = set points (2 * k) y

  put_here : j ≡ k → k < length ways → 2 * k + 1 < length points → request_at (set ways k w) (pair_put k y x points) j ≡ request_by w y x
  put_here e g h =
      let a = get_or-set_same ways k w 0 g in
      let b = get_or-set_other m (2 * k + 1) (2 * k) x (pos 0) (λ e. omega arith) ∙ get_or-set_same points (2 * k) y (pos 0) (omega arith) in
      let d = get_or-set_same m (2 * k + 1) x (pos 0) (omega (arith, length-set points (2 * k) y)) in
      rw e (λ i. request_by (a i) (b i) (d i))

  -- and the lines before it ask what they asked
  put_other : j < k → request_at (set ways k w) (pair_put k y x points) j ≡ request_at ways points j
  put_other g =
      let a = get_or-set_other ways k j w 0 (λ e. omega arith) in
      let b = get_or-set_other m (2 * k + 1) (2 * j) x (pos 0) (λ e. omega arith) ∙ get_or-set_other points (2 * k) (2 * j) y (pos 0) (λ e. omega arith) in
      let d = get_or-set_other m (2 * k + 1) (2 * j + 1) x (pos 0) (λ e. omega arith) ∙ get_or-set_other points (2 * k) (2 * j + 1) y (pos 0) (λ e. omega arith) in
      λ i. request_by (a i) (b i) (d i)

pub no_some : (o : Option ℕ) → ((n : ℕ) → o ≡ Some n → ⊥) → o ≡ None
no_some (Some n) h = absurd (h n refl)
no_some None h = refl

-- ---- what the loop keeps

pub record ReadSoFar (s : Listing) (text ways : List ℕ) (points : List ℤ) (line : Listing) (k taken : ℕ) : Type 0 where
  pub within : taken ≤ length text
  pub counts : k ≤ taken
  pub begun : k ≡ 0 → taken ≡ 0
  pub left : rest (held_line s) (take taken text) ≡ held_line line
  pub ended : 0 < k → held_line line ≡ []
  pub asks : requests_in (held_line s) (take taken text) ≡ up_to (request_at ways points) k
  pub ways_long : length ways ≡ max_batch
  pub points_long : length points ≡ 2 * max_batch

pub read_none : (s : Listing) (text ways : List ℕ) (points : List ℤ) → length ways ≡ max_batch → length points ≡ 2 * max_batch → ReadSoFar s text ways points s 0 0
unfolding requests_in rest
read_none s text ways points w p = record {
  within = omega arith;
  counts = omega arith;
  begun = λ e. refl;
  left = refl;
  ended = λ e. absurd (omega arith);
  asks = refl;
  ways_long = w;
  points_long = p;
}

module _ {s : Listing} (text : List ℕ) {ways : List ℕ} {points : List ℤ} {line : Listing} {k taken : ℕ} (f : ReadSoFar s text ways points line k taken) where
  back : List ℕ
  back = drop taken text

  -- one line more
  module _ {n : ℕ} (found : position is_newline (drop taken text) ≡ Some n) {q : Outcome Request} (asks : q ≡ request_in (held_line line ++ take n (drop taken text)))
      {ways' : List ℕ} {points' : List ℤ} (way : ways' ≡ set ways k (filed q).way) (point : points' ≡ pair_put k (filed q).lat (filed q).lon points)
      (b : k < max_batch) {next : Listing} (new : next ≡ fresh) where
    at : (n ≡ position_or_len is_newline back) × (n < length back)
    unfolding back
    at = newline_at (drop taken text) found

    front : List ℕ
    front = take (suc n) back

    joined : take (taken + (n + 1)) text ≡ take taken text ++ front
    unfolding front back
    joined = rw add-one (take-add taken (suc n) text)

    line_ends : (requests_in (held_line line) front ≡ q ∷ []) × (rest (held_line line) front ≡ [])
    unfolding front back
    line_ends = let e = to_newline (held_line line) back n at.0 at.1 in (e.0 ∙ ap (λ r. r ∷ []) (sym asks), e.1)

    empty : held_line next ≡ []
    empty = ap held_line new ∙ held_of [] fresh.totals (omega arith)

    same : up_to (request_at ways points) k ≡ up_to (request_at ways' points') k
    same = up_to_same (request_at ways points) (request_at ways' points') k (λ j g. rw (way, point) (sym (put_other k j ways points (filed q).way (filed q).lat (filed q).lon g)))

    this : q ≡ request_at ways' points' k
    this = rw (way, point) (sym (put_here k k ways points (filed q).way (filed q).lat (filed q).lon refl (omega (arith, f.ways_long)) (omega (arith, f.points_long)) ∙ filed_asks q (rw asks (request_formed (held_line line ++ take n (drop taken text))))))

    pub read_more : ReadSoFar s text ways' points' next (k + 1) (taken + (n + 1))
    unfolding back
    read_more = record {
      within = omega (arith, at.1, length-drop taken text);
      counts = omega (arith, f.counts);
      begun = λ z. absurd (omega arith);
      left = ap (rest (held_line s)) joined ∙ rest_cut (held_line s) (take taken text) front ∙ ap (λ l. rest l front) f.left ∙ line_ends.1 ∙ sym empty;
      ended = λ z. empty;
      asks = rw (add-one k) (ap (requests_in (held_line s)) joined ∙ requests_cut (held_line s) (take taken text) front
          ∙ (λ i. (f.asks ∙ same) i ++ (ap (λ l. requests_in l front) f.left ∙ line_ends.0 ∙ ap (λ r. r ∷ []) this) i));
      ways_long = rw way (length-set ways k (filed q).way ∙ f.ways_long);
      points_long = rw point (length-set (set points (2 * k) (filed q).lat) (2 * k + 1) (filed q).lon ∙ length-set points (2 * k) (filed q).lat ∙ f.points_long);
    }

  -- no further line ends, or the batch is full
  pub read_all : (b : Batch) → b.ways ≡ ways → b.points ≡ points → b.lines ≡ k → (k ≡ 0 → position is_newline (drop taken text) ≡ None) → BatchRead s text b taken
  read_all b w p l n = record {
    within = f.within;
    counts = omega (arith, f.counts);
    none = λ z. rw (f.begun (sym l ∙ z)) at (n (sym l ∙ z));
    ended = λ g. f.left ∙ f.ended (omega arith);
    asks = rw (w, p, l) f.asks;
  }
