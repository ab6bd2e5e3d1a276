-- A batch over a grid that passes: the answer or the refusal of request k is the reply to it.
use Prim.Native.Nat.{ℕ, zero, suc, ◌+◌, ◌*◌, ◌≤◌, ◌<◌}
use mathlib.Core.Path.{◌≡◌, refl, sym, ap, ◌∙◌}
use mathlib.Core.Bool.{Bool, true, false, cond}
use mathlib.Core.List.{List, [], ◌∷◌, ◌++◌, map, map-append}
use native.Mathlib.Omega.{arith}
use borrow.Author.Tests.{ne_eqb, le-ltb}
use lib.Dec.{eqb}
use lib.IntN.{ℤ, pos}
use lib.ListN.{length, take, get_or}
use lib.Seq.{get_or-take, length-take-le}
use Rattle.laws.specs.Logic.{either_way}
use Rattle.figures.specs.Outcome.{Outcome, answered, refused, map_answer}
use Rattle.figures.specs.Points.{point27, point83}
use Rattle.figures.specs.Points.{Point27}
use Rattle.figures.specs.Points.{Point83}
use Rattle.grid.specs.Grid.{Grid}
use Rattle.grid.specs.Check.{verdict, Passes}
use Rattle.shift.specs.Sign.{sign_of}
use Rattle.shift.proofs.SignLaws.{sign_told}
use Rattle.convert.specs.Points.{on_grid}
use Rattle.convert.specs.Convert.{shifted, to83, to27}
use Rattle.convert.specs.declared.Shifted.{Shifted}
use Rattle.convert.specs.Batch.{numbers_of, way_to83, way_to27, converted, request_outcome, room_for, converting, refusal_number, answers_to, refusals_to, answers_after, refusals_after}
use Rattle.convert.specs.declared.batch.Converted.{Converted}
use Rattle.convert.proofs.Each.{answer_at, refusal-at}
use Rattle.convert.proofs.Demands.{converts}
use Rattle.requests.specs.Replies.{said83, said27, reply_to}
use Rattle.requests.specs.declared.Reply.{Reply}
use Rattle.listing.specs.Filed.{max_batch, request_by}
use Rattle.listing.specs.Batch.{request_at, requests_of, shifted_at, point_at, reply_by, up_to}
use Rattle.listing.specs.declared.batch.Batch.{Batch}

-- ---- one request

-- the number of a refusal; an answer counts as 1 here
abbrev number_or : {A : Type 0} → Outcome A → ℕ
number_or (answered a) = 1
number_or (refused n k) = n

-- what stands in the places of request k, where `old` stood before
abbrev Stands : (l old : List ℤ) (k : ℕ) → Outcome Converted → Type 0
Stands l old k o = (i : ℕ) → i < 4 → get_or l (4 * k + i) (pos 0) ≡ get_or (numbers_of o) i (get_or old (4 * k + i) (pos 0))

first-place : (k : ℕ) → 4 * k + 0 ≡ 4 * k
first-place k = omega arith

module _ (l old : List ℤ) (k : ℕ) where
  said_83 : (u : Outcome Shifted) → 0 < number_or u → let o = map_answer Converted.In83 u in Stands l old k o
      → said83 u ≡ cond (eqb (refusal_number o) 0) (Reply.In83 (shifted_at l k)) (Reply.No (pos (refusal_number o)))
  said_83 (answered a) h r =
      let y = rw (first-place k) at (r 0 (omega arith)) in
      let x = r 1 (omega arith) in
      let s = ap sign_of (r 2 (omega arith)) ∙ sign_told a.signs.lat in
      let t = ap sign_of (r 3 (omega arith)) ∙ sign_told a.signs.lon in
      sym (λ i. Reply.In83 (record { point = point83 (y i) (x i); signs = record { lat = s i; lon = t i } }))
  said_83 (refused n j) h r = rw (ne_eqb n 0 (λ e. omega arith)) refl

  said_27 : (u : Outcome Point27) → 0 < number_or u → let o = map_answer Converted.In27 u in Stands l old k o
      → said27 u ≡ cond (eqb (refusal_number o) 0) (Reply.In27 (point_at l k)) (Reply.No (pos (refusal_number o)))
  said_27 (answered p) h r =
      let y = rw (first-place k) at (r 0 (omega arith)) in
      let x = r 1 (omega arith) in
      sym (λ i. Reply.In27 (point27 (y i) (x i)))
  said_27 (refused n j) h r = rw (ne_eqb n 0 (λ e. omega arith)) refl

-- replies by index
map-up_to : {A B : Type 0} (h : A → B) (f : ℕ → A) (r : ℕ → B) (n : ℕ) → ((k : ℕ) → k < n → h (f k) ≡ r k) → map h (up_to f n) ≡ up_to r n
map-up_to h f r zero e = refl
map-up_to h f r (suc n) e = map-append h (up_to f n) (f n ∷ []) ∙ (λ i. map-up_to h f r n (λ k b. e k (omega arith)) i ++ (e n (omega arith) i ∷ []))

module _ (g : Grid) (passes : Passes g) where
  -- no refusal has the number 0
  above_83 : (p : Point27) → 0 < number_or (to83 g p)
  unfolding to83
  above_83 p =
      let e : verdict g ≡ answered tt = passes in
      rw e (either_way (λ b. 0 < number_or (cond b (answered (shifted g p)) (refused 6 0))) (on_grid g.header p) (omega arith) (omega arith))

  above_27 : (f : Point83) → 0 < number_or (to27 g f)
  above_27 f = go (to27 g f) refl
    where
      go : (u : Outcome Point27) → to27 g f ≡ u → 0 < number_or u
      go (answered p) e = omega arith
      go (refused n k) e = omega (arith, ((converts g passes).refused_none f e).0)

  by_way : (w : ℕ) (y x : ℤ) (l old : List ℤ) (k : ℕ) (a b : Bool) → eqb w way_to83 ≡ a → eqb w way_to27 ≡ b → let o = converted g w y x in Stands l old k o
      → reply_to g (request_by w y x) ≡ reply_by w l k (refusal_number o)
  unfolding converted request_by reply_by
  by_way w y x l old k true b e f r = rw e (said_83 l old k (to83 g (point27 y x)) (above_83 (point27 y x)) (rw e at r))
  by_way w y x l old k false true e f r = rw (e, f) (said_27 l old k (to27 g (point83 y x)) (above_27 (point83 y x)) (rw (e, f) at r))
  by_way w y x l old k false false e f r = rw (e, f) refl

  -- ---- a batch, converted

  module _ (b : Batch) where
    abbrev o : ℕ → Outcome Converted
    o = request_outcome g (take b.lines b.ways) b.points

    abbrev comes : Outcome ℕ
    comes = converting g (take b.lines b.ways) b.points b.answers b.refusals

    module _ (few : b.lines ≤ max_batch) (w : length b.ways ≡ max_batch) (p : length b.points ≡ 2 * max_batch) (a : length b.answers ≡ 4 * max_batch) (r : length b.refusals ≡ max_batch) where
      all : comes ≡ answered b.lines
      unfolding converting room_for
      all =
          let e : verdict g ≡ answered tt = passes in
          let l : length (take b.lines b.ways) ≡ b.lines = length-take-le b.lines b.ways (omega arith) in
          let room : room_for b.lines b.points b.answers b.refusals ≡ answered b.lines =
          rw (le-ltb (length b.points) (2 * b.lines) (omega arith), le-ltb (length b.answers) (4 * b.lines) (omega arith), le-ltb (length b.refusals) b.lines (omega arith)) in
          rw (e, l) room

      module _ {answers' : List ℤ} {refusals' : List ℕ} (aa : answers' ≡ answers_after comes o b.answers) (rr : refusals' ≡ refusals_after comes o b.refusals) where
        filled : answers' ≡ answers_to o b.lines b.answers
        unfolding answers_after
        filled = aa ∙ ap (λ t. answers_after t o b.answers) all

        numbered : refusals' ≡ refusals_to o b.lines b.refusals
        unfolding refusals_after
        numbered = rr ∙ ap (λ t. refusals_after t o b.refusals) all

        one_reply : (k : ℕ) → k < b.lines → reply_to g (request_at b.ways b.points k) ≡ reply_by (get_or b.ways k 0) answers' k (get_or refusals' k 0)
        one_reply k h =
            let v = get_or b.ways k 0 in
            let y = get_or b.points (2 * k) (pos 0) in
            let x = get_or b.points (2 * k + 1) (pos 0) in
            let same : o k ≡ converted g v y x = ap (λ u. converted g u y x) (get_or-take b.lines b.ways k 0 h) in
            let st : Stands answers' b.answers k (converted g v y x) = λ i c.
            ap (λ m. get_or m (4 * k + i) (pos 0)) filled ∙ answer_at o b.lines k i b.answers h c (omega arith) ∙ ap (λ t. get_or (numbers_of t) i (get_or b.answers (4 * k + i) (pos 0))) same in
            let m : get_or refusals' k 0 ≡ refusal_number (converted g v y x) = ap (λ q. get_or q k 0) numbered ∙ refusal-at o b.lines k b.refusals h (omega arith) ∙ ap refusal_number same in
            by_way v y x answers' b.answers k (eqb v way_to83) (eqb v way_to27) refl refl st ∙ sym (ap (reply_by v answers' k) m)

        -- the replies to its lines are those to its requests
        pub replies_converted : up_to (λ k. reply_by (get_or b.ways k 0) answers' k (get_or refusals' k 0)) b.lines ≡ map (reply_to g) (requests_of b)
        replies_converted = sym (map-up_to (reply_to g) (request_at b.ways b.points) (λ k. reply_by (get_or b.ways k 0) answers' k (get_or refusals' k 0)) b.lines one_reply)
