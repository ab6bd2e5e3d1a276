-- Laws of a batch: one request by its way, how many numbers an answer has, the lengths of what is filled, and the slices that have room.
use Prim.Native.Nat.{ℕ, zero, suc, ◌*◌, ◌≤◌}
use mathlib.Core.Path.{◌≡◌, refl, sym, ap, ◌∙◌}
use mathlib.Core.Bool.{Bool, true, false, cond}
use mathlib.Core.List.{List}
use native.Mathlib.Omega.{arith}
use borrow.Author.Tests.{ltb-false}
use lib.Dec.{eqb, ltb}
use lib.IntN.{ℤ}
use lib.ListN.{length, length-set}
use lib.Seq.{length-sets}
use Rattle.figures.specs.Outcome.{Outcome, answered, refused, map_answer}
use Rattle.figures.specs.Points.{point27, point83}
use Rattle.figures.proofs.Laws.{not_refused, same_answer}
use Rattle.grid.specs.Grid.{Grid}
use Rattle.convert.specs.Convert.{to83, to27}
use Rattle.convert.specs.Batch.{way_of, converted, room_for, numbers_of, refusal_number, answers_to, refusals_to}
use Rattle.convert.specs.declared.batch.Converted.{Converted}
use Rattle.convert.specs.declared.batch.Way.{Way}

pub few_numbers : (o : Outcome Converted) → length (numbers_of o) ≤ 4
few_numbers (answered (Converted.In83 a)) = omega arith
few_numbers (answered (Converted.In27 p)) = omega arith
few_numbers (refused n k) = omega arith

module _ (o : ℕ → Outcome Converted) where
  pub length-answers_to : (k : ℕ) (l : List ℤ) → length (answers_to o k l) ≡ length l
  unfolding answers_to
  length-answers_to zero l = refl
  length-answers_to (suc k) l = length-sets (answers_to o k l) (4 * k) (numbers_of (o k)) ∙ length-answers_to k l

  pub length-refusals_to : (k : ℕ) (l : List ℕ) → length (refusals_to o k l) ≡ length l
  unfolding refusals_to
  length-refusals_to zero l = refl
  length-refusals_to (suc k) l = length-set (refusals_to o k l) k (refusal_number (o k)) ∙ length-refusals_to k l

-- ---- one request

-- by a way, or by none
abbrev pub by_way : Grid → (y x : ℤ) → Outcome Way → Outcome Converted
by_way g y x (answered Way.To83) = map_answer Converted.In83 (to83 g (point27 y x))
by_way g y x (answered Way.To27) = map_answer Converted.In27 (to27 g (point83 y x))
by_way g y x (refused n k) = refused n k

pub by_number : (g : Grid) (way : ℕ) (y x : ℤ) {o : Outcome Way} → o ≡ way_of way → by_way g y x o ≡ converted g way y x
unfolding converted
by_number g way y x e = ap (by_way g y x) e ∙ go (eqb way 1) (eqb way 2)
  where
    go : (s t : Bool) → by_way g y x (cond s (answered Way.To83) (cond t (answered Way.To27) (refused 1 0)))
        ≡ cond s (by_way g y x (answered Way.To83)) (cond t (by_way g y x (answered Way.To27)) (refused 1 0))
    go true t = refl
    go false true = refl
    go false false = refl

-- ---- what has been found to have room

pub record Roomy (n : ℕ) (points answers : List ℤ) (refusals : List ℕ) (m : ℕ) : Type 0 where
  pub points_fit : 2 * n ≤ length points
  pub answers_fit : 4 * n ≤ length answers
  pub refusals_fit : n ≤ length refusals
  pub all : m ≡ n

pub roomy : (n : ℕ) (points answers : List ℤ) (refusals : List ℕ) {m : ℕ} → answered m ≡ room_for n points answers refusals → Roomy n points answers refusals m
unfolding room_for
roomy n points answers refusals e =
    let p = not_refused (ltb (length points) (2 * n)) _ _ _ (sym e) in
    let a = not_refused (ltb (length answers) (4 * n)) _ _ _ p.1 in
    let r = not_refused (ltb (length refusals) n) _ _ _ a.1 in
    record { points_fit = ltb-false _ _ p.0; answers_fit = ltb-false _ _ a.0; refusals_fit = ltb-false _ _ r.0; all = sym (same_answer r.1) }
