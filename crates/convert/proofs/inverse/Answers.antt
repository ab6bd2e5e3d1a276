use Rattle.std.proofs.Common.{arith, Bool, true, cond, ◌&&◌, Some, ◌≡◌, ap, ◌∙◌}
use Rattle.std.specs.Ordering.{int_eq}
use Rattle.figures.specs.Outcome.{answered, refused, refusal}
use Rattle.figures.specs.Points.{Point27, Point83}
use Rattle.figures.proofs.Laws.{at_exit, some_of, none_of}
use Rattle.figures.proofs.SameLaws.{eq83}
use Rattle.grid.specs.Grid.{Grid}
use Rattle.grid.specs.Lent.{lent}
use Rattle.grid.specs.Check.{Passes}
use Rattle.grid.specs.Rules.{shape}
use Rattle.grid.proofs.Passing.{good}
use Rattle.shift.specs.Shift.{shift_of}
use Rattle.shift.specs.declared.Shift.{Shift}
use Rattle.convert.specs.Points.{on_grid, east, north, answer_of, target_of}
use Rattle.convert.specs.Convert.{answer, to27}
use Rattle.convert.specs.Rounds.{candidate, settle, sought}
use Rattle.convert.specs.declared.offsets.Spot.{Spot}
use Rattle.convert.proofs.RoundLaws.{sought_passes}
use Rattle.convert.proofs.OnPassing.{shift_within}
use Rattle.convert.proofs.Candidate.{candidate_on}
use Rattle.convert.proofs.Places.{local, spans_small, point_within, target_at}
use Rattle.convert.proofs.inverse.Goals as goal

-- the candidate `p` with its shift `s`, and the answer `a` that they make
module _ (g : Grid) (f : Point83) (e : Passes g) {at : Spot} (t : Some at ≡ target_of g.header f) {p : Point27} {s : Shift} {a : Point83}
    (is : p ≡ candidate g at.x at.y) (told : s ≡ shift_of (shape g.header) g.nodes (east g.header p) (north g.header p)) (made : a ≡ answer_of p s) where
  settled : {b : Bool} → b ≡ (int_eq f.lat.0 a.lat.0 && int_eq f.lon.0 a.lon.0) → cond b (answered p) (refused 7 0) ≡ to27 g f
  unfolding sought answer
  settled q =
      ap (λ b. cond b (answered p) (refused 7 0)) (q ∙ eq83 f a)
      ∙ ap (λ (v : Point83). settle f v p) (made ∙ ap (answer_of p) told)
      ∙ ap (λ (v : Point27). settle f (answer g v) v) is
      ∙ sought_passes g f e t

pub candidate-requires : goal.candidate-requires
candidate-requires c =
    let k = c.args.checked in
    let t = target_at k.grid.header c.args.f (some_of _ c.in_ok-to.ensures.value ∙ c.target_of.ensures) in
    let w = spans_small (good _ k.passes).header in
    (omega (arith, t.small_x, w), omega (arith, t.small_y, w))

pub answer_of-answer-requires : goal.answer_of-answer-requires
answer_of-answer-requires c =
    let k = c.args.checked in
    let ok = good _ k.passes in
    let p = c.candidate.result.point in
    let o : on_grid k.grid.header p ≡ true = ap (on_grid k.grid.header) c.candidate.ensures.0 ∙ candidate_on (lent k.grid) ok.header _ _ in
    let l = local ok.header p o in
    let w = point_within ok.header p o in
    let s = shift_within ok l.on_east l.on_north c.candidate.ensures.1 in
    (w.0, w.1, s.0, s.1)

pub returns-in_err-to : goal.returns-in_err-to
unfolding sought
returns-in_err-to c =
    let k = c.args.checked in
    let t = none_of _ c.in_err-to.ensures.value in
    at_exit c.from_residual.result c.in_err-to.field-0.0 c.from_residual.ensures.1 ∙ ap (refusal) t.1 ∙ sought_passes (lent k.grid) c.args.f k.passes (t.0 ∙ c.target_of.ensures)

pub returns-then-eq : goal.returns-then-eq
returns-then-eq c =
    let k = c.args.checked in
    let n = c.candidate.ensures in
    settled (lent k.grid) c.args.f k.passes (some_of _ c.in_ok-to.ensures.value ∙ c.target_of.ensures) n.0 n.1 c.answer_of-answer.ensures c.if-eq.ensures

pub returns-else-eq : goal.returns-else-eq
returns-else-eq c =
    let k = c.args.checked in
    let n = c.candidate.ensures in
    settled (lent k.grid) c.args.f k.passes (some_of _ c.in_ok-to.ensures.value ∙ c.target_of.ensures) n.0 n.1 c.answer_of-answer.ensures c.if-eq.ensures
