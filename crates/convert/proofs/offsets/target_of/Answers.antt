use Rattle.std.proofs.Common.{arith, rules, ℕ, ℤ, pos, ◌+◌, ◌*◌, ◌+ℤ◌, ◌*ℤ◌, ◌≡◌, Option, FitsSigned, w64, to_z-of_z, ap, ◌∙◌}
use Rattle.laws.specs.Parts.{Within}
use Rattle.laws.specs.Expr.{machine, reads, reads_within, bounded}
use Rattle.laws.specs.Bounds.{own_size, widen}
use Rattle.laws.specs.Circle.{names, place_of, names_it, place_named}
use Rattle.figures.specs.Points.{Point83, half_turn83}
use Rattle.grid.specs.Nodes.{max_shift}
use Rattle.grid.specs.Rules.{minus}
use Rattle.grid.specs.declared.Header.{Header}
use Rattle.grid.proofs.RuleLaws.{RulesHold}
use Rattle.grid.proofs.Passing.{good}
use Rattle.convert.specs.Points.{width, height, offset, arc_offset, both_at, least_answer, target_of}
use Rattle.convert.proofs.Places.{half83, corner_within, arc_from}
use Rattle.convert.proofs.offsets.target_of.Goals as goal

-- a distance between edges, as answers have it
stretched : {s w r : ℕ} → s ≡ w → r ≡ 100 * s + 2 * max_shift → r ≡ 100 * w + 2 * max_shift
stretched e f = omega (arith, e, f)

-- how far east and north the figure is, as the code has worked it out
module _ {h : Header} (k : RulesHold h) (f : Point83) where
  east_is : {x : Option ℕ} {v : ℤ} {n : ℕ} → FitsSigned w64 f.lon.0 → n ≡ 100 * width h + 2 * max_shift
      → (v ≡ place_of half_turn83 (pos 100 *ℤ machine h.west.0 +ℤ minus max_shift)) × Within 64800000000 v
      → x ≡ arc_offset half_turn83 (machine v) n (machine f.lon.0)
      → x ≡ arc_offset half_turn83 (least_answer h.west.0) (100 * width h + 2 * max_shift) f.lon.0
  east_is {v = v} u e l r =
      let w = reads (bounded l.1) tt ∙ l.0 ∙ ap (λ z. place_of half_turn83 (least_answer z)) (reads (bounded (corner_within k).1) tt) in
      r ∙ (λ i. arc_offset half_turn83 (w i) (e i) (to_z-of_z u i)) ∙ arc_from half83 (least_answer h.west.0) _ f.lon.0

  north_is : {y : Option ℕ} {v : ℤ} {n : ℕ} → FitsSigned w64 f.lat.0 → n ≡ 100 * height h + 2 * max_shift
      → (v ≡ pos 100 *ℤ machine h.south.0 +ℤ minus max_shift) × Within 100006000000 v
      → y ≡ offset (machine v) n (machine f.lat.0)
      → y ≡ offset (least_answer h.south.0) (100 * height h + 2 * max_shift) f.lat.0
  north_is u e l r =
      let s = reads (bounded l.1) tt ∙ l.0 ∙ ap least_answer (reads (bounded (corner_within k).0) tt) in
      r ∙ (λ i. offset (s i) (e i) (to_z-of_z u i))

pub place83-least_lon-requires : goal.place83-least_lon-requires
place83-least_lon-requires c = (reads_within (bounded (corner_within (good _ c.args.checked.passes).header).1) tt, own_size (minus max_shift))

pub hundredfold-least_lat-requires : goal.hundredfold-least_lat-requires
hundredfold-least_lat-requires c = (reads_within (bounded (widen (corner_within (good _ c.args.checked.passes).header).0 tt)) tt, own_size (minus max_shift))

pub arc_offset-requires : goal.arc_offset-requires
arc_offset-requires c =
    let r = c.place83-least_lon.ensures in
    (omega arith, ap (names half_turn83) (reads (bounded r.1) tt ∙ r.0) ∙ names_it (place_named half83 _))

pub returns-in_err-x : goal.returns-in_err-x
unfolding target_of
returns-in_err-x c =
    let h = c.args.checked.grid.header in
    let k = (good _ c.args.checked.passes).header in
    let x = east_is k c.args.f (search rules) (stretched c.width.ensures.0 c.reach.ensures.0) c.place83-least_lon.ensures c.in_err-x.ensures in
    c.from_residual.ensures ∙ ap (λ x. both_at x (offset (least_answer h.south.0) (100 * height h + 2 * max_shift) c.args.f.lat.0)) x

pub returns-in_err-y : goal.returns-in_err-y
unfolding target_of
returns-in_err-y c =
    let k = (good _ c.args.checked.passes).header in
    let x = east_is k c.args.f (search rules) (stretched c.width.ensures.0 c.reach.ensures.0) c.place83-least_lon.ensures c.in_ok-x.ensures in
    let y = north_is k c.args.f (search rules) (stretched c.height.ensures.0 c.reach-2.ensures.0) c.hundredfold-least_lat.ensures c.in_err-y.ensures in
    c.from_residual-in_err-y.ensures ∙ (λ i. both_at (x i) (y i))

pub returns : goal.returns
unfolding target_of
returns c =
    let k = (good _ c.args.checked.passes).header in
    let x = east_is k c.args.f (search rules) (stretched c.width.ensures.0 c.reach.ensures.0) c.place83-least_lon.ensures c.in_ok-x.ensures in
    let y = north_is k c.args.f (search rules) (stretched c.height.ensures.0 c.reach-2.ensures.0) c.hundredfold-least_lat.ensures c.in_ok-y.ensures in
    (λ i. both_at (x i) (y i))
