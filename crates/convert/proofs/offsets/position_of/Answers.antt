use Rattle.std.proofs.Common.{arith, rules, ℕ, ◌≡◌, Option, FitsSigned, w64, to_z-of_z, ap, ◌∙◌}
use Rattle.laws.specs.Expr.{machine, reads, reads_within, bounded}
use Rattle.laws.specs.Bounds.{widen}
use Rattle.laws.specs.Circle.{names, names_it}
use Rattle.figures.specs.Points.{Point27, half_turn27}
use Rattle.grid.specs.declared.Header.{Header}
use Rattle.grid.proofs.RuleLaws.{RulesHold}
use Rattle.grid.proofs.Passing.{good}
use Rattle.convert.specs.Points.{width, height, offset, arc_offset, both_at, position_of}
use Rattle.convert.proofs.Places.{corner_within, west_named}
use Rattle.convert.proofs.offsets.position_of.Goals as goal

-- how far east and north the point is, as the code has worked it out
module _ {h : Header} (k : RulesHold h) (p : Point27) where
  east_is : {x : Option ℕ} {w : ℕ} → FitsSigned w64 p.lon.0 → w ≡ width h → x ≡ arc_offset half_turn27 (machine h.west.0) w (machine p.lon.0)
      → x ≡ arc_offset half_turn27 h.west.0 (width h) p.lon.0
  east_is f e r = r ∙ (λ i. arc_offset half_turn27 (reads (bounded (corner_within k).1) tt i) (e i) (to_z-of_z f i))

  north_is : {y : Option ℕ} {n : ℕ} → FitsSigned w64 p.lat.0 → n ≡ height h → y ≡ offset (machine h.south.0) n (machine p.lat.0) → y ≡ offset h.south.0 (height h) p.lat.0
  north_is f e r = r ∙ (λ i. offset (reads (bounded (corner_within k).0) tt i) (e i) (to_z-of_z f i))

pub arc_offset-requires : goal.arc_offset-requires
arc_offset-requires c =
    let k = (good _ c.args.checked.passes).header in
    (omega arith, ap (names half_turn27) (reads (bounded (corner_within k).1) tt) ∙ names_it (west_named k))

pub offset_of-requires : goal.offset_of-requires
offset_of-requires c =
    (reads_within (bounded (widen (corner_within (good _ c.args.checked.passes).header).0 tt)) tt, omega (arith, c.height.ensures.1))

pub returns-in_err-x : goal.returns-in_err-x
unfolding position_of
returns-in_err-x c =
    let h = c.args.checked.grid.header in
    let k = (good _ c.args.checked.passes).header in
    let x = east_is k c.args.p (search rules) c.width.ensures.0 c.in_err-x.ensures in
    c.from_residual.ensures ∙ ap (λ x. both_at x (offset h.south.0 (height h) c.args.p.lat.0)) x

pub returns-in_err-y : goal.returns-in_err-y
unfolding position_of
returns-in_err-y c =
    let k = (good _ c.args.checked.passes).header in
    let x = east_is k c.args.p (search rules) c.width.ensures.0 c.in_ok-x.ensures in
    let y = north_is k c.args.p (search rules) c.height.ensures.0 c.in_err-y.ensures in
    c.from_residual-in_err-y.ensures ∙ (λ i. both_at (x i) (y i))

pub returns : goal.returns
unfolding position_of
returns c =
    let k = (good _ c.args.checked.passes).header in
    let x = east_is k c.args.p (search rules) c.width.ensures.0 c.in_ok-x.ensures in
    let y = north_is k c.args.p (search rules) c.height.ensures.0 c.in_ok-y.ensures in
    (λ i. both_at (x i) (y i))
