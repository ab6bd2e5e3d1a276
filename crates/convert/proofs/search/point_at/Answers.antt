use Rattle.std.proofs.Common.{pos, ◌+ℤ◌, ap, ◌∙◌}
use Rattle.laws.specs.Expr.{reads, reads_within, bounded}
use Rattle.laws.specs.Circle.{place_of}
use Rattle.figures.specs.Points.{point27, half_turn27}
use Rattle.grid.proofs.Passing.{good}
use Rattle.convert.specs.Points.{point_at}
use Rattle.convert.proofs.Places.{corner_within}
use Rattle.convert.proofs.search.point_at.Goals as goal

pub moved-requires : goal.moved-requires
moved-requires c = (reads_within (bounded (corner_within (good _ c.args.checked.passes).header).0) tt, c.requires.1)

pub moved-requires-2 : goal.moved-requires-2
moved-requires-2 c = (reads_within (bounded (corner_within (good _ c.args.checked.passes).header).1) tt, c.requires.0)

pub returns : goal.returns
unfolding point_at
returns c =
    let k = corner_within (good _ c.args.checked.passes).header in
    let y = c.moved.ensures in
    let x = c.moved-2.ensures in
    let t = c.place_of.ensures in
    let p = reads (bounded y.1) tt ∙ y.0 ∙ ap (λ z. z +ℤ pos c.args.at.y) (reads (bounded k.0) tt) in
    let q = reads (bounded x.1) tt ∙ x.0 ∙ ap (λ z. z +ℤ pos c.args.at.x) (reads (bounded k.1) tt) in
    let r = reads (bounded t.1) tt ∙ t.0 ∙ ap (place_of half_turn27) q in
    c.new.ensures ∙ (λ i. point27 (p i) (r i))
