use Rattle.std.proofs.Common.{rules, ltb, FitsSigned, w64, to_z-of_z, ◌∙◌}
use Rattle.laws.specs.Circle.{distance}
use Rattle.figures.specs.Points.{half_turn27}
use Rattle.figures.proofs.SameLaws.{one_axis}
use Rattle.order.specs.Standings.{standing_by, circle_standing}
use Rattle.order.specs.Comparing.{order_of}
use Rattle.order.proofs.StandingLaws.{distances_stand}
use Rattle.order.proofs.parallel_order.Goals as goal

pub returns : goal.returns
returns c =
    let s = c.args in
    let w : FitsSigned w64 s.west.0 = search rules in
    let p : FitsSigned w64 s.p.lon.0 = search rules in
    let q : FitsSigned w64 s.q.lon.0 = search rules in
    let a : FitsSigned w64 s.a.lon.0 = search rules in
    let b : FitsSigned w64 s.b.lon.0 = search rules in
    let e = c.eq.ensures ∙ one_axis _ _ in
    let x = c.distance-p_east.ensures ∙ (λ i. distance half_turn27 (to_z-of_z w i) (to_z-of_z p i)) in
    let y = c.distance-q_east.ensures ∙ (λ i. distance half_turn27 (to_z-of_z w i) (to_z-of_z q i)) in
    let points = c.cmp.ensures ∙ distances_stand c.distance-p_east.result c.distance-q_east.result ∙ (λ i. standing_by ltb (x i) (y i)) in
    let answers = c.circle_standing-answers.ensures ∙ (λ i. circle_standing (to_z-of_z a i) (to_z-of_z b i)) in
    c.order_of.ensures ∙ (λ i. order_of (e i) (points i) (answers i))
