use Rattle.std.proofs.Common.{◌≡◌, true, false, ltb, ◌&&◌, to_z-of_z, sym, ap, ◌∙◌}
use borrow.Author.Tests.{lt-ltb, le-ltb}
use Rattle.laws.specs.Circle.{distance}
use Rattle.figures.specs.Points.{half_turn83}
use Rattle.order.specs.Standings.{is_east}
use Rattle.order.proofs.standing.is_east.Goals as goal

pub returns-then-way-gt0 : goal.returns-then-way-gt0
unfolding is_east
returns-then-way-gt0 c =
    let d = distance half_turn83 c.args.u c.args.v in
    let e = c.distance-way.ensures ∙ (λ i. distance half_turn83 (to_z-of_z c.ranges.u i) (to_z-of_z c.ranges.v i)) in
    let t : ltb 0 d ≡ true = lt-ltb 0 d (rw e at c.if-way-gt0.true) in
    rw e (ap (λ b. b && ltb d half_turn83) (sym t))

pub returns-else-way-gt0 : goal.returns-else-way-gt0
unfolding is_east
returns-else-way-gt0 c =
    let d = distance half_turn83 c.args.u c.args.v in
    let e = c.distance-way.ensures ∙ (λ i. distance half_turn83 (to_z-of_z c.ranges.u i) (to_z-of_z c.ranges.v i)) in
    let t : ltb 0 d ≡ false = le-ltb 0 d (rw e at c.if-way-gt0.false) in
    rw e (t ∙ ap (λ b. b && ltb d half_turn83) (sym t))
