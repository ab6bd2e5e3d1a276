use Rattle.std.proofs.Common.{arith, ◌+◌, ltb, length, sym, ◌∙◌}
use Rattle.laws.specs.Logic.{and_last, and_implied, both}
use Rattle.grid.specs.Nodes.{has_east, steep_to, steep_east}
use Rattle.grid.proofs.NodeLaws.{east_there}
use Rattle.grid.proofs.component.Component.steep_east.Goals as goal

pub returns-then-steep_to : goal.returns-then-steep_to
unfolding steep_east
returns-then-steep_to c =
    let g = c.args.self in
    let k = c.args.k in
    let e = both (ltb (k + 1) (length g.shifts.now)) (steep_to g.shape.dlon g.shifts.now k (k + 1)) (sym c.steep_to.ensures ∙ c.if-steep_to.true) in
    and_last _ e.1 c.has_east.ensures

pub returns-else-steep_to : goal.returns-else-steep_to
unfolding steep_east
returns-else-steep_to c =
    let g = c.args.self in
    let k = c.args.k in
    c.if-steep_to.false
    ∙ sym
    (and_implied (has_east g.shape k) (steep_to g.shape.dlon g.shifts.now k (k + 1)) (ltb (k + 1) (length g.shifts.now))
    (east_there g.judgeable k (omega (arith, g.sizes.cols_low)) c.requires) (sym c.steep_to.ensures ∙ c.if-steep_to.false))
