use Rattle.std.proofs.Common.{◌+◌, ◌&&◌, ap, ◌∙◌}
use Rattle.grid.specs.Nodes.{steep_to, steep_north}
use Rattle.grid.proofs.NodeLaws.{north_there}
use Rattle.grid.proofs.component.Component.steep_north.Goals as goal

pub returns : goal.returns
unfolding steep_north
returns c =
    let g = c.args.self in
    let k = c.args.k in
    c.steep_to.ensures ∙ ap (λ t. t && steep_to g.shape.dlat g.shifts.now k (k + g.shape.cols)) (north_there g.judgeable k)
