use Rattle.std.proofs.Common.{refl, ◌∙◌}
use Rattle.grid.specs.Lent.{lent}
use Rattle.grid.specs.Rules.{shape}
use Rattle.shift.proofs.OnGrid.{exact_shift}
use Rattle.convert.proofs.search.with_shift.Goals as goal

pub returns : goal.returns
returns c =
    let g = lent c.args.checked.grid in
    (refl, c.rounded_shift.ensures ∙ exact_shift (shape g.header) g.nodes c.args.at.x c.args.at.y c.exact_at.ensures.0)
