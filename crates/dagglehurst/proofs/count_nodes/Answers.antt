use Rattle.std.proofs.Common.{sym, ap, ◌∙◌}
use Rattle.figures.specs.Outcome.{answered, map_answer}
use Rattle.grid.specs.Lent.{lent}
use Rattle.grid.specs.Rules.{node_count_or0}
use Rattle.grid.proofs.Passing.{good}
use Rattle.grid.proofs.RuleLaws.{node_count_is}
use Rattle.dagglehurst.proofs.count_nodes.Goals as goal

pub returns : goal.returns
returns c =
    let k = c.in_ok-check in
    let h = (lent k.field-0.grid).header in
    let e = c.node_count.ensures.0 ∙ sym (node_count_is h (good (lent k.field-0.grid) k.field-0.passes).unbroken) ∙ ap (λ g. node_count_or0 g.header) k.ensures.same in
    ap answered e ∙ ap (map_answer (λ passed. node_count_or0 c.args.grid.header)) k.ensures.verdict
