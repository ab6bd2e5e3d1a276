use Rattle.std.proofs.Common.{arith, lt-ltb, ap, ◌∙◌}
use Rattle.laws.specs.Expr.{reads, bounded, ◌⊖◌}
use Rattle.grid.specs.Nodes.{too_much, steep_to}
use Rattle.grid.proofs.NodeLaws.{in_component}
use Rattle.grid.proofs.component.Component.steep_to.Goals as goal

pub returns-then-to-self : goal.returns-then-to-self
unfolding steep_to
returns-then-to-self c =
    let a = c.args in
    let at = in_component a.self.judgeable in
    rw (lt-ltb _ _ c.if-to-self.true)
    (c.too_much.ensures ∙ ap (too_much 16 a.spacing) (reads (bounded (at a.to c.if-to-self.true) ⊖ bounded (at a.k (omega arith))) tt))
