use Rattle.std.proofs.Common.{◌≡◌, [], ◌∷◌, length, to_z, ap, ◌∙◌, arith, rules}
use Rattle.std.specs.Int.{w64}
use lib.Seq.{sets}
use Rattle.laws.specs.Expr.{machine}
use Rattle.list_state.specs.State.{held_line}
use Rattle.dagglehurst.specs.Pieces.{state_of}
use Rattle.dagglehurst.proofs.Laws.{front_sets}
use Rattle.dagglehurst.proofs.ListLaws.{held_short}
use Rattle.dagglehurst.proofs.memory.put_list.Goals as goal

pub returns-clause-line : goal.returns-clause-line
returns-clause-line c =
    let l = held_line c.args.list in
    c.put_all.ensures ∙ ap (λ w. sets c.args.line.now 0 w) c.line-held.ensures ∙ front_sets l c.args.line.now (omega (arith, held_short c.args.list))

pub returns-clause-state : goal.returns-clause-state
returns-clause-state c =
    let t = c.args.list.totals in
    let e : (to_z w64 (length c.line-held.result.now) ∷ machine t.answered ∷ machine t.refused ∷ []) ≡ state_of c.args.list = search rules in
    c.put_all-2.ensures ∙ ap (λ w. sets c.args.state.now 0 w) e ∙ front_sets (state_of c.args.list) c.args.state.now c.requires.1
