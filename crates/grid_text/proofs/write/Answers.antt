use Rattle.std.proofs.Common.{arith, rules}
use Rattle.figures.proofs.Laws.{at_exit}
use Rattle.grid.specs.Lent.{lent}
use Rattle.grid_text.specs.Text.{grid_text}
use Rattle.grid_text.proofs.Lengths.{text-length}
use Rattle.grid_text.proofs.Answers.{checks_refuse, checks_pass}
use Rattle.grid_text.proofs.write.Goals as goal

pub returns-in_err-checked : goal.returns-in_err-checked
returns-in_err-checked c =
    let g = lent c.args.grid in
    let e = at_exit c.from_residual.result _ c.from_residual.ensures.1 in
    let r = checks_refuse g c.args.room.now c.in_err-checked.ensures.verdict in
    rw e record { answer = r.0; text = r.1 }

pub returns : goal.returns
returns c =
    let k = c.in_ok-checked.checked in
    let same = c.in_ok-checked.ensures.same in
    let w =
    c.write.ensures.wrote (grid_text (lent k.grid)) (record { each = λ before after n q. search rules })
    (λ h. omega (arith, text-length (lent k.grid) k.passes)) in
    let r = checks_pass (lent c.args.grid) c.args.room.now (rw same at k.passes) (rw same at w) in
    record { answer = r.0; text = r.1 }
