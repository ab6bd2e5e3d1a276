use Rattle.std.proofs.Common.{rules, ◌+◌, ◌*◌, add-one, refl, get_or, set, pos, FitsSigned, w64, to_z-of_z, ap, ◌∙◌}
use Rattle.grid.specs.Lent.{lent}
use Rattle.convert.specs.Batch.{converted, stored, refusal_number, answers_to, refusals_to}
use Rattle.convert.proofs.batch.fill.Goals as goal

pub loop-k-init : goal.loop-k-init
unfolding answers_to refusals_to
loop-k-init c = record { answered = refl; told = refl }

pub loop-k-preserved : goal.loop-k-preserved
unfolding answers_to refusals_to
loop-k-preserved c =
    let a = c.args in
    let l = c.loop-k in
    let y : FitsSigned w64 (get_or a.points.now (2 * l.k) (pos 0)) = search rules in
    let x : FitsSigned w64 (get_or a.points.now (2 * l.k + 1) (pos 0)) = search rules in
    let o = c.convert_one-answer.ensures ∙ (λ i. converted (lent a.checked.grid) (get_or a.ways.now l.k 0) (to_z-of_z y i) (to_z-of_z x i)) in
    record {
      answered = rw (add-one l.k) (c.store.ensures.answers ∙ (λ i. stored l.k (o i) (l.invariant.answered i)));
      told = rw (add-one l.k) (λ i. set (l.invariant.told i) l.k ((c.store.ensures.number ∙ ap refusal_number o) i));
    }
