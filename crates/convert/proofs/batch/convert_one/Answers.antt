use Rattle.std.proofs.Common.{to_z-of_z, ap, sym, ◌∙◌}
use Rattle.figures.specs.Outcome.{answered, map_answer}
use Rattle.figures.specs.Points.{point27, point83}
use Rattle.figures.proofs.Laws.{at_exit}
use Rattle.grid.specs.Lent.{lent}
use Rattle.convert.specs.Convert.{to83, to27}
use Rattle.convert.specs.declared.batch.Converted.{Converted}
use Rattle.convert.proofs.BatchLaws.{by_number}
use Rattle.convert.proofs.batch.convert_one.Goals as goal

pub returns-in_err-try_from : goal.returns-in_err-try_from
returns-in_err-try_from c =
    let a = c.args in at_exit c.from_residual.result c.in_err-try_from.field-0.0 c.from_residual.ensures.1 ∙ by_number (lent a.checked.grid) a.way a.y a.x c.in_err-try_from.ensures

pub returns-in_err-forward-in-To83 : goal.returns-in_err-forward-in-To83
returns-in_err-forward-in-To83 c =
    let a = c.args in
    let g = lent a.checked.grid in
    let w = ap (answered) (sym c.in-To83.is) ∙ c.in_ok-try_from.ensures in
    let p = c.new.ensures ∙ (λ i. point27 (to_z-of_z c.ranges.y i) (to_z-of_z c.ranges.x i)) in
    let e = c.in_err-forward-in-To83 in
    let r = c.from_residual-in_err-forward-in-To83 in
    at_exit r.result e.field-0.0 r.ensures.1 ∙ ap (map_answer Converted.In83) (e.ensures ∙ ap (to83 g) p) ∙ by_number g a.way a.y a.x w

pub returns-in_ok-forward-in-To83 : goal.returns-in_ok-forward-in-To83
returns-in_ok-forward-in-To83 c =
    let a = c.args in
    let g = lent a.checked.grid in
    let w = ap (answered) (sym c.in-To83.is) ∙ c.in_ok-try_from.ensures in
    let p = c.new.ensures ∙ (λ i. point27 (to_z-of_z c.ranges.y i) (to_z-of_z c.ranges.x i)) in
    ap (map_answer Converted.In83) (c.in_ok-forward-in-To83.ensures ∙ ap (to83 g) p) ∙ by_number g a.way a.y a.x w

pub returns-in_err-inverse-in-To27 : goal.returns-in_err-inverse-in-To27
returns-in_err-inverse-in-To27 c =
    let a = c.args in
    let g = lent a.checked.grid in
    let w = ap (answered) (sym c.in-To27.is) ∙ c.in_ok-try_from.ensures in
    let f = c.new-in-To27.ensures ∙ (λ i. point83 (to_z-of_z c.ranges.y i) (to_z-of_z c.ranges.x i)) in
    let e = c.in_err-inverse-in-To27 in
    let r = c.from_residual-in_err-inverse-in-To27 in
    at_exit r.result e.field-0.0 r.ensures.1 ∙ ap (map_answer Converted.In27) (e.ensures ∙ ap (to27 g) f) ∙ by_number g a.way a.y a.x w

pub returns-in_ok-inverse-in-To27 : goal.returns-in_ok-inverse-in-To27
returns-in_ok-inverse-in-To27 c =
    let a = c.args in
    let g = lent a.checked.grid in
    let w = ap (answered) (sym c.in-To27.is) ∙ c.in_ok-try_from.ensures in
    let f = c.new-in-To27.ensures ∙ (λ i. point83 (to_z-of_z c.ranges.y i) (to_z-of_z c.ranges.x i)) in
    ap (map_answer Converted.In27) (c.in_ok-inverse-in-To27.ensures ∙ ap (to27 g) f) ∙ by_number g a.way a.y a.x w
