use Rattle.std.proofs.Common.{◌∙◌}
use Rattle.figures.proofs.SameLaws.{eq83}
use Rattle.grid.specs.Lent.{lent}
use Rattle.round_trip.proofs.Laws.{first_refused, second_refused, answers-compared}
use Rattle.round_trip.proofs.share_answer.Goals as goal

pub returns-in_default : goal.returns-in_default
returns-in_default c = first_refused (lent c.args.grid) c.args.p c.args.q c.in_default.ensures

pub returns-in-Ok-to83 : goal.returns-in-Ok-to83
returns-in-Ok-to83 c =
    c.eq.ensures ∙ eq83 c.in-Ok.a.point c.in-Ok-to83.b.point ∙ answers-compared (lent c.args.grid) c.args.p c.args.q c.in-Ok.ensures c.in-Ok-to83.ensures

pub returns-in-Err : goal.returns-in-Err
returns-in-Err c = second_refused (lent c.args.grid) c.args.p c.args.q c.in-Ok.ensures c.in-Err.ensures
