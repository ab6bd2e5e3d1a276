use Rattle.std.proofs.Common.{◌∙◌, le-ltb}
use Rattle.dagglehurst.specs.Points.{fitted, answer_after}
use Rattle.dagglehurst.proofs.Laws.{front_sets}
use Rattle.dagglehurst.proofs.points.put_answer.Goals as goal

pub returns-clause-room : goal.returns-clause-room
unfolding fitted answer_after
returns-clause-room c = rw (le-ltb _ _ c.if-room-numbers.false) (c.put_all.ensures ∙ front_sets c.args.numbers.now c.args.room.now c.if-room-numbers.false)
