use Rattle.std.proofs.Common.{◌≡◌}
use Rattle.grid.specs.Lent.{lent}
use Rattle.convert.specs.Batch.{request_outcome, answers_to, refusals_to}
use Rattle.convert.proofs.batch.fill.Given as goal

abbrev pub invariant-loop-k : goal.invariant-loop-k
invariant-loop-k l =
    let o = request_outcome (lent l.checked.grid) l.ways l.points in
    record { answered : l.answers ≡ answers_to o l.k l.fn.answers; told : l.refusals ≡ refusals_to o l.k l.fn.refusals }
