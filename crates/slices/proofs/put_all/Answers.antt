use Rattle.std.proofs.Common.{sym, arith}
use Rattle.slices.proofs.Sets.{sets_out, sets_copied}
use Rattle.slices.proofs.put_all.Goals as goal

pub returns-then-at-s : goal.returns-then-at-s
returns-then-at-s g c = sets_copied _ _ _ _ _ (omega arith) c.min-n.ensures c.copy_from_slice.ensures.after

pub returns-else-at-s : goal.returns-else-at-s
returns-else-at-s g c = sym (sets_out c.args.all.now c.args.s.now c.args.at c.if-at-s.false)
