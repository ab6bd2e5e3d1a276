use Rattle.std.proofs.Common.{◌≡◌, length, arith, take_all}
use Rattle.writing.proofs.Laws.{put_nothing, put_take}
use Rattle.writing.proofs.put_text.Goals as goal

pub loop-k-init : goal.loop-k-init
loop-k-init c = put_nothing _

pub loop-k-preserved : goal.loop-k-preserved
loop-k-preserved c = put_take _ _ c.loop-k.invariant c.loop-k-test.true (omega arith) (omega arith)

pub returns-after-loop-k : goal.returns-after-loop-k
returns-after-loop-k c =
    let e : c.loop-k.k ≡ length c.args.text.now = omega (arith, c.loop-k-test.false, c.loop-k.auto.k-end) in
    rw (take_all _ _ c.loop-k-test.false, e) at c.loop-k.invariant
