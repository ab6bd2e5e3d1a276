use Rattle.std.proofs.Common.{ap, length, arith}
use Rattle.writing.proofs.Laws.{counted_room, wrote_short, wrote_fits}
use Rattle.writing.proofs.write.Goals.{then-room-enough+else-room-needed, else-room-enough}
use Rattle.writing.proofs.write.Goals as goal

pub returns-then-room-needed-clause-wrote : goal.returns-then-room-needed-clause-wrote
returns-then-room-needed-clause-wrote g c text puts long_enough =
    let room = c.args.room.now in
    let p = puts.each _ _ _ c.put-needed.ensures in
    let same = counted_room room p in
    rw same (wrote_short text room p.counted (omega (arith, ap length same, p.counted)))

pub returns-clause-wrote : goal.returns-clause-wrote
returns-clause-wrote g c text puts long_enough =
    let room = c.args.room.now in
    let p = puts.each _ _ _ c.put.ensures in
    elim c.if-room-enough.branch [
      | then-room-enough+else-room-needed w ↦
          let q = puts.each _ _ _ w.put-needed.ensures in
          let same = counted_room room q in
          wrote_fits (rw (w.room-is, same) at p) (omega (arith, ap length same, q.counted)) (omega arith)
      | else-room-enough w ↦ wrote_fits (rw w.room-is at p) (long_enough w.if-room-enough.false) (omega arith)
    ]
