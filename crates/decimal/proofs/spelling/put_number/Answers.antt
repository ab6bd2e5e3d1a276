use Rattle.std.proofs.Common.{[], ◌∷◌, arith, rules}
use Rattle.writing.specs.Writing.{Put}
use Rattle.writing.proofs.Laws.{put_nothing, put_more, put_added}
use Rattle.decimal.specs.Spelling.{digits}
use Rattle.decimal.proofs.Magnitude.{spell-minus, spell-plain}
use Rattle.decimal.proofs.spelling.put_number.Goals as goal

pub returns-then-x-ge0 : goal.returns-then-x-ge0
returns-then-x-ge0 c = rw (spell-plain c.ranges.x c.unsigned_abs-size.ensures.value c.if-x-ge0.true) c.put_digits.ensures.0

pub returns : goal.returns
returns c =
    let p : Put (45 ∷ []) c.args.room.now c.put.new.s 1 = rw c.put.ensures (put_more 45 (put_nothing c.args.room.now) (omega arith) (omega arith)) in
    rw (spell-minus c.ranges.x c.unsigned_abs-size.ensures.value c.if-x-ge0.false)
    (put_added p (c.put_behind.ensures.added (digits c.unsigned_abs-size.result) (record { each = λ before after n q. search rules })) (omega arith))
