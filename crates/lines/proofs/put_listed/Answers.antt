use Rattle.std.proofs.Common.{[], ◌∷◌, arith, rules}
use Rattle.writing.specs.Writing.{Put}
use Rattle.writing.proofs.Laws.{put_nothing, put_more, put_added}
use Rattle.decimal.specs.Spelling.{spell}
use Rattle.decimal.proofs.Lengths.{length_i64}
use Rattle.lines.proofs.Listed.{separator_behind}
use Rattle.lines.proofs.put_listed.Goals as goal

pub returns-then-k-eq0-clause-short : goal.returns-then-k-eq0-clause-short
returns-then-k-eq0-clause-short c = rw c.if-k-eq0.true (omega (arith, length_i64 c.ranges.x))

pub returns : goal.returns
returns c =
    let p : Put (44 ∷ []) c.args.room.now c.put.new.s 1 = rw c.put.ensures (put_more 44 (put_nothing c.args.room.now) (omega arith) (omega arith)) in
    rw (separator_behind c.args.k c.if-k-eq0.false) record {
      put = put_added p (c.put_behind.ensures.added (spell c.args.x) (record { each = λ before after n q. search rules })) (omega arith);
      short = omega (arith, length_i64 c.ranges.x);
    }
