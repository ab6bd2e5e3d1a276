use Rattle.std.proofs.Common.{arith, rules}
use Rattle.writing.proofs.Laws.{put_more, put_added}
use Rattle.lines.specs.Text.{listed, line}
use Rattle.lines.proofs.Lengths.{length-line}
use Rattle.lines.proofs.put_line.Goals as goal

pub returns : goal.returns
unfolding line
returns c =
    let p = put_added c.put_text-start.ensures (c.put_behind-end.ensures.added (listed c.args.numbers.now) (record { each = λ before after n q. search rules })) (omega arith) in
    record {
      put = rw c.put.ensures (put_more 10 p (omega arith) c.saturating_add.ensures);
      short = let called = c.put_behind-end.ensures.called.met in omega (arith, length-line c.args.key.now c.args.numbers.now);
    }
