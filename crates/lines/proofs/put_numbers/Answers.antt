use Rattle.std.proofs.Common.{ℕ, ◌++◌, ◌+◌, ◌*◌, ◌≤◌, get_or, length-append, arith, rules, pos}
use Rattle.writing.proofs.Laws.{put_nothing, put_added}
use Rattle.decimal.specs.Spelling.{spell}
use Rattle.lines.specs.Text.{listed, separator}
use Rattle.lines.proofs.Listed.{listed_next}
use Rattle.lines.proofs.put_numbers.Goals as goal

more : (k : ℕ) {x y : ℕ} → x ≤ 21 * k → y ≤ 21 → x + y ≤ 21 * (k + 1)
more k h g = omega arith

pub loop-k-init : goal.loop-k-init
unfolding listed
loop-k-init c = record { put = put_nothing _; short = omega arith }

pub loop-k-preserved : goal.loop-k-preserved
loop-k-preserved c =
    let l = c.loop-k in
    let x = get_or c.args.numbers.now l.k-counter (pos 0) in
    let z = listed_next c.args.numbers.now l.k-counter c.loop-k-test.true in
    let called = c.put_behind-at.ensures.called.met in
    record {
      put = rw z (put_added l.invariant.put (c.put_behind-at.ensures.added (separator l.k-counter ++ spell x) (record { each = λ before after n q. search rules })) (omega arith));
      short = rw (z, length-append) (more l.k-counter l.invariant.short (search rules));
    }
