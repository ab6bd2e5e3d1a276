-- By the two equations of `digits`.
use Rattle.std.proofs.Common.{◌≡◌, ◌%◌, arith}
use Rattle.writing.proofs.Laws.{put_nothing, put_more}
use Rattle.decimal.proofs.Digits.{digits_small, digits_more, length_digits, length_more}
use Rattle.decimal.proofs.spelling.+put_digits.Goals.{then-n-lt10, else-n-lt10}
use Rattle.decimal.proofs.spelling.+put_digits.Goals as goal

pub returns : goal.returns
returns t c =
    let n = c.args.n in
    elim c.if-n-lt10.branch [
      | then-n-lt10 w ↦
          let e : n % 10 ≡ n = omega arith in
          rw (digits_small n w.if-n-lt10.true, c.put.ensures, w.room-is, w.at-is, e) (put_more _ (put_nothing _) (omega arith) (omega arith), omega arith)
      | else-n-lt10 w ↦
          let l = length_digits n 20 (omega arith) (omega arith) in
          rw (digits_more n w.if-n-lt10.false, c.put.ensures, w.room-is, w.at-is)
          (put_more _ w.put_digits-at.ensures.0 (omega arith) (omega (arith, w.put_digits-at.ensures.1)), omega (arith, l, length_more n w.if-n-lt10.false, w.put_digits-at.ensures.0.counted))
    ]
