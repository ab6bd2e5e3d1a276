use Rattle.std.proofs.Common.{◌≡◌, ◌-◌, ◌+◌, refl, sym, ◌∙◌, arith, rules}
use Rattle.writing.proofs.Laws.{rest-lent}
use Rattle.listing.proofs.RequestLaws.{read_none, read_more, read_all, no_some}
use Rattle.listing.proofs.batch.Batch.read.Goals as goal

pub loop-k-init : goal.loop-k-init
loop-k-init c = read_none _ _ _ _ (search rules) (search rules)

pub loop-k-preserved : goal.loop-k-preserved
loop-k-preserved c =
    let t = c.args.text.now in
    let l = c.loop-k in
    let n = c.in-Some.end in
    let found = rw (rest-lent l.taken t) at (sym c.in-Some.ensures) in
    let e : l.taken + n - l.taken ≡ n = omega arith in
    let asks = rw e at c.asks.ensures in
    read_more t l.invariant found asks c.file.ensures.way c.file.ensures.point c.loop-k-test.true c.new-line.ensures

pub returns-in_default : goal.returns-in_default
returns-in_default c =
    let t = c.args.text.now in
    let none = rw (rest-lent c.loop-k.taken t) at (sym c.line_end.ensures ∙ no_some c.line_end.result c.in_default.not-Some) in
    read_all t c.loop-k.invariant _ refl refl refl (λ z. none)

pub returns : goal.returns
returns c = read_all c.args.text.now c.loop-k.invariant _ refl refl (omega arith) (λ z. absurd (omega arith))
