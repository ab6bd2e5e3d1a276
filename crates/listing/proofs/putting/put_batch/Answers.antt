use Rattle.std.proofs.Common.{ℕ, ◌≡◌, true, false, refl, sym, ap, ◌∙◌, Option, Some, None, is_some}
use Rattle.grid.specs.Lent.{lent}
use Rattle.listing.proofs.Runs.{fed_held, fed_batch}
use Rattle.listing.proofs.putting.put_batch.Goals as goal

no_place : (o : Option ℕ) → is_some o ≡ false → o ≡ None
no_place None e = refl
no_place (Some k) e = (cc)

pub returns-then-is_none : goal.returns-then-is_none
returns-then-is_none c =
    fed_held (lent c.args.grid.grid) _ _ (sym c.line_end.ensures ∙ no_place c.line_end.result c.if-is_none.ensures) _ c.hold.ensures

pub returns : goal.returns
returns c =
    let v = c.convert.ensures in
    let some : is_some c.line_end.result ≡ true = c.if-is_none.ensures in
    fed_batch (lent c.args.grid.grid) c.args.list.now c.args.text.now c.read-taken.ensures
    (λ none. absurd (cc (some, ap is_some (c.line_end.ensures ∙ c.read-taken.ensures.none none))))
    v.lines v.replies c.put-bytes.ensures c.between.ensures
