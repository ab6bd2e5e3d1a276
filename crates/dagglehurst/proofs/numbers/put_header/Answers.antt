use Rattle.std.proofs.Common.{◌≡◌, [], ◌∷◌, ap, ◌∙◌, rules}
use lib.Seq.{sets}
use Rattle.laws.specs.Expr.{machine}
use Rattle.dagglehurst.specs.Header.{numbers}
use Rattle.dagglehurst.proofs.Laws.{front_sets}
use Rattle.dagglehurst.proofs.numbers.put_header.Goals as goal

pub returns : goal.returns
returns c =
    let h = c.args.h in
    let s = c.args.s.now in
    let e : (machine h.south.0 ∷ machine h.west.0 ∷ machine h.dlat ∷ machine h.dlon ∷ machine h.rows ∷ machine h.cols ∷ []) ≡ numbers h = search rules in
    c.put_all.ensures ∙ ap (λ l. sets s 0 l) e ∙ front_sets (numbers h) s c.requires
