use Rattle.std.proofs.Common.{◌==◌, arith, ◌∙◌, rules, tests}
use Rattle.std.proofs.lemmas.Iterator.{YieldsList-from_slice, YieldsList-from_take}
use Rattle.std.proofs.lemmas.Iterator.Consumers.{count_from_yields_List, YieldsList-at, YieldsList-from_filter}
use Rattle.lines.specs.Text.{newline}
use Rattle.grid_reader.specs.Scan.{form}
use Rattle.grid_reader.proofs.Places.{newlines-counted}
use Rattle.grid_reader.proofs.form.line_at.Goals as goal

pub returns : goal.returns
unfolding form
returns c =
    let counted =
    count_from_yields_List c.filter.result _ c.count-ended.ensures.ran
    (YieldsList-from_filter _ (λ b. b == newline)
    (YieldsList-at c.filter.ensures.source (YieldsList-from_take c.args.place (YieldsList-from_slice form cc) c.take.ensures.count))
    c.filter.ensures.closure (λ x r q k. search (rules, tests)))
    ∙ newlines-counted c.args.place in
    omega (arith, counted)
