use Rattle.std.proofs.Common.{[], ◌∷◌, rules}
use Rattle.lines.specs.Text.{line}
use Rattle.grid_text.proofs.parts.add_line.Goals as goal

pub returns : goal.returns
returns c = c.put_behind.ensures.added (line c.args.key.now (c.args.x ∷ [])) (record { each = λ before after n q. search rules })
