use Rattle.std.proofs.Common.{◌≡◌, ℕ, ◌<◌, ◌^◌, List, [], ◌∷◌, ◌∙◌, ap, pos, length, arith, rules}
use Rattle.decimal.proofs.Signs.{read_pos}
use Rattle.laws.specs.Bytes.{bytes}
use Rattle.laws.specs.Expr.{machine}
use Rattle.lines.specs.Text.{line}
use Rattle.writing.specs.Writing.{Added}
use Rattle.writing.proofs.Laws.{put_added}
use Rattle.grid.specs.Lent.{lent}
use Rattle.grid.specs.Rules.{node_count}
use Rattle.grid_text.specs.Text.{node_lines, grid_text}
use Rattle.grid_text.proofs.Added.{line_of}
use Rattle.grid_text.proofs.parts.put_grid.Goals as goal

-- a line of a count, which the machine has read
counted : (key : List ℕ) {l m : List ℕ} {k n i r : ℕ} → Added (line key (machine (pos k) ∷ [])) i l m r → k < 2 ^ 63 → k ≡ n → Added (line key (pos n ∷ [])) i l m r
counted key {k} a h e = line_of key (read_pos k h ∙ ap pos e) a

pub returns : goal.returns
unfolding grid_text
returns c =
    let g = lent c.args.checked.grid in
    let short : length c.args.room.now < 2 ^ 63 = omega arith in
    let p = put_added c.put_header-at.ensures (c.put_behind-end.ensures.added (node_lines g.nodes (node_count g.header)) (record { each = λ before after n q. search rules })) short in
    put_added p (counted (bytes "end=") c.add_line.ensures (omega arith) (omega arith)) short
