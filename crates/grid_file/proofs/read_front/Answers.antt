use Rattle.std.proofs.Common.{arith, sym, ap, ◌∙◌}
use Rattle.figures.specs.Outcome.{map_answer}
use Rattle.grid.specs.Grid.{node_lists}
use Rattle.grid_reader.specs.Reading.{header_of, nodes_after}
use Rattle.grid_file.proofs.Laws.{too_long, not_too_long}
use Rattle.grid_file.proofs.read_front.Goals as goal

pub returns-then-length-gt-MAX_FILE-clause-answer : goal.returns-then-length-gt-MAX_FILE-clause-answer
returns-then-length-gt-MAX_FILE-clause-answer c =
    let a = c.args in ap (map_answer header_of) (sym (too_long a.length a.room.now (node_lists a.lat.now a.lon.now) c.if-length-gt-MAX_FILE.true))

pub returns-then-length-gt-MAX_FILE-clause-nodes : goal.returns-then-length-gt-MAX_FILE-clause-nodes
unfolding nodes_after
returns-then-length-gt-MAX_FILE-clause-nodes c =
    let a = c.args in
    let slices = node_lists a.lat.now a.lon.now in
    ap (λ o. nodes_after o slices) (sym (too_long a.length a.room.now slices c.if-length-gt-MAX_FILE.true))

pub returns-clause-answer : goal.returns-clause-answer
returns-clause-answer c =
    let a = c.args in
    c.read.ensures.answer ∙ ap (map_answer header_of) (sym (not_too_long a.length a.room.now (node_lists a.lat.now a.lon.now) (omega (arith, c.if-length-gt-MAX_FILE.false)) (omega (arith, c.min.ensures))))

pub returns-clause-nodes : goal.returns-clause-nodes
returns-clause-nodes c =
    let a = c.args in
    let slices = node_lists a.lat.now a.lon.now in
    c.read.ensures.nodes ∙ ap (λ o. nodes_after o slices) (sym (not_too_long a.length a.room.now slices (omega (arith, c.if-length-gt-MAX_FILE.false)) (omega (arith, c.min.ensures))))
