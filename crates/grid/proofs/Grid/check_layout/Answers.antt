use Rattle.std.proofs.Common.{◌*◌, ◌<◌, arith, ap}
use Rattle.std.proofs.lemmas.Result.{err_from_is_err_and}
use Rattle.figures.specs.Outcome.{map_answer}
use Rattle.figures.proofs.Laws.{refused_first}
use Rattle.grid.specs.Lent.{lent}
use Rattle.grid.specs.Grid.{node_room}
use Rattle.grid.specs.Rules.{shape, node_count}
use Rattle.grid.specs.Check.{layout}
use Rattle.grid.specs.declared.Shape.{Shape}
use Rattle.grid.proofs.Passing.{sizes, room, short}
use Rattle.grid.proofs.Grid.check_layout.Goals as goal
use Rattle.grid.proofs.Grid.check_layout.Goals.{then-self-n-via-then-self-n, then-self-n-via-else-self-n+then-self-n-2}

pub returns-in_err-shape : goal.returns-in_err-shape
unfolding layout
returns-in_err-shape c =
    let p = err_from_is_err_and c.from_residual.result c.from_residual.ensures.1 in
    rw (p.1, p.2) (ap (map_answer (λ _. shape c.args.self.header)) (refused_first _ c.in_err-shape.ensures))

pub overflow_mul-n : goal.overflow_mul-n
overflow_mul-n c = let z = sizes c.in_ok-shape.ensures in omega (arith, z.extent.nodes)

pub returns-then-self-n : goal.returns-then-self-n
returns-then-self-n c =
    let z = sizes c.in_ok-shape.ensures in
    let n = ap (λ (s : Shape). s.rows * s.cols) z.is in
    let g = lent c.args.self in
    let l : node_room g.nodes < node_count g.header =
    elim c.then-self-n.branch [ then-self-n-via-then-self-n w ↦ omega arith | then-self-n-via-else-self-n+then-self-n-2 w ↦ omega arith ] in
    rw n (ap (map_answer (λ _. shape c.args.self.header)) (short g z.unbroken l))

pub returns : goal.returns
returns c =
    let z = sizes c.in_ok-shape.ensures in
    let n = ap (λ (s : Shape). s.rows * s.cols) z.is in
    rw z.is (ap (map_answer (λ _. shape c.args.self.header)) (room (lent c.args.self) z.unbroken (omega arith)))
