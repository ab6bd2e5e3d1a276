use Rattle.std.proofs.Common.{arith, ◌≡◌, ◌*◌, ◌≤◌, length, take, sym, ap, ◌∙◌}
use Rattle.std.proofs.Math.Seq.{length-take-le}
use Rattle.std.proofs.lemmas.Result.{err_from_is_err_and}
use Rattle.figures.specs.Outcome.{answered, map_answer}
use Rattle.figures.proofs.Laws.{refused_map, answered_map, refused_first, passed_first}
use Rattle.grid.specs.Grid.{first_nodes, node_room, Grid}
use Rattle.grid.specs.Lent.{lent}
use Rattle.grid.specs.Rules.{shape}
use Rattle.grid.specs.Needs.{Extent}
use Rattle.grid.specs.Check.{layout, nodes_verdict, verdict}
use Rattle.grid.specs.declared.Shape.{Shape}
use Rattle.grid.proofs.RuleLaws.{extent}
use Rattle.grid.proofs.Passing.{laid}
use Rattle.grid.proofs.Front.{nodes_front}
use Rattle.grid.proofs.Grid.check.Goals as goal

-- a header that passed, and slices with room for its nodes
module _ (g : Grid) {s : Shape} (e : answered s ≡ map_answer (λ _. shape g.header) (layout g)) where
  passed : layout g ≡ answered tt
  passed = (answered_map _ (layout g) e).1

  is : s ≡ shape g.header
  is = sym (answered_map _ (layout g) e).2

  sizes : Extent s
  sizes = rw is (extent (laid g passed).header)

  roomy : s.rows * s.cols ≤ node_room g.nodes
  roomy = rw is (laid g passed).has_room

  cut_lat : length (take (s.rows * s.cols) g.nodes.lat) ≡ s.rows * s.cols
  cut_lat = length-take-le (s.rows * s.cols) g.nodes.lat (omega (arith, roomy))

  cut_lon : length (take (s.rows * s.cols) g.nodes.lon) ≡ s.rows * s.cols
  cut_lon = length-take-le (s.rows * s.cols) g.nodes.lon (omega (arith, roomy))

  -- the nodes decide, of which the first alone are looked at
  decided : nodes_verdict s (first_nodes (s.rows * s.cols) g.nodes) ≡ verdict g
  unfolding verdict
  decided =
      nodes_front s (omega (arith, sizes.cols_low)) g.nodes
      ∙ ap (λ (s : Shape). nodes_verdict s g.nodes) is
      ∙ passed_first _ (sym passed)

pub returns-in_err-shape-clause-verdict : goal.returns-in_err-shape-clause-verdict
unfolding verdict
returns-in_err-shape-clause-verdict c =
    let p = err_from_is_err_and c.from_residual.result c.from_residual.ensures.1 in
    rw (p.1, p.2) (refused_first _ (sym (refused_map _ (layout (lent c.args.self)) c.in_err-shape.ensures)))

pub overflow_mul-n : goal.overflow_mul-n
overflow_mul-n c = let z = sizes (lent c.args.self) c.in_ok-shape.ensures in omega (arith, z.nodes)

pub slice_bounds-check-end : goal.slice_bounds-check-end
slice_bounds-check-end c = sym (cut_lat (lent c.args.self) c.in_ok-shape.ensures)

pub slice_bounds-check-end-2 : goal.slice_bounds-check-end-2
slice_bounds-check-end-2 c = sym (cut_lon (lent c.args.self) c.in_ok-shape.ensures)

pub check-requires : goal.check-requires
check-requires c =
    let g = lent c.args.self in
    let e = c.in_ok-shape.ensures in
    (sizes g e, cut_lat g e, cut_lon g e)

pub returns-in_err-check-clause-verdict : goal.returns-in_err-check-clause-verdict
returns-in_err-check-clause-verdict c =
    let p = err_from_is_err_and c.from_residual-in_err-check.result c.from_residual-in_err-check.ensures.1 in
    rw (p.1, p.2) (c.in_err-check.ensures ∙ decided (lent c.args.self) c.in_ok-shape.ensures)

pub invariant_of-result : goal.invariant_of-result
invariant_of-result c = record { passes = sym (c.in_ok-check.ensures ∙ decided (lent c.args.self) c.in_ok-shape.ensures) }
