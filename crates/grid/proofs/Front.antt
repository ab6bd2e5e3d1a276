-- The checks look at the first rows × cols elements of each slice alone.
use Prim.Native.Nat.{ℕ, ◌+◌, ◌*◌, ◌<◌, min}
use mathlib.Core.Path.{◌≡◌, refl}
use mathlib.Core.Bool.{Bool, true, false, ◌&&◌, ◌||◌}
use mathlib.Core.List.{List}
use native.Mathlib.Omega.{arith}
use borrow.Author.Tests.{ltb-true}
use lib.Dec.{ltb}
use lib.ListN.{take}
use lib.Seq.{get_or-take}
use lib.IntN.{ℤ, pos, ◌+ℤ◌, ◌-ℤ◌}
use Rattle.laws.specs.First.{first_same}
use Rattle.laws.specs.Logic.{ltb_same}
use Rattle.figures.specs.Outcome.{Outcome, answered, refused, and_then}
use Rattle.grid.specs.Grid.{Nodes, first_nodes, node_room, Grid, trimmed}
use Rattle.grid.specs.Rules.{shape, node_count}
use Rattle.grid.specs.Nodes.{node, beyond_range, out_of_range, has_east, has_north, is_southwest, too_much, steep_to, steep_east, steep_north, steep_at, twist, twisted, twisted_at}
use Rattle.grid.specs.Check.{layout, smoothness, nodes_verdict, verdict}
use Rattle.grid.specs.declared.Shape.{Shape}
use Rattle.grid.proofs.RuleLaws.{extent}
use Rattle.grid.proofs.NodeLaws.{east_in, cell_in}
use Rattle.grid.proofs.NodeLists.{first-room}
use Rattle.grid.proofs.Passing.{laid}

module _ (s : Shape) (some_cols : 0 < s.cols) where
  abbrev n : ℕ
  n = s.rows * s.cols

  front : (S : List ℤ) (k : ℕ) → k < n → node (take n S) k ≡ node S k
  front S k l = get_or-take n S k (pos 0) l

  guarded : (t : Bool) {a b : Bool} → (t ≡ true → a ≡ b) → (t && a) ≡ (t && b)
  guarded true h = h refl
  guarded false h = refl

  east_front : (S : List ℤ) (k : ℕ) → k < n → steep_east s (take n S) k ≡ steep_east s S k
  unfolding steep_east steep_to
  east_front S k l =
      guarded (has_east s k) (λ e. let f = front S (k + 1) (east_in s some_cols k l e) in λ j. too_much 16 s.dlon (f j -ℤ front S k l j))

  north_front : (S : List ℤ) (k : ℕ) → k < n → steep_north s (take n S) k ≡ steep_north s S k
  unfolding steep_north steep_to has_north
  north_front S k l = guarded (ltb (k + s.cols) n) (λ e. let f = front S (k + s.cols) (ltb-true _ _ e) in λ j. too_much 16 s.dlat (f j -ℤ front S k l j))

  twist_front : (S : List ℤ) (k : ℕ) → twisted s (take n S) k ≡ twisted s S k
  unfolding twisted twist
  twist_front S k =
      guarded (is_southwest s k)
      (λ e.
      let in_Cell = cell_in s some_cols k e in
      let sw = front S k (omega arith) in
      let se = front S (k + 1) (omega (arith, some_cols)) in
      let nw = front S (k + s.cols) (omega arith) in
      let ne = front S (k + s.cols + 1) in_Cell in
      λ j. too_much 64 (min s.dlat s.dlon) (sw j -ℤ se j -ℤ nw j +ℤ ne j))

  pub nodes_front : (ns : Nodes) → nodes_verdict s (first_nodes n ns) ≡ nodes_verdict s ns
  unfolding nodes_verdict smoothness out_of_range steep_at twisted_at
  nodes_front ns =
      rw (
        first_same (out_of_range (first_nodes n ns)) (out_of_range ns) n (λ j l i. beyond_range (front ns.lat j l i) || beyond_range (front ns.lon j l i)),
        first_same (steep_at s (first_nodes n ns)) (steep_at s ns) n (λ j l i. (east_front ns.lat j l i || east_front ns.lon j l i) || (north_front ns.lat j l i || north_front ns.lon j l i)),
        first_same (twisted_at s (first_nodes n ns)) (twisted_at s ns) n (λ j l i. twist_front ns.lat j i || twist_front ns.lon j i),
      )

module _ (g : Grid) where
  abbrev count : ℕ
  count = node_count g.header

  short_front : (ns : Nodes) → ltb (node_room (first_nodes count ns)) count ≡ ltb (node_room ns) count
  short_front ns =
      ltb_same (node_room (first_nodes count ns)) count (node_room ns) count (λ l. omega (arith, first-room count ns)) (λ l. omega (arith, first-room count ns))

  layout_front : layout (trimmed g) ≡ layout g
  unfolding layout
  layout_front = rw (short_front g.nodes)

  pub verdict_front : verdict (trimmed g) ≡ verdict g
  unfolding verdict
  verdict_front = rw layout_front (go (layout g) refl)
    where
      go : (o : Outcome Unit) → layout g ≡ o → and_then o (nodes_verdict (shape g.header) (first_nodes count g.nodes)) ≡ and_then o (nodes_verdict (shape g.header) g.nodes)
      go (answered tt) e = nodes_front (shape g.header) (omega (arith, (extent (laid g e).header).cols_low)) g.nodes
      go (refused n k) e = refl
