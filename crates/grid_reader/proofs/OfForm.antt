-- A text is of the form if its reading is not refused by 1.
use Prim.Native.Nat.{ℕ}
use mathlib.Core.Path.{◌≡◌, ap}
use mathlib.Core.Bool.{Bool, true, false}
use native.Mathlib.Omega.{arith}
use lib.Dec.{ltb, eqb}
use Rattle.std.specs.Prelude.{Option, Some, None}
use Rattle.figures.specs.Outcome.{Outcome, answered, refused, and_then, refuse_if}
use Rattle.figures.proofs.Laws.{answer_not_refusal}
use Rattle.grid.specs.Grid.{Nodes, first_nodes, node_room, Grid, grid_with}
use Rattle.grid.specs.Rules.{broken_rule, shape, node_count}
use Rattle.grid.specs.Nodes.{out_of_range, steep_at, twisted_at}
use Rattle.grid.specs.Check.{refuse_at, header_check, layout, lowest, smoothness, nodes_verdict, verdict}
use Rattle.grid_reader.specs.Scan.{whole_at, ended}
use Rattle.grid_reader.specs.declared.scanner.Scan.{Scan}

abbrev pub OfForm : {A : Type 0} → Outcome A → Type 0
OfForm o = (line : ℕ) → o ≡ refused 1 line → ⊥

pub refused_of_form : {A : Type 0} (n k : ℕ) → (n ≡ 1 → ⊥) → OfForm {A = A} (refused n k)
refused_of_form n k f line e = f (cc)

answered_of_form : {A : Type 0} (a : A) → OfForm (answered a)
answered_of_form a line e = answer_not_refusal e

refuse_if_of_form : {A : Type 0} (t : Bool) (n k : ℕ) {o : Outcome A} → (n ≡ 1 → ⊥) → OfForm o → OfForm (refuse_if t n k o)
refuse_if_of_form true n k f g = refused_of_form n k f
refuse_if_of_form false n k f g = g

refuse_at_of_form : {A : Type 0} (n : ℕ) (k : Option ℕ) {o : Outcome A} → (n ≡ 1 → ⊥) → OfForm o → OfForm (refuse_at n k o)
refuse_at_of_form n None f g = g
refuse_at_of_form n (Some k) f g = refused_of_form n k f

and_then_of_form : {A B : Type 0} (o : Outcome A) {q : Outcome B} → OfForm o → OfForm q → OfForm (and_then o q)
and_then_of_form (answered a) f g = g
and_then_of_form (refused n k) f g = refused_of_form n k (λ e. f k (ap (λ j. refused j k) e))

verdict_of_form : (g : Grid) → OfForm (verdict g)
unfolding verdict layout nodes_verdict smoothness
verdict_of_form g =
    let n = node_count g.header in
    let s = shape g.header in
    and_then_of_form (layout g)
    (and_then_of_form (header_check g.header) (refuse_at_of_form 2 (broken_rule g.header) (omega arith) (answered_of_form (shape g.header)))
    (refuse_if_of_form (ltb (node_room g.nodes) n) 5 n (omega arith) (answered_of_form tt)))
    (refuse_at_of_form 3 (lowest n (out_of_range g.nodes)) (omega arith)
    (refuse_at_of_form 4 (lowest n (steep_at s g.nodes)) (omega arith)
    (refuse_at_of_form 14 (lowest n (twisted_at s g.nodes)) (omega arith) (answered_of_form tt))))

-- a whole text is of the form
pub whole_of_form : (s : Scan) (ns : Nodes) → eqb s.at whole_at ≡ true → OfForm (ended (answered s) ns)
whole_of_form s ns e =
    rw e (and_then_of_form (verdict (grid_with s.header (first_nodes s.count ns))) (verdict_of_form _) (answered_of_form _))
