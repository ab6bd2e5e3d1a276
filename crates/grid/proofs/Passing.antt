-- Laws of the checks: each answer of the code, and what a grid that passes has. Theorems use these, never the text of `verdict`.
use Prim.Native.Nat.{ℕ, ◌*◌, ◌≤◌, ◌<◌}
use mathlib.Core.Path.{◌≡◌, refl, sym, ap, ◌∙◌}
use mathlib.Core.Bool.{Bool, true, false, ◌||◌}
use native.Mathlib.Omega.{arith}
use Rattle.std.specs.Prelude.{Option, Some, None, MatchOption, cond}
use lib.Dec.{ltb}
use borrow.Author.Tests.{ltb-false, lt-ltb, le-ltb}
use Rattle.laws.specs.First.{first, first_is, first-none}
use Rattle.laws.specs.Logic.{neither}
use Rattle.figures.specs.Outcome.{Outcome, answered, refused, refuse_if}
use Rattle.figures.proofs.Laws.{same_answer, both_answered, not_refused, passed_first}
use Rattle.grid.specs.Grid.{Nodes, node_room, Grid}
use Rattle.grid.specs.Rules.{broken_rule, shape, node_count}
use Rattle.grid.specs.Nodes.{node, beyond_range, out_of_range, steep_east, steep_north, steep_at, twisted, twisted_at}
use Rattle.grid.specs.Check.{header_check, layout, refuse_at, lowest, smoothness, nodes_verdict, verdict, Passes}
use Rattle.grid.specs.Needs.{Extent, InRange}
use Rattle.grid.specs.declared.Header.{Header}
use Rattle.grid.specs.declared.Shape.{Shape}
use Rattle.grid.proofs.RuleLaws.{RulesHold, rules_hold, extent}
use Rattle.grid.proofs.NodeLaws.{in_range, Sound, sound}

-- ---- the header's

-- where the outcome is an answer, nothing was found
not_refused_at : {A : Type 0} (number : ℕ) {k : Option ℕ} {next : Outcome A} {a : A} → refuse_at number k next ≡ answered a → (k ≡ None) × (next ≡ answered a)
not_refused_at number {k = None} e = (refl, e)
not_refused_at number {k = Some k} e = cc

-- the sizes that the check of a header gave
pub record Sizes (h : Header) (s : Shape) : Type 0 where
  pub unbroken : broken_rule h ≡ None
  pub is : s ≡ shape h
  pub extent : Extent s

pub sizes : {h : Header} {s : Shape} → answered s ≡ header_check h → Sizes h s
sizes {h} {s} e =
    let p = not_refused_at 2 {k = broken_rule h} (sym e) in
    let i : s ≡ shape h = sym (same_answer p.1) in
    record { unbroken = p.0; is = i; extent = rw i (extent (rules_hold h p.0)) }

pub header_broken : (h : Header) {n k : ℕ} → refused n k ≡ header_check h → (n ≡ 2) × (broken_rule h ≡ Some k)
header_broken h e = go (broken_rule h) refl e
  where
    go : {n k : ℕ} (o : Option ℕ) → broken_rule h ≡ o → refused n k ≡ refuse_at 2 o (answered (shape h)) → (n ≡ 2) × (broken_rule h ≡ Some k)
    go (Some j) q e = (cc, q ∙ cc)
    go None q e = cc

-- ---- each answer of the code

module _ (g : Grid) where
  abbrev n : ℕ
  n = (shape g.header).rows * (shape g.header).cols

  pub room : broken_rule g.header ≡ None → n ≤ node_room g.nodes → answered tt ≡ layout g
  unfolding layout
  room e l = rw (e, le-ltb _ _ l)

  pub short : broken_rule g.header ≡ None → node_room g.nodes < n → refused 5 n ≡ layout g
  unfolding layout
  short e l = rw (e, lt-ltb _ _ l)

-- a search from 0 up for the lowest number at which a test holds
pub found_lowest : (n : ℕ) (test : ℕ → Bool) (r : Option ℕ)
    → MatchOption r ((k : ℕ) → 0 ≤ k → k < n → test k ≡ false) (λ i. (0 ≤ i) × (i < n) × (test i ≡ true) × ((k : ℕ) → 0 ≤ k → k < i → test k ≡ false))
    → r ≡ lowest n test
found_lowest n test None h = rw (← first_is test n n (omega arith) (λ k l. h k (omega arith) l) (λ l. absurd (omega arith)), le-ltb n n (omega arith))
found_lowest n test (Some i) h = rw (← first_is test n i (omega arith) (λ k l. h.3 k (omega arith) l) (λ l. h.2), lt-ltb i n h.1)

-- it found none
pub none_found : (n : ℕ) (test : ℕ → Bool) → lowest n test ≡ None → (j : ℕ) → j < n → test j ≡ false
none_found n test e = go (ltb (first test n) n) refl e
  where
    go : (t : Bool) → ltb (first test n) n ≡ t → cond t (Some (first test n)) None ≡ None → (j : ℕ) → j < n → test j ≡ false
    go false q e = first-none test n q
    go true q e = cc

lowest_passed : (n number : ℕ) (test : ℕ → Bool) (next : Outcome Unit) → refuse_at number (lowest n test) next ≡ answered tt
    → ((j : ℕ) → j < n → test j ≡ false) × (next ≡ answered tt)
lowest_passed n number test next e = let t = not_refused_at number {k = lowest n test} e in (none_found n test t.0, t.1)

pub ranges : {n : ℕ} (ns : Nodes) → ((j : ℕ) → j < n → out_of_range ns j ≡ false) → InRange n ns.lat × InRange n ns.lon
unfolding out_of_range
ranges {n} ns none =
    let q : (j : ℕ) → j < n → (beyond_range (node ns.lat j) ≡ false) × (beyond_range (node ns.lon j) ≡ false) = λ j h. neither _ _ (none j h) in
    (record { range = λ j h. in_range (q j h).0 }, record { range = λ j h. in_range (q j h).1 })

-- ---- what the checks leave

pub record Laid (g : Grid) : Type 0 where
  pub unbroken : broken_rule g.header ≡ None
  pub header : RulesHold g.header
  pub has_room : node_count g.header ≤ node_room g.nodes

pub laid : (g : Grid) → layout g ≡ answered tt → Laid g
unfolding layout
laid g e =
    let n = (shape g.header).rows * (shape g.header).cols in
    let s = both_answered (header_check g.header) (refuse_if (ltb (node_room g.nodes) n) 5 n (answered tt)) e in
    let z = sizes (sym s.0.1) in
    let t = not_refused (ltb (node_room g.nodes) n) _ _ _ s.1 in
    record { unbroken = z.unbroken; header = rules_hold g.header z.unbroken; has_room = ltb-false _ _ t.0 }

pub record Good (g : Grid) : Type 0 where
  pub laid_out : layout g ≡ answered tt
  pub unbroken : broken_rule g.header ≡ None
  pub header : RulesHold g.header
  pub of_lat : Sound (shape g.header) g.nodes.lat
  pub of_lon : Sound (shape g.header) g.nodes.lon

none_of : (a b c d : Bool) → ((a || b) || (c || d)) ≡ false → (a ≡ false) × (b ≡ false) × (c ≡ false) × (d ≡ false)
none_of a b c d e =
    let s = neither (a || b) (c || d) e in
    let x = neither a b s.0 in
    let y = neither c d s.1 in
    (x.0, x.1, y.0, y.1)

nodes_sound : (s : Shape) (ns : Nodes) → nodes_verdict s ns ≡ answered tt → Sound s ns.lat × Sound s ns.lon
unfolding nodes_verdict smoothness steep_at twisted_at
nodes_sound s ns e =
    let n = s.rows * s.cols in
    let range = lowest_passed n 3 (out_of_range ns) _ e in
    let steep = lowest_passed n 4 (steep_at s ns) _ range.1 in
    let twist = lowest_passed n 14 (twisted_at s ns) _ steep.1 in
    let r = ranges ns range.0 in
    let q : (j : ℕ) → j < n → (steep_east s ns.lat j ≡ false) × (steep_east s ns.lon j ≡ false) × (steep_north s ns.lat j ≡ false) × (steep_north s ns.lon j ≡ false) =
    λ j l. none_of (steep_east s ns.lat j) (steep_east s ns.lon j) (steep_north s ns.lat j) (steep_north s ns.lon j) (steep.0 j l) in
    let t : (j : ℕ) → j < n → (twisted s ns.lat j ≡ false) × (twisted s ns.lon j ≡ false) = λ j l. neither _ _ (twist.0 j l) in
    (sound s ns.lat r.0 (λ j h. ((q j h).0, (q j h).2, (t j h).0)), sound s ns.lon r.1 (λ j h. ((q j h).1, (q j h).3, (t j h).1)))

pub good : (g : Grid) → Passes g → Good g
unfolding verdict
good g e =
    let s = both_answered (layout g) (nodes_verdict (shape g.header) g.nodes) e in
    let a : layout g ≡ answered tt = s.0.1 in
    let l = laid g a in
    let c = nodes_sound (shape g.header) g.nodes s.1 in
    record { laid_out = a; unbroken = l.unbroken; header = l.header; of_lat = c.0; of_lon = c.1 }

-- ---- smoothness, the last of the checks

module _ (g : Grid) where
  -- where the others pass, it decides
  pub smoothness-left : broken_rule g.header ≡ None → node_count g.header ≤ node_room g.nodes
      → ((k : ℕ) → k < node_count g.header → out_of_range g.nodes k ≡ false) → verdict g ≡ smoothness (shape g.header) g.nodes
  unfolding verdict nodes_verdict
  smoothness-left e r ranged =
      let count = node_count g.header in
      let none : count ≡ first (out_of_range g.nodes) count = first_is (out_of_range g.nodes) count count (omega arith) ranged (λ l. absurd (omega arith)) in
      let far : lowest count (out_of_range g.nodes) ≡ None = rw (← none, le-ltb count count (omega arith)) in
      sym (passed_first _ (room g e r)) ∙ ap (λ (k : Option ℕ). refuse_at 3 k (smoothness (shape g.header) g.nodes)) far

  pub passes_smoothness : Passes g → smoothness (shape g.header) g.nodes ≡ answered tt
  unfolding verdict nodes_verdict
  passes_smoothness p =
      (lowest_passed (node_count g.header) 3 (out_of_range g.nodes) _ (both_answered (layout g) (nodes_verdict (shape g.header) g.nodes) p).1).1
