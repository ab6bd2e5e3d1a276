-- A text that is accepted is the text of the grid that was read, and that grid passes the checks.
use Prim.Native.Nat.{ℕ, zero, suc, ◌+◌}
use mathlib.Core.Path.{◌≡◌, refl, sym, ap, ◌∙◌, subst}
use mathlib.Core.Bool.{not, ◌||◌}
use mathlib.Core.List.{List, [], ◌∷◌, ◌++◌, append_assoc, append-nil}
use native.Mathlib.Omega.{arith}
use native.Mathlib.Numerals.{add-one}
use borrow.Author.Tests.{not-false}
use lib.IntN.{ℤ, pos}
use Rattle.std.specs.Prelude.{None}
use Rattle.laws.specs.Bytes.{bytes}
use Rattle.laws.specs.Logic.{eq_z, eq_z_holds}
use Rattle.figures.specs.Outcome.{Outcome, answered, and_then, refuse_if}
use Rattle.figures.proofs.Laws.{answer_not_refusal, both_answered, not_refused, same_answer}
use Rattle.decimal.specs.Spelling.{spell}
use Rattle.grid.specs.Grid.{header, Nodes, no_nodes, add_node, Grid, grid_with}
use Rattle.grid.specs.Rules.{broken_rule, shape, node_count}
use Rattle.grid.specs.Nodes.{beyond_range}
use Rattle.grid.specs.Check.{layout, smoothness, Passes}
use Rattle.grid.specs.declared.Header.{Header}
use Rattle.grid.proofs.NodeLists.{Counted}
use Rattle.grid.proofs.Passing.{laid}
use Rattle.lines.specs.Text.{newline, listed, line}
use Rattle.grid_text.specs.Text.{header_text, node_line, node_lines, grid_text}
use Rattle.grid_text.proofs.NodeLines.{lines_more}
use Rattle.grid_reader.specs.Reading.{word, field, comma, nothing, ending, nodes, reading}
use Rattle.grid_reader.proofs.NodesSoFar.{NodesSoFar, no_node, one-node, left_to_judge}
use Rattle.text_round_trip.proofs.Parsing.{fixed_there, word_there}

-- ---- a key and a number

regroup : (a b c d : List ℕ) → a ++ (b ++ (c ++ d)) ≡ (a ++ b ++ c) ++ d
regroup a b c d = simp append_assoc

module _ {A : Type 0} {g : A} where
  field_there : (n stop : ℕ) (key t : List ℕ) (next : ℤ → List ℕ → Outcome A) → field n stop key t next ≡ answered g
      → (x : ℤ) × (u : List ℕ) × (t ≡ key ++ (spell x ++ (stop ∷ u))) × (next x u ≡ answered g)
  field_there n stop key t next e =
      let f = fixed_there n key t (λ v. word n stop [] v next) e in
      let w = word_there n stop [] f.0 next f.2 in
      (w.0, w.1, f.1 ∙ ap (λ (q : List ℕ). key ++ q) w.2, w.4)

  line_there : (n : ℕ) (key t : List ℕ) (next : ℤ → List ℕ → Outcome A) → field n newline key t next ≡ answered g
      → (x : ℤ) × (u : List ℕ) × (t ≡ line key (x ∷ []) ++ u) × (next x u ≡ answered g)
  unfolding line listed
  line_there n key t next e =
      let f = field_there n newline key t next e in
      (f.0, f.1, f.2 ∙ regroup key (spell f.0) (bytes "\n") f.1, f.3)

-- ---- a grid

pub record Accepted (text : List ℕ) (g : Grid) : Type 0 where
  pub same : text ≡ grid_text g
  pub passes : Passes g
  pub counted : Counted (node_count g.header) g.nodes

nothing_there : {A : Type 0} {g : A} (n : ℕ) (t : List ℕ) (o : Outcome A) → nothing n t o ≡ answered g → (t ≡ []) × (o ≡ answered g)
nothing_there n [] o e = (refl, e)
nothing_there n (b ∷ t) o e = absurd (answer_not_refusal (sym e))

pub node-text : (a b : ℤ) (u : List ℕ) → bytes "node=" ++ (spell a ++ (comma ∷ (spell b ++ (newline ∷ u)))) ≡ node_line a b ++ u
unfolding node_line line listed
node-text a b u = go (bytes "node=") (spell a) (bytes ",") (spell b) (bytes "\n")
  where
    go : (p q r s t : List ℕ) → p ++ (q ++ (r ++ (s ++ (t ++ u)))) ≡ (p ++ (q ++ r ++ s) ++ t) ++ u
    go p q r s t = simp append_assoc

module _ (h : Header) where
  -- what was read of the nodes, and the rest of the text
  abbrev Rest : (k : ℕ) → Nodes → List ℕ → Grid → Type 0
  Rest k ns t g =
      (g.header ≡ h) × (node_lines ns k ++ t ≡ node_lines g.nodes (node_count h) ++ line (bytes "end=") (pos (node_count h) ∷ []))
      × Passes g × Counted (node_count h) g.nodes

  module _ (unbroken : broken_rule h ≡ None) where
    end_there : (ns : Nodes) (t : List ℕ) (g : Grid) → NodesSoFar (node_count h) ns → ending h ns t ≡ answered g → Rest (node_count h) ns t g
    unfolding ending
    end_there ns t g s e =
        let n = node_count h in
        let grid = grid_with h ns in
        let last = and_then (smoothness (shape h) ns) (answered grid) in
        let f = line_there (9 + n) (bytes "end=") t (λ count u. refuse_if (not (eq_z count (pos n))) 1 (9 + n) (nothing (10 + n) u last)) e in
        let r = not_refused (not (eq_z f.0 (pos n))) 1 (9 + n) (nothing (10 + n) f.1 last) f.3 in
        let c : f.0 ≡ pos n = eq_z_holds (not-false (eq_z f.0 (pos n)) r.0) in
        let o = nothing_there (10 + n) f.1 last r.1 in
        let v = both_answered (smoothness (shape h) ns) (answered grid) o.1 in
        let t_is : t ≡ line (bytes "end=") (pos n ∷ []) = f.2 ∙ (λ i. line (bytes "end=") (c i ∷ []) ++ o.0 i) ∙ append-nil (line (bytes "end=") (pos n ∷ [])) in
        subst (λ (q : Grid). Rest (node_count h) ns t q) (same_answer v.1)
        (refl, ap (λ (q : List ℕ). node_lines ns n ++ q) t_is, left_to_judge h ns unbroken s ∙ v.0.1, s.counted)

    nodes_there : (left k : ℕ) (ns : Nodes) (t : List ℕ) (g : Grid) → k + left ≡ node_count h → NodesSoFar k ns
        → nodes h left k ns t ≡ answered g → Rest k ns t g
    unfolding nodes
    nodes_there zero k ns t g s m e =
        let q : k ≡ node_count h = omega arith in
        subst (λ (j : ℕ). Rest j ns t g) (sym q) (end_there ns t g (subst (λ (j : ℕ). NodesSoFar j ns) q m) e)
    nodes_there (suc left) k ns t g s m e =
        let f = field_there (9 + k) comma (bytes "node=") t
        (λ a u. word (9 + k) newline [] u (λ b v. refuse_if (beyond_range a || beyond_range b) 3 k (nodes h left (suc k) (add_node ns a b) v))) e in
        let w = word_there (9 + k) newline [] f.1
        (λ b v. refuse_if (beyond_range f.0 || beyond_range b) 3 k (nodes h left (suc k) (add_node ns f.0 b) v)) f.3 in
        let a = f.0 in
        let b = w.0 in
        let u = w.1 in
        let j = not_refused (beyond_range a || beyond_range b) 3 k (nodes h left (suc k) (add_node ns a b) u) w.4 in
        let r = nodes_there left (suc k) (add_node ns a b) u g (omega arith) (one-node m a b (add-one k) j.0) j.1 in
        let l : node_lines ns k ++ t ≡ node_lines (add_node ns a b) (suc k) ++ u =
        ap (λ (q : List ℕ). node_lines ns k ++ q) (f.2 ∙ ap (λ (q : List ℕ). bytes "node=" ++ (spell a ++ (comma ∷ q))) w.2 ∙ node-text a b u)
        ∙ sym (append_assoc (node_lines ns k) (node_line a b) u)
        ∙ ap (λ (q : List ℕ). q ++ u) (sym (lines_more m.counted a b)) in
        (r.0, l ∙ r.1, r.2, r.3)

-- ---- the header

eight : (a b c d e f g h t : List ℕ) → a ++ (b ++ (c ++ (d ++ (e ++ (f ++ (g ++ (h ++ t))))))) ≡ (a ++ b ++ c ++ d ++ e ++ f ++ g ++ h) ++ t
eight a b c d e f g h t = simp append_assoc

pub header_text_lem : (h : Header) (t : List ℕ)
    → bytes "from=NAD27\n" ++ (bytes "to=NAD83\n" ++ (line (bytes "south=") (h.south.0 ∷ []) ++ (line (bytes "west=") (h.west.0 ∷ []) ++ (line (bytes "dlat=") (h.dlat ∷ [])
    ++ (line (bytes "dlon=") (h.dlon ∷ []) ++ (line (bytes "rows=") (h.rows ∷ []) ++ (line (bytes "cols=") (h.cols ∷ []) ++ t)))))))
    ≡ header_text h ++ t
unfolding header_text
header_text_lem h t =
    eight (bytes "from=NAD27\n") (bytes "to=NAD83\n") (line (bytes "south=") (h.south.0 ∷ [])) (line (bytes "west=") (h.west.0 ∷ [])) (line (bytes "dlat=") (h.dlat ∷ []))
    (line (bytes "dlon=") (h.dlon ∷ [])) (line (bytes "rows=") (h.rows ∷ [])) (line (bytes "cols=") (h.cols ∷ [])) t

zero_left : (n : ℕ) → 0 + n ≡ n
zero_left n = omega arith

whole : (h : Header) (text rest : List ℕ) (g : Grid) → text ≡ header_text h ++ rest → Rest h 0 no_nodes rest g → Accepted text g
unfolding grid_text node_lines
whole h text rest g e r =
    record {
      same =
          e ∙ ap (λ (t : List ℕ). header_text h ++ t) r.1
          ∙ sym (append_assoc (header_text h) (node_lines g.nodes (node_count h)) (line (bytes "end=") (pos (node_count h) ∷ [])))
          ∙ ap (λ (k : Header). header_text k ++ node_lines g.nodes (node_count k) ++ line (bytes "end=") (pos (node_count k) ∷ [])) (sym r.0);
      passes = r.2;
      counted = subst (λ (k : Header). Counted (node_count k) g.nodes) (sym r.0) r.3;
    }

pub accepted : (text : List ℕ) (slices : Nodes) (g : Grid) → reading text slices ≡ answered g → Accepted text g
unfolding reading
accepted text slices g e =
    let l₁ = fixed_there 1 (bytes "from=NAD27\n") text _ e in
    let l₂ = fixed_there 2 (bytes "to=NAD83\n") l₁.0 _ l₁.2 in
    let l₃ = line_there 3 (bytes "south=") l₂.0 _ l₂.2 in
    let l₄ = line_there 4 (bytes "west=") l₃.1 _ l₃.3 in
    let l₅ = line_there 5 (bytes "dlat=") l₄.1 _ l₄.3 in
    let l₆ = line_there 6 (bytes "dlon=") l₅.1 _ l₅.3 in
    let l₇ = line_there 7 (bytes "rows=") l₆.1 _ l₆.3 in
    let l₈ = line_there 8 (bytes "cols=") l₇.1 _ l₇.3 in
    let h = header l₃.0 l₄.0 l₅.0 l₆.0 l₇.0 l₈.0 in
    let b = both_answered (layout (grid_with h slices)) (nodes h (node_count h) 0 no_nodes l₈.1) l₈.3 in
    let r = nodes_there h (laid (grid_with h slices) b.0.1).unbroken (node_count h) 0 no_nodes l₈.1 g (zero_left (node_count h)) no_node b.1 in
    let t_is : text ≡ header_text h ++ l₈.1 =
    l₁.1
    ∙ ap (λ (t : List ℕ). bytes "from=NAD27\n" ++ t)
    (l₂.1 ∙ ap (λ (t : List ℕ). bytes "to=NAD83\n" ++ t)
    (l₃.2 ∙ ap (λ (t : List ℕ). line (bytes "south=") (l₃.0 ∷ []) ++ t)
    (l₄.2 ∙ ap (λ (t : List ℕ). line (bytes "west=") (l₄.0 ∷ []) ++ t)
    (l₅.2 ∙ ap (λ (t : List ℕ). line (bytes "dlat=") (l₅.0 ∷ []) ++ t)
    (l₆.2 ∙ ap (λ (t : List ℕ). line (bytes "dlon=") (l₆.0 ∷ []) ++ t)
    (l₇.2 ∙ ap (λ (t : List ℕ). line (bytes "rows=") (l₇.0 ∷ []) ++ t) l₈.2))))))
    ∙ header_text_lem h l₈.1 in
    whole h text l₈.1 g t_is r
