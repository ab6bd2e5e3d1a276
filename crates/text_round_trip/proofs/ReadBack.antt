-- The text of a grid that passes the checks is accepted, and gives that grid.
use Prim.Native.Nat.{ℕ, zero, suc, ◌+◌, ◌^◌, ◌≤◌, ◌<◌}
use mathlib.Core.Path.{◌≡◌, refl, sym, ap, ◌∙◌}
use mathlib.Core.Bool.{not, ◌||◌}
use mathlib.Core.List.{List, [], ◌∷◌, ◌++◌, append_assoc, append-nil}
use native.Mathlib.Omega.{arith}
use lib.IntN.{ℤ, pos}
use Rattle.laws.specs.Bytes.{bytes}
use Rattle.laws.specs.Parts.{Within, ints, abs_parts, parts_disjoint}
use Rattle.laws.specs.Bounds.{own_size, widen}
use Rattle.laws.specs.Logic.{eq_z, eq_z_true}
use Rattle.figures.specs.Outcome.{Outcome, answered, and_then, refuse_if}
use Rattle.decimal.specs.Spelling.{spell, Short}
use Rattle.grid.specs.Grid.{Nodes, no_nodes, add_node, first_nodes, node_room, Grid, grid_with, trimmed}
use Rattle.grid.specs.Rules.{minus, node_count, shape}
use Rattle.grid.specs.Nodes.{max_shift, node, beyond_range}
use Rattle.grid.specs.Check.{layout, smoothness, Passes}
use Rattle.grid.proofs.RuleLaws.{Between, between_within, extent}
use Rattle.grid.proofs.NodeLaws.{not_beyond}
use Rattle.grid.proofs.NodeLists.{first_more}
use Rattle.grid.proofs.Passing.{Good, good, laid, passes_smoothness}
use Rattle.grid.proofs.Front.{verdict_front}
use Rattle.lines.specs.Text.{newline, listed, line}
use Rattle.grid_text.specs.Text.{header_text, node_line, node_lines, grid_text}
use Rattle.grid_reader.specs.Reading.{word, field, comma, nothing, ending, nodes, reading}
use Rattle.text_round_trip.proofs.Parsing.{fixed_here, word_here}
use Rattle.text_round_trip.proofs.Accepted.{node-text, header_text_lem}

-- ---- numbers of a grid that passes are short enough to be written

within_short : (K : ℕ) {x : ℤ} → Within K x → K < 10 ^ 11 → Short x
within_short K {x} w l = omega (arith, ints, abs_parts x, parts_disjoint x)

between_short : {lo x hi : ℤ} (K : ℕ) → Between lo x hi → Within K lo → Within K hi → K < 10 ^ 11 → Short x
between_short K b l h s = within_short K (between_within K b l h) s

-- ---- a key and a number

module _ {A : Type 0} where
  field_here : (n stop : ℕ) (key t : List ℕ) (x : ℤ) (next : ℤ → List ℕ → Outcome A) → Short x → stop < 45
      → field n stop key (key ++ (spell x ++ (stop ∷ t))) next ≡ next x t
  field_here n stop key t x next s l = fixed_here n key (spell x ++ (stop ∷ t)) (λ v. word n stop [] v next) ∙ word_here n stop next x s l t

  line_here : (n : ℕ) (key t : List ℕ) (x : ℤ) (next : ℤ → List ℕ → Outcome A) → Short x → field n newline key (line key (x ∷ []) ++ t) next ≡ next x t
  unfolding line listed
  line_here n key t x next s =
      ap (λ (q : List ℕ). field n newline key q next) (regroup key (spell x) (bytes "\n"))
      ∙ field_here n newline key t x next s (omega arith)
    where
      regroup : (a b c : List ℕ) → (a ++ b ++ c) ++ t ≡ a ++ (b ++ (c ++ t))
      regroup a b c = simp append_assoc

-- ---- the nodes

module _ (g : Grid) (p : Passes g) where
  abbrev n : ℕ
  n = node_count g.header

  checked : Good g
  checked = good g p

  roomy : n ≤ node_room g.nodes
  roomy = (laid g checked.laid_out).has_room

  node_here : (left k : ℕ) (t : List ℕ) → k < n
      → nodes g.header (suc left) k (first_nodes k g.nodes) (node_line (node g.nodes.lat k) (node g.nodes.lon k) ++ t) ≡ nodes g.header left (suc k) (first_nodes (suc k) g.nodes) t
  unfolding nodes
  node_here left k t l =
      ap (λ (q : List ℕ). field (9 + k) comma (bytes "node=") q next) (sym (node-text (node g.nodes.lat k) (node g.nodes.lon k) t))
      ∙ field_here (9 + k) comma (bytes "node=") (spell (node g.nodes.lon k) ++ (newline ∷ t)) (node g.nodes.lat k) next (within_short max_shift of_lat (omega arith)) (omega arith)
      ∙ word_here (9 + k) newline (λ b u. refuse_if (beyond_range (node g.nodes.lat k) || beyond_range b) 3 k (nodes g.header left (suc k) (add_node (first_nodes k g.nodes) (node g.nodes.lat k) b) u))
      (node g.nodes.lon k) (within_short max_shift of_lon (omega arith)) (omega arith) t
      ∙ rw (not_beyond of_lat, not_beyond of_lon, first_more g.nodes k (omega (arith, roomy)))
    where
      of_lat : Within max_shift (node g.nodes.lat k)
      of_lat = checked.of_lat.ranged.range k l

      of_lon : Within max_shift (node g.nodes.lon k)
      of_lon = checked.of_lon.ranged.range k l

      next : ℤ → List ℕ → Outcome Grid
      next a u = word (9 + k) newline [] u (λ b v. refuse_if (beyond_range a || beyond_range b) 3 k (nodes g.header left (suc k) (add_node (first_nodes k g.nodes) a b) v))

  nodes_here : (k left : ℕ) → k + left ≡ n → (t : List ℕ) → nodes g.header n 0 no_nodes (node_lines g.nodes k ++ t) ≡ nodes g.header left k (first_nodes k g.nodes) t
  unfolding node_lines
  nodes_here zero left e t = ap (λ (j : ℕ). nodes g.header j 0 no_nodes t) (omega arith)
  nodes_here (suc k) left e t =
      ap (nodes g.header n 0 no_nodes) (append_assoc (node_lines g.nodes k) (node_line (node g.nodes.lat k) (node g.nodes.lon k)) t)
      ∙ nodes_here k (suc left) (omega arith) (node_line (node g.nodes.lat k) (node g.nodes.lon k) ++ t)
      ∙ node_here left k t (omega arith)

  end_here : nodes g.header 0 n (first_nodes n g.nodes) (line (bytes "end=") (pos n ∷ [])) ≡ answered (trimmed g)
  unfolding nodes ending
  end_here =
      ap (λ (q : List ℕ). field (9 + n) newline (bytes "end=") q next) (sym (append-nil (line (bytes "end=") (pos n ∷ []))))
      ∙ line_here (9 + n) (bytes "end=") [] (pos n) next (omega (arith, (extent checked.header).nodes))
      ∙ rw (eq_z_true {a = pos n} refl, passes_smoothness (trimmed g) (verdict_front g ∙ p))
    where
      next : ℤ → List ℕ → Outcome Grid
      next count u = refuse_if (not (eq_z count (pos n))) 1 (9 + n) (nothing (10 + n) u (and_then (smoothness (shape g.header) (first_nodes n g.nodes)) (answered (trimmed g))))

  -- the text of the grid, read into any slices: the grid, where they have room for its nodes
  pub read_back : (slices : Nodes) → reading (grid_text g) slices ≡ and_then (layout (grid_with g.header slices)) (answered (trimmed g))
  unfolding reading grid_text
  read_back slices =
      let k = checked.header in
      let t = node_lines g.nodes n ++ line (bytes "end=") (pos n ∷ []) in
      ap (λ (q : List ℕ). reading q slices) (append_assoc (header_text g.header) (node_lines g.nodes n) (line (bytes "end=") (pos n ∷ [])) ∙ sym (header_text_lem g.header t))
      ∙ fixed_here 1 (bytes "from=NAD27\n") _ _
      ∙ fixed_here 2 (bytes "to=NAD83\n") _ _
      ∙ line_here 3 (bytes "south=") _ g.header.south.0 _ (between_short 323940000 k.south (own_size (minus 323940000)) (own_size (pos 323940000)) (omega arith))
      ∙ line_here 4 (bytes "west=") _ g.header.west.0 _ (between_short 648000000 k.west (own_size (minus 648000000)) (widen (own_size (pos 647999999)) tt) (omega arith))
      ∙ line_here 5 (bytes "dlat=") _ g.header.dlat _ (between_short 900000 k.dlat (widen (own_size (pos 1000)) tt) (own_size (pos 900000)) (omega arith))
      ∙ line_here 6 (bytes "dlon=") _ g.header.dlon _ (between_short 900000 k.dlon (widen (own_size (pos 1000)) tt) (own_size (pos 900000)) (omega arith))
      ∙ line_here 7 (bytes "rows=") _ g.header.rows _ (between_short 256 k.rows (widen (own_size (pos 2)) tt) (own_size (pos 256)) (omega arith))
      ∙ line_here 8 (bytes "cols=") t g.header.cols _ (between_short 256 k.cols (widen (own_size (pos 2)) tt) (own_size (pos 256)) (omega arith))
      ∙ ap (and_then (layout (grid_with g.header slices))) (nodes_here n 0 (omega arith) (line (bytes "end=") (pos n ∷ [])) ∙ end_here)
