-- The scanner and the reading line by line come to the same.
use Prim.Native.Nat.{ℕ, zero, suc, ◌+◌, ◌≤◌, ◌<◌}
use mathlib.Core.Path.{◌≡◌, refl, sym, ap, ◌∙◌, subst}
use mathlib.Core.Bool.{Bool, true, false, not, ◌&&◌, ◌||◌, cond}
use mathlib.Core.List.{List, [], ◌∷◌}
use native.Mathlib.Omega.{arith}
use native.Mathlib.Numerals.{add-one}
use borrow.Author.Tests.{lt-ltb, le-ltb}
use lib.Dec.{ltb}
use lib.ListN.{length}
use Rattle.std.specs.Prelude.{Option, Some, None}
use lib.IntN.{ℤ, pos}
use Rattle.laws.specs.Bytes.{bytes}
use Rattle.laws.specs.Logic.{both, eq_z}
use Rattle.figures.specs.Outcome.{Outcome, answered, refused, and_then, refuse_if}
use Rattle.laws.specs.Over.{over}
use Rattle.decimal.specs.Pushing.{none}
use Rattle.decimal.specs.declared.Number.{Number}
use Rattle.lines.specs.Text.{newline}
use Rattle.grid.specs.Grid.{Nodes, no_nodes, add_node, over_nodes, node_room, Grid, grid_with}
use Rattle.grid.specs.Rules.{broken_rule, shape, node_count}
use Rattle.grid.specs.Nodes.{beyond_range}
use Rattle.grid.specs.Check.{layout, smoothness}
use Rattle.grid.specs.declared.Header.{Header}
use Rattle.grid.proofs.NodeLists.{first-over, set-over}
use Rattle.grid_reader.specs.Reading.{fixed, word, field, comma, nothing, ending, nodes, reading}
use Rattle.grid_reader.specs.Scan.{form, to_line_at, south_line_at, west_line_at, dlat_line_at, dlon_line_at, rows_line_at, cols_line_at, cols_at, node_line_at, lon_at, end_line_at, count_at, whole_at, line_end, lines_before, line_at, scan, start, on, node_read, filled, header_end, node_end, closed, literal_step, step, fed, finished}
use Rattle.grid_reader.specs.declared.scanner.Step.{Step}
use Rattle.grid_reader.proofs.Onward.{read_from, onward, one_byte}
use Rattle.grid_reader.proofs.Pieces.{is_piece, is_mark, marked, literals, numbers}
use Rattle.grid_reader.proofs.Count.{counts}
use Rattle.grid_reader.proofs.NodesSoFar.{NodesSoFar, node_count_lem, no_node, one-node, left_to_judge}

-- ---- a key and a number

-- the form has `key` at place a, and a number up to `stop` behind it
abbrev is_field : (a stop : ℕ) → (key : List ℕ) → Bool
is_field a stop key = is_piece a (lines_before a) key && is_mark (a + length key) stop (lines_before a)

module _ (room : ℕ) (h : Header) (c k : ℕ) (x : ℤ) (ns : Nodes) where
  abbrev at : ℕ → List ℕ → Outcome Grid
  at a t = read_from room (scan a none h c k x) ns t

  -- where `next` is what the number's end leads to
  fields : (a stop : ℕ) (key : List ℕ) (next : ℤ → Outcome Step) → is_field a stop key ≡ true
      → ((n : Number) (v : ℤ) → closed room (scan (a + length key) n h c k x) v ≡ next v) → (a + length key ≡ count_at → ⊥)
      → (t : List ℕ) → at a t ≡ field (line_at a k) stop key t (λ v u. onward room k ns (next v) u)
  fields a stop key next e f g t =
      let l = lines_before a in
      let b = both (is_piece a l key) (is_mark (a + length key) stop l) e in
      literals room h c k x ns key a l b.0 t
      ∙ ap (fixed (line_at a k) key t) (λ i u. numbers room h c k x ns (marked (a + length key) stop l b.1) next f g u i)

-- ---- the end line, and what follows it

module _ (room : ℕ) (h : Header) (unbroken : broken_rule h ≡ None) (store : Nodes) where
  few : node_count h ≤ 2048
  few = (node_count_lem h unbroken).1

  follows : (k : ℕ) (x : ℤ) (ns : Nodes) → k + 1 ≡ node_count h → NodesSoFar (node_count h) ns → (t : List ℕ)
      → read_from room (scan whole_at none h (node_count h) k x) (over_nodes ns store) t
      ≡ nothing (10 + node_count h) t (and_then (smoothness (shape h) ns) (answered (grid_with h ns)))
  unfolding fed step literal_step form lines_before line_end
  follows k x ns e r [] = rw (first-over r.counted store, left_to_judge h ns unbroken r)
  follows k x ns e r (b ∷ t) =
      one_byte room (scan whole_at none h (node_count h) k x) (over_nodes ns store) b t ∙ ap (refused 1) (omega arith)

  ends : (k : ℕ) (x : ℤ) (ns : Nodes) → k + 1 ≡ node_count h → NodesSoFar (node_count h) ns → (t : List ℕ)
      → read_from room (scan end_line_at none h (node_count h) k x) (over_nodes ns store) t ≡ ending h ns t
  unfolding ending form lines_before line_end
  ends k x ns e r t =
      literals room h (node_count h) k x (over_nodes ns store) (bytes "end=") end_line_at (lines_before end_line_at) refl t
      ∙ ap (fixed (line_at end_line_at k) (bytes "end=") t) (λ i u. counts room h (node_count h) k x (over_nodes ns store) (omega (arith, few)) (node_count_lem h unbroken).0 u i)
      ∙ ap (field (line_at end_line_at k) newline (bytes "end=") t) (λ i v u. refuse_if (not (eq_z v (pos (node_count h)))) 1 (line_at end_line_at k) (follows k x ns e r u i))
      ∙ ap (λ (line : ℕ). field line newline (bytes "end=") t (λ v u. refuse_if (not (eq_z v (pos (node_count h)))) 1 line
      (nothing (10 + node_count h) u (and_then (smoothness (shape h) ns) (answered (grid_with h ns)))))) line_is
    where
      line_is : line_at end_line_at k ≡ 9 + node_count h
      line_is = omega arith

  -- a node line: what is behind it is known
  node_line_lem : (left k : ℕ) (x : ℤ) (ns : Nodes)
      → ((v y : ℤ) (t : List ℕ) → (beyond_range v || beyond_range y) ≡ false
      → onward room k (over_nodes ns store)
      (node_read (cond (ltb (k + 1) (node_count h)) (scan node_line_at none h (node_count h) (k + 1) v) (scan end_line_at none h (node_count h) k v)) v y) t
      ≡ nodes h left (suc k) (add_node ns v y) t)
      → (t : List ℕ) → read_from room (scan node_line_at none h (node_count h) k x) (over_nodes ns store) t ≡ nodes h (suc left) k ns t
  unfolding nodes closed node_end form lines_before line_end
  node_line_lem left k x ns rest t =
      fields room h (node_count h) k x (over_nodes ns store) node_line_at comma (bytes "node=") (λ v. on (scan lon_at none h (node_count h) k v)) refl
      (λ m v. refl) (omega arith) t
      ∙ ap (field (line_at node_line_at k) comma (bytes "node=") t) (λ i v u.
      (numbers room h (node_count h) k v (over_nodes ns store) (marked lon_at newline (lines_before lon_at) refl)
      (node_end (scan lon_at none h (node_count h) k v)) (λ m y. refl) (omega arith) u
      ∙ ap (word (line_at lon_at k) newline [] u) (λ j y r. judged v y r (beyond_range v || beyond_range y) refl j)) i)
    where
      judged : (v y : ℤ) (t : List ℕ) (d : Bool) → (beyond_range v || beyond_range y) ≡ d
          → onward room k (over_nodes ns store)
          (refuse_if d 3 k
          (node_read (cond (ltb (k + 1) (node_count h)) (scan node_line_at none h (node_count h) (k + 1) v) (scan end_line_at none h (node_count h) k v)) v y)) t
          ≡ refuse_if d 3 k (nodes h left (suc k) (add_node ns v y) t)
      judged v y t true f = refl
      judged v y t false f = rest v y t f

  module _ (roomy : 2048 ≤ node_room store) where
    node_lines_lem : (left k : ℕ) (x : ℤ) (ns : Nodes) → k + suc left ≡ node_count h → NodesSoFar k ns → (t : List ℕ)
        → read_from room (scan node_line_at none h (node_count h) k x) (over_nodes ns store) t ≡ nodes h (suc left) k ns t
    unfolding nodes
    node_lines_lem zero k x ns e r t =
        node_line_lem zero k x ns
        (λ v y t f.
        rw (le-ltb (k + 1) (node_count h) (omega arith), set-over r.counted store v y (omega (arith, few)))
        (ends k v (add_node ns v y) e (one-node r v y e f) t)) t
    node_lines_lem (suc left) k x ns e r t =
        node_line_lem (suc left) k x ns
        (λ v y t f.
        rw (lt-ltb (k + 1) (node_count h) (omega arith), set-over r.counted store v y (omega (arith, few)))
        (ap (λ (j : ℕ). read_from room (scan node_line_at none h (node_count h) j v) (over_nodes (add_node ns v y) store) t) (add-one k)
        ∙ node_lines_lem left (suc k) v (add_node ns v y) (omega arith) (one-node r v y (add-one k) f) t)) t

-- ---- the header

module _ (slices store : Nodes) (enough : 2048 ≤ node_room store) where
  abbrev room : ℕ
  room = node_room slices

  abbrev from : ℕ → Header → List ℕ → Outcome Grid
  from a h t = read_from room (scan a none h 0 0 (pos 0)) store t

  -- the header's numbers are bounded, and its first node line follows
  first-node : (h : Header) → broken_rule h ≡ None → (t : List ℕ) → read_from room (scan node_line_at none h (node_count h) 0 (pos 0)) store t ≡ nodes h (node_count h) 0 no_nodes t
  unfolding over
  first-node h e t = go (node_count h) refl
    where
      go : (n : ℕ) → node_count h ≡ n → read_from room (scan node_line_at none h (node_count h) 0 (pos 0)) store t ≡ nodes h (node_count h) 0 no_nodes t
      go zero q = absurd (omega (arith, node_count_lem h e))
      go (suc left) q =
          subst (λ (j : ℕ). read_from room (scan node_line_at none h (node_count h) 0 (pos 0)) store t ≡ nodes h j 0 no_nodes t) (sym q)
          (node_lines_lem room h e store enough left 0 (pos 0) no_nodes (omega (arith, q)) no_node t)

  -- the eight lines are whole
  judged : (h : Header) (t : List ℕ) → onward room 0 store (header_end room (scan cols_at none h 0 0 (pos 0))) t ≡ and_then (layout (grid_with h slices)) (nodes h (node_count h) 0 no_nodes t)
  unfolding header_end layout
  judged h t = rules (broken_rule h) refl
    where
      roomy : broken_rule h ≡ None → (d : Bool)
          → onward room 0 store (refuse_if d 5 (node_count h) (on (scan node_line_at none h (node_count h) 0 (pos 0)))) t
          ≡ and_then (refuse_if {A = Unit {0}} d 5 (node_count h) (answered tt)) (nodes h (node_count h) 0 no_nodes t)
      roomy e true = refl
      roomy e false = first-node h e t

      rules : (o : Option ℕ) → broken_rule h ≡ o → onward room 0 store (header_end room (scan cols_at none h 0 0 (pos 0))) t ≡ and_then (layout (grid_with h slices)) (nodes h (node_count h) 0 no_nodes t)
      rules (Some rule) e = rw e
      rules None e = rw e (roomy e (ltb room (node_count h)))

  -- a line of the form, and what follows it
  fixed-line : (a : ℕ) (piece : List ℕ) (h : Header) {next : List ℕ → Outcome Grid} → is_piece a (lines_before a) piece ≡ true
      → ((u : List ℕ) → from (a + length piece) h u ≡ next u) → (t : List ℕ) → from a h t ≡ fixed (line_at a 0) piece t next
  fixed-line a piece h e rest t = literals room h 0 0 (pos 0) store piece a (lines_before a) e t ∙ ap (fixed (line_at a 0) piece t) (λ i u. rest u i)

  number-line : (a : ℕ) (key : List ℕ) (h : Header) {next : ℤ → List ℕ → Outcome Grid} → is_field a newline key ≡ true → a + length key < cols_at
      → ((v : ℤ) (u : List ℕ) → from (a + length key + 2) (filled (a + length key) v h) u ≡ next v u)
      → (t : List ℕ) → from a h t ≡ field (line_at a 0) newline key t next
  unfolding closed
  number-line a key h e i rest t =
      fields room h 0 0 (pos 0) store a newline key (λ v. on (scan (a + length key + 2) none (filled (a + length key) v h) 0 0 (pos 0))) e
      (λ n v. rw (lt-ltb (a + length key) cols_at i)) (omega arith) t
      ∙ ap (field (line_at a 0) newline key t) (λ j v u. rest v u j)

  -- the last of the header
  cols_line : (h : Header) (t : List ℕ) → from cols_line_at h t
      ≡ field (line_at cols_line_at 0) newline (bytes "cols=") t (λ v u. let g = filled cols_at v h in and_then (layout (grid_with g slices)) (nodes g (node_count g) 0 no_nodes u))
  unfolding closed header_end form lines_before line_end
  cols_line h t =
      fields room h 0 0 (pos 0) store cols_line_at newline (bytes "cols=") (λ v. header_end room (scan cols_at none (filled cols_at v h) 0 0 (pos 0))) refl
      (λ n v. refl) (omega arith) t
      ∙ ap (field (line_at cols_line_at 0) newline (bytes "cols=") t) (λ i v u. judged (filled cols_at v h) u i)

  pub from_start : (text : List ℕ) → from 0 start.header text ≡ reading text slices
  unfolding reading filled form lines_before line_end
  from_start =
      fixed-line 0 (bytes "from=NAD27\n") start.header refl
      (fixed-line to_line_at (bytes "to=NAD83\n") start.header refl
      (number-line south_line_at (bytes "south=") _ refl (omega arith) λ south.
      number-line west_line_at (bytes "west=") _ refl (omega arith) λ west.
      number-line dlat_line_at (bytes "dlat=") _ refl (omega arith) λ dlat.
      number-line dlon_line_at (bytes "dlon=") _ refl (omega arith) λ dlon.
      number-line rows_line_at (bytes "rows=") _ refl (omega arith) λ rows.
      cols_line _))

-- store holds what it holds before the nodes are put into it
pub line_by_line : (text : List ℕ) (slices store : Nodes) → 2048 ≤ node_room store
    → finished (fed (node_room slices) (answered start) store text) ≡ reading text slices
line_by_line text slices store l = from_start slices store l text
