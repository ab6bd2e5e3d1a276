-- How long the parts of a grid's text are.
use Prim.Native.Nat.{ℕ, zero, suc, ◌+◌, ◌*◌, ◌≤◌}
use mathlib.Core.Path.{◌≡◌}
use mathlib.Core.List.{List, [], ◌∷◌, ◌++◌}
use native.Mathlib.Omega.{arith}
use native.Mathlib.Numerals.{add-one}
use lib.ListN.{length, length-append}
use lib.Dec.{T, leb}
use lib.IntN.{ℤ, pos, nat_abs}
use Rattle.laws.specs.Parts.{Within}
use Rattle.laws.specs.Bounds.{own_size, widen}
use Rattle.laws.specs.Bytes.{bytes}
use Rattle.decimal.specs.Spelling.{spell}
use Rattle.decimal.proofs.Lengths.{length-spell}
use Rattle.lines.specs.Text.{line}
use Rattle.lines.proofs.Lengths.{length-line, length-one, length_more}
use Rattle.grid.specs.Grid.{Nodes, Grid}
use Rattle.grid.specs.Rules.{node_count}
use Rattle.grid.specs.declared.Header.{Header}
use Rattle.grid.specs.Nodes.{max_shift, node}
use Rattle.grid.specs.Check.{Passes}
use Rattle.grid.specs.Needs.{InRange}
use Rattle.grid.proofs.RuleLaws.{Between, between_within, RulesHold, extent}
use Rattle.grid.proofs.Passing.{good}
use Rattle.grid_text.specs.Text.{header_text, node_line, node_lines, grid_text}

pub length-node : (a b : ℤ) → length (node_line a b) ≡ length (spell a) + length (spell b) + 7
unfolding node_line
length-node a b = omega (arith, length-line (bytes "node=") (a ∷ b ∷ []), length_more a b [], length-one b)

length-header : (h : Header) → length (header_text h) ≡ 20 + length (line (bytes "south=") (h.south.0 ∷ [])) + length (line (bytes "west=") (h.west.0 ∷ [])) + length (line (bytes "dlat=") (h.dlat ∷ [])) + length (line (bytes "dlon=") (h.dlon ∷ [])) + length (line (bytes "rows=") (h.rows ∷ [])) + length (line (bytes "cols=") (h.cols ∷ []))
unfolding header_text
length-header h = simp length-append (omega arith)

pub nodes_next : (ns : Nodes) (k : ℕ) → node_lines ns (k + 1) ≡ node_lines ns k ++ line (bytes "node=") (node ns.lat k ∷ node ns.lon k ∷ [])
unfolding node_lines node_line
nodes_next ns k = rw add-one

length_grid : (g : Grid) → length (grid_text g) ≡ length (header_text g.header) + length (node_lines g.nodes (node_count g.header)) + length (line (bytes "end=") (pos (node_count g.header) ∷ []))
unfolding grid_text
length_grid g = simp length-append (omega arith)

-- ---- the text of a grid that passes the checks is at most 48,000 bytes long

-- "Each shift is from −6,000,000 to 6,000,000": 7 digits and a minus
shift_length : {x : ℤ} → Within max_shift x → length (spell x) ≤ 8
shift_length {x} h = length-spell x 7 (omega arith) (omega arith)

nodes-length : (ns : Nodes) (n k : ℕ) → InRange n ns.lat → InRange n ns.lon → k ≤ n → length (node_lines ns k) ≤ 23 * k
unfolding node_lines
nodes-length ns n zero p q h = omega arith
nodes-length ns n (suc k) p q h =
    simp length-append
    (omega (arith, nodes-length ns n k p q (omega arith), length-node (node ns.lat k) (node ns.lon k), shift_length (p.range k h), shift_length (q.range k h)))

-- no number of the header has more than 9 digits
number-length : {lo x hi : ℤ} → Between lo x hi → T (leb (nat_abs lo) 999999999) → T (leb (nat_abs hi) 999999999) → length (spell x) ≤ 10
number-length {lo} {x} {hi} b s t = let w = between_within 999999999 b (widen (own_size lo) s) (widen (own_size hi) t) in length-spell x 9 (omega arith) (omega arith)

-- a line of one number
one_number : (key : List ℕ) (x : ℤ) → length (line key (x ∷ [])) ≡ length key + length (spell x) + 1
one_number key x = omega (arith, length-line key (x ∷ []), length-one x)

header-length : {h : Header} → RulesHold h → length (header_text h) ≤ 122
header-length {h} r =
    omega (
      arith,
      length-header h,
      one_number (bytes "south=") h.south.0,
      number-length r.south tt tt,
      one_number (bytes "west=") h.west.0,
      number-length r.west tt tt,
      one_number (bytes "dlat=") h.dlat,
      number-length r.dlat tt tt,
      one_number (bytes "dlon=") h.dlon,
      number-length r.dlon tt tt,
      one_number (bytes "rows=") h.rows,
      number-length r.rows tt tt,
      one_number (bytes "cols=") h.cols,
      number-length r.cols tt tt,
    )

pub text-length : (g : Grid) → Passes g → length (grid_text g) ≤ 48000
text-length g e =
    let ok = good g e in
    let n = node_count g.header in
    let m : n ≤ 2048 = (extent ok.header).nodes in
    omega (
      arith,
      length_grid g,
      header-length ok.header,
      m,
      nodes-length g.nodes n n ok.of_lat.ranged ok.of_lon.ranged (omega arith),
      one_number (bytes "end=") (pos n),
      length-spell (pos n) 4 (omega arith) (omega arith),
    )
