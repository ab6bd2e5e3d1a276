-- The lines of the first nodes are told by these nodes alone.
use Prim.Native.Nat.{ℕ, zero, suc, ◌+◌, ◌≤◌, ◌<◌}
use mathlib.Core.Path.{◌≡◌, refl}
use mathlib.Core.List.{[], ◌∷◌, ◌++◌}
use native.Mathlib.Omega.{arith}
use native.Mathlib.Numerals.{add-one}
use lib.ListN.{drop, length, get_or-append}
use lib.Seq.{get_or_at, get_or-set_same, get_or-set_other}
use lib.IntN.{ℤ, pos}
use Rattle.laws.specs.Over.{over}
use Rattle.grid.specs.Grid.{Nodes, node_lists, add_node, set_node, over_nodes, node_room}
use Rattle.grid.proofs.NodeLists.{Counted}
use Rattle.grid_text.specs.Text.{node_line, node_lines}

-- with others behind them
lines_front : (ns ms : Nodes) (k : ℕ) → k ≤ node_room ns → node_lines (node_lists (ns.lat ++ ms.lat) (ns.lon ++ ms.lon)) k ≡ node_lines ns k
unfolding node_lines
lines_front ns ms zero l = refl
lines_front ns ms (suc k) l =
    rw (lines_front ns ms k (omega arith), get_or-append ns.lat ms.lat (pos 0) k (omega arith), get_or-append ns.lon ms.lon (pos 0) k (omega arith))

pub lines-over : (ns slices : Nodes) (k : ℕ) → k ≤ node_room ns → node_lines (over_nodes ns slices) k ≡ node_lines ns k
unfolding over
lines-over ns slices k l = lines_front ns (node_lists (drop (length ns.lat) slices.lat) (drop (length ns.lon) slices.lon)) k l

-- one more
pub lines_more : {ns : Nodes} {k : ℕ} → Counted k ns → (a b : ℤ) → node_lines (add_node ns a b) (suc k) ≡ node_lines ns k ++ node_line a b
unfolding node_lines
lines_more {ns} {k} c a b =
    rw (lines_front ns (node_lists (a ∷ []) (b ∷ [])) k (omega (arith, c.lats, c.lons)), get_or_at ns.lat a [] (pos 0) k c.lats, get_or_at ns.lon b [] (pos 0) k c.lons)

module _ (ns : Nodes) (a b : ℤ) where
  lines-set : (k j : ℕ) → j ≤ k → node_lines (set_node ns k a b) j ≡ node_lines ns j
  unfolding node_lines
  lines-set k zero l = refl
  lines-set k (suc j) l =
      rw (lines-set k j (omega arith), get_or-set_other ns.lat k j a (pos 0) (omega arith), get_or-set_other ns.lon k j b (pos 0) (omega arith))

  -- one more, stored at its place
  pub lines_stored : (k : ℕ) → k < node_room ns → node_lines (set_node ns k a b) (k + 1) ≡ node_lines ns k ++ node_line a b
  unfolding node_lines
  lines_stored k l =
      rw (add-one, node_lines) (rw (lines-set k k (omega arith), get_or-set_same ns.lat k a (pos 0) (omega arith), get_or-set_same ns.lon k b (pos 0) (omega arith)))
