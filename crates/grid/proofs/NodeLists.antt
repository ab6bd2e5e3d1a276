-- Laws of nodes as lists: how many there are, and how one more is stored.
use Prim.Native.Nat.{ℕ, suc, ◌+◌, ◌<◌, min}
use mathlib.Core.Path.{◌≡◌, refl, ◌∙◌}
use mathlib.Core.Bool.{◌||◌}
use mathlib.Core.List.{[], ◌∷◌}
use native.Mathlib.Omega.{arith}
use lib.ListN.{length, length-append, length-set, length-take, get_or-append}
use lib.Seq.{get_or_at, take-suc}
use lib.IntN.{ℤ, pos}
use Rattle.laws.specs.Over.{over-set, over-take}
use Rattle.grid.specs.Grid.{Nodes, node_lists, no_nodes, add_node, set_node, first_nodes, over_nodes, node_room}
use Rattle.grid.specs.Nodes.{node, beyond_range, out_of_range}

-- there are `n` in each list
pub record Counted (n : ℕ) (ns : Nodes) : Type 0 where
  pub lats : length ns.lat ≡ n
  pub lons : length ns.lon ≡ n

pub counted_none : Counted 0 no_nodes
counted_none = record { lats = refl; lons = refl }

module _ {n : ℕ} {ns : Nodes} (c : Counted n ns) where
  pub counted-room : node_room ns ≡ n
  counted-room = omega (arith, c.lats, c.lons)

  module _ (a b : ℤ) where
    pub counted_more : {m : ℕ} → n + 1 ≡ m → Counted m (add_node ns a b)
    counted_more e = record { lats = length-append ns.lat (a ∷ []) ∙ omega (arith, c.lats, e); lons = length-append ns.lon (b ∷ []) ∙ omega (arith, c.lons, e) }

    -- one more leaves those before it
    pub range_before : (j : ℕ) → j < n → out_of_range (add_node ns a b) j ≡ out_of_range ns j
    unfolding out_of_range
    range_before j l = rw (get_or-append ns.lat (a ∷ []) (pos 0) j (omega (arith, c.lats)), get_or-append ns.lon (b ∷ []) (pos 0) j (omega (arith, c.lons)))

    pub range_last : out_of_range (add_node ns a b) n ≡ (beyond_range a || beyond_range b)
    unfolding out_of_range
    range_last = rw (get_or_at ns.lat a [] (pos 0) n c.lats, get_or_at ns.lon b [] (pos 0) n c.lons)

  module _ (slices : Nodes) where
    pub first-over : first_nodes n (over_nodes ns slices) ≡ ns
    first-over =
        let p = over-take ns.lat slices.lat n c.lats in
        let q = over-take ns.lon slices.lon n c.lons in
        λ i. node_lists (p i) (q i)

    -- the next, stored behind them
    pub set-over : (a b : ℤ) → n < node_room slices → set_node (over_nodes ns slices) n a b ≡ over_nodes (add_node ns a b) slices
    set-over a b l =
        let p = over-set ns.lat slices.lat a n c.lats (omega arith) in
        let q = over-set ns.lon slices.lon b n c.lons (omega arith) in
        λ i. node_lists (p i) (q i)

pub first-room : (n : ℕ) (ns : Nodes) → node_room (first_nodes n ns) ≡ min n (node_room ns)
first-room n ns = omega (arith, length-take n ns.lat, length-take n ns.lon)

pub first_more : (ns : Nodes) (k : ℕ) → k < node_room ns → first_nodes (suc k) ns ≡ add_node (first_nodes k ns) (node ns.lat k) (node ns.lon k)
first_more ns k l =
    let p = take-suc ns.lat k (pos 0) (omega arith) in
    let q = take-suc ns.lon k (pos 0) (omega arith) in
    λ i. node_lists (p i) (q i)

-- each list is as long as the other's
pub record SameLengths (ns ms : Nodes) : Type 0 where
  pub lats : length ns.lat ≡ length ms.lat
  pub lons : length ns.lon ≡ length ms.lon

pub same_lengths : {ns : Nodes} → SameLengths ns ns
same_lengths = record { lats = refl; lons = refl }

pub lengths_trans : {ns ms ls : Nodes} → SameLengths ns ms → SameLengths ms ls → SameLengths ns ls
lengths_trans p q = record { lats = p.lats ∙ q.lats; lons = p.lons ∙ q.lons }

pub same_room : {ns ms : Nodes} → SameLengths ns ms → node_room ns ≡ node_room ms
same_room p = omega (arith, p.lats, p.lons)

pub set_lengths : (ns : Nodes) (k : ℕ) (a b : ℤ) → SameLengths (set_node ns k a b) ns
set_lengths ns k a b = record { lats = length-set ns.lat k a; lons = length-set ns.lon k b }
