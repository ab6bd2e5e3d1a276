-- The two returns of text: each answer of the code is the one that the definitions name.
use Prim.Native.Nat.{ℕ, ◌≤◌}
use mathlib.Core.Path.{◌≡◌, refl, sym, ap, ◌∙◌}
use mathlib.Core.Bool.{Bool, true, false}
use mathlib.Core.List.{List, [], ◌∷◌, ◌++◌}
use native.Mathlib.Omega.{arith}
use lib.Dec.{ltb}
use lib.ListN.{length, take}
use lib.IntN.{pos}
use Rattle.laws.specs.Bytes.{bytes}
use Rattle.figures.specs.Outcome.{Outcome, answered, refused, and_then, map_answer}
use Rattle.figures.proofs.Laws.{answer_not_refusal, same_answer, both_answered, refused_map, answered_map}
use Rattle.laws.specs.Over.{over, length_over, over-take}
use Rattle.grid.specs.Grid.{Nodes, over_nodes, node_room, Grid, grid_with, trimmed}
use Rattle.grid.specs.Rules.{node_count}
use Rattle.grid.specs.Check.{layout, verdict, Passes}
use Rattle.grid.specs.declared.Header.{Header}
use Rattle.grid.proofs.NodeLists.{counted-room, first-over}
use Rattle.grid.proofs.Passing.{good}
use Rattle.grid.proofs.Front.{verdict_front}
use Rattle.lines.specs.Text.{line}
use Rattle.writing.specs.Writing.{in_room, room_after}
use Rattle.writing.proofs.Laws.{fits}
use Rattle.grid_text.specs.Text.{header_text, grid_text}
use Rattle.grid_text.specs.Writing.{writing}
use Rattle.grid_text.proofs.Lengths.{text-length}
use Rattle.grid_text.proofs.NodeLines.{lines-over}
use Rattle.grid_reader.specs.Reading.{header_of, reading, nodes_after}
use Rattle.text_round_trip.specs.Again.{scratch, text_again, grid_again, nodes_again}
use Rattle.text_round_trip.proofs.Accepted.{Accepted, accepted}
use Rattle.text_round_trip.proofs.ReadBack.{read_back}

-- ---- an outcome that the code answers

same_refusal : {A B : Type 0} {n k m j : ℕ} → ◌≡◌ {A = Outcome A} (refused n k) (refused m j) → ◌≡◌ {A = Outcome B} (refused n k) (refused m j)
same_refusal {n} {k} {m} {j} e =
    let p : n ≡ m = cc in
    let q : k ≡ j = cc in
    λ i. refused (p i) (q i)

-- ---- a text, read and written again

module _ (text room : List ℕ) where
  pub text_refused : {n k : ℕ} → refused n k ≡ map_answer header_of (reading text scratch)
      → (refused n k ≡ text_again text room) × (room ≡ room_after (refused n k) text room)
  unfolding text_again room_after
  text_refused e = (rw (refused_map header_of (reading text scratch) e), refl)

  -- the grid that was read stands at the front of the slices, and its text is the text that was read
  again : (g : Grid) (slices : Nodes) → Accepted text g → Passes (grid_with g.header (over_nodes g.nodes slices)) × (grid_text (grid_with g.header (over_nodes g.nodes slices)) ≡ text)
  unfolding grid_text
  again g slices a =
      let h = g.header in (
        sym (verdict_front (grid_with h (over_nodes g.nodes slices))) ∙ ap (λ (ns : Nodes). verdict (grid_with h ns)) (first-over a.counted slices) ∙ a.passes,
        ap (λ (t : List ℕ). (header_text h ++ t) ++ line (bytes "end=") (pos (node_count h) ∷ []))
            (lines-over g.nodes slices (node_count h) (omega (arith, counted-room a.counted)))
            ∙ sym a.same,
      )

  module _ {h : Header} {ns : Nodes} {o : Outcome ℕ} {after : List ℕ} (e : answered h ≡ map_answer header_of (reading text scratch))
      (p : ns ≡ nodes_after (reading text scratch) scratch)
      (w : o ≡ writing (grid_with h ns) room) (v : after ≡ room_after o (grid_text (grid_with h ns)) room) where
    pub text_again_lem : (o ≡ text_again text room) × (after ≡ room_after o text room)
    unfolding text_again writing nodes_after
    text_again_lem =
        let r = answered_map header_of (reading text scratch) e in
        let x : ns ≡ over_nodes r.0.nodes scratch = p ∙ ap (λ (k : Outcome Grid). nodes_after k scratch) r.1 in
        let b = again r.0 scratch (accepted text scratch r.0 r.1) in (
          w ∙ (λ i. writing (grid_with (sym r.2 i) (x i)) room) ∙ rw (b.0, b.1, r.1),
          v ∙ ap (λ (t : List ℕ). room_after o t room) ((λ i. grid_text (grid_with (sym r.2 i) (x i))) ∙ b.1),
        )

-- ---- a grid, written and read again

module _ (g : Grid) where
  abbrev text : List ℕ
  text = grid_text g

  -- a room of 48,000 bytes is enough
  module _ (room : List ℕ) (long : length room ≡ 48000) where
    written_whole : Passes g → writing g room ≡ answered (length text)
    unfolding writing
    written_whole p = rw p (fits text room (omega (arith, text-length g p)))

    written : {n : ℕ} → answered n ≡ writing g room → Passes g × (n ≡ length text)
    unfolding writing
    written e =
        let p = (both_answered (verdict g) (in_room text room) (sym e)).0.1 in
        (p, same_answer (e ∙ written_whole p))

    pub grid_refused : {n k : ℕ} (slices : Nodes) → refused n k ≡ writing g room
        → (refused n k ≡ grid_again g slices) × (slices ≡ nodes_again (refused n k) g.nodes slices)
    unfolding grid_again nodes_again writing
    grid_refused {n} {k} slices e = (go (verdict g) refl e, refl)
      where
        go : (o : Outcome Unit) → verdict g ≡ o → refused n k ≡ writing g room → refused n k ≡ grid_again g slices
        go (answered tt) q e = absurd (answer_not_refusal (sym (e ∙ written_whole q)))
        go (refused m j) q e = rw q (same_refusal (e ∙ rw q))

    -- what the reader is lent
    module _ {n : ℕ} {after : List ℕ} {w : Outcome ℕ} (f : w ≡ answered n) (e : w ≡ writing g room) (v : after ≡ room_after w text room) where
      wrote : Passes g × (n ≡ length text)
      wrote = written (sym f ∙ e)

      stands : after ≡ over text room
      unfolding room_after
      stands = v ∙ ap (λ (k : Outcome ℕ). room_after k text room) f

      pub lent : n ≤ length after
      lent = omega (arith, ap length stands, length_over text room (omega (arith, text-length g wrote.0)), wrote.1, text-length g wrote.0)

      lent-text : take n after ≡ text
      lent-text = ap (take n) stands ∙ over-take text room n (sym wrote.1)

      pub grid_again_lem : (slices : Nodes) {r : Outcome Header} {after_read : Nodes}
          → r ≡ map_answer header_of (reading (take n after) slices)
          → after_read ≡ nodes_after (reading (take n after) slices) slices
          → (r ≡ grid_again g slices) × (after_read ≡ nodes_again r g.nodes slices)
      unfolding grid_again nodes_again nodes_after layout
      grid_again_lem slices {r} {after_read} x y = go (ltb (node_room slices) (node_count g.header)) refl
        where
          p : Passes g
          p = wrote.0

          o : Outcome Grid
          o = reading (take n after) slices

          read : o ≡ and_then (layout (grid_with g.header slices)) (answered (trimmed g))
          read = ap (λ (t : List ℕ). reading t slices) lent-text ∙ read_back g p slices

          go : (d : Bool) → (ltb (node_room slices) (node_count g.header)) ≡ d
              → (r ≡ grid_again g slices) × (after_read ≡ nodes_again r g.nodes slices)
          go true q =
              let f : o ≡ refused 5 (node_count g.header) = read ∙ rw ((good g p).unbroken, q) in
              let s : r ≡ refused 5 (node_count g.header) = x ∙ ap (map_answer header_of) f in (
                s ∙ rw (p, q),
                y ∙ ap (λ k. nodes_after k slices) f ∙ ap (λ k. nodes_again k g.nodes slices) (sym s),
              )
          go false q =
              let f : o ≡ answered (trimmed g) = read ∙ rw ((good g p).unbroken, q) in
              let s : r ≡ answered g.header = x ∙ ap (map_answer header_of) f in (
                s ∙ rw (p, q),
                y ∙ ap (λ k. nodes_after k slices) f ∙ ap (λ k. nodes_again k g.nodes slices) (sym s),
              )
