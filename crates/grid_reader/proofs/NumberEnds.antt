-- The end of a number keeps what the state and the nodes tell of the text, at each of the nine places.
use Prim.Native.Nat.{ℕ, ◌+◌, ◌-◌, ◌≤◌, ◌<◌}
use mathlib.Core.Path.{◌≡◌, refl, sym, ap, ◌∙◌}
use mathlib.Core.Bool.{◌||◌, cond}
use mathlib.Core.List.{List, [], ◌∷◌, ◌++◌, append_assoc, append-nil}
use native.Mathlib.Omega.{arith}
use borrow.Author.Tests.{ltb-false, lt-ltb}
use lib.Dec.{ltb, eqb}
use lib.IntN.{ℤ, pos}
use Rattle.std.specs.Prelude.{Option, Some, None}
use Rattle.laws.specs.Logic.{by_test, eq_z, eq_z_holds}
use Rattle.figures.specs.Outcome.{Outcome, refuse_if}
use Rattle.decimal.specs.Spelling.{spell}
use Rattle.decimal.specs.Pushing.{none, value_of}
use Rattle.decimal.specs.declared.Number.{Number}
use Rattle.decimal.proofs.Grown.{value_spelled}
use Rattle.grid.specs.Grid.{Nodes, set_node, node_room}
use Rattle.grid.specs.Rules.{broken_rule, node_count}
use Rattle.grid.specs.Check.{refuse_at}
use Rattle.grid.specs.Nodes.{beyond_range}
use Rattle.grid.specs.declared.Header.{Header}
use Rattle.grid.proofs.NodeLists.{same_room, set_lengths}
use Rattle.lines.specs.Text.{newline, listed, line}
use Rattle.grid_text.specs.Text.{header_text, node_line, node_lines}
use Rattle.grid_text.proofs.NodeLines.{lines_stored}
use Rattle.grid_reader.specs.Reading.{comma}
use Rattle.grid_reader.specs.Scan.{number_sign, form, south_at, west_at, dlat_at, dlon_at, rows_at, cols_at, node_line_at, lat_at, lon_at, end_line_at, count_at, whole_at, form_at, line_end, lines_before, line_at, scan, on, node_read, filled, header_end, node_end, count_end, closed}
use Rattle.grid_reader.specs.SoFar.{number_at, filled_form, lines_so_far, so_far}
use Rattle.grid_reader.specs.declared.scanner.Step.{Step}
use Rattle.grid_reader.proofs.FormLaws.{header-whole}
use Rattle.grid_reader.proofs.Places.{at_places}
use Rattle.grid_reader.proofs.Steps.{by_refusal}
use Rattle.grid_reader.proofs.Reached.{Reached}
use Rattle.grid_reader.proofs.ReadSoFar.{newlines_more, Read, Kept}

three : (a b c d : List ℕ) → a ++ (b ++ c ++ d) ≡ a ++ b ++ c ++ d
three a b c d = simp append_assoc

four : (a b c d e : List ℕ) → a ++ (b ++ (c ++ d ++ e)) ≡ a ++ b ++ c ++ d ++ e
four a b c d e = simp append_assoc

module _ (room : ℕ) (n : Number) (h : Header) (c k : ℕ) (x : ℤ) (ns : Nodes) (w : List ℕ) (y : ℤ) (ended : value_of n ≡ Some y) where
  abbrev After : (b : ℕ) → Outcome Step → Type 0
  After b = Kept k ns (w ++ (b ∷ []))

  -- the byte behind the number at place a ends it
  abbrev Ends : ℕ → Type 0
  Ends a = Reached room (scan a n h c k x) → Read (scan a n h c k x) ns w → After (form_at (a + 1)) (closed room (scan a n h c k x) y)

  -- the state behind the number
  turned : (a : ℕ) → Reached room (scan a n h c k x) → Read (scan a n h c k x) ns w → (b t : ℕ) (h' : Header) (c' k' : ℕ) (x' : ℤ) (ms : Nodes)
      → node_room ms ≡ node_room ns
      → lines_so_far (scan t none h' c' k' x') ms ≡ lines_so_far (scan a n h c k x) ns ++ spell y ++ (b ∷ [])
      → line_at t k' ≡ line_at a k + cond (eqb b newline) 1 0
      → Read (scan t none h' c' k' x') ms (w ++ (b ∷ []))
  unfolding so_far
  turned a o r b t h' c' k' x' ms e g l =
      record {
        has_room = rw e r.has_room;
        same =
            append-nil (lines_so_far (scan t none h' c' k' x') ms) ∙ g
            ∙ ap (λ (u : List ℕ). lines_so_far (scan a n h c k x) ns ++ u ++ (b ∷ [])) (sym (value_spelled n o.good ended).0)
            ∙ ap (λ (u : List ℕ). u ++ (b ∷ [])) r.same;
        lines = l ∙ rw (newlines_more w b) (omega (arith, r.lines));
      }

  -- ---- the header

  header_ends : (a : ℕ) → a < cols_at → form_at (a + 1) ≡ newline → lines_before (a + 2) ≡ lines_before a + 1
      → filled_form (number_at (filled a y h)) 0 (a + 2) ≡ filled_form (number_at h) 0 a ++ spell y ++ (newline ∷ [])
      → Ends a
  unfolding closed lines_so_far
  header_ends a l e f g o r =
      rw (lt-ltb a cols_at l, e)
      (turned a o r newline (a + 2) (filled a y h) c k x ns refl
      (rw (lt-ltb a node_line_at (omega arith), lt-ltb (a + 2) node_line_at (omega arith)) g) (omega (arith, f)))

  -- the header is whole
  cols_ends : Ends cols_at
  unfolding closed header_end filled form lines_before line_end lines_so_far filled_form node_lines
  cols_ends o r =
      go (broken_rule whole)
    where
      whole : Header
      whole = filled cols_at y h

      after : Read (scan node_line_at none whole (node_count whole) k x) ns (w ++ (newline ∷ []))
      after =
          turned cols_at o r newline node_line_at whole (node_count whole) k x ns refl
          (append-nil (header_text whole ++ node_lines ns k) ∙ ap (λ (j : ℕ). header_text whole ++ node_lines ns j) (o.early (omega arith)) ∙ append-nil (header_text whole) ∙ sym (header-whole whole))
          (omega arith)

      go : (rule : Option ℕ) → After newline (refuse_at 2 rule (refuse_if (ltb room (node_count whole)) 5 (node_count whole) (on (scan node_line_at none whole (node_count whole) k x))))
      go (Some rule) = tt
      go None = by_refusal (After newline) (ltb room (node_count whole)) (λ _. tt) (λ _. after)

  -- ---- a node

  lat_ends : Ends lat_at
  unfolding closed form lines_before line_end lines_so_far filled_form
  lat_ends o r =
      turned lat_at o r comma lon_at h c k y ns refl
      (three (header_text h ++ node_lines ns k) (filled_form (λ _. x) node_line_at (lat_at - node_line_at)) (spell y) (comma ∷ [])) (omega arith)

  lon_ends : Ends lon_at
  unfolding closed node_end form lines_before line_end lines_so_far filled_form node_line line listed
  lon_ends o r =
      by_refusal (After newline) (beyond_range x || beyond_range y) (λ _. tt)
      (λ _. by_test (λ s. After newline (node_read s x y)) (ltb (k + 1) c)
      (λ _. turned lon_at o r newline node_line_at h c (k + 1) x ms stored (append-nil (header_text h ++ node_lines ms (k + 1)) ∙ same) (omega arith))
      (λ l.
      let q : k + 1 ≡ c = omega (arith, ltb-false (k + 1) c l, few.0) in
      turned lon_at o r newline end_line_at h c k x ms stored
      (append-nil (header_text h ++ node_lines ms c) ∙ ap (λ (j : ℕ). header_text h ++ node_lines ms j) (sym q) ∙ same) (omega arith)))
    where
      ms : Nodes
      ms = set_node ns k x y

      stored : node_room ms ≡ node_room ns
      stored = same_room (set_lengths ns k x y)

      few : (k < c) × (c ≤ 2048)
      few = o.counted (omega arith)

      same : header_text h ++ node_lines ms (k + 1) ≡ header_text h ++ node_lines ns k ++ filled_form (λ _. x) node_line_at (lon_at - node_line_at) ++ spell y ++ (newline ∷ [])
      same =
          ap (λ (t : List ℕ). header_text h ++ t) (lines_stored ns x y k (omega (arith, few, r.has_room)))
          ∙ four (header_text h) (node_lines ns k) (filled_form (λ _. x) node_line_at (lon_at - node_line_at)) (spell y) (newline ∷ [])

  -- ---- the number of nodes

  count_ends : Ends count_at
  unfolding closed count_end form lines_before line_end lines_so_far filled_form
  count_ends o r =
      by_test (After newline) (eq_z y (pos c))
      (λ e. turned count_at o r newline whole_at h c k x ns refl
      (three (header_text h ++ node_lines ns c) (filled_form (λ _. pos c) end_line_at (count_at - end_line_at)) (spell (pos c)) (newline ∷ [])
      ∙ ap (λ (v : ℤ). header_text h ++ node_lines ns c ++ filled_form (λ _. pos c) end_line_at (count_at - end_line_at) ++ spell v ++ (newline ∷ [])) (sym (eq_z_holds e)))
      (omega arith))
      (λ _. tt)

  pub number_ends : (a : ℕ) → form_at a ≡ number_sign → Ends a
  unfolding filled_form form filled lines_before line_end
  number_ends =
      at_places Ends
      (header_ends south_at (omega arith) refl refl refl)
      (header_ends west_at (omega arith) refl refl refl)
      (header_ends dlat_at (omega arith) refl refl refl)
      (header_ends dlon_at (omega arith) refl refl refl)
      (header_ends rows_at (omega arith) refl refl refl)
      cols_ends lat_ends lon_ends count_ends
