-- What the state and the nodes that were read tell of the text, and that a byte which ends no number keeps it.
use Prim.Native.Nat.{ℕ, suc, ◌+◌, ◌-◌, ◌≤◌, ◌<◌}
use mathlib.Core.Path.{◌≡◌, refl, sym, ap, ◌∙◌, subst}
use mathlib.Core.Bool.{Bool, true, false, cond}
use mathlib.Core.List.{List, [], ◌∷◌, ◌++◌, append_assoc, append-nil}
use native.Mathlib.Numerals.{add-one}
use native.Mathlib.Omega.{arith}
use borrow.Author.Tests.{ne_eqb, ltb-true, ltb-false, lt-ltb, le-ltb}
use lib.Dec.{ltb, eqb}
use lib.IntN.{ℤ, pos}
use Rattle.std.specs.Prelude.{Some, None}
use Rattle.figures.specs.Outcome.{Outcome, answered, refused}
use Rattle.decimal.specs.Pushing.{minus_pushed, pushed, part}
use Rattle.decimal.specs.declared.Number.{Number}
use Rattle.decimal.proofs.Grown.{push-grown}
use Rattle.lines.specs.Text.{newline}
use Rattle.grid.specs.Grid.{Nodes, node_room}
use Rattle.grid_text.specs.Text.{header_text, node_lines}
use Rattle.grid_reader.specs.Scan.{number_sign, node_line_at, end_line_at, form_at, line_end, lines_before, line_at, at_place, with_number, stored}
use Rattle.grid_reader.specs.SoFar.{number_at, filled_form, lines_so_far, so_far, newlines}
use Rattle.grid_reader.specs.declared.scanner.Scan.{Scan}
use Rattle.grid_reader.specs.declared.scanner.Step.{Step}
use Rattle.grid_reader.proofs.FormLaws.{form_more}
use Rattle.grid_reader.proofs.Reached.{Reached}

-- what both sides of a test have
pub newlines_more : (w : List ℕ) (b : ℕ) → newlines (w ++ (b ∷ [])) ≡ newlines w + cond (eqb b newline) 1 0
unfolding newlines
newlines_more [] b = omega arith
newlines_more (x ∷ w) b = rw (newlines_more w b) (omega arith)

-- ---- what was read

pub record Read (s : Scan) (ns : Nodes) (w : List ℕ) : Type 0 where
  pub has_room : 2048 ≤ node_room ns
  pub same : so_far s ns ≡ w
  pub lines : line_at s.at s.node ≡ suc (newlines w)

-- what a step in the line of `node` leaves, if it is not a refusal, when the text is w
abbrev pub Kept : (node : ℕ) → Nodes → (w : List ℕ) → Outcome Step → Type 0
Kept k ns w (answered p) = Read p.scan (stored ns k p.node) w
Kept k ns w (refused m j) = Unit {0}

module _ {room : ℕ} (s : Scan) (o : Reached room s) (ns : Nodes) where
  -- ---- a fixed byte

  lines_more : eqb (form_at s.at) number_sign ≡ false → lines_so_far (at_place s (s.at + 1)) ns ≡ lines_so_far s ns ++ (form_at s.at ∷ [])
  unfolding lines_so_far
  lines_more e = go (ltb a node_line_at) refl (ltb a end_line_at) refl
    where
      a : ℕ
      a = s.at

      behind : (k : ℕ) (x : ℤ) (from : ℕ) → from ≤ a
          → header_text s.header ++ node_lines ns k ++ filled_form (λ _. x) from (a + 1 - from)
          ≡ header_text s.header ++ node_lines ns k ++ filled_form (λ _. x) from (a - from) ++ (form_at a ∷ [])
      behind k x from l =
          let t = header_text s.header ++ node_lines ns k in
          ap (λ (u : List ℕ). t ++ u) (form_more (λ _. x) from a (a - from) (a + 1 - from) (omega arith) (omega arith) e)
          ∙ sym (append_assoc t (filled_form (λ _. x) from (a - from)) (form_at a ∷ []))

      go : (x : Bool) → ltb a node_line_at ≡ x → (y : Bool) → ltb a end_line_at ≡ y → lines_so_far (at_place s (a + 1)) ns ≡ lines_so_far s ns ++ (form_at a ∷ [])
      go true f y g =
          let l : a + 1 < node_line_at = omega (arith, ltb-true a node_line_at f, o.past_newline.0) in
          rw (f, lt-ltb (a + 1) node_line_at l) (form_more (number_at s.header) 0 a a (a + 1) (omega arith) (omega arith) e)
      go false f true g =
          let l : a + 1 < end_line_at = omega (arith, ltb-true a end_line_at g, o.past_newline.1) in
          let m : node_line_at ≤ a = ltb-false a node_line_at f in
          rw (f, g, le-ltb (a + 1) node_line_at (omega arith), lt-ltb (a + 1) end_line_at l) (behind s.node s.lat node_line_at m)
      go false f false g =
          let m : end_line_at ≤ a = ltb-false a end_line_at g in
          rw (f, g, le-ltb (a + 1) node_line_at (omega arith), le-ltb (a + 1) end_line_at (omega arith)) (behind s.count (pos s.count) end_line_at m)

  module _ (w : List ℕ) (r : Read s ns w) where
    pub literal_read : (form_at s.at ≡ number_sign → ⊥) → Read (at_place s (s.at + 1)) ns (w ++ (form_at s.at ∷ []))
    unfolding so_far lines_before line_end
    literal_read n =
        let z : lines_so_far s ns ≡ w = sym (append-nil (lines_so_far s ns)) ∙ ap (λ (n : Number). lines_so_far s ns ++ part n) (sym (o.idle n)) ∙ r.same in
        record {
          has_room = r.has_room;
          same = append-nil (lines_so_far (at_place s (s.at + 1)) ns) ∙ lines_more (ne_eqb (form_at s.at) number_sign n) ∙ ap (λ (u : List ℕ). u ++ (form_at s.at ∷ [])) z;
          lines = rw (add-one, newlines_more w (form_at s.at)) (omega (arith, r.lines));
        }

    -- ---- a byte of a number

    module _ (b : ℕ) (m : Number) (q : pushed s.number b ≡ Some m) where
      -- it is no newline
      pushed_inline : eqb b newline ≡ false
      unfolding pushed minus_pushed
      pushed_inline =
          ne_eqb b newline (λ f. let e : None ≡ Some m = subst (λ (c : ℕ). pushed s.number c ≡ Some m) f q in absurd cc)

      pub digit_read : Read (with_number s m) ns (w ++ (b ∷ []))
      unfolding so_far lines_so_far
      digit_read = record {
        has_room = r.has_room;
        same =
            ap (λ (t : List ℕ). lines_so_far s ns ++ t) (push-grown s.number b m q).1
            ∙ sym (append_assoc (lines_so_far s ns) (part s.number) (b ∷ []))
            ∙ ap (λ (t : List ℕ). t ++ (b ∷ [])) r.same;
        lines = r.lines ∙ ap suc (sym (newlines_more w b ∙ rw pushed_inline (omega arith)));
      }
