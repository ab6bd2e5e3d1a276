-- The text that was read so far is told by the state and the nodes that were read, so no two texts come to the same.
use Prim.Native.Nat.{ℕ, suc, ◌≤◌}
use mathlib.Core.Path.{◌≡◌, refl, sym, ap, ◌∙◌}
use mathlib.Core.List.{List, [], ◌∷◌, ◌++◌, append_assoc, append-nil}
use Rattle.figures.specs.Outcome.{Outcome, answered, refused}
use Rattle.figures.proofs.Laws.{answer_not_refusal, same_answer}
use Rattle.grid.specs.Grid.{Nodes, node_room}
use Rattle.grid_reader.specs.Scan.{lines_before, line_at, start, step, stored, Scanned, taken, fed}
use Rattle.grid_reader.specs.SoFar.{filled_form, lines_so_far, so_far, newlines}
use Rattle.grid_reader.specs.declared.scanner.Scan.{Scan}
use Rattle.grid_reader.specs.declared.scanner.Step.{Step}
use Rattle.grid_reader.proofs.Feeding.{fed_refused}
use Rattle.grid_reader.proofs.Steps.{Does, literal, digit, closes, off_form, step_does}
use Rattle.grid_reader.proofs.Reached.{Reached, reached_start, Kept as Going, reached_step}
use Rattle.grid_reader.proofs.ReadSoFar.{Read, Kept, literal_read, digit_read}
use Rattle.grid_reader.proofs.NumberEnds.{number_ends}

-- ---- a byte

module _ (room : ℕ) (s : Scan) (o : Reached room s) (ns : Nodes) (w : List ℕ) (r : Read s ns w) where
  step_read : {b : ℕ} {z : Outcome Step} → Does room s b z → Kept s.node ns (w ++ (b ∷ [])) z
  step_read (literal l n e) = rw e (literal_read s o ns w r n)
  step_read {b} (digit m n e f) = digit_read s o ns w r b n e
  step_read (closes m e x g) = rw e (number_ends room s.number s.header s.count s.node s.lat ns w x g s.at m o r)
  step_read off_form = tt

-- ---- a text

read_start : (ns : Nodes) → 2048 ≤ node_room ns → Read start ns []
unfolding so_far lines_so_far filled_form newlines lines_before
read_start ns l = record { has_room = l; same = refl; lines = refl }

refused_on : {n k : ℕ} {s : Scan} → refused n k ≡ answered s → ⊥
refused_on e = answer_not_refusal (sym e)

module _ (room : ℕ) where
  -- what is left of a text behind the step of a byte
  abbrev rest : Scan → Nodes → Outcome Step → List ℕ → Scanned
  rest s ns x t = let f = taken s ns x in fed room f.out f.nodes t

  read_text : (s : Scan) (ns : Nodes) (w t : List ℕ) (u : Scan) → Reached room s → Read s ns w → (fed room (answered s) ns t).out ≡ answered u
      → Reached room u × Read u (fed room (answered s) ns t).nodes (w ++ t)
  unfolding fed taken
  read_text s ns w [] u o r e = let q : s ≡ u = same_answer e in rw (append-nil, ← q) (o, r)
  read_text s ns w (b ∷ t) u o r e =
      rw (← append_assoc w (b ∷ []) t) (go (λ v ms. read_text v ms (w ++ (b ∷ [])) t u) (step room s b) (reached_step room s o b) (step_read room s o ns w r (step_does room s b)) e)
    where
      go : ((v : Scan) (ms : Nodes) → Reached room v → Read v ms (w ++ (b ∷ [])) → (fed room (answered v) ms t).out ≡ answered u
          → Reached room u × Read u (fed room (answered v) ms t).nodes (w ++ (b ∷ []) ++ t))
          → (z : Outcome Step) → Going room z → Kept s.node ns (w ++ (b ∷ [])) z → (rest s ns z t).out ≡ answered u
          → Reached room u × Read u (rest s ns z t).nodes (w ++ (b ∷ []) ++ t)
      go next (answered p) g k e = next p.scan (stored ns s.node p.node) g k e
      go next (refused m j) g k e = absurd (refused_on (ap (λ (f : Scanned). f.out) (sym (fed_refused room m j ns t)) ∙ e))

  module _ (ns : Nodes) (l : 2048 ≤ node_room ns) (w : List ℕ) (s : Scan) (e : (fed room (answered start) ns w).out ≡ answered s) where
    read_start_text : Reached room s × Read s (fed room (answered start) ns w).nodes w
    read_start_text = read_text start ns [] w s (reached_start room) (read_start ns l) e

    pub reached : Reached room s
    reached = read_start_text.0

    pub so_far_lem : (so_far s (fed room (answered start) ns w).nodes ≡ w) × (line_at s.at s.node ≡ suc (newlines w))
    so_far_lem = (read_start_text.1.same, read_start_text.1.lines)

  -- two texts that come to the same state and the same nodes are one
  pub determined : (ns : Nodes) → 2048 ≤ node_room ns → (v w : List ℕ) (s : Scan)
      → fed room (answered start) ns v ≡ fed room (answered start) ns w → (fed room (answered start) ns w).out ≡ answered s → v ≡ w
  determined ns l v w s e f =
      sym (so_far_lem ns l v s (ap (λ (x : Scanned). x.out) e ∙ f)).0
      ∙ ap (λ (x : Scanned). so_far s x.nodes) e
      ∙ (so_far_lem ns l w s f).0
