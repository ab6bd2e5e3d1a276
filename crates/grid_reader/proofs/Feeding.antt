-- Laws of the loop over a text: what is left of the text gives, from here, what the whole gives from the start.
use Prim.Native.Nat.{ℕ, ◌+◌, ◌≤◌, ◌<◌}
use mathlib.Core.Path.{◌≡◌, refl, sym, ap, ◌∙◌}
use mathlib.Core.List.{List, [], ◌∷◌}
use native.Mathlib.Numerals.{add-one}
use lib.ListN.{length, get_or, drop, drop_of_length-le}
use lib.Seq.{drop-cons}
use lib.IntN.{ℤ}
use Rattle.std.specs.Prelude.{Option, Some, None}
use Rattle.figures.specs.Outcome.{Outcome, answered, refused}
use Rattle.grid.specs.Grid.{Nodes}
use Rattle.grid.proofs.NodeLists.{SameLengths, same_lengths, lengths_trans, set_lengths}
use Rattle.grid_reader.specs.Scan.{step, stored, Scanned, taken, fed}
use Rattle.grid_reader.specs.declared.scanner.Scan.{Scan}
use Rattle.grid_reader.specs.declared.scanner.Step.{Step}

-- a call's answer, and the nodes that it leaves, are those of f
abbrev pub Leaves : Scanned → Outcome Scan → Nodes → Type 0
Leaves f o ns = (o ≡ f.out) × (ns ≡ f.nodes)

-- ---- one byte

stored_lengths : (ns : Nodes) (k : ℕ) (p : Option (ℤ × ℤ)) → SameLengths (stored ns k p) ns
stored_lengths ns k None = same_lengths
stored_lengths ns k (Some p) = set_lengths ns k p.0 p.1

taken_lengths : (s : Scan) (ns : Nodes) (x : Outcome Step) → SameLengths (taken s ns x).nodes ns
unfolding taken
taken_lengths s ns (answered p) = stored_lengths ns s.node p.node
taken_lengths s ns (refused n k) = same_lengths

pub fed_lengths : (room : ℕ) (o : Outcome Scan) (ns : Nodes) (text : List ℕ) → SameLengths (fed room o ns text).nodes ns
unfolding fed
fed_lengths room o ns [] = same_lengths
fed_lengths room (answered s) ns (b ∷ text) =
    let f = taken s ns (step room s b) in
    lengths_trans (fed_lengths room f.out f.nodes text) (taken_lengths s ns (step room s b))
fed_lengths room (refused n k) ns (b ∷ text) = same_lengths

-- ---- the loop

fed-step : (room : ℕ) (s : Scan) (ns : Nodes) (text : List ℕ) (i : ℕ) → i < length text
    → let f = taken s ns (step room s (get_or text i 0)) in
    fed room (answered s) ns (drop i text) ≡ fed room f.out f.nodes (drop (i + 1) text)
unfolding fed
fed-step room s ns text i h = rw (add-one, drop-cons text i 0)

-- a refusal is final
pub fed_refused : (room n k : ℕ) (ns : Nodes) (text : List ℕ) → fed room (refused n k) ns text ≡ record { out = refused n k; nodes = ns }
unfolding fed
fed_refused room n k ns [] = refl
fed_refused room n k ns (b ∷ text) = refl

leaves : {o : Outcome Scan} {ns : Nodes} {f : Scanned} → ◌≡◌ {A = Scanned} (record { out = o; nodes = ns }) f → Leaves f o ns
leaves e = (ap (λ (f : Scanned). f.out) e, ap (λ (f : Scanned). f.nodes) e)

module _ (f : Scanned) (room : ℕ) (s : Scan) (ns : Nodes) (text : List ℕ) (i : ℕ) (inv : fed room (answered s) ns (drop i text) ≡ f) where
  module _ (h : i < length text) {o : Outcome Scan} {ms : Nodes} (e : Leaves (taken s ns (step room s (get_or text i 0))) o ms) where
    pub fed_again : fed room o ms (drop (i + 1) text) ≡ f
    fed_again = rw (e.0, e.1) (sym (fed-step room s ns text i h) ∙ inv)

  pub fed-left : i < length text → {m k : ℕ} {ms : Nodes} → Leaves (taken s ns (step room s (get_or text i 0))) (refused m k) ms → Leaves f (refused m k) ms
  fed-left h {m} {k} {ms} e = leaves (sym (fed_refused room m k ms (drop (i + 1) text)) ∙ fed_again h e)

  pub fed-end : length text ≤ i → Leaves f (answered s) ns
  unfolding fed
  fed-end h = leaves (ap (fed room (answered s) ns) (sym (drop_of_length-le text h)) ∙ inv)
