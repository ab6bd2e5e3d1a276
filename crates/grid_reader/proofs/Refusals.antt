-- Document 01: "For 1 the place is the line at which the text first departs from the form: a missing line has the number it would
-- have had, a line without its newline its own, anything after `end` the number after it."
use Prim.Native.Nat.{ℕ, suc, ◌≤◌}
use mathlib.Core.Path.{◌≡◌, refl, sym, ap, ◌∙◌, subst}
use mathlib.Core.Bool.{Bool, true, false}
use mathlib.Core.List.{List, [], ◌∷◌, ◌++◌}
use mathlib.Core.Logic.{◌⊎◌, inl, inr}
use native.Mathlib.Omega.{arith}
use lib.Dec.{eqb}
use lib.ListN.{replicate, length-replicate}
use lib.IntN.{ℤ, pos}
use Rattle.figures.specs.Outcome.{Outcome, answered, refused}
use Rattle.figures.proofs.Laws.{answer_not_refusal}
use Rattle.grid.specs.Grid.{Nodes, node_lists, node_room}
use Rattle.grid_reader.specs.Reading.{reading}
use Rattle.grid_reader.specs.Scan.{whole_at, line_at, start, step, Scanned, taken, fed, ended}
use Rattle.grid_reader.specs.SoFar.{newlines}
use Rattle.grid_reader.specs.declared.scanner.Scan.{Scan}
use Rattle.grid_reader.specs.declared.scanner.Step.{Step}
use Rattle.grid_reader.proofs.Feeding.{fed_refused}
use Rattle.grid_reader.proofs.Cuts.{fed_pieces}
use Rattle.grid_reader.proofs.LineByLine.{line_by_line}
use Rattle.grid_reader.proofs.SoFarLaws.{so_far_lem}
use Rattle.grid_reader.proofs.Steps.{After, Closes, in_header, header-whole, lat_whole, next_node_lem, last_node_lem, text-whole, another_count, judged, Does, literal, digit, closes, off_form, closed_does, step_does}
use Rattle.grid_reader.proofs.OfForm.{OfForm, whole_of_form}
use Rattle.grid_reader.proofs.GoesOn.{goes_on}
use Rattle.grid_reader.proofs.Hopeless.{FirstHopeless, first_hopeless}

-- the text departs from the form at a byte, in the line of that byte
pub record Departs (text : List ℕ) (line : ℕ) (slices : Nodes) : Type 0 where
  pub before : List ℕ
  pub byte : ℕ
  pub rest : List ℕ
  pub same : text ≡ before ++ (byte ∷ []) ++ rest
  pub hopeless : FirstHopeless before byte line slices
  pub in_line : line ≡ suc (newlines before)

-- the text can go on, and is not whole: its next line is missing, or its last has no newline
pub record Stops (text : List ℕ) (line : ℕ) (slices : Nodes) : Type 0 where
  pub more : (x : List ℕ) × OfForm (reading (text ++ x) slices)
  pub in_line : line ≡ suc (newlines text)

-- ---- a byte: a refusal by 1 is in the line of the state

module _ (room : ℕ) (s : Scan) where
  abbrev Own : Outcome Step → Type 0
  Own = After (λ _. Unit {0}) (λ n k. n ≡ 1 → k ≡ line_at s.at s.node)

  closed_own : {x : ℤ} {z : Outcome Step} → Closes room s x z → Own z
  closed_own (in_header l) = tt
  closed_own (header-whole e h r f) = tt
  closed_own (lat_whole e) = tt
  closed_own (next_node_lem e l) = tt
  closed_own (last_node_lem e l) = tt
  closed_own (text-whole e q) = tt
  closed_own (another_count e q) = λ _. refl
  closed_own (judged n k e) = λ q. absurd (e q)

  step_own : {b : ℕ} {z : Outcome Step} → Does room s b z → Own z
  step_own (literal l n e) = tt
  step_own (digit m n e f) = tt
  step_own (closes m e x g) = closed_own (closed_does room s m x)
  step_own off_form = λ _. refl

-- ---- a text: where its scanning was refused

refused_same : {A : Type 0} {m n j k : ℕ} → ◌≡◌ {A = Outcome A} (refused m j) (refused n k) → (m ≡ n) × (j ≡ k)
refused_same e = (cc, cc)

same_refusal : {A B : Type 0} {m n j k : ℕ} → ◌≡◌ {A = Outcome A} (refused m j) (refused n k) → ◌≡◌ {A = Outcome B} (refused m j) (refused n k)
same_refusal e = let p = refused_same e in λ i. refused (p.0 i) (p.1 i)

-- the byte behind the part that went on was refused so
record FirstRefused (room : ℕ) (s : Scan) (ns : Nodes) (text : List ℕ) (n k : ℕ) : Type 0 where
  pub before : List ℕ
  pub byte : ℕ
  pub rest : List ℕ
  pub state : Scan
  pub same : text ≡ before ++ (byte ∷ []) ++ rest
  pub goes : (fed room (answered s) ns before).out ≡ answered state
  pub stops : step room state byte ≡ refused n k

module _ (room n k : ℕ) where
  first_refused : (text : List ℕ) (s : Scan) (ns : Nodes) → (fed room (answered s) ns text).out ≡ refused n k
      → FirstRefused room s ns text n k
  unfolding fed taken
  first_refused [] s ns e = absurd (answer_not_refusal e)
  first_refused (b ∷ text) s ns e = go (λ t ms. first_refused text t ms) (step room s b) refl e
    where
      -- the byte b goes on to t, with the nodes ms
      later : (t : Scan) (ms : Nodes) → taken s ns (step room s b) ≡ record { out = answered t; nodes = ms } → FirstRefused room t ms text n k
          → FirstRefused room s ns (b ∷ text) n k
      later t ms q a = record {
        before = b ∷ a.before;
        byte = a.byte;
        rest = a.rest;
        state = a.state;
        same = ap (λ (u : List ℕ). b ∷ u) a.same;
        goes = ap (λ (f : Scanned). (fed room f.out f.nodes a.before).out) q ∙ a.goes;
        stops = a.stops;
      }

      go : ((t : Scan) (ms : Nodes) → (fed room (answered t) ms text).out ≡ refused n k → FirstRefused room t ms text n k)
          → (z : Outcome Step) → step room s b ≡ z → (fed room (taken s ns z).out (taken s ns z).nodes text).out ≡ refused n k
          → FirstRefused room s ns (b ∷ text) n k
      go next (answered p) q e = later p.scan _ (rw q) (next p.scan _ e)
      go next (refused m j) q e =
          record { before = []; byte = b; rest = text; state = s; same = refl; goes = refl; stops = q ∙ same_refusal (ap (λ (x : Scanned). x.out) (sym (fed_refused room m j ns text)) ∙ e) }

  -- feeding that byte too gives the refusal
  refused_behind : (w : List ℕ) (b : ℕ) (s t : Scan) (ns : Nodes) → (fed room (answered s) ns w).out ≡ answered t → step room t b ≡ refused n k
      → (fed room (answered s) ns (w ++ (b ∷ []))).out ≡ refused n k
  unfolding fed taken
  refused_behind w b s t ns e f =
      let g = fed room (answered s) ns w in
      ap (λ (x : Scanned). x.out) (fed_pieces room (answered s) ns w (b ∷ []))
      ∙ ap (λ (o : Outcome Scan). (fed room o g.nodes (b ∷ [])).out) e
      ∙ ap (λ (z : Outcome Step). (taken t g.nodes z).out) f

-- ---- the reading of a text

module _ (text : List ℕ) (slices ns : Nodes) (l : 2048 ≤ node_room ns) (line : ℕ) where
  abbrev room : ℕ
  room = node_room slices

  stops : (s : Scan) → (fed room (answered start) ns text).out ≡ answered s → (ms : Nodes) → ended (answered s) ms ≡ refused 1 line → Stops text line slices
  stops s e ms f =
      let g = goes_on room ns l text s e in
      record {
        more = (g.0, subst OfForm (line_by_line (text ++ g.0) slices ns l) g.1);
        in_line = own (eqb s.at whole_at) refl ∙ (so_far_lem room ns l text s e).1;
      }
    where
      own : (t : Bool) → eqb s.at whole_at ≡ t → line ≡ line_at s.at s.node
      own true q = absurd (whole_of_form s ms q line f)
      own false q = sym (refused_same (rw q at f)).1

  departs-at : FirstRefused room start ns text 1 line → Departs text line slices
  departs-at a =
      let s = a.state in
      let own : line ≡ line_at s.at s.node = subst (Own room s) a.stops (step_own room s (step_does room s a.byte)) refl in
      record {
        before = a.before;
        byte = a.byte;
        rest = a.rest;
        same = a.same;
        hopeless = first_hopeless a.before a.byte line s slices ns l a.goes (refused_behind room 1 line a.before a.byte start s ns a.goes a.stops);
        in_line = own ∙ (so_far_lem room ns l a.before s a.goes).1;
      }

  by_end : (o : Outcome Scan) → (fed room (answered start) ns text).out ≡ o → (ms : Nodes) → ended o ms ≡ refused 1 line
      → Departs text line slices ⊎ Stops text line slices
  by_end (answered s) e ms f = inr (stops s e ms f)
  by_end (refused n k) e ms f = inl (departs-at (first_refused room 1 line text start ns (e ∙ same_refusal f)))

  scanned_refused : reading text slices ≡ refused 1 line → Departs text line slices ⊎ Stops text line slices
  scanned_refused e =
      let f = fed room (answered start) ns text in
      by_end f.out refl f.nodes (line_by_line text slices ns l ∙ e)

-- room for the scanner's nodes
long : (n : ℕ) → (ns : Nodes) × (n ≤ node_room ns)
long n = (node_lists (replicate n (pos 0)) (replicate n (pos 0)), omega (arith, length-replicate n (pos 0)))

-- a text that is refused by 1 departs from the form at its first hopeless byte, or stops before its end, in the line that was answered
pub form_refused : (text : List ℕ) (slices : Nodes) (line : ℕ) → reading text slices ≡ refused 1 line
    → Departs text line slices ⊎ Stops text line slices
form_refused text slices line e = let z = long 2048 in scanned_refused text slices z.0 z.1 line e
