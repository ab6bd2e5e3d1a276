-- What every state has that a text comes to.
use Prim.Native.Nat.{ℕ, suc, ◌+◌, ◌≤◌, ◌<◌}
use mathlib.Core.Path.{◌≡◌, refl, ap}
use mathlib.Core.Bool.{true}
use mathlib.Core.Logic.{◌⊎◌, inl, inr}
use native.Mathlib.Omega.{arith}
use lib.IntN.{ℤ}
use Rattle.figures.specs.Outcome.{Outcome}
use Rattle.decimal.specs.Pushing.{none}
use Rattle.decimal.proofs.Grown.{Good, good_none, push-grown}
use Rattle.grid.specs.declared.Header.{Header}
use Rattle.grid_reader.specs.Scan.{number_sign, form, cols_at, node_line_at, lon_at, end_line_at, count_at, whole_at, form_at, scan, start, leads, step}
use Rattle.grid_reader.specs.declared.scanner.Scan.{Scan}
use Rattle.grid_reader.specs.declared.scanner.Step.{Step}
use Rattle.grid_reader.proofs.NodesSoFar.{node_count_lem}
use Rattle.grid_reader.proofs.Steps.{After, Closes, in_header, header-whole, lat_whole, next_node_lem, last_node_lem, text-whole, another_count, judged, Does, literal, digit, closes, off_form, closed_does, step_does}

-- the last number of the header, and that of a node's line, is left with its newline
abbrev PastNewline : ℕ → Type 0
PastNewline a = (a ≡ suc cols_at → ⊥) × (a ≡ suc lon_at → ⊥)

pub record Reached (room : ℕ) (s : Scan) : Type 0 where
  pub inside : s.at ≤ whole_at
  pub past_newline : PastNewline s.at
  pub good : Good s.number
  pub idle : (form_at s.at ≡ number_sign → ⊥) → s.number ≡ none
  -- in the header no node was read; behind it the nodes are counted, and there is room for them
  pub early : s.at < node_line_at → s.node ≡ 0
  pub counted : node_line_at ≤ s.at → (s.node < s.count) × (s.count ≤ 2048)
  pub held : node_line_at ≤ s.at → s.count ≤ room
  pub last : end_line_at ≤ s.at → s.node + 1 ≡ s.count
  -- the last line's number leads to that count
  pub led : s.at ≡ count_at → (s.number ≡ none) ⊎ (leads s.number s.count ≡ true)

module _ (room : ℕ) where
  -- with no number under way, in the header
  ahead : {a c k : ℕ} {h : Header} {x : ℤ} → a < node_line_at → PastNewline a → k ≡ 0 → Reached room (scan a none h c k x)
  ahead l n e = record {
    inside = omega arith;
    past_newline = n;
    good = good_none;
    idle = λ _. refl;
    early = λ _. e;
    counted = λ i. absurd (omega arith);
    held = λ i. absurd (omega arith);
    last = λ i. absurd (omega arith);
    led = λ _. inl refl;
  }

  -- and behind it
  behind : {a c k : ℕ} {h : Header} {x : ℤ} → node_line_at ≤ a → a ≤ whole_at → PastNewline a → (k < c) × (c ≤ 2048) → c ≤ room → (end_line_at ≤ a → k + 1 ≡ c)
      → Reached room (scan a none h c k x)
  behind l m n f g e = record {
    inside = m;
    past_newline = n;
    good = good_none;
    idle = λ _. refl;
    early = λ i. absurd (omega arith);
    counted = λ _. f;
    held = λ _. g;
    last = e;
    led = λ _. inl refl;
  }

  abbrev pub Kept : Outcome Step → Type 0
  Kept = After (Reached room) (λ _ _. Unit {0})

  module _ (s : Scan) (o : Reached room s) where
    closed_kept : {x : ℤ} {z : Outcome Step} → Closes room s x z → Kept z
    closed_kept (in_header l) = ahead (omega arith) (omega arith, omega arith) (o.early (omega arith))
    closed_kept (header-whole e h r f) =
        let n = node_count_lem h r in
        behind (omega arith) (omega arith) (omega arith, omega arith) (omega (arith, n.0, o.early (omega arith)), n.1) f (λ i. absurd (omega arith))
    closed_kept (lat_whole e) =
        behind (omega arith) (omega arith) (omega arith, omega arith) (o.counted (omega arith)) (o.held (omega arith)) (λ i. absurd (omega arith))
    closed_kept (next_node_lem e l) =
        behind (omega arith) (omega arith) (omega arith, omega arith) (l, (o.counted (omega arith)).1) (o.held (omega arith)) (λ i. absurd (omega arith))
    closed_kept (last_node_lem e l) =
        let f = o.counted (omega arith) in
        behind (omega arith) (omega arith) (omega arith, omega arith) f (o.held (omega arith)) (λ _. omega (arith, f.0))
    closed_kept (text-whole e q) =
        behind (omega arith) (omega arith) (omega arith, omega arith) (o.counted (omega arith)) (o.held (omega arith)) (λ _. o.last (omega arith))
    closed_kept (another_count e q) = tt
    closed_kept (judged n k e) = tt

    step_kept : {b : ℕ} {z : Outcome Step} → Does room s b z → Kept z
    unfolding form
    step_kept (literal l n e) =
        let p : s.at ≡ cols_at → ⊥ = λ q. n (ap form_at q) in
        let r : s.at ≡ lon_at → ⊥ = λ q. n (ap form_at q) in
        record {
          inside = omega arith;
          past_newline = (λ q. p (omega arith), λ q. r (omega arith));
          good = good_none;
          idle = λ _. refl;
          early = λ i. o.early (omega arith);
          counted = λ i. o.counted (omega (arith, o.past_newline));
          held = λ i. o.held (omega (arith, o.past_newline));
          last = λ i. o.last (omega (arith, o.past_newline));
          led = λ _. inl refl;
        }
    step_kept (digit m n e f) = record {
      inside = o.inside;
      past_newline = o.past_newline;
      good = (push-grown s.number _ n e).0;
      idle = λ i. absurd (i m);
      early = o.early;
      counted = o.counted;
      held = o.held;
      last = o.last;
      led = λ q. inr (f q);
    }
    step_kept (closes m e x g) = closed_kept (closed_does room s m x)
    step_kept off_form = tt

    pub reached_step : (b : ℕ) → Kept (step room s b)
    reached_step b = step_kept (step_does room s b)

  pub reached_start : Reached room start
  reached_start = ahead (omega arith) (omega arith, omega arith) refl
