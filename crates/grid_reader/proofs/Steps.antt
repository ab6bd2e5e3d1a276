-- What a byte does to a state, by cases. A law of every step is proved over these.
use Prim.Native.Nat.{ℕ, ◌+◌, ◌≤◌, ◌<◌}
use mathlib.Core.Path.{◌≡◌, refl}
use mathlib.Core.Bool.{Bool, true, false, not, ◌&&◌, ◌||◌}
use native.Mathlib.Omega.{arith}
use borrow.Author.Tests.{eqb-true, eqb-false, eq-eqb, ltb-true, ltb-false, not-false}
use lib.Dec.{ltb, eqb}
use lib.IntN.{ℤ, pos}
use Rattle.std.specs.Prelude.{Option, Some, None}
use Rattle.laws.specs.Logic.{both, second_fails, by_test, not_both, eq_z, eq_z_holds, eq_z_true}
use Rattle.figures.specs.Outcome.{Outcome, answered, refused, refuse_if}
use Rattle.decimal.specs.Pushing.{pushed, value_of}
use Rattle.decimal.specs.declared.Number.{Number}
use Rattle.grid.specs.Rules.{broken_rule, node_count}
use Rattle.grid.specs.Nodes.{beyond_range}
use Rattle.grid.specs.Check.{refuse_at}
use Rattle.grid.specs.declared.Header.{Header}
use Rattle.grid_reader.specs.Reading.{whole}
use Rattle.grid_reader.specs.Scan.{number_sign, cols_at, node_line_at, lat_at, lon_at, end_line_at, count_at, whole_at, form_at, at_place, with_number, with_header, with_count, with_lat, next_node, on, node_read, departs, line_at, filled, header_end, node_end, count_end, closed, leads, grown, number_step, literal_step, step}
use Rattle.grid_reader.specs.declared.scanner.Scan.{Scan}
use Rattle.grid_reader.specs.declared.scanner.Step.{Step}
use Rattle.grid_reader.proofs.Places.{next_in_header, last_number}

-- a law of each outcome of a test
pub by_refusal : {A : Type 0} (P : Outcome A → Type 0) (t : Bool) {n k : ℕ} {o : Outcome A} → (t ≡ true → P (refused n k)) → (t ≡ false → P o) → P (refuse_if t n k o)
by_refusal P true f g = f refl
by_refusal P false f g = g refl

-- what a step goes on to, or is refused with
abbrev pub After : (Scan → Type 0) → ((number place : ℕ) → Type 0) → Outcome Step → Type 0
After P Q (answered p) = P p.scan
After P Q (refused n k) = Q n k

-- a number has ended that is x
pub data Closes (room : ℕ) (s : Scan) (x : ℤ) : Outcome Step → Type 0 where
  in_header : s.at + 2 < cols_at → Closes room s x (on (at_place (with_header s (filled s.at x s.header)) (s.at + 2)))
  header-whole : s.at ≡ cols_at → (h : Header) → broken_rule h ≡ None → node_count h ≤ room → Closes room s x (on (at_place (with_count (with_header s h) (node_count h)) node_line_at))
  lat_whole : s.at ≡ lat_at → Closes room s x (on (at_place (with_lat s x) lon_at))
  next_node_lem : s.at ≡ lon_at → s.node + 1 < s.count → Closes room s x (node_read (at_place (next_node s) node_line_at) s.lat x)
  last_node_lem : s.at ≡ lon_at → s.count ≤ s.node + 1 → Closes room s x (node_read (at_place s end_line_at) s.lat x)
  text-whole : s.at ≡ count_at → x ≡ pos s.count → Closes room s x (on (at_place s whole_at))
  another_count : s.at ≡ count_at → (x ≡ pos s.count → ⊥) → Closes room s x (departs s)
  -- a rule of the header, the room, or the range of a node
  judged : (n k : ℕ) → (n ≡ 1 → ⊥) → Closes room s x (refused n k)

-- the byte is b
pub data Does (room : ℕ) (s : Scan) (b : ℕ) : Outcome Step → Type 0 where
  literal : s.at < whole_at → (form_at s.at ≡ number_sign → ⊥) → b ≡ form_at s.at → Does room s b (on (at_place s (s.at + 1)))
  digit : form_at s.at ≡ number_sign → (n : Number) → pushed s.number b ≡ Some n → (s.at ≡ count_at → leads n s.count ≡ true)
      → Does room s b (on (with_number s n))
  closes : form_at s.at ≡ number_sign → b ≡ form_at (s.at + 1) → (x : ℤ) → value_of s.number ≡ Some x → Does room s b (closed room s x)
  off_form : Does room s b (departs s)

module _ (room : ℕ) (s : Scan) where
  header_closes : s.at ≡ cols_at → (x : ℤ) (h : Header) → Closes room s x (header_end room (with_header s h))
  unfolding header_end
  header_closes e x h = go (broken_rule h) refl
    where
      n : ℕ
      n = node_count h

      go : (o : Option ℕ) → broken_rule h ≡ o → Closes room s x (refuse_at 2 o (refuse_if (ltb room n) 5 n (on (at_place (with_count (with_header s h) n) node_line_at))))
      go (Some rule) r = judged 2 rule (omega arith)
      go None r =
          by_refusal (Closes room s x) (ltb room n) (λ _. judged 5 n (omega arith))
          (λ l. header-whole e h r (ltb-false room n l))

  node_closes : s.at ≡ lon_at → (x : ℤ) → Closes room s x (node_end s x)
  unfolding node_end
  node_closes e x =
      by_refusal (Closes room s x) (beyond_range s.lat || beyond_range x) (λ _. judged 3 s.node (omega arith))
      (λ _. by_test (λ t. Closes room s x (node_read t s.lat x)) (ltb (s.node + 1) s.count) (λ l. next_node_lem e (ltb-true (s.node + 1) s.count l)) (λ l. last_node_lem e (ltb-false (s.node + 1) s.count l)))

  pub closed_does : form_at s.at ≡ number_sign → (x : ℤ) → Closes room s x (closed room s x)
  unfolding closed count_end
  closed_does m x =
      by_test (Closes room s x) (ltb s.at cols_at) (λ l. in_header (next_in_header s.at m (ltb-true s.at cols_at l)))
      (λ p. by_test (Closes room s x) (eqb s.at cols_at) (λ e. header_closes (eqb-true s.at cols_at e) x _)
      (λ q. by_test (Closes room s x) (eqb s.at lat_at) (λ e. lat_whole (eqb-true s.at lat_at e))
      (λ r. by_test (Closes room s x) (eqb s.at lon_at) (λ e. node_closes (eqb-true s.at lon_at e) x)
      (λ u.
      let e = last_number s.at m p q r u in
      by_test (Closes room s x) (eq_z x (pos s.count)) (λ f. text-whole e (eq_z_holds f))
      (λ f. another_count e (λ g. not_both (eq_z_true g) f))))))

  pushed_does : (b : ℕ) → form_at s.at ≡ number_sign → (p : Option Number) → pushed s.number b ≡ p → Does room s b (whole (line_at s.at s.node) p (grown s))
  unfolding grown
  pushed_does b m (Some n) e =
      by_test (Does room s b) (eqb s.at count_at && not (leads n s.count)) (λ _. off_form)
      (λ f. digit m n e (λ q. not-false (leads n s.count) (second_fails (eqb s.at count_at) (not (leads n s.count)) f (eq-eqb s.at count_at q))))
  pushed_does b m None e = off_form

  ended_does : (b : ℕ) → form_at s.at ≡ number_sign → b ≡ form_at (s.at + 1) → (v : Option ℤ) → value_of s.number ≡ v
      → Does room s b (whole (line_at s.at s.node) v (closed room s))
  ended_does b m e (Some x) f = closes m e x f
  ended_does b m e None f = off_form

  pub step_does : (b : ℕ) → Does room s b (step room s b)
  unfolding step number_step literal_step
  step_does b =
      by_test (Does room s b) (eqb (form_at s.at) number_sign)
      (λ m. let m = eqb-true (form_at s.at) number_sign m in
      by_test (Does room s b) (eqb b (form_at (s.at + 1)))
      (λ e. ended_does b m (eqb-true b (form_at (s.at + 1)) e) (value_of s.number) refl)
      (λ _. pushed_does b m (pushed s.number b) refl))
      (λ m. by_test (Does room s b) (ltb s.at whole_at && eqb b (form_at s.at))
      (λ t.
      let c = both (ltb s.at whole_at) (eqb b (form_at s.at)) t in
      literal (ltb-true s.at whole_at c.0) (eqb-false (form_at s.at) number_sign m) (eqb-true b (form_at s.at) c.1))
      (λ _. off_form))
