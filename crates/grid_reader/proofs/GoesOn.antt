-- Every state that a text comes to goes on to a text of the form.
use Prim.Native.Nat.{ℕ, zero, suc, ◌+◌, ◌-◌, ◌*◌, ◌/◌, ◌%◌, ◌≤◌, ◌<◌}
use mathlib.Core.Path.{◌≡◌, refl, sym, ap, ◌∙◌, subst}
use mathlib.Core.Bool.{Bool, true, false, not, ◌&&◌}
use mathlib.Core.List.{List, [], ◌∷◌, ◌++◌}
use mathlib.Core.Logic.{◌⊎◌, inl, inr}
use native.Mathlib.Omega.{arith}
use borrow.Author.Tests.{eqb-true, eqb-false, eq-eqb, ne_eqb, lt-ltb}
use lib.Dec.{eqb}
use lib.IntN.{ℤ, pos}
use Rattle.laws.specs.Logic.{and_false}
use Rattle.std.specs.Prelude.{Option, Some, None}
use Rattle.figures.specs.Outcome.{Outcome, answered, refused}
use Rattle.decimal.specs.Pushing.{none, number, pushed, signed, value_of}
use Rattle.decimal.specs.declared.Number.{Number}
use Rattle.decimal.proofs.Grown.{value_small}
use Rattle.decimal.proofs.Spelled.{first_digit, more_digit}
use Rattle.grid.specs.Grid.{Nodes, node_room}
use Rattle.grid_reader.specs.Scan.{number_sign, count_at, whole_at, form_at, start, closed, leads, grown, number_step, literal_step, step, fed, finished}
use Rattle.grid_reader.specs.declared.scanner.Scan.{Scan}
use Rattle.grid_reader.specs.declared.scanner.Step.{Step}
use Rattle.grid_reader.proofs.Cuts.{fed_pieces}
use Rattle.grid_reader.proofs.Onward.{read_from, onward, one_byte}
use Rattle.grid_reader.proofs.Count.{Front, leads_front, front_leads}
use Rattle.grid_reader.proofs.Places.{below-digits}
use Rattle.grid_reader.proofs.Steps.{After, Closes, in_header, header-whole, lat_whole, next_node_lem, last_node_lem, text-whole, another_count, judged, closed_does}
use Rattle.grid_reader.proofs.Reached.{Reached, Kept, reached_step}
use Rattle.grid_reader.proofs.SoFarLaws.{reached}
use Rattle.grid_reader.proofs.OfForm.{OfForm, refused_of_form, whole_of_form}

-- ---- how much a state still needs

-- the most nodes that may be left, then the places of the form
abbrev way : Scan → ℕ
way s = 100 * (2048 - s.node) + (whole_at - s.at)

-- of the number under way: to begin, and then to grow to the most nodes
abbrev to_grow : Option ℕ → ℕ
to_grow None = 2049
to_grow (Some m) = 2048 - m

abbrev left : Number → ℕ
left n = to_grow n.magnitude

abbrev size : Scan → ℕ
size s = 3000 * way s + left s.number

-- ---- the next digit of the count

next_digit : (c m : ℕ) → 0 < c → c ≤ 2048 → (m ≡ 0) ⊎ Front c m → (m ≡ c → ⊥) → (j : ℕ) × (j / 10 ≡ m) × (0 < j) × (j ≤ c) × Front c j
next_digit c m p l f n = go f (eqb (c / 10) m) refl (eqb (c / 100) m) refl (eqb (c / 1000) m) refl
  where
    go : (m ≡ 0) ⊎ Front c m → (x : Bool) → eqb (c / 10) m ≡ x → (y : Bool) → eqb (c / 100) m ≡ y → (z : Bool) → eqb (c / 1000) m ≡ z
        → (j : ℕ) × (j / 10 ≡ m) × (0 < j) × (j ≤ c) × Front c j
    go f true a y b z d = (c, eqb-true (c / 10) m a, p, omega arith, inl refl)
    go f false a true b z d = let q = eqb-true (c / 100) m b in let r = eqb-false (c / 10) m a in (c / 10, omega arith, omega arith, omega arith, inr (inl refl))
    go f false a false b true d =
        let q = eqb-true (c / 1000) m d in let r = eqb-false (c / 100) m b in (c / 100, omega arith, omega arith, omega arith, inr (inr (inl refl)))
    go (inl e) false a false b false d = let r = eqb-false (c / 1000) m d in (c / 1000, omega arith, omega arith, omega arith, inr (inr (inr refl)))
    go (inr (inl e)) false a false b false d = absurd (n e)
    go (inr (inr (inl e))) false a false b false d = absurd (eqb-false (c / 10) m a (sym e))
    go (inr (inr (inr (inl e)))) false a false b false d = absurd (eqb-false (c / 100) m b (sym e))
    go (inr (inr (inr (inr e)))) false a false b false d = absurd (eqb-false (c / 1000) m d (sym e))

module _ (room : ℕ) where
  -- ---- some byte leads on, or to a refusal that is not of the form
  module _ (s : Scan) (o : Reached room s) where
    abbrev Forward : Outcome Step → Type 0
    Forward = After (λ t. size t < size s) (λ n _. n ≡ 1 → ⊥)

    -- the form's byte
    literal_forward : eqb (form_at s.at) number_sign ≡ false → s.at < whole_at → Forward (step room s (form_at s.at))
    unfolding step literal_step
    literal_forward n l = rw (n, lt-ltb s.at whole_at l, eq-eqb (form_at s.at) (form_at s.at) refl) (omega arith)

    module _ (m : eqb (form_at s.at) number_sign ≡ true) where
      numbered : form_at s.at ≡ number_sign
      numbered = eqb-true (form_at s.at) number_sign m

      -- the byte that ends a number
      closes_forward : {x : ℤ} {z : Outcome Step} → (s.at ≡ count_at → x ≡ pos s.count) → Closes room s x z → Forward z
      closes_forward f (in_header l) = omega arith
      closes_forward f (header-whole e h r g) = omega arith
      closes_forward f (lat_whole e) = omega arith
      closes_forward f (next_node_lem e l) = omega (arith, o.counted (omega arith))
      closes_forward f (last_node_lem e l) = omega arith
      closes_forward f (text-whole e q) = omega arith
      closes_forward f (another_count e q) = absurd (q (f e))
      closes_forward f (judged n k e) = e

      closed-step : {x : ℤ} → value_of s.number ≡ Some x → step room s (form_at (s.at + 1)) ≡ closed room s x
      unfolding step number_step
      closed-step e = rw (m, eq-eqb (form_at (s.at + 1)) (form_at (s.at + 1)) refl, e)

      close_forward : {x : ℤ} → value_of s.number ≡ Some x → (s.at ≡ count_at → x ≡ pos s.count) → Forward (step room s (form_at (s.at + 1)))
      close_forward {x} e f = subst Forward (sym (closed-step e)) (closes_forward f (closed_does room s numbered x))

      -- the number that was read
      value : (j : ℕ) → s.number.magnitude ≡ Some j → value_of s.number ≡ Some (signed s.number.negative j)
      value j e = value_small s.number j e (o.good.spells j e).small

      -- one digit more
      digit_forward : (d : ℕ) (n : Number) → pushed s.number (48 + d) ≡ Some n → (s.at ≡ count_at → leads n s.count ≡ true) → left n < left s.number
          → Forward (step room s (48 + d))
      unfolding step number_step grown
      digit_forward d n e f l =
          rw (m, ne_eqb (48 + d) (form_at (s.at + 1)) (omega (arith, below-digits s.at numbered)), e, leading (eqb s.at count_at) refl) (omega arith)
        where
          leading : (t : Bool) → eqb s.at count_at ≡ t → (t && not (leads n s.count)) ≡ false
          leading true q = rw (f (eqb-true s.at count_at q))
          leading false q = refl

      -- a number ends, or begins with 1
      number_forward : (s.at ≡ count_at → ⊥) → (b : ℕ) × Forward (step room s b)
      number_forward n = go s.number.magnitude refl
        where
          go : (t : Option ℕ) → s.number.magnitude ≡ t → (b : ℕ) × Forward (step room s b)
          go (Some j) e = (form_at (s.at + 1), close_forward (value j e) (λ q. absurd (n q)))
          go None e =
              let sign = s.number.negative in
              let idle : s.number ≡ number sign None = λ i. number sign (e i) in (
                48 + 1,
                digit_forward 1 (number sign (Some 1)) (ap (λ (i : Number). pushed i 49) idle ∙ first_digit sign 1 (omega arith) (and_false sign))
                    (λ q. absurd (n q)) (omega (arith, ap to_grow e)),
              )

      -- the count, digit by digit
      count_forward : s.at ≡ count_at → (b : ℕ) × Forward (step room s b)
      count_forward a = go (o.led a)
        where
          some_nodes : 0 < s.count
          some_nodes = omega (arith, o.counted (omega arith))

          few : s.count ≤ 2048
          few = (o.counted (omega arith)).1

          go : (s.number ≡ none) ⊎ (leads s.number s.count ≡ true) → (b : ℕ) × Forward (step room s b)
          go (inl e) =
              let j = next_digit s.count 0 some_nodes few (inl refl) (omega (arith, some_nodes)) in (
                48 + j.0,
                digit_forward j.0 (number false (Some j.0)) (ap (λ (i : Number). pushed i (48 + j.0)) e ∙ first_digit false j.0 (omega (arith, j.1)) refl)
                    (λ _. front_leads s.count (number false (Some j.0)) j.0 refl refl j.2 j.4) (omega (arith, ap left e, j.2)),
              )
          go (inr e) = ended (eqb f.1 s.count) refl
            where
              f : (s.number.negative ≡ false) × (i : ℕ) × (s.number.magnitude ≡ Some i) × (0 < i) × Front s.count i
              f = leads_front s.count s.number e

              ended : (t : Bool) → eqb f.1 s.count ≡ t → (b : ℕ) × Forward (step room s b)
              ended true q =
                  let v : signed s.number.negative f.1 ≡ pos s.count = ap (λ (b : Bool). signed b f.1) f.0 ∙ ap pos (eqb-true f.1 s.count q) in
                  (form_at (s.at + 1), close_forward (value f.1 f.2) (λ _. v))
              ended false q =
                  let j = next_digit s.count f.1 some_nodes few (inr f.4) (eqb-false f.1 s.count q) in
                  let r : f.1 * 10 + j.0 % 10 ≡ j.0 = omega (arith, j.1) in
                  let is : s.number ≡ number false (Some f.1) = λ i. number (f.0 i) (f.2 i) in (
                    48 + j.0 % 10,
                    digit_forward (j.0 % 10) (number false (Some j.0))
                        (ap (λ (i : Number). pushed i (48 + j.0 % 10)) is
                        ∙ more_digit false f.1 (j.0 % 10) (omega arith) f.3 (omega (arith, few, j.1, j.3))
                        ∙ ap (λ (i : ℕ). Some (number false (Some i))) r)
                        (λ _. front_leads s.count (number false (Some j.0)) j.0 refl refl j.2 j.4) (omega (arith, ap left is, few, j.1, j.2, j.3)),
                  )

    forward : s.at < whole_at → (b : ℕ) × Forward (step room s b)
    forward l = go (eqb (form_at s.at) number_sign) refl (eqb s.at count_at) refl
      where
        go : (t : Bool) → eqb (form_at s.at) number_sign ≡ t → (u : Bool) → eqb s.at count_at ≡ u → (b : ℕ) × Forward (step room s b)
        go false n u q = (form_at s.at, literal_forward n l)
        go true m false q = number_forward m (eqb-false s.at count_at q)
        go true m true q = count_forward m (eqb-true s.at count_at q)

  -- ---- every state goes on to a text of the form
  goes : (fuel : ℕ) (s : Scan) (ns : Nodes) → Reached room s → size s < fuel → (x : List ℕ) × OfForm (read_from room s ns x)
  unfolding fed
  goes zero s ns o l = absurd (omega arith)
  goes (suc fuel) s ns o l = ends (λ t ms p. goes fuel t ms p) (eqb s.at whole_at) refl
    where
      on : ((t : Scan) (ms : Nodes) → Reached room t → size t < fuel → (x : List ℕ) × OfForm (read_from room t ms x))
          → (y : Outcome Step) → Kept room y → Forward s o y → (x : List ℕ) × OfForm (onward room s.node ns y x)
      on rest (answered t) p q = rest t.scan _ p (omega arith)
      on rest (refused n k) p q = ([], refused_of_form n k q)

      ends : ((t : Scan) (ms : Nodes) → Reached room t → size t < fuel → (x : List ℕ) × OfForm (read_from room t ms x))
          → (t : Bool) → eqb s.at whole_at ≡ t → (x : List ℕ) × OfForm (read_from room s ns x)
      ends rest true e = ([], whole_of_form s ns e)
      ends rest false e =
          let f = forward s o (omega (arith, o.inside, eqb-false s.at whole_at e)) in
          let g = on rest (step room s f.0) (reached_step room s o f.0) f.1 in
          (f.0 ∷ g.0, rw (one_byte room s ns f.0 g.0) g.1)

  module _ (ns : Nodes) where
    -- as long as nothing was refused, some text that goes on so is of the form
    pub goes_on : 2048 ≤ node_room ns → (w : List ℕ) (s : Scan) → (fed room (answered start) ns w).out ≡ answered s
        → (x : List ℕ) × OfForm (finished (fed room (answered start) ns (w ++ x)))
    goes_on l w s e =
        let f = fed room (answered start) ns w in
        let g = goes (suc (size s)) s f.nodes (reached room ns l w s e) (omega arith) in
        (g.0, rw (fed_pieces room (answered start) ns w g.0, e) g.1)
