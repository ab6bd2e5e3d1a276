-- Laws of the header rules: what each test of the code tells, and what a header that breaks no rule has.
use Prim.Native.Nat.{ℕ, suc, ◌*◌, ◌≤◌, ◌<◌}
use mathlib.Core.Path.{◌≡◌, refl, sym, ap, ◌∙◌}
use mathlib.Core.Bool.{Bool, true, false, not}
use mathlib.Core.List.{List, [], ◌∷◌}
use native.Mathlib.Omega.{arith}
use borrow.Author.Tests.{ltb-true, ltb-false}
use Rattle.std.specs.Prelude.{Option, Some, None, cond, ◌++◌, length, ◌+◌}
use Rattle.std.specs.List.{position, position_or_len}
use lib.Dec.{T, leb, ltb, leb→le}
use lib.IntN.{ℤ, pos, negsuc, nat_abs, ◌*ℤ◌}
use lib.Signed.{le_z, ◌≤ℤ◌, ◌<ℤ◌}
use Rattle.laws.specs.Parts.{pos_part, Within, ints, parts_disjoint}
use Rattle.laws.specs.Bounds.{own_size, widen}
use Rattle.laws.specs.Logic.{both, le_z_true, le_z_false, le_z_holds}
use Rattle.grid.specs.Rules.{minus, between, bounds, size_rules, rules, first_false, broken_rule, north_edge, shape, node_count, node_count_or0}
use Rattle.grid.specs.Needs.{Extent}
use Rattle.grid.specs.declared.Header.{Header}

-- ---- between two bounds

pub record Between (lo x hi : ℤ) : Type 0 where
  pub low : lo ≤ℤ x
  pub high : x ≤ℤ hi

pub between_holds : {lo x hi : ℤ} → between lo x hi ≡ true → Between lo x hi
unfolding between
between_holds {lo} {x} {hi} e = let s = both (le_z lo x) (le_z x hi) e in record { low = le_z_holds s.0; high = le_z_holds s.1 }

pub between_true : {lo x hi : ℤ} → lo ≤ℤ x → x ≤ℤ hi → between lo x hi ≡ true
unfolding between
between_true a b = rw (le_z_true a, le_z_true b)

pub between_within : {lo x hi : ℤ} (K : ℕ) → Between lo x hi → Within K lo → Within K hi → Within K x
between_within K b l h = omega (arith, ints)

-- ---- the first rule that is broken

-- a rule that holds is passed, and the first that does not is the answer. A record, so that its arguments are inferred
pub record First (n : ℕ) (l : List Bool) (k : Option ℕ) : Type 0 where
  pub is : k ≡ first_false n l

pub pass : {n : ℕ} {k : Option ℕ} {b : Bool} {l : List Bool} → b ≡ true → First (suc n) l k → First n (b ∷ l) k
unfolding first_false
pass e h = record { is = rw e h.is }

pub stop : {n : ℕ} {b : Bool} {l : List Bool} → b ≡ false → First n (b ∷ l) (Some n)
unfolding first_false
stop e = record { is = rw e }

pub none : {n : ℕ} → First n [] None
unfolding first_false
none = record { is = refl }

-- ---- a header that breaks no rule

pub record RulesHold (h : Header) : Type 0 where
  pub south : Between (minus 323940000) h.south.0 (pos 323940000)
  pub west : Between (minus 648000000) h.west.0 (pos 647999999)
  pub dlat : Between (pos 1000) h.dlat (pos 900000)
  pub dlon : Between (pos 1000) h.dlon (pos 900000)
  pub rows : Between (pos 2) h.rows (pos 256)
  pub cols : Between (pos 2) h.cols (pos 256)
  pub nodes : (h.rows *ℤ h.cols) ≤ℤ pos 2048
  pub north : north_edge h ≤ℤ pos 323940000

holds : {n : ℕ} {b : Bool} {l : List Bool} → First n (b ∷ l) None → (b ≡ true) × First (suc n) l None
unfolding first_false
holds {b = true} h = (refl, record { is = h.is })
holds {b = false} h = let e : Some _ ≡ None = sym h.is in cc

pub rules_hold : (h : Header) → broken_rule h ≡ None → RulesHold h
unfolding broken_rule
rules_hold h e =
    let r₁ = holds (record { is = sym e }) in
    let r₂ = holds r₁.1 in
    let r₃ = holds r₂.1 in
    let r₄ = holds r₃.1 in
    let r₅ = holds r₄.1 in
    let r₆ = holds r₅.1 in
    let r₇ = holds r₆.1 in
    let r₈ = holds r₇.1 in
    record {
      south = between_holds r₁.0;
      west = between_holds r₂.0;
      dlat = between_holds r₃.0;
      dlon = between_holds r₄.0;
      rows = between_holds r₅.0;
      cols = between_holds r₆.0;
      nodes = le_z_holds r₇.0;
      north = le_z_holds r₈.0;
    }

-- ---- rules 1 to 6, as the code looks for the first that is broken

found_among : (n : ℕ) (l m : List Bool) → position_or_len not l < length l → first_false n (l ++ m) ≡ Some (n + position_or_len not l)
unfolding first_false
found_among n [] m h = absurd (omega arith)
found_among n (true ∷ l) m h = found_among (suc n) l m (omega arith) ∙ ap Some (omega arith)
found_among n (false ∷ l) m h = ap Some (omega arith)

none_among : (n : ℕ) (l m : List Bool) → length l ≤ position_or_len not l → first_false n (l ++ m) ≡ first_false (n + length l) m
unfolding first_false
none_among n [] m h = ap (λ (k : ℕ). first_false k m) (omega arith)
none_among n (true ∷ l) m h = none_among (suc n) l m (omega arith) ∙ ap (λ (k : ℕ). first_false k m) (omega arith)
none_among n (false ∷ l) m h = absurd (omega arith)

pub bound_broken : (h : Header) {k : ℕ} → Some k ≡ position not (bounds h) → Some (k + 1) ≡ broken_rule h
unfolding broken_rule
bound_broken h {k} e = go (ltb (position_or_len not (bounds h)) 6) refl e
  where
    go : (t : Bool) → ltb (position_or_len not (bounds h)) 6 ≡ t → Some k ≡ cond t (Some (position_or_len not (bounds h))) None → Some (k + 1) ≡ first_false 1 (rules h)
    go true q e = let i : k ≡ position_or_len not (bounds h) = cc in ap Some (omega arith) ∙ sym (found_among 1 (bounds h) (size_rules h) (ltb-true _ _ q))
    go false q e = cc

-- what they leave of the numbers of rules 7 and 8
pub record Bounded (h : Header) : Type 0 where
  pub south : Within 323940000 h.south.0
  pub dlat : Within 900000 h.dlat
  pub rows : Within 256 h.rows
  pub cols : Within 256 h.cols
  pub rest : first_false 7 (size_rules h) ≡ broken_rule h

within : (lo hi : ℤ) (K : ℕ) {x : ℤ} → Between lo x hi → T (leb (nat_abs lo) K) → T (leb (nat_abs hi) K) → Within K x
within lo hi K b s t = between_within K b (widen (own_size lo) s) (widen (own_size hi) t)

pub bounded : (h : Header) → None ≡ position not (bounds h) → Bounded h
unfolding broken_rule first_false
bounded h e = go (ltb (position_or_len not (bounds h)) 6) refl e
  where
    go : (t : Bool) → ltb (position_or_len not (bounds h)) 6 ≡ t → None ≡ cond t (Some (position_or_len not (bounds h))) None → Bounded h
    go true q e = cc
    go false q e =
        let none : First 1 (bounds h) None = record { is = sym (none_among 1 (bounds h) [] (ltb-false _ _ q)) } in
        let r₁ = holds none in
        let r₂ = holds r₁.1 in
        let r₃ = holds r₂.1 in
        let r₄ = holds r₃.1 in
        let r₅ = holds r₄.1 in
        let r₆ = holds r₅.1 in
        record {
          south = within (minus 323940000) (pos 323940000) 323940000 (between_holds r₁.0) tt tt;
          dlat = within (pos 1000) (pos 900000) 900000 (between_holds r₃.0) tt tt;
          rows = within (pos 2) (pos 256) 256 (between_holds r₅.0) tt tt;
          cols = within (pos 2) (pos 256) 256 (between_holds r₆.0) tt tt;
          rest = sym (none_among 1 (bounds h) (size_rules h) (ltb-false _ _ q));
        }

-- ---- the sizes

product : {m n : ℤ} {K : ℕ} → pos 2 ≤ℤ m → pos 2 ≤ℤ n → (m *ℤ n) ≤ℤ pos K → pos_part m * pos_part n ≤ K
product {m = pos a} {n = pos b} p q h = leb→le _ _ h.le
product {m = pos a} {n = negsuc b} p q h = absurd q.le
product {m = negsuc a} p q h = absurd p.le

pub extent : {h : Header} → RulesHold h → Extent (shape h)
extent {h} k =
    record {
      rows_low = omega (arith, ints, k.rows.low);
      rows_high = omega (arith, ints, k.rows, parts_disjoint h.rows);
      cols_low = omega (arith, ints, k.cols.low);
      cols_high = omega (arith, ints, k.cols, parts_disjoint h.cols);
      dlat_low = omega (arith, ints, k.dlat.low);
      dlat_high = omega (arith, ints, k.dlat, parts_disjoint h.dlat);
      dlon_low = omega (arith, ints, k.dlon.low);
      dlon_high = omega (arith, ints, k.dlon, parts_disjoint h.dlon);
      nodes = product k.rows.low k.cols.low k.nodes;
    }

-- the nodes of a header that breaks no rule
pub node_count_is : (h : Header) → broken_rule h ≡ None → node_count_or0 h ≡ node_count h
unfolding node_count_or0
node_count_is h e = rw e
