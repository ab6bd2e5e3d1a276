use Rattle.std.proofs.Common.{arith, ℕ, ◌<◌, ◌≤◌, ◌*◌, ◌≡◌, ℤ, pos, neg_ℤ, ◌+ℤ◌, ◌-ℤ◌, ◌*ℤ◌, ◌≤ℤ◌, ◌<ℤ◌, Bool, false, sym, ap, ◌∙◌}
use Rattle.std.proofs.Math.IntN.{negsuc}
use Rattle.std.proofs.Math.Logic.{⊎_elim}
use Rattle.laws.specs.Parts.{Within, ints}
use Rattle.laws.specs.Expr.{Expr, machine, reads, reads_keep, linear, bounded, lit, nat, ◌⊕◌, ◌⊖◌, ◌⊛◌, ⊝}
use Rattle.laws.specs.Tests.{lt_yes, lt_no}
use Rattle.laws.specs.Circle.{names, place_of, Named, named, named_within, out_of_range_lem, place_is, place_name}
use Rattle.convert.proofs.circle.place_of.Goals as goal

module _ (half : ℕ) (v : ℤ) (some : 0 < half) (few : half ≤ 64800000000) (w : Within (2 * half) v) where
  v_within : Within 129600000000 v
  v_within = omega (arith, ints, w, few)

  abbrev end : Expr (pos half)
  end = nat few

  abbrev up : Expr (v +ℤ pos 2 *ℤ pos half)
  up = bounded v_within ⊕ lit (pos 2) ⊛ end

  abbrev down : Expr (v -ℤ pos 2 *ℤ pos half)
  down = bounded v_within ⊖ lit (pos 2) ⊛ end

  -- what the test of the range tells
  tells : {t : Bool} → t ≡ names half (machine v) → t ≡ names half v
  tells e = e ∙ ap (names half) (reads (bounded v_within) tt)

  -- past an end of the range, and on which side
  past_low : names half v ≡ false → v <ℤ pos 0 → v <ℤ neg_ℤ (pos half)
  past_low e l = ⊎_elim (λ p. p) (λ p. absurd (omega (arith, ints, l, p))) (out_of_range_lem _ _ e)

  past_high : names half v ≡ false → pos 0 ≤ℤ v → pos half ≤ℤ v
  past_high e l = ⊎_elim (λ p. absurd (omega (arith, ints, l, p, linear (⊝ end)))) (λ p. p) (out_of_range_lem _ _ e)

  is_lower : v <ℤ neg_ℤ (pos half) → (up.got ≡ place_of half v) × Within 64800000000 up.got
  is_lower t =
      let f = linear up in
      let g = linear (lit v ⊕ lit (pos 1) ⊛ lit (pos (2 * half))) in
      let h = linear (⊝ end) in
      let n : Named half (v +ℤ pos 2 *ℤ pos half) = record { low = omega (arith, ints, w, f, h); high = omega (arith, ints, t, f, h) } in
      (reads up tt ∙ sym (place_is some v (pos 1) (omega (arith, ints, f, g)) n), reads_keep up tt (Within 64800000000) (named_within n few))

  is_upper : pos half ≤ℤ v → (down.got ≡ place_of half v) × Within 64800000000 down.got
  is_upper t =
      let f = linear down in
      let g = linear (lit v ⊕ lit (negsuc 0) ⊛ lit (pos (2 * half))) in
      let n : Named half (v -ℤ pos 2 *ℤ pos half) = record { low = omega (arith, ints, t, f, linear (⊝ end)); high = omega (arith, ints, w, f) } in
      (reads down tt ∙ sym (place_is some v (negsuc 0) (omega (arith, ints, f, g)) n), reads_keep down tt (Within 64800000000) (named_within n few))

pub returns-then-names : goal.returns-then-names
returns-then-names c =
    let a = c.args in
    let p = c.requires in
    let k = bounded (v_within a.half a.v p.0 p.1 p.2) in
    let n = named (sym (tells a.half a.v p.0 p.1 p.2 c.names.ensures) ∙ c.if-names.true) in
    (reads k tt ∙ sym (place_name p.0 n), reads_keep k tt (Within 64800000000) (named_within n p.1))

pub returns-then-v-lt0 : goal.returns-then-v-lt0
returns-then-v-lt0 c =
    let a = c.args in
    let p = c.requires in
    let e = sym (tells a.half a.v p.0 p.1 p.2 c.names.ensures) ∙ c.if-names.false in
    is_lower a.half a.v p.0 p.1 p.2 (past_low a.half a.v p.0 p.1 p.2 e (lt_yes (bounded (v_within a.half a.v p.0 p.1 p.2)) (lit (pos 0)) tt c.if-v-lt0.true))

pub returns-else-v-lt0 : goal.returns-else-v-lt0
returns-else-v-lt0 c =
    let a = c.args in
    let p = c.requires in
    let e = sym (tells a.half a.v p.0 p.1 p.2 c.names.ensures) ∙ c.if-names.false in
    is_upper a.half a.v p.0 p.1 p.2 (past_high a.half a.v p.0 p.1 p.2 e (lt_no (bounded (v_within a.half a.v p.0 p.1 p.2)) (lit (pos 0)) tt c.if-v-lt0.false))
