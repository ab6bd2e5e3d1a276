use Rattle.std.proofs.Common.{arith, ℕ, ◌≤◌, leb, ◌≡◌, true, ℤ, pos, ◌-ℤ◌, ◌≤ℤ◌, ◌<ℤ◌, sym, ◌∙◌}
use Rattle.std.specs.Int.Signed.{le_z}
use Rattle.std.specs.Bool.{then_some}
use Rattle.laws.specs.Parts.{Within, ints}
use Rattle.laws.specs.Logic.{le_z_holds, le_z_fails}
use Rattle.laws.specs.Expr.{Expr, need, reads₂, linear, bounded, fitting, nat, ◌⊖◌}
use Rattle.laws.specs.Tests.{lt_no, need_cast, reads_cast}
use Rattle.laws.specs.Circle.{names, Named, named, named_within, names_it, above_range, distance_ahead}
use Rattle.convert.specs.Points.{arc_offset}
use Rattle.convert.proofs.Places.{arc_nowhere, arc_at}
use Rattle.convert.proofs.offsets.arc_offset.Goals as goal

module _ (half : ℕ) (from : ℤ) (v : ℤ) (few : half ≤ 64800000000) (n : names half from ≡ true) where
  from_named : Named half from
  from_named = named n

  from_within : Within 64800000000 from
  from_within = named_within from_named few

  -- not below `from`, and in the range
  module _ (a : from ≤ℤ v) (b : v <ℤ pos half) where
    v_named : Named half v
    v_named = record { low = omega (arith, ints, a, from_named); high = b }

    v_within : Within 64800000000 v
    v_within = named_within v_named few

    abbrev apart : Expr (v -ℤ from)
    apart = bounded v_within ⊖ bounded from_within

    apart_natural : pos 0 ≤ℤ (v -ℤ from)
    apart_natural = omega (arith, ints, a, linear apart)

    there : (length : ℕ) {x : ℕ} → pos x ≡ v -ℤ from → then_some (leb x length) x ≡ arc_offset half from length v
    there length e = arc_at half from length v (names_it v_named) (distance_ahead from_named v_named a e)

pub returns-then-half-v : goal.returns-then-half-v
returns-then-half-v c = arc_nowhere _ _ _ _ (above_range _ _ (le_z_holds (sym (reads₂ le_z (nat c.requires.0) (fitting c.ranges.v) tt) ∙ c.if-half-v.true)))

pub overflow_sub-east : goal.overflow_sub-east
overflow_sub-east c =
    let a = c.args in
    let p = c.requires in
    let l = lt_no (fitting c.ranges.v) (bounded (from_within a.half a.from a.v p.0 p.1)) tt c.if-v-from.false in
    let h = le_z_fails (sym (reads₂ le_z (nat p.0) (fitting c.ranges.v) tt) ∙ c.if-half-v.false) in
    need (apart a.half a.from a.v p.0 p.1 l h) tt

pub overflow_cast-east : goal.overflow_cast-east
overflow_cast-east c =
    let a = c.args in
    let p = c.requires in
    let l = lt_no (fitting c.ranges.v) (bounded (from_within a.half a.from a.v p.0 p.1)) tt c.if-v-from.false in
    let h = le_z_fails (sym (reads₂ le_z (nat p.0) (fitting c.ranges.v) tt) ∙ c.if-half-v.false) in
    need_cast (apart a.half a.from a.v p.0 p.1 l h) (apart_natural a.half a.from a.v p.0 p.1 l h) tt

pub returns : goal.returns
returns c =
    let a = c.args in
    let p = c.requires in
    let l = lt_no (fitting c.ranges.v) (bounded (from_within a.half a.from a.v p.0 p.1)) tt c.if-v-from.false in
    let h = le_z_fails (sym (reads₂ le_z (nat p.0) (fitting c.ranges.v) tt) ∙ c.if-half-v.false) in
    c.then_some.ensures ∙ there a.half a.from a.v p.0 p.1 l h a.length (reads_cast (apart a.half a.from a.v p.0 p.1 l h) (apart_natural a.half a.from a.v p.0 p.1 l h) tt)
