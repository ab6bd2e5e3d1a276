use Rattle.std.proofs.Common.{arith, ℕ, ◌≤◌, leb, ◌≡◌, true, ℤ, pos, ◌+ℤ◌, ◌-ℤ◌, ◌*ℤ◌, ◌≤ℤ◌, ◌<ℤ◌, ◌∙◌}
use Rattle.std.specs.Bool.{then_some}
use Rattle.laws.specs.Parts.{Within, ints}
use Rattle.laws.specs.Expr.{Expr, linear, bounded, fitting, lit, nat, ◌⊕◌, ◌⊖◌, ◌⊛◌, ⊝}
use Rattle.laws.specs.Tests.{lt_yes, lt_no, reads_cast}
use Rattle.laws.specs.Circle.{names, Named, named, named_within, names_it, below_range, distance-around}
use Rattle.convert.specs.Points.{arc_offset}
use Rattle.convert.proofs.Places.{arc_nowhere, arc_at}
use Rattle.convert.proofs.Apart.{apart_fits, turned_fits, turned_cast}
use Rattle.convert.proofs.offsets.turn_offset.Goals as goal

module _ (half : ℕ) (from : ℤ) (v : ℤ) (few : half ≤ 64800000000) (n : names half from ≡ true) (b : v <ℤ from) where
  abbrev end : Expr (pos half)
  end = nat few

  abbrev low : Expr (pos 0 -ℤ pos half)
  low = lit (pos 0) ⊖ end

  from_named : Named half from
  from_named = named n

  from_within : Within 64800000000 from
  from_within = named_within from_named few

  -- in the range
  module _ (t : (pos 0 -ℤ pos half) ≤ℤ v) where
    v_named : Named half v
    v_named =
        let g = linear low in
        let h = linear (⊝ end) in
        record { low = omega (arith, ints, t, g, h); high = omega (arith, ints, b, from_named) }

    v_within : Within 64800000000 v
    v_within = named_within v_named few

    abbrev around : Expr (v -ℤ from +ℤ pos 2 *ℤ pos half)
    around = bounded v_within ⊖ bounded from_within ⊕ lit (pos 2) ⊛ end

    around_natural : pos 0 ≤ℤ (v -ℤ from +ℤ pos 2 *ℤ pos half)
    around_natural = omega (arith, ints, v_named, from_named, linear around, linear (⊝ end))

    there : (length : ℕ) {x : ℕ} → pos x ≡ v -ℤ from +ℤ pos 2 *ℤ pos half → then_some (leb x length) x ≡ arc_offset half from length v
    there length e = arc_at half from length v (names_it v_named) (distance-around from_named v_named b e)

pub returns-then-v-half : goal.returns-then-v-half
returns-then-v-half c =
    let a = c.args in
    let p = c.requires in
    let l = low a.half a.from a.v p.0 p.1 p.2 in
    let h = end a.half a.from a.v p.0 p.1 p.2 in
    let t = lt_yes (fitting c.ranges.v) l tt c.if-v-half.true in
    arc_nowhere _ _ _ _ (below_range _ _ (omega (arith, ints, t, linear l, linear (⊝ h))))

pub overflow_sub-east : goal.overflow_sub-east
overflow_sub-east c =
    let a = c.args in
    let p = c.requires in
    let f = from_named a.half a.from a.v p.0 p.1 p.2 in
    let v = v_named a.half a.from a.v p.0 p.1 p.2 (lt_no (fitting c.ranges.v) (low a.half a.from a.v p.0 p.1 p.2) tt c.if-v-half.false) in
    search (apart_fits a.half a.v a.from p.0 v f, apart_fits a.half a.from a.v p.0 f v)

pub overflow_add-east : goal.overflow_add-east
overflow_add-east c =
    let a = c.args in
    let p = c.requires in
    let f = from_named a.half a.from a.v p.0 p.1 p.2 in
    let v = v_named a.half a.from a.v p.0 p.1 p.2 (lt_no (fitting c.ranges.v) (low a.half a.from a.v p.0 p.1 p.2) tt c.if-v-half.false) in
    search (turned_fits a.half a.v a.from p.0 v f 2 tt tt, turned_fits a.half a.from a.v p.0 f v 2 tt tt, turned_fits a.half a.v a.from p.0 v f 4 tt tt)

pub overflow_cast-east-2 : goal.overflow_cast-east-2
overflow_cast-east-2 c =
    let a = c.args in
    let p = c.requires in
    let f = from_named a.half a.from a.v p.0 p.1 p.2 in
    let v = v_named a.half a.from a.v p.0 p.1 p.2 (lt_no (fitting c.ranges.v) (low a.half a.from a.v p.0 p.1 p.2) tt c.if-v-half.false) in
    search (turned_cast a.half a.v a.from p.0 v f 2 tt tt, turned_cast a.half a.from a.v p.0 f v 2 tt tt, turned_cast a.half a.v a.from p.0 v f 4 tt tt)

pub returns : goal.returns
returns c =
    let a = c.args in
    let p = c.requires in
    let t = lt_no (fitting c.ranges.v) (low a.half a.from a.v p.0 p.1 p.2) tt c.if-v-half.false in
    c.then_some.ensures ∙ there a.half a.from a.v p.0 p.1 p.2 t a.length (reads_cast (around a.half a.from a.v p.0 p.1 p.2 t) (around_natural a.half a.from a.v p.0 p.1 p.2 t) tt)
