use Rattle.std.proofs.Common.{arith, ℕ, ℤ, ◌≤◌, ◌≡◌, true, pos, ◌+ℤ◌, ◌-ℤ◌, ◌*ℤ◌, ◌≤ℤ◌, sym}
use Rattle.laws.specs.Parts.{ints}
use Rattle.laws.specs.Expr.{Expr, need, linear, bounded, nat, lit, ◌⊕◌, ◌⊖◌, ◌⊛◌, ⊝}
use Rattle.laws.specs.Tests.{lt_yes, lt_no, need_cast, reads_cast}
use Rattle.laws.specs.Circle.{names, Named, named, named_within, distance_ahead, distance-around}
use Rattle.convert.proofs.Apart.{apart_fits, turned_fits, turned_cast}
use Rattle.order.proofs.standing.distance.Goals as goal

module _ (half : ℕ) (from v : ℤ) (few : half ≤ 64800000000) (m : names half from ≡ true) (n : names half v ≡ true) where
  from_named : Named half from
  from_named = named m

  v_named : Named half v
  v_named = named n

  abbrev at_from : Expr from
  at_from = bounded (named_within from_named few)

  abbrev at_v : Expr v
  at_v = bounded (named_within v_named few)

  abbrev end : Expr (pos half)
  end = nat few

  abbrev ahead : Expr (v -ℤ from)
  ahead = at_v ⊖ at_from

  abbrev around : Expr (v -ℤ from +ℤ pos 2 *ℤ pos half)
  around = at_v ⊖ at_from ⊕ lit (pos 2) ⊛ end

  around_natural : pos 0 ≤ℤ (v -ℤ from +ℤ pos 2 *ℤ pos half)
  around_natural = omega (arith, ints, v_named, from_named, linear around, linear (⊝ end))

  ahead_natural : from ≤ℤ v → pos 0 ≤ℤ (v -ℤ from)
  ahead_natural l = omega (arith, ints, l, linear ahead)

pub overflow_sub-result : goal.overflow_sub-result
overflow_sub-result c =
    let a = c.args in
    let p = c.requires in
    let f = named p.1 in
    let v = named p.2 in
    search (apart_fits a.half a.v a.from p.0 v f, apart_fits a.half a.from a.v p.0 f v)

pub overflow_add-result : goal.overflow_add-result
overflow_add-result c =
    let a = c.args in
    let p = c.requires in
    let f = named p.1 in
    let v = named p.2 in
    search (turned_fits a.half a.v a.from p.0 v f 2 tt tt, turned_fits a.half a.from a.v p.0 f v 2 tt tt)

pub overflow_cast-result-then-v-from : goal.overflow_cast-result-then-v-from
overflow_cast-result-then-v-from c =
    let a = c.args in
    let p = c.requires in
    let f = named p.1 in
    let v = named p.2 in
    search (turned_cast a.half a.v a.from p.0 v f 2 tt tt, turned_cast a.half a.from a.v p.0 f v 2 tt tt)

pub returns-then-v-from : goal.returns-then-v-from
returns-then-v-from c =
    let a = c.args in let p = c.requires in
    let l = lt_yes (at_v a.half a.from a.v p.0 p.1 p.2) (at_from a.half a.from a.v p.0 p.1 p.2) tt c.if-v-from.true in
    sym (distance-around (named p.1) (named p.2) l (reads_cast (around a.half a.from a.v p.0 p.1 p.2) (around_natural a.half a.from a.v p.0 p.1 p.2) tt))

pub overflow_sub-result-2 : goal.overflow_sub-result-2
overflow_sub-result-2 c = let a = c.args in let p = c.requires in need (ahead a.half a.from a.v p.0 p.1 p.2) tt

pub overflow_cast-result-2 : goal.overflow_cast-result-2
overflow_cast-result-2 c =
    let a = c.args in let p = c.requires in
    let l = lt_no (at_v a.half a.from a.v p.0 p.1 p.2) (at_from a.half a.from a.v p.0 p.1 p.2) tt c.if-v-from.false in
    need_cast (ahead a.half a.from a.v p.0 p.1 p.2) (ahead_natural a.half a.from a.v p.0 p.1 p.2 l) tt

pub returns : goal.returns
returns c =
    let a = c.args in let p = c.requires in
    let l = lt_no (at_v a.half a.from a.v p.0 p.1 p.2) (at_from a.half a.from a.v p.0 p.1 p.2) tt c.if-v-from.false in
    sym (distance_ahead (named p.1) (named p.2) l (reads_cast (ahead a.half a.from a.v p.0 p.1 p.2) (ahead_natural a.half a.from a.v p.0 p.1 p.2 l) tt))
