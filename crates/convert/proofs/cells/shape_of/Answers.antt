use Rattle.std.proofs.Common.{arith, ◌≡◌, sym, ap, subst, ◌∙◌, pos, nat_abs, ◌≤ℤ◌}
use Rattle.laws.specs.Parts.{Within, ints}
use Rattle.laws.specs.Expr.{machine, reads, bounded}
use Rattle.laws.specs.Tests.{need_cast, part-whole}
use Rattle.grid.specs.Needs.{Extent}
use Rattle.grid.specs.Rules.{shape}
use Rattle.grid.specs.declared.Header.{Header}
use Rattle.grid.proofs.RuleLaws.{RulesHold, extent}
use Rattle.grid.proofs.Passing.{good}
use Rattle.convert.proofs.cells.shape_of.Goals as goal

-- the sizes, as the rules bound them
module _ {h : Header} (k : RulesHold h) where
  rows : Within 256 h.rows × (pos 0 ≤ℤ h.rows)
  rows = (omega (arith, ints, k.rows), omega (arith, ints, k.rows))

  cols : Within 256 h.cols × (pos 0 ≤ℤ h.cols)
  cols = (omega (arith, ints, k.cols), omega (arith, ints, k.cols))

  dlat : Within 900000 h.dlat × (pos 0 ≤ℤ h.dlat)
  dlat = (omega (arith, ints, k.dlat), omega (arith, ints, k.dlat))

  dlon : Within 900000 h.dlon × (pos 0 ≤ℤ h.dlon)
  dlon = (omega (arith, ints, k.dlon), omega (arith, ints, k.dlon))

  -- and read as natural numbers
  as_read : record { rows = nat_abs (machine h.rows); cols = nat_abs (machine h.cols); dlat = nat_abs (machine h.dlat); dlon = nat_abs (machine h.dlon) } ≡ shape h
  as_read =
      let r = ap nat_abs (reads (bounded rows.0) tt) ∙ part-whole rows.1 in
      let q = ap nat_abs (reads (bounded cols.0) tt) ∙ part-whole cols.1 in
      let y = ap nat_abs (reads (bounded dlat.0) tt) ∙ part-whole dlat.1 in
      let x = ap nat_abs (reads (bounded dlon.0) tt) ∙ part-whole dlon.1 in
      λ i. record { rows = r i; cols = q i; dlat = y i; dlon = x i }

pub overflow_cast-result : goal.overflow_cast-result
overflow_cast-result c = let s = rows (good _ c.args.checked.passes).header in need_cast (bounded s.0) s.1 tt

pub overflow_cast-result-2 : goal.overflow_cast-result-2
overflow_cast-result-2 c = let s = cols (good _ c.args.checked.passes).header in need_cast (bounded s.0) s.1 tt

pub overflow_cast-result-3 : goal.overflow_cast-result-3
overflow_cast-result-3 c = let s = dlat (good _ c.args.checked.passes).header in need_cast (bounded s.0) s.1 tt

pub overflow_cast-result-4 : goal.overflow_cast-result-4
overflow_cast-result-4 c = let s = dlon (good _ c.args.checked.passes).header in need_cast (bounded s.0) s.1 tt

pub returns : goal.returns
returns c =
    let k = (good _ c.args.checked.passes).header in
    let e = as_read k in
    record { value = e; sizes = subst Extent (sym e) (extent k) }
