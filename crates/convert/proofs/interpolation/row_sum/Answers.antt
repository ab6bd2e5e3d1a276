use Rattle.std.proofs.Common.{arith, ◌+ℤ◌, ◌*ℤ◌, ℤ, pos}
use Rattle.laws.specs.Parts.{Within}
use Rattle.laws.specs.Expr.{Expr, all_needs, reads, reads_keep}
use Rattle.grid.specs.Nodes.{max_shift}
use Rattle.shift.specs.Shift.{row_sum}
use Rattle.shift.specs.Needs.{Weighted}
use Rattle.shift.specs.declared.Distances.{Distances}
use Rattle.shift.proofs.Sums.{weighted_sum}
use Rattle.convert.proofs.interpolation.row_sum.Goals as goal

abbrev sum : {s1 s2 : ℤ} {at : Distances} → Within max_shift s1 → Within max_shift s2 → Weighted at → Expr (s1 *ℤ pos at.b +ℤ s2 *ℤ pos at.a)
sum {at = at} p q w = weighted_sum at.b at.a p q (omega (arith, w.narrow))

pub overflow_add-result : goal.overflow_add-result
overflow_add-result c = let p = c.requires in search (all_needs (sum p.0 p.1 p.2) tt)

pub returns : goal.returns
unfolding row_sum
returns c = let p = c.requires in let e = sum p.0 p.1 p.2 in (reads e tt, reads_keep e tt (Within 5400000000000) e.within)
