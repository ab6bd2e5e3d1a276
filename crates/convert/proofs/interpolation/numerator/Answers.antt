use Rattle.std.proofs.Common.{arith, ℕ, ◌+◌, ◌≤◌, ◌+ℤ◌, ◌*ℤ◌, ℤ, pos, FitsSigned, w64, to_z, ◌∙◌}
use Rattle.laws.specs.Parts.{Within}
use Rattle.laws.specs.Expr.{Expr, machine, need, reads, reads_keep, reads₂, bounded, lit, nat, ◌⊕◌, ◌⊛◌}
use Rattle.shift.specs.Shift.{row_sum}
use Rattle.shift.specs.Needs.{Weighted}
use Rattle.shift.specs.declared.Distances.{Distances}
use Rattle.shift.proofs.Sums.{rows_numerator, weighted_sum}
use Rattle.convert.proofs.interpolation.numerator.Goals as goal

abbrev sum : {s n : ℤ} {at : Distances} → Within 5400000000000 s → Within 5400000000000 n → Weighted at → Expr (s *ℤ pos at.d +ℤ n *ℤ pos at.c)
sum {at = at} p q w = weighted_sum at.d at.c p q (omega (arith, w.low))

-- the rows' sums fit, whichever weight each has
weighted : (x : ℤ) (n : ℕ) → Within 5400000000000 x → n ≤ 900000 → FitsSigned w64 (machine x *ℤ to_z w64 n)
weighted x n h l = need (bounded h ⊛ nat l) tt

weighted_both : (x y : ℤ) (p q : ℕ) → Within 5400000000000 x → Within 5400000000000 y → p + q ≤ 900000
    → FitsSigned w64 (machine (machine x *ℤ to_z w64 p) +ℤ machine (machine y *ℤ to_z w64 q))
weighted_both x y p q h k l = need (weighted_sum p q h k l) tt

weighted_one : (x y : ℤ) (q : ℕ) → Within 5400000000000 x → Within 5400000000000 y → q ≤ 900000
    → FitsSigned w64 (machine (machine x *ℤ pos 1) +ℤ machine (machine y *ℤ to_z w64 q))
weighted_one x y q h k l = need (bounded h ⊛ lit (pos 1) ⊕ bounded k ⊛ nat l) tt

pub overflow_mul-result : goal.overflow_mul-result
overflow_mul-result c =
    let at = c.args.at in
    let w = c.requires.1 in
    let h = c.row_sum-southern.ensures.1 in
    let x = c.row_sum-southern.result in
    search (weighted x at.d h (omega (arith, w.low)), weighted x at.c h (omega (arith, w.low)), weighted x 1 h (omega arith))

pub overflow_mul-result-2 : goal.overflow_mul-result-2
overflow_mul-result-2 c =
    let at = c.args.at in
    let w = c.requires.1 in
    let h = c.row_sum-northern.ensures.1 in
    let x = c.row_sum-northern.result in
    search (weighted x at.c h (omega (arith, w.low)), weighted x at.d h (omega (arith, w.low)))

pub overflow_add-result : goal.overflow_add-result
overflow_add-result c =
    let at = c.args.at in
    let w = c.requires.1 in
    let h = c.row_sum-southern.ensures.1 in
    let k = c.row_sum-northern.ensures.1 in
    let x = c.row_sum-southern.result in
    let y = c.row_sum-northern.result in
    search (
      weighted_both x y at.d at.c h k (omega (arith, w.low)),
      weighted_both x y at.c at.d h k (omega (arith, w.low)),
      weighted_one x y at.c h k (omega (arith, w.low)),
    )

pub returns : goal.returns
returns c =
    let k = c.args.at in
    let s = c.requires.0 in
    let e = sum c.row_sum-southern.ensures.1 c.row_sum-northern.ensures.1 c.requires.1 in
    let south = c.row_sum-southern.ensures.0 ∙ reads₂ (λ x y. row_sum x y k) (bounded s.sw) (bounded s.se) tt in
    let north = c.row_sum-northern.ensures.0 ∙ reads₂ (λ x y. row_sum x y k) (bounded s.nw) (bounded s.ne) tt in (
      reads e tt ∙ (λ i. south i *ℤ pos k.d +ℤ north i *ℤ pos k.c) ∙ rows_numerator c.args.s k,
      reads_keep e tt (Within 4860000000000000000) e.within,
    )
