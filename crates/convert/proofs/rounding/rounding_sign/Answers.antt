use Rattle.std.proofs.Common.{arith, ℕ, ℤ, ◌<◌, ◌≤◌, ◌≡◌, pos, ◌-ℤ◌, ◌*ℤ◌, sym, ap, subst, ◌∙◌}
use Rattle.std.proofs.Math.Nat.{mul-le-mul_right}
use Rattle.laws.specs.Parts.{Within}
use Rattle.laws.specs.Expr.{Expr, all_needs, reads, bounded, nat, cap, ◌⊖◌, ◌⊛◌}
use Rattle.shift.specs.Round.{nearest}
use Rattle.shift.specs.Sign.{sign_of, rounding_sign}
use Rattle.shift.proofs.Rounding.{nearest_within}
use Rattle.shift.proofs.SignLaws.{product_within, over_within}
use Rattle.convert.proofs.rounding.rounding_sign.Goals as goal

module _ {n : ℤ} {d : ℕ} {r : ℤ} (w : Within 4860000000000000000 n) (some : 0 < d) (few : d ≤ 810000000000) (e : r ≡ nearest d n) where
  r_within : Within 4860000000000000000 r
  r_within =
      let m = mul-le-mul_right 4860000000000000000 some in
      subst (Within 4860000000000000000) (sym e) (nearest_within 4860000000000000000 d n some (record { size = omega (arith, m, w.size) }))

  rd_within : Within 4860000810000000000 (r *ℤ pos d)
  rd_within = record { size = omega (arith, few, (product_within some w e).size) }

  difference_within : Within 810000000000 (r *ℤ pos d -ℤ n)
  difference_within = record { size = omega (arith, few, (over_within some w e).size) }

  abbrev over : Expr (r *ℤ pos d -ℤ n)
  over = cap (cap (bounded r_within ⊛ nat few) rd_within ⊖ bounded w) difference_within

pub overflow_mul-r : goal.overflow_mul-r
overflow_mul-r c = let p = c.requires in search (all_needs (over p.0 p.1 p.2 p.3) tt)

pub overflow_sub-r : goal.overflow_sub-r
overflow_sub-r c = let p = c.requires in search (all_needs (over p.0 p.1 p.2 p.3) tt)

pub returns : goal.returns
unfolding rounding_sign
returns c = let p = c.requires in c.from.ensures ∙ ap sign_of (reads (over p.0 p.1 p.2 p.3) tt)
