-- The sums over the corners: the two row sums, each weighted, are the numerator, and no sum is larger than the largest shift at the whole weight.
use Prim.Native.Nat.{ℕ, ◌+◌, ◌*◌, ◌≤◌}
use native.Mathlib.Nat.{mul-pos, mul-le-mul_right}
use native.Mathlib.Omega.{arith}
use mathlib.Core.Path.{◌≡◌}
use lib.IntN.{ℤ, pos, ◌+ℤ◌, ◌*ℤ◌}
use Rattle.laws.specs.Parts.{ints, Within}
use Rattle.laws.specs.Bounds.{abs-add, abs-mul}
use Rattle.laws.specs.Expr.{Expr, lit, bounded, nat, cap, linear, ◌⊕◌, ◌⊛◌}
use Rattle.shift.specs.Shift.{row_sum, numerator, four_corner}
use Rattle.shift.specs.Needs.{Weighted, CornersIn}
use Rattle.shift.specs.declared.Distances.{Distances}
use Rattle.shift.specs.declared.Corners.{Corners}
use Rattle.shift.proofs.Rounding.{nearest_within}
use Rattle.grid.specs.Nodes.{max_shift}

-- the southern row's sum weighted by D and the northern one's by C are equation 2's four products
pub rows_numerator : (s : Corners) (k : Distances) → row_sum s.s1 s.s2 k *ℤ pos k.d +ℤ row_sum s.s3 s.s4 k *ℤ pos k.c ≡ numerator s k
unfolding row_sum numerator
rows_numerator s k =
    let a = lit (pos k.a) in
    let b = lit (pos k.b) in
    let c = lit (pos k.c) in
    let d = lit (pos k.d) in
    let s₁ = lit s.s1 in
    let s₂ = lit s.s2 in
    let s₃ = lit s.s3 in
    let s₄ = lit s.s4 in
    omega (arith, ints, linear ((s₁ ⊛ b ⊕ s₂ ⊛ a) ⊛ d ⊕ (s₃ ⊛ b ⊕ s₄ ⊛ a) ⊛ c), linear (s₁ ⊛ b ⊛ d ⊕ s₂ ⊛ a ⊛ d ⊕ s₃ ⊛ b ⊛ c ⊕ s₄ ⊛ a ⊛ c))

-- ---- sizes: the weights share a side of the cell, so two numbers within `K` come to no more than `K` at the whole side

module _ {K : ℕ} {x y : ℤ} (p q : ℕ) (h : Within K x) (k : Within K y) where
  weighted_within : Within ((p + q) * K) (x *ℤ pos p +ℤ y *ℤ pos q)
  weighted_within =
      record { size = omega (arith, abs-add (x *ℤ pos p) (y *ℤ pos q), abs-mul x (pos p), abs-mul y (pos q), mul-le-mul_right p h.size, mul-le-mul_right q k.size) }

  pub weighted_side : p + q ≤ 900_000 → Within (900_000 * K) (x *ℤ pos p +ℤ y *ℤ pos q)
  weighted_side l = record { size = omega (arith, mul-le-mul_right K l, weighted_within.size) }

  -- the code's expression of such a sum, along a row or between the rows
  abbrev pub weighted_sum : p + q ≤ 900_000 → Expr (x *ℤ pos p +ℤ y *ℤ pos q)
  weighted_sum l = cap (bounded h ⊛ nat {K = 900_000} {n = p} (omega arith) ⊕ bounded k ⊛ nat {K = 900_000} {n = q} (omega arith)) (weighted_side l)

module _ (s : Corners) (k : Distances) (i : CornersIn s) where
  numerator_within : Within ((k.a + k.b) * (k.c + k.d) * max_shift) (numerator s k)
  unfolding row_sum
  numerator_within =
      let south = weighted_within k.b k.a i.sw i.se in
      let north = weighted_within k.b k.a i.nw i.ne in
      record { size = omega (arith, (rw (rows_numerator s k) at (weighted_within k.d k.c south north)).size) }

  -- a mean of shifts in range is in range
  pub four_corner_within : Weighted k → Within max_shift (four_corner s k)
  unfolding four_corner
  four_corner_within w = nearest_within max_shift ((k.a + k.b) * (k.c + k.d)) _ (mul-pos w.wide w.high) numerator_within
