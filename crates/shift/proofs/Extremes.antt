-- The least and the greatest of a cell's corners: both are in the range of a shift, and all four lie between them.
use native.Mathlib.Omega.{arith}
use lib.IntN.{ℤ}
use lib.Signed.{le_z, ◌≤ℤ◌, ≤ℤ_refl}
use Rattle.laws.specs.Parts.{Within, ints}
use Rattle.laws.specs.Logic.{le_z_holds, le_z_fails, by_test}
use Rattle.grid.specs.Nodes.{max_shift}
use Rattle.grid.proofs.RuleLaws.{Between}
use Rattle.shift.specs.Shift.{lesser, greater, least, greatest}
use Rattle.shift.specs.Needs.{CornersIn}
use Rattle.shift.specs.declared.Corners.{Corners}

-- ---- of two numbers

module _ (a b : ℤ) where
  lesser-low : (lesser a b ≤ℤ a) × (lesser a b ≤ℤ b)
  lesser-low = by_test (λ z. (z ≤ℤ a) × (z ≤ℤ b)) (le_z a b) (λ e. (≤ℤ_refl a, le_z_holds e)) (λ e. (omega (arith, ints, le_z_fails {a = a} {b = b} e), ≤ℤ_refl b))

  greater_high : (a ≤ℤ greater a b) × (b ≤ℤ greater a b)
  greater_high = by_test (λ z. (a ≤ℤ z) × (b ≤ℤ z)) (le_z a b) (λ e. (le_z_holds e, ≤ℤ_refl b)) (λ e. (≤ℤ_refl a, omega (arith, ints, le_z_fails {a = a} {b = b} e)))

  -- what holds of both holds of either
  module _ (P : ℤ → Type 0) (p : P a) (q : P b) where
    lesser_of : P (lesser a b)
    lesser_of = by_test P (le_z a b) (λ e. p) (λ e. q)

    greater_of : P (greater a b)
    greater_of = by_test P (le_z a b) (λ e. q) (λ e. p)

-- ---- of four

pub extremes_in : {s : Corners} → CornersIn s → Within max_shift (least s) × Within max_shift (greatest s)
unfolding least greatest
extremes_in i =
    let P = Within max_shift in (
      lesser_of _ _ P (lesser_of _ _ P i.sw i.se) (lesser_of _ _ P i.nw i.ne),
      greater_of _ _ P (greater_of _ _ P i.sw i.se) (greater_of _ _ P i.nw i.ne),
    )

pub corners-between : (s : Corners) → Between (least s) s.s1 (greatest s) × Between (least s) s.s2 (greatest s) × Between (least s) s.s3 (greatest s) × Between (least s) s.s4 (greatest s)
unfolding least greatest
corners-between s =
    let l = lesser-low s.s1 s.s2 in
    let m = lesser-low s.s3 s.s4 in
    let n = lesser-low (lesser s.s1 s.s2) (lesser s.s3 s.s4) in
    let u = greater_high s.s1 s.s2 in
    let v = greater_high s.s3 s.s4 in
    let w = greater_high (greater s.s1 s.s2) (greater s.s3 s.s4) in
    omega (arith, ints, l, m, n, u, v, w)
