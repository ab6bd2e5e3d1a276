-- For the code: the difference of two places of a circle, by their names, and with half circles added, is a number of the machine.
use Rattle.std.proofs.Common.{FitsSigned, Fits, w64, nat_abs, T, leb, leb→le, arith, ℕ, ◌≤◌, ℤ, pos, ◌+ℤ◌, ◌-ℤ◌, ◌*ℤ◌}
use Rattle.std.proofs.Math.Nat.{mul-le-mul_right}
use Rattle.std.specs.Int.Signed.{non_neg}
use Rattle.laws.specs.Parts.{ints}
use Rattle.laws.specs.Expr.{Expr, machine, need, linear, bounded, nat, ◌⊕◌, ◌⊖◌, ◌⊛◌, ⊝}
use Rattle.laws.specs.Tests.{need_cast}
use Rattle.laws.specs.Circle.{Named, named_within}

module _ (half : ℕ) (x y : ℤ) (few : half ≤ 64800000000) (n : Named half x) (k : Named half y) where
  pub apart_fits : FitsSigned w64 (machine x -ℤ machine y)
  apart_fits = need (bounded (named_within n few) ⊖ bounded (named_within k few)) tt

  module _ (m : ℕ) (some : T (leb 2 m)) (most : T (leb m 100)) where
    abbrev pub turned : Expr (x -ℤ y +ℤ pos m *ℤ pos half)
    turned = bounded (named_within n few) ⊖ bounded (named_within k few) ⊕ nat (leb→le _ _ most) ⊛ nat few

    pub turned_fits : FitsSigned w64 turned.top
    turned_fits = need turned tt

    pub turned_cast : T (non_neg turned.got) × Fits w64 (nat_abs turned.got)
    turned_cast =
        let t = mul-le-mul_right half (leb→le _ _ some) in
        need_cast turned (omega (arith, ints, n, k, t, linear turned, linear (⊝ (nat few)))) tt
