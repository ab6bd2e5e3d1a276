use Rattle.std.proofs.Common.{arith, ℕ, ℤ, ◌<◌, ◌≤◌, ◌≡◌, pos, nat_abs, ◌-ℤ◌, ap, ◌∙◌}
use Rattle.std.proofs.Math.Nat.{mul-le-mul_right}
use Rattle.laws.specs.Parts.{Within}
use Rattle.laws.specs.Expr.{machine, need, reads, bounded, nat, lit, ◌⊖◌}
use Rattle.laws.specs.Tests.{lt_yes, lt_no}
use Rattle.shift.specs.Round.{round_size}
use Rattle.shift.proofs.Rounding.{size_within, nearest-below, nearest_above}
use Rattle.convert.proofs.rounding.rounded.Goals as goal

same_size : (n : ℤ) {m : ℕ} → Within 4860000000000000000 n → m ≡ nat_abs (machine n) → m ≡ nat_abs n
same_size n w e = e ∙ ap nat_abs (reads (bounded w) tt)

same_rounded : (d : ℕ) {k m r : ℕ} → r ≡ round_size d k → k ≡ m → r ≡ round_size d m
same_rounded d q e = q ∙ ap (round_size d) e

-- a small size is rounded to a small one, whatever number it is the size of
rounded_small : (d k : ℕ) {r : ℕ} → 0 < d → r ≡ round_size d k → k ≤ 4860000000000000000 → r ≤ 4860000000000000000
rounded_small d k some q h =
    let small = mul-le-mul_right 4860000000000000000 some in
    omega (arith, q, size_within 4860000000000000000 d k some (omega (arith, small, h)))

pub overflow_cast-size : goal.overflow_cast-size
overflow_cast-size c =
    let a = c.args in
    let p = c.requires in
    let own = same_size a.n p.0 c.unsigned_abs.ensures.value in
    need (nat (rounded_small a.d _ p.1 c.rounded_size-size.ensures (omega (arith, own, p.0.size)))) tt

pub overflow_sub-result : goal.overflow_sub-result
overflow_sub-result c =
    let a = c.args in
    let p = c.requires in
    let own = same_size a.n p.0 c.unsigned_abs.ensures.value in
    need (lit (pos 0) ⊖ nat (rounded_small a.d _ p.1 c.rounded_size-size.ensures (omega (arith, own, p.0.size)))) tt

pub returns-then-n-lt0 : goal.returns-then-n-lt0
returns-then-n-lt0 c =
    let a = c.args in
    let p = c.requires in
    let own = same_size a.n p.0 c.unsigned_abs.ensures.value in
    let s = nat (rounded_small a.d _ p.1 c.rounded_size-size.ensures (omega (arith, own, p.0.size))) in
    let e : c.rounded_size-size.result ≡ round_size a.d (nat_abs a.n) = same_rounded a.d c.rounded_size-size.ensures (omega (arith, own)) in
    reads (lit (pos 0) ⊖ s) tt ∙ ap (λ r. pos 0 -ℤ pos r) e ∙ nearest-below a.d (lt_yes (bounded p.0) (lit (pos 0)) tt c.if-n-lt0.true)

pub returns-else-n-lt0 : goal.returns-else-n-lt0
returns-else-n-lt0 c =
    let a = c.args in
    let p = c.requires in
    let own = same_size a.n p.0 c.unsigned_abs.ensures.value in
    let s = nat (rounded_small a.d _ p.1 c.rounded_size-size.ensures (omega (arith, own, p.0.size))) in
    let e : c.rounded_size-size.result ≡ round_size a.d (nat_abs a.n) = same_rounded a.d c.rounded_size-size.ensures (omega (arith, own)) in
    reads s tt ∙ ap pos e ∙ nearest_above a.d (lt_no (bounded p.0) (lit (pos 0)) tt c.if-n-lt0.false)
