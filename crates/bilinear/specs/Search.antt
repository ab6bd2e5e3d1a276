-- The way back, by a contraction: each round brings the iterate about eight times nearer to the point whose answer it looks for, so six
-- rounds find it if it is there; a conversion of the point that they come to tells whether it is. That they find it is in proofs/SearchLaws.
use Prim.Native.Nat.{ℕ, zero, suc, ◌+◌, ◌*◌, ◌-◌, ◌/◌, min, ◌≤◌}
use Rattle.std.specs.Prelude.{◌≡◌}
use Rattle.std.proofs.Common.{sym, ap, ◌∙◌, add-one}
use native.Mathlib.Omega.{arith}
use Rattle.bilinear.specs.Axis.{gap}
use Rattle.bilinear.specs.Answers.{Lipschitz, HasAnswer}

-- shifts are raised by the largest size of one, so that a raised shift is a natural number, at most twice that
abbrev pub bias : ℕ
bias = 6_000_000

-- the way back along one axis: where the shift is about `R`, the answer `X` is of about this point
unfoldable pub unshift : (W X R : ℕ) → ℕ
unshift W X R = min ((X + 50 - R) / 100) W

pub unshift_on : (W X R : ℕ) → unshift W X R ≤ W
unfolding unshift
unshift_on W X R = omega arith

pub unshift_near : (W x X R R' k : ℕ) → x ≤ W → X ≡ 100 * x + R → R' ≤ R + k → R ≤ R' + k → gap (unshift W X R') x ≤ (k + 50) / 100
unfolding unshift
unshift_near W x X R R' k a e b c = omega arith

-- how far an iterate can be from the point that it looks for: 60000, 7500, 938, 117, 15, 2, 0
unfoldable pub bound : ℕ → ℕ
bound zero = 60_000
bound (suc k) = (25 * bound k + 102) / 200

unfoldable pub iterate : (W H : ℕ) (R Q : ℕ → ℕ → ℕ) (X Y : ℕ) → ℕ → ℕ × ℕ
iterate W H R Q X Y zero = (unshift W X bias, unshift H Y bias)
iterate W H R Q X Y (suc k) = let p = iterate W H R Q X Y k in (unshift W X (R p.0 p.1), unshift H Y (Q p.0 p.1))

-- a point on the grid that is at most `d` away along each axis
pub record Close (W H x y d x' y' : ℕ) : Type 0 where
  pub on_x : x' ≤ W
  pub on_y : y' ≤ H
  pub by_x : gap x' x ≤ d
  pub by_y : gap y' y ≤ d

-- a point of the grid which is the only one that can have the answer
pub record Located (W H : ℕ) (R Q : ℕ → ℕ → ℕ) (X Y x y : ℕ) : Type 0 where
  pub in_x : x ≤ W
  pub in_y : y ≤ H
  pub only : (x' y' : ℕ) → HasAnswer W H R Q X Y x' y' → (x ≡ x') × (y ≡ y')

-- what `k` rounds come to, as a definition has it
pub record Reached (W H : ℕ) (R Q : ℕ → ℕ → ℕ) (X Y k x y : ℕ) : Type 0 where
  pub at_x : x ≡ (iterate W H R Q X Y k).0
  pub at_y : y ≡ (iterate W H R Q X Y k).1

pub reach : {W H X Y x y : ℕ} {R Q : ℕ → ℕ → ℕ} → x ≡ unshift W X bias → y ≡ unshift H Y bias → Reached W H R Q X Y 0 x y
unfolding iterate
reach e f = record { at_x = e; at_y = f }

pub reach_on : {W H X Y k x y dx dy x' y' : ℕ} {R Q : ℕ → ℕ → ℕ} → Reached W H R Q X Y k x y
    → dx ≡ R x y → dy ≡ Q x y → x' ≡ unshift W X dx → y' ≡ unshift H Y dy → Reached W H R Q X Y (k + 1) x' y'
unfolding iterate
reach_on {W} {H} {X} {Y} {R = R} {Q = Q} n ex ey fx fy =
    rw add-one
    (record {
      at_x = fx ∙ ap (unshift W X) (ex ∙ (λ i. R (n.at_x i) (n.at_y i)));
      at_y = fy ∙ ap (unshift H Y) (ey ∙ (λ i. Q (n.at_x i) (n.at_y i)));
    })

-- a round that changes nothing has come to the end
module _ (W H : ℕ) (R Q : ℕ → ℕ → ℕ) (X Y : ℕ) where
  stays : (k : ℕ) → iterate W H R Q X Y (suc k) ≡ iterate W H R Q X Y k → (n : ℕ) → iterate W H R Q X Y (n + k) ≡ iterate W H R Q X Y k
  unfolding iterate
  stays k e zero = let i : 0 + k ≡ k = omega arith in rw i
  stays k e (suc n) =
      let i : suc n + k ≡ suc (n + k) = omega arith in
      rw i ((λ j. let p = stays k e n j in (unshift W X (R p.0 p.1), unshift H Y (Q p.0 p.1))) ∙ e)

pub reach_end : {W H X Y k x y x' y' : ℕ} {R Q : ℕ → ℕ → ℕ} (n : ℕ) → k ≤ n → Reached W H R Q X Y k x y → Reached W H R Q X Y (k + 1) x' y'
    → x' ≡ x → y' ≡ y → Reached W H R Q X Y n x y
reach_end {W} {H} {X} {Y} {k} {R = R} {Q = Q} n l r r' ex ey =
    let f = iterate W H R Q X Y in
    let s : Reached W H R Q X Y (suc k) _ _ = rw add-one at r' in
    let u : (f (suc k)).0 ≡ (f k).0 = sym s.at_x ∙ ex ∙ r.at_x in
    let v : (f (suc k)).1 ≡ (f k).1 = sym s.at_y ∙ ey ∙ r.at_y in
    let t = stays W H R Q X Y k (λ i. (u i, v i)) (n - k) in
    let m : n - k + k ≡ n = omega arith in
    let w : f n ≡ f k = rw m at t in
    record { at_x = r.at_x ∙ sym (ap (λ (p : ℕ × ℕ). p.0) w); at_y = r.at_y ∙ sym (ap (λ (p : ℕ × ℕ). p.1) w) }

pub on_grid_lem : (W H : ℕ) (R Q : ℕ → ℕ → ℕ) (X Y k : ℕ) → ((iterate W H R Q X Y k).0 ≤ W) × ((iterate W H R Q X Y k).1 ≤ H)
unfolding iterate
on_grid_lem W H R Q X Y zero = (unshift_on W X bias, unshift_on H Y bias)
on_grid_lem W H R Q X Y (suc k) = (unshift_on W X _, unshift_on H Y _)

-- a shift that changes slowly and is in its range
pub record Regular (W H : ℕ) (R : ℕ → ℕ → ℕ) : Type 0 where
  pub slow : Lipschitz W H R
  pub fits : (x y : ℕ) → x ≤ W → y ≤ H → R x y ≤ 2 * bias

-- the same of one that is equal to it on the grid
pub regular_same : {W H : ℕ} {R R' : ℕ → ℕ → ℕ} → Regular W H R → ((x y : ℕ) → x ≤ W → y ≤ H → R' x y ≡ R x y) → Regular W H R'
regular_same t e =
    record {
      slow = record { near = λ x y x' y' a b a' b'. rw (e x y a b, e x' y' a' b') (t.slow.near x y x' y' a b a' b') };
      fits = λ x y a b. rw (e x y a b) (t.fits x y a b);
    }
