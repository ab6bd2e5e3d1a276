-- What follows for the answers of the points of a grid: they are one to one, and they grow eastward and northward.
use Rattle.std.specs.Prelude.{ℕ, suc, ◌+◌, ◌*◌, ◌≤◌, ◌<◌, ◌≡◌}
use Rattle.std.proofs.Common.{arith, mul-pos, mul-le-mul_left}
use Rattle.bilinear.specs.Axis.{gap, Among, InCell, on_axis}
use Rattle.bilinear.specs.Surface.{surface, SlopeBound, Nearest, surface_near, surface-between, surface-node, nearest_near, nearest-between}
use Rattle.bilinear.specs.Answers.{Lipschitz, HasAnswer}

-- so it is with the rounded value of a grid that is not too steep; it lies between its cell's corners, and is the node's at a node
module _ (w h m n : ℕ) (w>0 : 0 < w) (h>0 : 0 < h) (S R : ℕ → ℕ → ℕ)
    (is-nearest : (x y : ℕ) → x ≤ w * suc m → y ≤ h * suc n → Nearest (w * h) (surface w h m n S x y) (R x y)) where
  pub lipschitz : SlopeBound w h m n S → Lipschitz (w * suc m) (h * suc n) R
  lipschitz s =
      record {
        near = λ x y x' y' a b a' b'.
            nearest_near (mul-pos w>0 h>0) (is-nearest x y a b) (gap x x' + gap y y') (is-nearest x' y' a' b')
            (surface_near w h m n w>0 h>0 S s x y x' y' a b a' b');
      }

  pub shift_between : {x y c r A B C D lo hi : ℕ} → InCell w m x c A B → InCell h n y r C D
      → Among lo hi (S r c) → Among lo hi (S r (suc c)) → Among lo hi (S (suc r) c) → Among lo hi (S (suc r) (suc c))
      → Among lo hi (R x y)
  shift_between {x} {y} p q sw se nw ne =
      let k = surface-between w h m n w>0 h>0 S p q sw se nw ne in
      nearest-between (mul-pos w>0 h>0) (is-nearest x y (on_axis p) (on_axis q)) _ _ (omega (arith, k))

  pub shift_node : (r c : ℕ) → r ≤ suc n → c ≤ suc m → R (w * c) (h * r) ≡ S r c
  shift_node r c hr hc =
      let e = surface-node w h m n w>0 h>0 S r c hr hc in
      let k = is-nearest (w * c) (h * r) (mul-le-mul_left w hc) (mul-le-mul_left h hr) in
      omega (arith, nearest-between (mul-pos w>0 h>0) k (S r c) (S r c) (omega arith))

module _ {W H : ℕ} {R Q : ℕ → ℕ → ℕ} (r : Lipschitz W H R) (q : Lipschitz W H Q) where
  pub eastward : (x x' y : ℕ) → x' ≤ W → y ≤ H → x < x' → 100 * x + R x y < 100 * x' + R x' y
  eastward x x' y a b l = omega (arith, r.near x y x' y (omega arith) b a b)

  pub northward : (x y y' : ℕ) → x ≤ W → y' ≤ H → y < y' → 100 * y + Q x y < 100 * y' + Q x y'
  northward x y y' a b l = omega (arith, q.near x y x y' a (omega arith) a b)

  pub one_to_one : {X Y x y x' y' : ℕ} → HasAnswer W H R Q X Y x y → HasAnswer W H R Q X Y x' y' → (x ≡ x') × (y ≡ y')
  one_to_one {x = x} {y = y} {x' = x'} {y' = y'} p p' =
      omega
      (arith, p, p', r.near x y x' y' p.in_x p.in_y p'.in_x p'.in_y, q.near x y x' y' p.in_x p.in_y p'.in_x p'.in_y)
