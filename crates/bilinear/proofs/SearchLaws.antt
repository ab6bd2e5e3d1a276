-- Six rounds of the way back find the point, if it is there.
use Rattle.std.specs.Prelude.{ℕ, zero, suc, ◌+◌, ◌*◌, ◌/◌, ◌≤◌}
use Rattle.std.proofs.Common.{arith}
use Rattle.bilinear.specs.Answers.{Lipschitz, HasAnswer}
use Rattle.bilinear.specs.Search.{bias, unshift, unshift_on, unshift_near, bound, iterate, Close, Located, Regular, on_grid_lem}

module _ {W H : ℕ} {R Q : ℕ → ℕ → ℕ} (r : Lipschitz W H R) (q : Lipschitz W H Q) where
  module _ {X Y x y : ℕ} (p : HasAnswer W H R Q X Y x y) where
    -- each round brings the iterate about eight times nearer
    pub closer : {d x' y' : ℕ} → Close W H x y d x' y' → Close W H x y ((25 * d + 102) / 200) (unshift W X (R x' y')) (unshift H Y (Q x' y'))
    closer {d} {x'} {y'} c =
        let k = (25 * d + 2) / 2 in
        let u = r.near x' y' x y c.on_x c.on_y p.in_x p.in_y in
        let v = q.near x' y' x y c.on_x c.on_y p.in_x p.in_y in
        record {
          on_x = unshift_on W X (R x' y');
          on_y = unshift_on H Y (Q x' y');
          by_x = omega (arith, unshift_near W x X (R x y) (R x' y') k p.in_x p.is_x (omega (arith, u, c)) (omega (arith, u, c)));
          by_y = omega (arith, unshift_near H y Y (Q x y) (Q x' y') k p.in_y p.is_y (omega (arith, v, c)) (omega (arith, v, c)));
        }

    module _ (fits : (R x y ≤ 2 * bias) × (Q x y ≤ 2 * bias)) where
      pub closing : (k : ℕ) → Close W H x y (bound k) (iterate W H R Q X Y k).0 (iterate W H R Q X Y k).1
      unfolding iterate bound
      closing zero =
          record {
            on_x = unshift_on W X bias;
            on_y = unshift_on H Y bias;
            by_x = omega (arith, unshift_near W x X (R x y) bias bias p.in_x p.is_x (omega arith) (omega arith));
            by_y = omega (arith, unshift_near H y Y (Q x y) bias bias p.in_y p.is_y (omega arith) (omega arith));
          }
      closing (suc k) = closer (closing k)

module _ {W H : ℕ} {R Q : ℕ → ℕ → ℕ} (r : Regular W H R) (q : Regular W H Q) (X Y : ℕ) where
  -- six rounds locate it
  pub located : Located W H R Q X Y (iterate W H R Q X Y 6).0 (iterate W H R Q X Y 6).1
  unfolding bound
  located =
      let o = on_grid_lem W H R Q X Y 6 in
      record {
        in_x = o.0;
        in_y = o.1;
        only = λ x' y' p. omega (arith, closing r.slow q.slow p (r.fits x' y' p.in_x p.in_y, q.fits x' y' p.in_x p.in_y) 6);
      }
