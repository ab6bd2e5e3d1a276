-- The answers `100 * x + R x y` and `100 * y + Q x y` of the points of a grid, `x` up to `W` and `y` up to `H`, where near points have near
-- shifts. What follows for them is in proofs/AnswerLaws.
use Rattle.std.specs.Prelude.{ℕ, ◌+◌, ◌*◌, ◌≤◌, ◌≡◌}
use Rattle.bilinear.specs.Axis.{gap, Near}

-- points that are near have shifts that are near: `4 · |R' − R| ≤ 25 · (|x' − x| + |y' − y|) + 4`
pub record Lipschitz (W H : ℕ) (R : ℕ → ℕ → ℕ) : Type 0 where
  pub near : (x y x' y' : ℕ) → x ≤ W → y ≤ H → x' ≤ W → y' ≤ H → Near (25 * (gap x x' + gap y y') + 4) (R x y) (R x' y')

-- a point on the grid, and its answer
pub record HasAnswer (W H : ℕ) (R Q : ℕ → ℕ → ℕ) (X Y x y : ℕ) : Type 0 where
  pub in_x : x ≤ W
  pub in_y : y ≤ H
  pub is_x : X ≡ 100 * x + R x y
  pub is_y : Y ≡ 100 * y + Q x y
