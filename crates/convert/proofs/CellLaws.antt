-- What the code has at a point of a grid that passes: sizes, nodes that are in range and in their slices, and a point on the grid.
use Prim.Native.Nat.{ℕ, ◌*◌, ◌-◌, ◌≤◌}
use native.Mathlib.Omega.{arith}
use mathlib.Core.Path.{◌≡◌, sym, subst}
use lib.ListN.{length}
use Rattle.grid.specs.Grid.{Grid}
use Rattle.grid.specs.Rules.{shape}
use Rattle.grid.specs.Check.{Passes}
use Rattle.grid.specs.Needs.{Extent}
use Rattle.grid.specs.declared.Shape.{Shape}
use Rattle.grid.proofs.RuleLaws.{extent}
use Rattle.grid.proofs.NodeLaws.{Sound}
use Rattle.grid.proofs.Passing.{laid, good}
use Rattle.convert.specs.Points.{width, height}

pub record AtPoint (g : Grid) (s : Shape) (x y : ℕ) : Type 0 where
  pub sizes : Extent s
  pub sound_lat : Sound s g.nodes.lat
  pub sound_lon : Sound s g.nodes.lon
  pub in_x : x ≤ (s.cols - 1) * s.dlon
  pub in_y : y ≤ (s.rows - 1) * s.dlat
  pub room_lat : s.rows * s.cols ≤ length g.nodes.lat
  pub room_lon : s.rows * s.cols ≤ length g.nodes.lon

pub at_point : (g : Grid) {s : Shape} {x y : ℕ} → Passes g → s ≡ shape g.header → x ≤ width g.header → y ≤ height g.header → AtPoint g s x y
unfolding width height
at_point g {s} {x} {y} p e hx hy =
    let ok = good g p in
    let r = (laid g ok.laid_out).has_room in
    let t : AtPoint g (shape g.header) x y =
    record { sizes = extent ok.header; sound_lat = ok.of_lat; sound_lon = ok.of_lon; in_x = hx; in_y = hy; room_lat = omega (arith, r); room_lon = omega (arith, r) } in
    subst (λ (z : Shape). AtPoint g z x y) (sym e) t
