-- Why order needs the check of steepness (document 02, request 10): a grid that passes every other check, on which answers would change
-- sides.
use Rattle.std.specs.Prelude.{◌*◌, ◌≡◌, [], ◌∷◌, pos}
use Rattle.figures.specs.Outcome.{Outcome, answered, refused, and_then}
use Rattle.figures.specs.Points.{point27, point83}
use Rattle.grid.specs.Grid.{header, Grid, grid_of}
use Rattle.grid.specs.Nodes.{out_of_range, twisted_at}
use Rattle.grid.specs.Rules.{minus, shape}
use Rattle.grid.specs.Check.{layout, refuse_at, lowest, verdict}
use Rattle.convert.specs.Convert.{answer}

-- the checks with steepness left out, as `verdict` has them: 2, 5, 3, 14
abbrev pub other_checks : Grid → Outcome Unit
other_checks g =
    let s = shape g.header in
    let n = s.rows * s.cols in
    and_then (layout g)
    (refuse_at 3 (lowest n (out_of_range g.nodes))
    (refuse_at 14 (lowest n (twisted_at s g.nodes)) (answered tt)))

-- sheet Q's header, and shifts that fall by 200 for each thousandth, the latitude shift northward and the longitude shift eastward
abbrev pub steep : Grid
steep =
    grid_of (header (pos 0) (pos 0) (pos 1000) (pos 1000) (pos 2) (pos 2))
    (pos 0 ∷ pos 0 ∷ minus 200000 ∷ minus 200000 ∷ [])
    (pos 0 ∷ minus 200000 ∷ pos 0 ∷ minus 200000 ∷ [])

pub record ChangesSides : Type 0 where
  pub too_steep : verdict steep ≡ refused 4 0
  pub otherwise_passes : other_checks steep ≡ answered tt
  pub corner : answer steep (point27 (pos 0) (pos 0)) ≡ point83 (pos 0) (pos 0)
  -- a point north of the corner would have an answer south of the corner's
  pub north : answer steep (point27 (pos 1000) (pos 0)) ≡ point83 (minus 100000) (pos 0)
  -- and a point east of it one west of it
  pub east : answer steep (point27 (pos 0) (pos 1000)) ≡ point83 (pos 0) (minus 100000)
