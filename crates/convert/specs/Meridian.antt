-- Points at the 180th meridian (document 02, request 6), as one table under one claim, in the form of the starred points.
use Rattle.std.specs.Prelude.{List, [], ◌∷◌, ℤ, pos}
use Rattle.figures.specs.Outcome.{answered, refused}
use Rattle.figures.specs.Points.{point27}
use Rattle.grid.specs.Grid.{header, Grid, grid_of}
use Rattle.grid.specs.Rules.{minus}
use Rattle.shift.specs.declared.Sign.{Sign}
use Rattle.convert.specs.Starred.{Case, check, there, back, rounded}

-- one cell, 15 minutes wide, from the west edge `west`, with the longitude shift `s` everywhere
abbrev pub cell_from : (west s : ℤ) → Grid
cell_from west s =
    grid_of (header (pos 0) west (pos 900000) (pos 900000) (pos 2) (pos 2))
    (pos 0 ∷ pos 0 ∷ pos 0 ∷ pos 0 ∷ [])
    (s ∷ s ∷ s ∷ s ∷ [])

-- half on either side of the meridian; up to it; and from it on
abbrev pub across : ℤ → Grid
across = cell_from (pos 647550000)

abbrev pub up_to180 : ℤ → Grid
up_to180 = cell_from (pos 647100000)

abbrev pub from180 : ℤ → Grid
from180 = cell_from (minus 648000000)

abbrev pub at_meridian : List Case
at_meridian =
    -- on either side, there and back
    there (across (pos 30)) (pos 0) (pos 647600000) (rounded (pos 0) (pos 64760000030) Sign.Zero Sign.Zero)
    ∷ there (across (pos 30)) (pos 0) (minus 647600000) (rounded (pos 0) (minus 64759999970) Sign.Zero Sign.Zero)
    ∷ back (across (pos 30)) (pos 0) (pos 64760000030) (answered (point27 (pos 0) (pos 647600000)))
    ∷ back (across (pos 30)) (pos 0) (minus 64759999970) (answered (point27 (pos 0) (minus 647600000)))
    -- on the meridian itself, whose one number is −648,000,000
    ∷ there (across (pos 30)) (pos 0) (minus 648000000) (rounded (pos 0) (minus 64799999970) Sign.Zero Sign.Zero)
    ∷ there (across (pos 30)) (pos 0) (pos 648000000) (refused 6 0)
    ∷ back (across (pos 0)) (pos 0) (minus 64800000000) (answered (point27 (pos 0) (minus 648000000)))
    ∷ back (across (pos 0)) (pos 0) (pos 64800000000) (refused 7 0)
    -- the shift alone carries the answer across, eastward and westward
    ∷ there (across (pos 100)) (pos 0) (pos 647999999) (rounded (pos 0) (minus 64800000000) Sign.Zero Sign.Zero)
    ∷ back (across (pos 100)) (pos 0) (minus 64800000000) (answered (point27 (pos 0) (pos 647999999)))
    ∷ there (from180 (minus 1)) (pos 0) (minus 648000000) (rounded (pos 0) (pos 64799999999) Sign.Zero Sign.Zero)
    ∷ back (from180 (minus 1)) (pos 0) (pos 64799999999) (answered (point27 (pos 0) (minus 648000000)))
    -- a figure a turn away names no place
    ∷ back (across (pos 100)) (pos 0) (pos 64800000000) (refused 7 0)
    -- an east edge at 180, and a west edge there
    ∷ there (up_to180 (pos 0)) (pos 0) (minus 648000000) (rounded (pos 0) (minus 64800000000) Sign.Zero Sign.Zero)
    ∷ there (up_to180 (pos 0)) (pos 0) (minus 647999999) (refused 6 0)
    ∷ there (from180 (pos 0)) (pos 0) (minus 648000000) (rounded (pos 0) (minus 64800000000) Sign.Zero Sign.Zero)
    ∷ there (from180 (pos 0)) (pos 0) (pos 647999999) (refused 6 0)
    -- rule 2
    ∷ check (cell_from (pos 647999999) (pos 0)) (answered tt)
    ∷ check (cell_from (pos 648000000) (pos 0)) (refused 2 2)
    ∷ check (cell_from (minus 648000001) (pos 0)) (refused 2 2)
    ∷ []
