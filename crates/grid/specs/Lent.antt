-- The grid that a function is lent.
use Rattle.grid.specs.Grid.{Grid, grid_of}
use Rattle.grid.specs.declared.Grid.{Grid as LentGrid}

abbrev pub lent : LentGrid → Grid
lent g = grid_of g.header g.lat.now g.lon.now
