-- Two points of one datum are the same if both coordinates are.
use Rattle.std.specs.Prelude.{Bool, ◌&&◌, ℤ}
use Rattle.laws.specs.Logic.{eq_z}
use Rattle.figures.specs.Points.{Point27, Point83}

unfoldable pub same_pair : (a b c d : ℤ) → Bool
same_pair a b c d = eq_z a c && eq_z b d

abbrev pub same27 : Point27 → Point27 → Bool
same27 p q = same_pair p.lat.0 p.lon.0 q.lat.0 q.lon.0

abbrev pub same83 : Point83 → Point83 → Bool
same83 f g = same_pair f.lat.0 f.lon.0 g.lat.0 g.lon.0
