-- What the private functions ask of their arguments.
use Rattle.std.specs.Prelude.{◌≡◌, true}
use Rattle.laws.specs.Circle.{names}
use Rattle.figures.specs.Points.{Point27, Point83, half_turn27, half_turn83}
use Rattle.figures.specs.declared.Nad27.{Nad27}

-- every longitude names a place on its circle
pub record LongitudesNamed (west : Nad27) (p q : Point27) (a b : Point83) : Type 0 where
  pub of_west : names half_turn27 west.0 ≡ true
  pub of_p : names half_turn27 p.lon.0 ≡ true
  pub of_q : names half_turn27 q.lon.0 ≡ true
  pub of_a : names half_turn83 a.lon.0 ≡ true
  pub of_b : names half_turn83 b.lon.0 ≡ true
