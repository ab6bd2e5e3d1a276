-- Two points converted and their answers compared (document 02, request 10).
use Rattle.std.specs.Prelude.{Bool, cond}
use Rattle.std.specs.declared.cmp.Ordering.{Ordering}
use Rattle.laws.specs.Logic.{eq_z}
use Rattle.figures.specs.Outcome.{Outcome, answered, refused, and_then}
use Rattle.figures.specs.declared.Nad27.{Nad27}
use Rattle.figures.specs.Points.{Point27, Point83}
use Rattle.grid.specs.Grid.{Grid}
use Rattle.convert.specs.Convert.{to83}
use Rattle.convert.specs.declared.Shifted.{Shifted}
use Rattle.order.specs.Standings.{line_standing, edge_standing, circle_standing, same_standing}
use Rattle.order.specs.declared.Order.{Order}

-- "two NAD 27 points on one meridian", "two on one parallel"
abbrev pub on_meridian : (p q : Point27) → Bool
on_meridian p q = eq_z p.lon.0 q.lon.0

abbrev pub on_parallel : (p q : Point27) → Bool
on_parallel p q = eq_z p.lat.0 q.lat.0

-- refused as the first point is, then as the second is; else "Masts must keep their order": kept where the points are related, along their line
unfoldable pub compared : Grid → (p q : Point27) → (related : Bool) → Outcome Order
compared g p q related = and_then (to83 g p) (and_then (to83 g q) (answered (cond related Order.Kept Order.Unrelated)))

-- ---- as the code has it

-- both answers, or the first refusal
abbrev pub paired : {A B : Type 0} → Outcome A → Outcome B → Outcome (A × B)
paired (answered a) (answered b) = answered (a, b)
paired (answered a) (refused n k) = refused n k
paired (refused n k) o = refused n k

abbrev pub both_converted : Grid → (p q : Point27) → Outcome (Shifted × Shifted)
both_converted g p q = paired (to83 g p) (to83 g q)

-- of points that have an order: the answers stand as the points do, or not
unfoldable pub order_of : (related : Bool) → (points answers : Ordering) → Order
order_of related s t = cond related (cond (same_standing s t) Order.Kept Order.Changed) Order.Unrelated

abbrev pub meridian_order : (p q : Point27) (a b : Point83) → Order
meridian_order p q a b = order_of (on_meridian p q) (line_standing p.lat.0 q.lat.0) (line_standing a.lat.0 b.lat.0)

abbrev pub parallel_order : (west : Nad27) (p q : Point27) (a b : Point83) → Order
parallel_order west p q a b = order_of (on_parallel p q) (edge_standing west.0 p.lon.0 q.lon.0) (circle_standing a.lon.0 b.lon.0)
