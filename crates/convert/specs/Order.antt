-- What document 02, request 10 speaks of: how two answers stand to each other, and the shift that an answer tells.
use Rattle.std.specs.Prelude.{ℕ, ◌*◌, ◌/◌, ◌%◌, ◌<◌, ◌≡◌, true, ℤ, pos, ◌-ℤ◌, ◌*ℤ◌, ◌<ℤ◌}
use Rattle.laws.specs.Circle.{distance, place_of}
use Rattle.figures.specs.Outcome.{AnswerWith}
use Rattle.figures.specs.Points.{Point27, Point83, half_turn83}
use Rattle.grid.specs.Grid.{Nodes, Grid}
use Rattle.grid.specs.Nodes.{node}
use Rattle.grid.specs.Rules.{between, shape}
use Rattle.grid.specs.declared.Header.{Header}
use Rattle.shift.specs.Shift.{least, greatest, corners_in}
use Rattle.shift.specs.declared.Cell.{Cell}
use Rattle.shift.specs.declared.Corners.{Corners}
use Rattle.shift.specs.declared.Shift.{Shift}
use Rattle.convert.specs.Points.{point_at}
use Rattle.convert.specs.Convert.{to83}
use Rattle.convert.specs.declared.Shifted.{Shifted}

-- ---- two answers

-- both points are answered, and the answers stand so to each other
abbrev pub BothAnswered : Grid → (p q : Point27) → (R : Point83 → Point83 → Type 0) → Type 0
BothAnswered g p q R = AnswerWith (λ (a : Shifted). AnswerWith (λ (b : Shifted). R a.point b.point) (to83 g q)) (to83 g p)

-- `b` is "the northern answer"
abbrev pub Northward : (a b : Point83) → Type 0
Northward a b = a.lat.0 <ℤ b.lat.0

-- `b` is "the answer farther east, by less than half a turn": so is the way eastward from `a` to `b`, on the circle
abbrev pub Eastward : (a b : Point83) → Type 0
Eastward a b = let way = distance half_turn83 a.lon.0 b.lon.0 in (0 < way) × (way < half_turn83)

-- ---- one answer

-- the rounded shift as an answer tells it: the answer minus 100 times the point, for the longitude as a place on the circle
unfoldable pub shift_told : Point27 → Point83 → Shift
shift_told p f = record { lat = f.lat.0 -ℤ pos 100 *ℤ p.lat.0; lon = place_of half_turn83 (f.lon.0 -ℤ pos 100 *ℤ p.lon.0) }

-- "between the least and greatest of its cell's corners", for each component
abbrev pub Amid : Corners → ℤ → Type 0
Amid c v = between (least c) v (greatest c) ≡ true

abbrev pub AmidCorners : Grid → Cell → Shift → Type 0
AmidCorners g k s = let cols = (shape g.header).cols in Amid (corners_in cols g.nodes.lat k) s.lat × Amid (corners_in cols g.nodes.lon k) s.lon

-- the point at which node `k` stands, and the node's shift
unfoldable pub node_point : Header → ℕ → Point27
node_point h k = point_at h ((shape h).dlon * (k % (shape h).cols)) ((shape h).dlat * (k / (shape h).cols))

abbrev pub node_shift : Nodes → ℕ → Shift
node_shift ns k = record { lat = node ns.lat k; lon = node ns.lon k }
