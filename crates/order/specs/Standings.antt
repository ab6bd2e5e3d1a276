-- How two points, or two answers, stand to each other along a meridian or a parallel: `Less` where the second is ahead of the first, north
-- or east of it, and `Greater` where it is behind.
use Rattle.std.specs.Prelude.{Bool, ◌&&◌, ◌==◌, cond, ltb, ℤ}
use Rattle.std.specs.declared.cmp.Ordering.{Ordering}
use Rattle.std.specs.Ordering.{ordering_index}
use Rattle.std.specs.Int.Signed.{lt_z}
use Rattle.laws.specs.Circle.{distance}
use Rattle.figures.specs.Points.{half_turn27, half_turn83}

-- by a test that tells whether the second is ahead of the first
abbrev pub standing_by : {A : Type 0} → (A → A → Bool) → (u v : A) → Ordering
standing_by before u v = cond (before u v) Ordering.Less (cond (before v u) Ordering.Greater Ordering.Equal)

-- two latitudes
abbrev pub line_standing : (u v : ℤ) → Ordering
line_standing = standing_by lt_z

-- two points of one parallel: "farther east of the sheet's west edge"
abbrev pub edge_standing : (west u v : ℤ) → Ordering
edge_standing west u v = standing_by ltb (distance half_turn27 west u) (distance half_turn27 west v)

-- two answers: `v` is "farther east, by less than half a turn"
unfoldable pub is_east : (u v : ℤ) → Bool
is_east u v = let way = distance half_turn83 u v in ltb 0 way && ltb way half_turn83

abbrev pub circle_standing : (u v : ℤ) → Ordering
circle_standing = standing_by is_east

-- what `==` tells
abbrev pub same_standing : (s t : Ordering) → Bool
same_standing s t = ordering_index s == ordering_index t
