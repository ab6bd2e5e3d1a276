-- The bulletin's example, worked by hand there: its two steps in whole numbers, with longitude positive east. The README shows the same.
use Prim.Native.Nat.{ℕ}
use mathlib.Core.Path.{◌≡◌, refl}
use lib.IntN.{pos}
use Rattle.shift.specs.Round.{round_size, nearest}
use Rattle.shift.specs.Sign.{rounding_sign}
use Rattle.shift.specs.Shift.{row_sum, numerator, four_corner, four_corner_sign}
use Rattle.shift.specs.declared.Corners.{Corners}
use Rattle.shift.specs.declared.Distances.{Distances}
use Rattle.shift.specs.declared.Sign.{Sign}

-- step 3 of the example
abbrev distances : Distances
distances = record { a = 218070; b = 231930; c = 310250; d = 139750 }

-- step 4: along both rows, between them, the rounded shift, and the sign of its rounding
pub record Worked (s : Corners) (southern northern between shift : ℕ) (rounding : Sign) : Type 0 where
  pub southern_row : row_sum s.s1 s.s2 distances ≡ pos southern
  pub northern_row : row_sum s.s3 s.s4 distances ≡ pos northern
  pub both_rows : numerator s distances ≡ pos between
  pub rounded : four_corner s distances ≡ pos shift
  pub sign : four_corner_sign s distances ≡ rounding

pub latitude : Worked (record { s1 = pos 53000; s2 = pos 57000; s3 = pos 51000; s4 = pos 57000 }) 24722280000 24258420000 10981113435000000 54228 Sign.Positive
unfolding row_sum numerator four_corner nearest round_size rounding_sign four_corner_sign
latitude = record { southern_row = refl; northern_row = refl; both_rows = refl; rounded = refl; sign = refl }

pub longitude : Worked (record { s1 = pos 42000; s2 = pos 49000; s3 = pos 41000; s4 = pos 49000 }) 20426490000 20194560000 9119964217500000 45037 Sign.Positive
unfolding row_sum numerator four_corner nearest round_size rounding_sign four_corner_sign
longitude = record { southern_row = refl; northern_row = refl; both_rows = refl; rounded = refl; sign = refl }
