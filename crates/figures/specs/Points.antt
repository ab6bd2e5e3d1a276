-- The point of a latitude and a longitude, in each datum, and the circles of the longitudes.
use Rattle.std.specs.Prelude.{ℕ, ℤ}
use Rattle.figures.specs.declared.Nad27.{Nad27}
use Rattle.figures.specs.declared.Nad83.{Nad83}
use Rattle.figures.specs.declared.point.Point.{Point}

abbrev pub Point27 : Type 0
Point27 = Point Nad27

abbrev pub Point83 : Type 0
Point83 = Point Nad83

abbrev pub nad27 : ℤ → Nad27
nad27 x = record { 0 = x }

abbrev pub nad83 : ℤ → Nad83
nad83 x = record { 0 = x }

abbrev pub point : {F : Type 0} → (figure : ℤ → F) → (lat lon : ℤ) → Point F
point f y x = record { lat = f y; lon = f x }

abbrev pub point27 : (lat lon : ℤ) → Point27
point27 = point nad27

abbrev pub point83 : (lat lon : ℤ) → Point83
point83 = point nad83

-- half of each circle: "NAD 27 from −648,000,000 to 647,999,999, NAD 83 from −64,800,000,000 to 64,799,999,999"
abbrev pub half_turn27 : ℕ
half_turn27 = 648000000

abbrev pub half_turn83 : ℕ
half_turn83 = 64800000000
