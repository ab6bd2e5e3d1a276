-- The test of two points tells whether they are equal.
use mathlib.Core.Path.{◌≡◌, refl}
use mathlib.Core.Bool.{true, ◌&&◌}
use lib.IntN.{ℤ}
use Rattle.std.specs.Ordering.{int_eq}
use Rattle.std.proofs.lemmas.Bool.Decides.{same_from_decides, Decides-int_eq}
use Rattle.laws.specs.Logic.{both, eq_z, eq_z_holds, eq_z_true}
use Rattle.figures.specs.Same.{same_pair, same27, same83}
use Rattle.figures.specs.Points.{Point27, Point83}

pair_equal : {a b c d : ℤ} → same_pair a b c d ≡ true → (a ≡ c) × (b ≡ d)
unfolding same_pair
pair_equal {a} {b} {c} {d} e = let s = both (eq_z a c) (eq_z b d) e in (eq_z_holds s.0, eq_z_holds s.1)

pair_same : (a b : ℤ) → same_pair a b a b ≡ true
unfolding same_pair
pair_same a b = rw (eq_z_true {a = a} refl, eq_z_true {a = b} refl)

-- what `==` answers, of two figures and of two points
pub one_axis : (a b : ℤ) → int_eq a b ≡ eq_z a b
one_axis a b = same_from_decides (int_eq a b) (eq_z a b) (Decides-int_eq a b) (eq_z_holds, eq_z_true)

pair_eq : (a b c d : ℤ) → (int_eq a c && int_eq b d) ≡ same_pair a b c d
unfolding same_pair
pair_eq a b c d = λ i. one_axis a c i && one_axis b d i

pub eq27 : (p q : Point27) → (int_eq p.lat.0 q.lat.0 && int_eq p.lon.0 q.lon.0) ≡ same27 p q
eq27 p q = pair_eq p.lat.0 p.lon.0 q.lat.0 q.lon.0

pub eq83 : (f g : Point83) → (int_eq f.lat.0 g.lat.0 && int_eq f.lon.0 g.lon.0) ≡ same83 f g
eq83 f g = pair_eq f.lat.0 f.lon.0 g.lat.0 g.lon.0

pub equal27 : {p q : Point27} → same27 p q ≡ true → p ≡ q
equal27 e = let t = pair_equal e in λ i. record { lat = record { 0 = t.0 i }; lon = record { 0 = t.1 i } }

pub same27_refl : (p : Point27) → same27 p p ≡ true
same27_refl p = pair_same p.lat.0 p.lon.0

pub equal83 : {f g : Point83} → same83 f g ≡ true → f ≡ g
equal83 e = let t = pair_equal e in λ i. record { lat = record { 0 = t.0 i }; lon = record { 0 = t.1 i } }

pub same83_refl : (f : Point83) → same83 f f ≡ true
same83_refl f = pair_same f.lat.0 f.lon.0
