-- Places on a circle, each named once (document 02, request 6). Numbers are counted along it eastward; those that are whole turns apart
-- stand at one place, and one of them is its name. `half` is half of the circle's length.
use Rattle.std.specs.Prelude.{ℕ, ◌*◌, ◌-◌, ◌≤◌, ◌<◌, ◌≡◌, Bool, ◌&&◌, ◌⊎◌, leb, ℤ, ◌+ℤ◌, ◌-ℤ◌, ◌*ℤ◌, ◌≤ℤ◌, ◌<ℤ◌}
use native.Mathlib.Omega.{arith}
use Rattle.std.proofs.Math.Path.{refl, sym, ap}
use Rattle.std.proofs.Common.{◌∙◌}
use Rattle.std.proofs.Math.Bool.{true, false}
use Rattle.std.proofs.Math.Logic.{inl, inr}
use borrow.Author.Tests.{leb-true, le-leb}
use Rattle.std.proofs.Math.IntN.{pos, neg_ℤ}
use Rattle.std.specs.Int.Signed.{le_z, lt_z}
use Rattle.laws.specs.Parts.{pos_part, ints, Within, parts_disjoint}
use Rattle.laws.specs.Expr.{linear, lit, ◌⊕◌, ◌⊖◌, ◌⊛◌, ⊝}
use Rattle.laws.specs.Logic.{both, and_false, le_z_true, le_z_false, le_z_holds, le_z_fails, lt_z_fails, lt_z_true, lt_z_false, lt_z_holds}
use Rattle.laws.specs.Modulo.{modulo, modulo_small, modulo-below, divided, modulo_turned}

-- a number from −half to half − 1 is a name, and "a number outside its range names no place"
unfoldable pub names : (half : ℕ) (v : ℤ) → Bool
names half v = le_z (neg_ℤ (pos half)) v && lt_z v (pos half)

-- how far `v` is east of `from`, less than a turn: "distances are measured eastward"
unfoldable pub distance : (half : ℕ) (from v : ℤ) → ℕ
distance half from v = modulo (v -ℤ from) (2 * half)

-- the name of the place at which a number stands: as far east of the lowest name
unfoldable pub place_of : (half : ℕ) (v : ℤ) → ℤ
place_of half v = neg_ℤ (pos half) +ℤ pos (distance half (neg_ℤ (pos half)) v)

-- whether `v` names a place that is at most `length` east of `from`
unfoldable pub on_arc : (half : ℕ) (from : ℤ) (length : ℕ) (v : ℤ) → Bool
on_arc half from length v = names half v && leb (distance half from v) length

-- ---- names

pub record Named (half : ℕ) (v : ℤ) : Type 0 where
  pub low : neg_ℤ (pos half) ≤ℤ v
  pub high : v <ℤ pos half

pub named : {half : ℕ} {v : ℤ} → names half v ≡ true → Named half v
unfolding names
named {half} {v} e = let s = both (le_z (neg_ℤ (pos half)) v) (lt_z v (pos half)) e in record { low = le_z_holds s.0; high = lt_z_holds s.1 }

pub names_it : {half : ℕ} {v : ℤ} → Named half v → names half v ≡ true
unfolding names
names_it n = rw (le_z_true n.low, lt_z_true n.high)

-- a name is no larger than half of the circle
pub named_within : {half K : ℕ} {v : ℤ} → Named half v → half ≤ K → Within K v
named_within {half} n h = omega (arith, ints, n, h, linear (⊝ (lit (pos half))))

-- as the code tests it
module _ (half : ℕ) (v : ℤ) where
  pub below_range : v <ℤ neg_ℤ (pos half) → names half v ≡ false
  unfolding names
  below_range l = rw (le_z_false l)

  pub above_range : pos half ≤ℤ v → names half v ≡ false
  unfolding names
  above_range l = rw (lt_z_false l) (and_false (le_z (neg_ℤ (pos half)) v))

  pub from_range : neg_ℤ (pos half) ≤ℤ v → lt_z v (pos half) ≡ names half v
  unfolding names
  from_range l = rw (le_z_true l)

  pub out_of_range_lem : names half v ≡ false → (v <ℤ neg_ℤ (pos half)) ⊎ (pos half ≤ℤ v)
  unfolding names
  out_of_range_lem e = go (le_z (neg_ℤ (pos half)) v) refl e
    where
      go : (t : Bool) → le_z (neg_ℤ (pos half)) v ≡ t → (t && lt_z v (pos half)) ≡ false → (v <ℤ neg_ℤ (pos half)) ⊎ (pos half ≤ℤ v)
      go true p e = inr (lt_z_fails e)
      go false p e = inl (le_z_fails p)

-- ---- numbers that stand at one place

pub record SamePlace (half : ℕ) (a b : ℤ) : Type 0 where
  pub turns : ℤ
  pub apart : a ≡ b +ℤ turns *ℤ pos (2 * half)

module _ {half : ℕ} (l : 0 < half) where
  turn : 0 < 2 * half
  turn = omega arith

  -- less than a turn
  distance-below : (from v : ℤ) → distance half from v < 2 * half
  unfolding distance
  distance-below from v = modulo-below turn (v -ℤ from)

  -- what is as far east of `from` as `v` is stands where `v` does
  measured : (from v : ℤ) → SamePlace half (from +ℤ pos (distance half from v)) v
  unfolding distance
  measured from v =
      let d = divided turn (v -ℤ from) in
      let k = d.0 in
      let m = modulo (v -ℤ from) (2 * half) in
      record {
        turns = neg_ℤ k;
        apart =
            omega (arith, ints, d.1, linear (lit v ⊖ lit from), linear (lit k ⊛ lit (pos (2 * half)) ⊕ lit (pos m)), linear (lit from ⊕ lit (pos m)), linear (lit v ⊕ ⊝ (lit k) ⊛ lit (pos (2 * half))));
      }

  place_same : (v : ℤ) → SamePlace half (place_of half v) v
  unfolding place_of
  place_same v = measured (neg_ℤ (pos half)) v

  -- "places on a circle": every number's place has a name
  pub place_named : (v : ℤ) → Named half (place_of half v)
  unfolding place_of
  place_named v =
      let b = distance-below (neg_ℤ (pos half)) v in
      let e = linear (⊝ (lit (pos half)) ⊕ lit (pos (distance half (neg_ℤ (pos half)) v))) in
      record { low = omega (arith, ints, b, e, linear (⊝ (lit (pos half)))); high = omega (arith, ints, b, e) }

  distance_to : (from : ℤ) {a b : ℤ} → SamePlace half a b → distance half from a ≡ distance half from b
  unfolding distance
  distance_to from {a} {b} t =
      let k = t.turns in
      let e : a -ℤ from ≡ b -ℤ from +ℤ k *ℤ pos (2 * half) =
      omega (arith, ints, t.apart, linear (lit a ⊖ lit from), linear (lit b ⊕ lit k ⊛ lit (pos (2 * half))), linear (lit b ⊖ lit from ⊕ lit k ⊛ lit (pos (2 * half)))) in
      ap (λ z. modulo z (2 * half)) e ∙ modulo_turned (b -ℤ from) k turn

  pub place_once : {a b : ℤ} → SamePlace half a b → place_of half a ≡ place_of half b
  unfolding place_of
  place_once t = ap (λ m. neg_ℤ (pos half) +ℤ pos m) (distance_to (neg_ℤ (pos half)) t)

  -- a name is that of its own place
  pub place_name : {v : ℤ} → Named half v → place_of half v ≡ v
  unfolding place_of distance
  place_name {v} n =
      let z = v -ℤ neg_ℤ (pos half) in
      let e = linear (lit v ⊖ ⊝ (lit (pos half))) in
      let h = linear (⊝ (lit (pos half))) in
      let m : z ≡ pos (pos_part z) = omega (arith, ints, n.low, e, h, parts_disjoint z) in
      let s : pos_part z < 2 * half = omega (arith, ints, n.high, e, m) in
      let r : modulo z (2 * half) ≡ pos_part z = ap (λ y. modulo y (2 * half)) m ∙ modulo_small s in
      omega (arith, ints, r, m, e, h, linear (⊝ (lit (pos half)) ⊕ lit (pos (modulo z (2 * half)))))

  -- "each named once"
  pub named_once : {a b : ℤ} → SamePlace half a b → Named half a → Named half b → a ≡ b
  named_once t m n = sym (place_name m) ∙ place_once t ∙ place_name n

  -- ---- distances and places

  -- what is `x` east of a number has the distance `x`
  pub distance-at : (from : ℤ) {x : ℕ} → x < 2 * half → distance half from (place_of half (from +ℤ pos x)) ≡ x
  unfolding distance
  distance-at from {x} s =
      let e : from +ℤ pos x -ℤ from ≡ pos x = omega (arith, ints, linear (lit from ⊕ lit (pos x) ⊖ lit from)) in
      distance_to from (place_same (from +ℤ pos x)) ∙ ap (λ z. modulo z (2 * half)) e ∙ modulo_small s

  -- and a name is that of the place at its distance
  pub name_at : (from : ℤ) {v : ℤ} → Named half v → place_of half (from +ℤ pos (distance half from v)) ≡ v
  name_at from {v} n = place_once (measured from v) ∙ place_name n

  -- from the name of a place the distances are those from a number that stands there
  pub distance-from : (from v : ℤ) → distance half (place_of half from) v ≡ distance half from v
  unfolding distance
  distance-from from v =
      let t = place_same from in
      let k = t.turns in
      let e : v -ℤ place_of half from ≡ v -ℤ from +ℤ neg_ℤ k *ℤ pos (2 * half) =
      omega (arith, ints, t.apart, linear (lit v ⊖ lit (place_of half from)), linear (lit from ⊕ lit k ⊛ lit (pos (2 * half))), linear (lit v ⊖ lit from ⊕ ⊝ (lit k) ⊛ lit (pos (2 * half)))) in
      ap (λ z. modulo z (2 * half)) e ∙ modulo_turned (v -ℤ from) (neg_ℤ k) turn

  -- of two places that are `m` and `n` east of a number, the second is n − m east of the first
  pub distance-between : (from : ℤ) {m n : ℕ} → m ≤ n → n < 2 * half → distance half (place_of half (from +ℤ pos m)) (place_of half (from +ℤ pos n)) ≡ n - m
  unfolding distance
  distance-between from {m} {n} h s =
      let a = from +ℤ pos m in
      let b = from +ℤ pos n in
      let e : b -ℤ a ≡ pos (n - m) = omega (arith, ints, linear (lit from ⊕ lit (pos n) ⊖ (lit from ⊕ lit (pos m)))) in
      let r : n - m < 2 * half = omega arith in
      distance-from a (place_of half b) ∙ distance_to a (place_same b) ∙ ap (λ z. modulo z (2 * half)) e ∙ modulo_small r

  -- ---- arcs

  pub arc_holds : (from v : ℤ) (length : ℕ) → on_arc half from length v ≡ true → Named half v × (distance half from v ≤ length)
  unfolding on_arc
  arc_holds from v length e = let s = both (names half v) (leb (distance half from v) length) e in (named s.0, leb-true _ _ s.1)

  pub place-on_arc : (from : ℤ) {x length : ℕ} → x ≤ length → length < 2 * half → on_arc half from length (place_of half (from +ℤ pos x)) ≡ true
  unfolding on_arc
  place-on_arc from {x} {length} h s =
      let r : x < 2 * half = omega arith in
      let d : distance half from (place_of half (from +ℤ pos x)) ≤ length = omega (arith, distance-at from r) in
      rw (names_it (place_named (from +ℤ pos x)), le-leb _ _ d)

  -- ---- from a difference, or a number, that is `k` turns off

  pub distance_is : (from v k : ℤ) {x : ℕ} → pos x ≡ v -ℤ from +ℤ k *ℤ pos (2 * half) → x < 2 * half → distance half from v ≡ x
  unfolding distance
  distance_is from v k e s = sym (modulo_turned (v -ℤ from) k turn) ∙ ap (λ z. modulo z (2 * half)) (sym e) ∙ modulo_small s

  pub place_is : (v k : ℤ) {w : ℤ} → w ≡ v +ℤ k *ℤ pos (2 * half) → Named half w → place_of half v ≡ w
  place_is v k e n = sym (place_once (record { turns = k; apart = e })) ∙ place_name n

  -- the way back is what is left of a turn
  pub distance_back : (from v : ℤ) → 0 < distance half from v → distance half v from ≡ 2 * half - distance half from v
  distance_back from v h =
      let t = measured from v in
      let k = t.turns in
      let d = distance half from v in
      let e : pos (2 * half - d) ≡ from -ℤ v +ℤ (pos 1 -ℤ k) *ℤ pos (2 * half) =
      omega (arith, ints, t.apart, distance-below from v, linear (lit from ⊕ lit (pos d)), linear (lit v ⊕ lit k ⊛ lit (pos (2 * half))), linear (lit from ⊖ lit v ⊕ (lit (pos 1) ⊖ lit k) ⊛ lit (pos (2 * half)))) in
      distance_is v from (pos 1 -ℤ k) e (omega arith)

-- between two names: the difference, and a turn more where that is below zero
module _ {half : ℕ} {from v : ℤ} (m : Named half from) (n : Named half v) where
  some : 0 < half
  some = omega (arith, ints, m, linear (⊝ (lit (pos half))))

  pub distance_ahead : from ≤ℤ v → {x : ℕ} → pos x ≡ v -ℤ from → distance half from v ≡ x
  distance_ahead a e =
      let t = linear (lit v ⊖ lit from) in
      let u = linear (lit v ⊖ lit from ⊕ lit (pos 0) ⊛ lit (pos (2 * half))) in
      distance_is some from v (pos 0) (omega (arith, ints, e, t, u)) (omega (arith, ints, e, t, m, n, linear (⊝ (lit (pos half)))))

  pub distance-around : v <ℤ from → {x : ℕ} → pos x ≡ v -ℤ from +ℤ pos 2 *ℤ pos half → distance half from v ≡ x
  distance-around b e =
      let t = linear (lit v ⊖ lit from ⊕ lit (pos 2) ⊛ lit (pos half)) in
      let u = linear (lit v ⊖ lit from ⊕ lit (pos 1) ⊛ lit (pos (2 * half))) in
      distance_is some from v (pos 1) (omega (arith, ints, e, t, u)) (omega (arith, ints, e, t, b))

-- a number may be taken to its place before or after it is counted in hundredths and a shift is added
pub place_finer : {half : ℕ} → 0 < half → (v s : ℤ) → place_of (100 * half) (pos 100 *ℤ place_of half v +ℤ s) ≡ place_of (100 * half) (pos 100 *ℤ v +ℤ s)
place_finer {half} l v s =
    let t = place_same l v in
    let k = t.turns in
    let w = place_of half v in
    let fine : 0 < 100 * half = omega arith in
    let e : pos 100 *ℤ w +ℤ s ≡ pos 100 *ℤ v +ℤ s +ℤ k *ℤ pos (2 * (100 * half)) =
    omega (arith, ints, t.apart, linear (lit (pos 100) ⊛ lit w ⊕ lit s), linear (lit v ⊕ lit k ⊛ lit (pos (2 * half))), linear (lit (pos 100) ⊛ lit v ⊕ lit s ⊕ lit k ⊛ lit (pos (2 * (100 * half))))) in
    place_once fine (record { turns = k; apart = e })

-- a number may be taken to its place before or after another is subtracted
pub place-minus : {half : ℕ} → 0 < half → (v w : ℤ) → place_of half (place_of half v -ℤ w) ≡ place_of half (v -ℤ w)
place-minus {half} l v w =
    let t = place_same l v in
    let k = t.turns in
    let u = place_of half v in
    let e : u -ℤ w ≡ v -ℤ w +ℤ k *ℤ pos (2 * half) =
    omega (arith, ints, t.apart, linear (lit u ⊖ lit w), linear (lit v ⊕ lit k ⊛ lit (pos (2 * half))), linear (lit v ⊖ lit w ⊕ lit k ⊛ lit (pos (2 * half)))) in
    place_once l (record { turns = k; apart = e })
