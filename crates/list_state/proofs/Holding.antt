-- The line that a list holds: with more bytes, and as a request; and totals.
use Prim.Native.Nat.{ℕ, ◌+◌, ◌-◌, ◌≤◌, ◌<◌, min}
use mathlib.Core.Path.{◌≡◌, refl, sym, ap, ◌∙◌}
use mathlib.Core.List.{List, ◌++◌}
use mathlib.Core.Logic.{⊎_elim}
use native.Mathlib.Omega.{arith}
use borrow.Author.Tests.{lt-ltb}
use lib.ListN.{length, take, drop, replicate, length-take, length-replicate, length-append}
use Rattle.std.proofs.Common.{drop-drop}
use Rattle.std.proofs.lemmas.List.{take_min}
use lib.Seq.{sets, sets-eq, take_all, take-append-add, length-take-le}
use lib.IntN.{ℤ, pos, negsuc, ◌+ℤ◌}
use mir.Syntax.{w64}
use mir.Val.{SFits}
use Rattle.std.specs.Int.{saturate_signed}
use Rattle.laws.specs.Logic.{lt_or_ge}
use Rattle.laws.specs.Parts.{ints}
use Rattle.slices.proofs.Sets.{sets-take}
use Rattle.laws.specs.Over.{over, length_over, over-take, over-drop}
use Rattle.requests.specs.Requests.{other_form, request_in}
use Rattle.list_state.specs.State.{one_more, listing_of, held_line}
use Rattle.list_state.specs.declared.Listing.{Listing}
use Rattle.list_state.specs.declared.Totals.{Totals}

-- ---- the line with more bytes

pub at_most_65 : (l : List ℕ) → length (take 65 l) ≤ 65
at_most_65 l = simp length-take (omega arith)

-- a text at the front of a room, and another behind it, as far as the room goes
sets-more : (v w room : List ℕ) → length v ≤ length room → sets (sets room 0 v) (length v) w ≡ over (take (length room) (v ++ w)) room
unfolding over
sets-more v w room h =
    let k = length v in
    let j = length room - k in
    let n = min j (length w) in
    let u = take n w in
    let l = over v room in
    let long : length l ≡ length room = length_over v room h in
    let short : length u ≡ n = length-take-le n w (omega arith) in
    let front : sets room 0 v ≡ l = sets-eq v room 0 (omega arith) ∙ (let z : 0 + k ≡ k = omega arith in ap (λ j. v ++ drop j room) z) in
    let e : length room ≡ k + j = omega arith in
    let fit : take (length room) (v ++ w) ≡ v ++ u = ap (λ i. take i (v ++ w)) e ∙ take-append-add v w j ∙ ap (λ t. v ++ t) (sym (take_min j w)) in
    let whole : length (v ++ u) ≡ k + n = simp length-append (omega arith) in
    let behind : drop (k + n) l ≡ drop (k + n) room = simp drop-drop at (ap (drop n) (over-drop v room)) in
    rw (front, fit)
    (sym (sets-take w l k n (omega (arith, long)))
    ∙ sets-eq u l k (omega (arith, long, short))
    ∙ rw (over-take v room k refl, short, behind) (ap (λ j. (v ++ u) ++ drop j room) (sym whole)))

-- a list with more bytes of its line
pub held_more : (s : Listing) (part : List ℕ) {v m l : List ℕ} {n : ℕ} → length s.held ≡ 65 → v ≡ held_line s → n ≡ min (length v + length part) 65 → m ≡ sets (replicate 65 0) 0 v → l ≡ sets m (length v) part
    → ◌≡◌ {A = Listing} (record { held = l; length = n; totals = s.totals }) (listing_of (take 65 (held_line s ++ part)) s.totals)
held_more s part {v} {m} {l} {n} long e f g h =
    let z : length (replicate {A = ℕ} 65 0) ≡ 65 = length-replicate {A = ℕ} 65 0 in
    let c : length v ≤ 65 = rw e (omega (arith, length-take-le (min s.length 65) s.held (omega arith))) in
    let p : l ≡ over (take 65 (v ++ part)) (replicate 65 0) = h ∙ rw g (rw z at (sets-more v part (replicate 65 0) (omega (arith, z, c)))) in
    let q : n ≡ length (take 65 (v ++ part)) = simp (length-take, length-append) (omega arith) in
    rw (← e) (λ i. record { held = p i; length = q i; totals = s.totals })

-- ---- totals

-- one more than a total that an `i64` holds
pub counted_more : {x : ℤ} → SFits w64 x → saturate_signed w64 (x +ℤ pos 1) ≡ one_more x
unfolding one_more
counted_more {x = pos n} f = grind (arith, ints)
counted_more {x = negsuc n} f = grind (arith, ints)

-- ---- 65 bytes of a line are enough: a line above 64 is refused whatever it is

pub too_long : (l : List ℕ) → 64 < length l → request_in l ≡ other_form
unfolding request_in
too_long l h = rw (lt-ltb 64 (length l) h)

pub capped_request : (l : List ℕ) → request_in (take 65 l) ≡ request_in l
capped_request l =
    ⊎_elim
    (λ h. too_long (take 65 l) (omega (arith, length-take-le 65 l h)) ∙ sym (too_long l h))
    (λ h. ap request_in (take_all 65 l (omega arith)))
    (lt_or_ge 64 (length l))

-- ---- the line of a list that was made of one

pub held_of : (l : List ℕ) (t : Totals) → length l ≤ 65 → held_line (listing_of l t) ≡ l
held_of l t h =
    let e : min (length l) 65 ≡ length l = omega arith in
    ap (λ k. take k (over l (replicate 65 0))) e ∙ over-take l (replicate 65 0) (length l) refl
