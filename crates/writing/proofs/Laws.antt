-- The laws of texts over the front of a room, of which every writer is composed: nothing, a byte more, a part more by a callee that was lent the
-- rest of the room; and the answer of a writer that counts first.
use Prim.Native.Nat.{ℕ, ◌+◌, ◌-◌, ◌^◌, ◌≤◌, ◌<◌, min}
use mathlib.Core.Path.{◌≡◌, refl, sym, ap, ◌∙◌}
use mathlib.Core.List.{List, [], ◌∷◌, ◌++◌, append-nil}
use Rattle.std.specs.Prelude.{Result, Ok, Err}
use native.Mathlib.Omega.{arith}
use native.Mathlib.Nat.{le_of_eq}
use native.Mathlib.Numerals.{add-one}
use borrow.Author.Tests.{lt-ltb, le-ltb}
use borrow.Rule.Slice.PartMut.{mid_of, put_mid}
use lib.ListN.{length, take, drop, get_or, set, length-append, length-drop, length-take, length-set, drop_of_length-le}
use lib.Seq.{take_all, take-suc}
use Rattle.laws.specs.Over.{over, over-set, over-take, over-drop, over-append}
use Rattle.figures.specs.Outcome.{answered, refused, outcome}
use Rattle.figures.specs.declared.Refusal.{Refusal}
use Rattle.writing.specs.Writing.{saturated, in_room, room_after, Wrote, Put, Added}

-- ---- the rest of a list from k on, as it is lent, and the list when it is back

pub rest-lent : (k : ℕ) (m : List ℕ) → mid_of k (length m - k) m ≡ drop k m
rest-lent k m = take_all (length m - k) (drop k m) (le_of_eq (length-drop k m))

rest_back : (k : ℕ) (m y : List ℕ) → put_mid k (length m - k) m y ≡ take k m ++ y
rest_back k m y = rw (drop_of_length-le (drop k m) (le_of_eq (length-drop k m)), append-nil)

length-lent : (k : ℕ) (m : List ℕ) → length (mid_of k (length m - k) m) ≡ length m - k
length-lent k m = ap length (rest-lent k m) ∙ length-drop k m

-- ---- a text of parts

pub put_nothing : (l : List ℕ) → Put [] l l 0
unfolding over
put_nothing l = record { counted = refl; kept = refl; wrote = λ h. refl }

-- the count of a text that is not too long to tell
pub exact_count : {w l m : List ℕ} {k : ℕ} → Put w l m k → length w < 2 ^ 63 → k ≡ length w
exact_count p h = omega (arith, p.counted)

-- a byte behind a text
pub put_more : {w l m : List ℕ} {k r : ℕ} (b : ℕ) → Put w l m k → length l < 2 ^ 63 → r ≡ saturated (k + 1) → Put (w ++ (b ∷ [])) l (set m k b) r
put_more {w} {l} {m} {k} b p h e = record {
  counted = omega (arith, p.counted, length-append w (b ∷ []));
  kept = simp length-set p.kept;
  wrote = λ g.
      let f : length w < length l = omega (arith, length-append w (b ∷ [])) in
      rw (p.wrote (omega arith)) (over-set w l b k (omega (arith, p.counted)) (omega (arith, p.counted)));
}

-- a part behind a text
pub put_added : {v w l m y : List ℕ} {i r : ℕ} → Put v l m i → Added w i m y r → length l < 2 ^ 63 → Put (v ++ w) l y r
put_added {v} {w} {l} {m} {y} {i} p a b = record {
  counted = omega (arith, p.counted, a.counted, length-append v w);
  kept = a.kept ∙ p.kept;
  wrote = λ h.
      let g : length v + length w ≤ length l = omega (arith, length-append v w) in
      let e : i ≡ length v = omega (arith, p.counted) in
      a.wrote (omega (arith, p.kept)) ∙ rw (p.wrote (omega arith), e, over-take v l (length v) refl, over-drop v l, over-append v w l);
}

-- a part by a callee that was lent the rest of the room m, from k on
pub added : {w m y : List ℕ} {i j k r : ℕ} → k ≡ min i (length m) → Put w (mid_of k (length m - k) m) y j → r ≡ saturated (i + j) → Added w i m (put_mid k (length m - k) m y) r
added {w} {m} {y} {i} {j} {k} a q s = record {
  counted = omega (arith, s, q.counted);
  kept = rw (rest_back k m y) (simp (length-append, length-take) (omega (arith, q.kept, length-lent k m, a)));
  wrote = λ h.
      let e : k ≡ i = omega (arith, a) in
      let f : length w ≤ length (mid_of k (length m - k) m) = omega (arith, length-lent k m) in
      rest_back k m y ∙ rw (q.wrote f, rest-lent k m, e);
}

pub put_rest : {v w l m y : List ℕ} {i j k r : ℕ} → Put v l m i → k ≡ min i (length m) → length l < 2 ^ 63 → Put w (mid_of k (length m - k) m) y j → r ≡ saturated (i + j) → Put (v ++ w) l (put_mid k (length m - k) m y) r
put_rest p a b q s = put_added p (added a q s) b

-- ---- the answer

module _ (text room : List ℕ) where
  pub too_short : length room < length text → in_room text room ≡ refused 8 (saturated (length text))
  unfolding in_room
  too_short h = rw (lt-ltb (length room) (length text) h)

  pub fits : length text ≤ length room → in_room text room ≡ answered (length text)
  unfolding in_room
  fits h = rw (le-ltb (length room) (length text) h)

-- a turn of a loop that copies a text
pub put_take : (text : List ℕ) (i : ℕ) {l m : List ℕ} → Put (take i text) l m i → i < length text → length text < 2 ^ 63 → length l < 2 ^ 63 → Put (take (i + 1) text) l (set m i (get_or text i 0)) (i + 1)
put_take text i p h b g =
    let e : take (i + 1) text ≡ take i text ++ (get_or text i 0 ∷ []) = rw (add-one, take-suc text i 0) in
    rw e (put_more (get_or text i 0) p g (omega arith))

-- a writer that looks for room has refused, or has written
pub wrote_short : (text room : List ℕ) {n : ℕ} → n ≡ saturated (length text) → length room < length text → Wrote text room room (Err (Refusal.Room n))
unfolding room_after
wrote_short text room e h = let o = too_short text room h in record { answer = rw (o, e); room = rw o }

pub wrote_fits : {text room after : List ℕ} {n : ℕ} → Put text room after n → length text ≤ length room → length room < 2 ^ 63 → Wrote text room after (Ok n)
unfolding room_after
wrote_fits {text} {room} {n = n} p h b =
    let o = fits text room h in
    let e : n ≡ length text = omega (arith, p.counted) in
    record { answer = rw (o, e); room = rw o (p.wrote h) }

-- the room, by what the writer answered
pub wrote_room : {text room after : List ℕ} {r : Result ℕ Refusal} → Wrote text room after r → after ≡ room_after (outcome r) text room
wrote_room {text} {room} w = w.room ∙ ap (λ o. room_after o text room) (sym w.answer)

-- ---- a text that was first counted, in no bytes of the room, and then written into all of it

empty : (l : List ℕ) → length l ≡ 0 → l ≡ []
empty [] e = refl
empty (x ∷ l) e = absurd (omega arith)

module _ (text room : List ℕ) (b : length room < 2 ^ 63) {y : List ℕ} {n : ℕ} (p : Put text [] y n) where
  same : put_mid 0 0 room y ≡ room
  same = ap (put_mid 0 0 room) (empty y p.kept)

  enough : n ≤ length (put_mid 0 0 room y) → length text ≤ length room
  enough h = omega (arith, p.counted, ap length same)

  pub counted_short : length (put_mid 0 0 room y) < n → Wrote text room (put_mid 0 0 room y) (Err (Refusal.Room n))
  counted_short h = rw same (wrote_short text room p.counted (omega (arith, p.counted, ap length same)))

  pub counted_fits : n ≤ length (put_mid 0 0 room y) → {after : List ℕ} {m : ℕ} → Put text (put_mid 0 0 room y) after m → Wrote text room after (Ok m)
  counted_fits h q = wrote_fits (rw same at q) (enough h) b

-- the room, with what came back of none of its bytes
pub counted_room : {text y : List ℕ} {n : ℕ} (room : List ℕ) → Put text [] y n → y ++ room ≡ room
counted_room {y = y} room p = rw (empty y p.kept)
