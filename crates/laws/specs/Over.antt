-- What stands in a lent list when another was written over its front.
use Rattle.std.specs.Prelude.{ℕ, ◌≤◌, ◌<◌, ◌≡◌, length, take, drop, set}
use Rattle.std.proofs.Math.Path.{refl, ap}
use Rattle.std.proofs.Common.{sym, ◌∙◌, arith, le_of_suc-le-suc, length-append, length-drop, drop-drop}
use mathlib.Core.List.{List, [], ◌∷◌, ◌++◌, append_assoc}
use Rattle.std.proofs.Math.Seq.{take_at, drop-append_seam}

-- `w` takes the front of the room, and what is behind it stays
unfoldable pub over : {A : Type 0} → (w room : List A) → List A
over w room = w ++ drop (length w) room

module _ {A : Type 0} where
  pub length_over : (w l : List A) → length w ≤ length l → length (over w l) ≡ length l
  unfolding over
  length_over w l h = simp (length-append, length-drop) (omega arith)

  set_behind : (w l : List A) (a : A) → length w < length l → set (over w l) (length w) a ≡ over (w ++ (a ∷ [])) l
  unfolding over
  set_behind w [] a h = absurd (omega arith)
  set_behind [] (x ∷ l) a h = refl
  set_behind (b ∷ w) (x ∷ l) a h = ap (λ (r : List A). b ∷ r) (set_behind w l a (le_of_suc-le-suc h))

  -- one element more
  pub over-set : (w l : List A) (a : A) (k : ℕ) → length w ≡ k → k < length l → set (over w l) k a ≡ over (w ++ (a ∷ [])) l
  over-set w l a k e h = ap (λ (j : ℕ). set (over w l) j a) (sym e) ∙ set_behind w l a (omega arith)

  pub over-take : (w l : List A) (k : ℕ) → length w ≡ k → take k (over w l) ≡ w
  unfolding over
  over-take w l k e = take_at w (drop (length w) l) k e

  pub over-drop : (w l : List A) → drop (length w) (over w l) ≡ drop (length w) l
  unfolding over
  over-drop w l = drop-append_seam w (drop (length w) l)

  pub over-append : (v w l : List A) → over (v ++ w) l ≡ v ++ over w (drop (length v) l)
  unfolding over
  over-append v w l = simp (length-append, append_assoc, drop-drop)
