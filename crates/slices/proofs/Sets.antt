-- Elements stored one behind the other, from a place on: where they reach they stand, and everything else stays.
use Prim.Native.Nat.{ℕ, zero, suc, ◌+◌, ◌-◌, ◌≤◌, ◌<◌, min}
use mathlib.Core.Path.{◌≡◌, refl, sym, ap, ◌∙◌}
use mathlib.Core.List.{List, [], ◌∷◌}
use native.Mathlib.Omega.{arith}
use lib.ListN.{length, get_or, set, take, length-set, length-take}
use lib.Seq.{sets, sets-eq, set_out, take-nil, take_all, get_or-set_same, get_or-set_other}
use borrow.Rule.Slice.PartMut.{put_mid}
use Rattle.std.proofs.lemmas.Slice.{put_mid-paste}

module _ {A : Type 0} (d : A) where
  pub sets_before : (vs : List A) (at j : ℕ) (l : List A) → j < at → get_or (sets l at vs) j d ≡ get_or l j d
  sets_before [] at j l h = refl
  sets_before (v ∷ vs) at j l h = sets_before vs (suc at) j (set l at v) (omega arith) ∙ get_or-set_other l at j v d (λ e. omega arith)

  pub sets_behind : (vs : List A) (at j : ℕ) (l : List A) → at + length vs ≤ j → get_or (sets l at vs) j d ≡ get_or l j d
  sets_behind [] at j l h = refl
  sets_behind (v ∷ vs) at j l h = sets_behind vs (suc at) j (set l at v) (omega arith) ∙ get_or-set_other l at j v d (λ e. omega arith)

  pub sets-at : (vs : List A) (at i : ℕ) (l : List A) → at + i < length l → get_or (sets l at vs) (at + i) d ≡ get_or vs i (get_or l (at + i) d)
  sets-at [] at i l h = refl
  sets-at (v ∷ vs) at zero l h =
      let e : at + 0 ≡ at = omega arith in
      rw e (sets_before vs (suc at) at (set l at v) (omega arith) ∙ get_or-set_same l at v d (omega arith))
  sets-at (v ∷ vs) at (suc i) l h =
      let e : at + suc i ≡ suc at + i = omega arith in
      rw e (sets-at vs (suc at) i (set l at v) (omega (arith, length-set l at v)) ∙ ap (get_or vs i) (get_or-set_other l at (suc at + i) v d (λ e. omega arith)))

module _ {A : Type 0} where
  -- behind the end
  pub sets_out : (vs l : List A) (at : ℕ) → length l ≤ at → sets l at vs ≡ l
  sets_out [] l at h = refl
  sets_out (v ∷ vs) l at h = sets_out vs (set l at v) (suc at) (omega (arith, length-set l at v)) ∙ set_out l at v h

  -- as many of them as the list has places for
  pub sets-take : (vs l : List A) (at n : ℕ) → n ≡ min (length vs) (length l - at) → sets l at (take n vs) ≡ sets l at vs
  sets-take [] l at n e = rw take-nil
  sets-take (v ∷ vs) l at zero e = sym (sets_out (v ∷ vs) l at (omega arith))
  sets-take (v ∷ vs) l at (suc n) e = sets-take vs (set l at v) (suc at) n (omega (arith, length-set l at v))

  -- copied over the places: `ys` is what the part of them holds now
  pub sets_copied : (vs l ys : List A) (at n : ℕ) → at ≤ length l → n ≡ min (length vs) (length l - at) → ys ≡ take n vs → put_mid at (at + n - at) l ys ≡ sets l at vs
  sets_copied vs l ys at n h e c =
      let f : length (take n vs) ≡ n = length-take n vs ∙ omega arith in
      let g : take n (take n vs) ≡ take n vs = take_all n (take n vs) (omega arith) in
      put_mid-paste at (at + n - at) l ys (take n vs) n c (omega arith) (sym f)
      ∙ rw (g, ← sets-take vs l at n e, sets-eq (take n vs) l at (omega arith), f)
