-- Laws of numbers at the front of a slice.
use Rattle.std.specs.Prelude.{◌≡◌, ℕ, ◌+◌, ◌≤◌, ◌<◌, List, ◌++◌, replicate, length, get_or, drop, ℤ, pos}
use Rattle.std.proofs.Common.{ap, ◌∙◌, arith}
use lib.ListN.{length-replicate}
use lib.Seq.{sets, sets-eq}
use Rattle.std.proofs.lemmas.List.{get_or-replicate}
use Rattle.laws.specs.Over.{over}
use Rattle.slices.proofs.Sets.{sets-at}
use Rattle.dagglehurst.specs.Header.{number}

pub front_sets : {A : Type 0} (w room : List A) → length w ≤ length room → sets room 0 w ≡ over w room
unfolding over
front_sets w room h = let e : 0 + length w ≡ length w = omega arith in sets-eq w room 0 (omega arith) ∙ ap (λ k. w ++ drop k room) e

-- the first n numbers of a slice, over zeros
pub first_number : (n : ℕ) (s : List ℤ) (k : ℕ) → k < n → get_or (sets (replicate n (pos 0)) 0 s) k (pos 0) ≡ number s k
first_number n s k h =
    let l = replicate n (pos 0) in
    let z : 0 + k ≡ k = omega arith in
    rw z at (sets-at (pos 0) s 0 k l (omega (arith, length-replicate {A = ℤ} n (pos 0)))) ∙ ap (get_or s k) (get_or-replicate n k (pos 0) (pos 0) h)
