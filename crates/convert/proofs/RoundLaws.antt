-- The rounds come to the point of the definition: what the code finds on a grid that passes is `to27`.
use Prim.Native.Nat.{ℕ}
use mathlib.Core.Path.{◌≡◌, refl, sym, ap, subst, ◌∙◌}
use mathlib.Core.Logic.{inr}
use mathlib.Core.Bool.{Bool, true, false, cond}
use Rattle.std.proofs.Common.{Option, Some, None}
use Rattle.laws.specs.Logic.{not_both}
use Rattle.figures.specs.Outcome.{answered, refused}
use Rattle.figures.specs.Same.{same83}
use Rattle.figures.specs.Points.{Point27, Point83}
use Rattle.figures.proofs.SameLaws.{equal83, same83_refl}
use Rattle.grid.specs.Grid.{Grid}
use Rattle.grid.specs.Check.{Passes}
use Rattle.grid.proofs.Passing.{Good, good}
use Rattle.convert.specs.Points.{target_of}
use Rattle.convert.specs.Convert.{answer, coordinates83, to27}
use Rattle.convert.specs.Rounds.{candidate, settle, sought}
use Rattle.convert.specs.declared.offsets.Spot.{Spot}
use Rattle.convert.proofs.Places.{Target, target_at, target_inside}
use Rattle.convert.proofs.Cases.{coordinates_on}
use Rattle.convert.proofs.OnPassing.{answer_target}
use Rattle.convert.proofs.Candidate.{candidate_on, candidate_only}
use Rattle.convert.proofs.Demands.{answer_is, Returned, returned_once, returned}

module _ (g : Grid) (f : Point83) (e : Passes g) where
  ok : Good g
  ok = good g e

  beyond : None ≡ target_of g.header f → (p : Point27) → coordinates83 g p ≡ answered f → ⊥
  beyond o p u =
      let a = answer_is g p u in
      target_inside g.header (answer g p) ok.header (answer_target ok p a.1) (o ∙ ap (target_of g.header) (sym a.2))

  module _ {X Y : ℕ} (t : Target g.header f X Y) where
    only : (p : Point27) → coordinates83 g p ≡ answered f → candidate g X Y ≡ p
    only p u = let a = answer_is g p u in candidate_only ok p a.1 (subst (λ (v : Point83). Target g.header v X Y) (sym a.2) t)

    confirmed : Returned g f (settle f (answer g (candidate g X Y)) (candidate g X Y))
    confirmed = go (same83 f (answer g (candidate g X Y))) refl
      where
        go : (b : Bool) → same83 f (answer g (candidate g X Y)) ≡ b
            → Returned g f (cond b (answered (candidate g X Y)) (refused 7 0))
        go true s = coordinates_on g _ e (candidate_on g ok.header X Y) ∙ ap answered (sym (equal83 s))
        go false s = inr (
          e,
          refl,
          refl,
          λ p u.
              let d = only p u in
              let a = answer_is g p u in
              let w : same83 f (answer g (candidate g X Y)) ≡ true = rw (d, a.2) (same83_refl f) in
              not_both w s,
        )

  found : (a : Option Spot) → a ≡ target_of g.header f → Returned g f (sought g f a)
  unfolding sought
  found None o = inr (e, refl, refl, beyond o)
  found (Some at) o = confirmed (target_at g.header f o)

  -- the search by rounds is the search of every point
  pub sought_passes : {a : Option Spot} → a ≡ target_of g.header f → sought g f a ≡ to27 g f
  sought_passes {a} o = returned_once g f (sought g f a) (to27 g f) (found a o) (returned g f)
