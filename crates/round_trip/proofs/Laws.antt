-- Each answer of the code, by demand 3.
use Prim.Native.Nat.{ℕ}
use mathlib.Core.Path.{◌≡◌, refl, sym, ap, subst, ◌∙◌}
use mathlib.Core.Bool.{Bool, true, false}
use Rattle.laws.specs.Logic.{not_both}
use Rattle.figures.specs.Outcome.{answered, refused, map_answer}
use Rattle.figures.specs.Same.{same27, same83}
use Rattle.figures.specs.Points.{Point27, Point83}
use Rattle.figures.proofs.Laws.{answer_not_refusal, same_answer}
use Rattle.figures.proofs.SameLaws.{equal27, same27_refl, equal83, same83_refl}
use Rattle.grid.specs.Grid.{Grid}
use Rattle.convert.specs.Convert.{answer_signs, to83, coordinates83, to27}
use Rattle.convert.specs.declared.Shifted.{Shifted}
use Rattle.convert.proofs.Cases.{to83_on}
use Rattle.convert.proofs.Demands.{answer_is, one_point, comes_back_lem, Returned, returned}
use Rattle.round_trip.specs.RoundTrip.{comes_back, goes_again, one_answer}

module _ (g : Grid) where
  -- the coordinates of what the code has answered
  placed : (p : Point27) {a : Shifted} → answered a ≡ to83 g p → coordinates83 g p ≡ answered a.point
  placed p e = ap (map_answer (λ (a : Shifted). a.point)) (sym e)

  pub there_back : (p : Point27) {a : Shifted} → answered a ≡ to83 g p → to27 g a.point ≡ comes_back g p
  unfolding comes_back
  there_back p e = rw (← e) (comes_back_lem g p (placed p e))

  pub back_there : (f : Point83) {p : Point27} → answered p ≡ to27 g f → to83 g p ≡ goes_again g f
  unfolding goes_again
  back_there f {p} e =
      let a = answer_is g p (subst (Returned g f) (sym e) (returned g f)) in
      rw (← e) (to83_on g p a.0 a.1 ∙ ap (λ (f : Point83). answered (record { point = f; signs = answer_signs g p })) a.2)

  module _ (p q : Point27) where
    pub first_refused : {n k : ℕ} → refused n k ≡ to83 g p → false ≡ one_answer g p q
    unfolding one_answer
    first_refused e = rw (← e)

    module _ {a : Shifted} (e : answered a ≡ to83 g p) where
      pub second_refused : {n k : ℕ} → refused n k ≡ to83 g q → false ≡ one_answer g p q
      unfolding one_answer
      second_refused d = rw (← e) (go (same27 p q) refl)
        where
          go : (b : Bool) → same27 p q ≡ b → false ≡ b
          go true s = absurd (answer_not_refusal (e ∙ ap (to83 g) (equal27 s) ∙ sym d))
          go false s = refl

      pub answers-compared : {b : Shifted} → answered b ≡ to83 g q → same83 a.point b.point ≡ one_answer g p q
      unfolding one_answer
      answers-compared {b} d = rw (← e) (go (same83 a.point b.point) refl (same27 p q) refl)
        where
          go : (u : Bool) → same83 a.point b.point ≡ u → (v : Bool) → same27 p q ≡ v → u ≡ v
          go true s true t = refl
          go false s false t = refl
          go true s false t =
              let r : p ≡ q = one_point g p q (placed p e) (placed q d ∙ ap answered (sym (equal83 s))) in
              absurd (not_both (subst (λ (v : Point27). same27 p v ≡ true) r (same27_refl p)) t)
          go false s true t =
              let r : a ≡ b = same_answer (e ∙ ap (to83 g) (equal27 t) ∙ sym d) in
              absurd (not_both (subst (λ (v : Shifted). same83 a.point v.point ≡ true) r (same83_refl a.point)) s)
