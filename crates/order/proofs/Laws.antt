-- Each answer of the code: two points converted, and what the order of their answers comes to, by the theorem of request 10.
use Prim.Native.Nat.{ℕ, ◌≤◌}
use native.Mathlib.Omega.{arith}
use mathlib.Core.Path.{◌≡◌, refl, sym, ap, ◌∙◌}
use mathlib.Core.Bool.{Bool, true, false, cond}
use borrow.Author.Tests.{ltb-true, ltb-false}
use lib.Dec.{ltb}
use lib.IntN.{◌-ℤ◌}
use lib.Signed.{lt_z, ◌≤ℤ◌}
use Rattle.std.specs.declared.cmp.Ordering.{Ordering}
use Rattle.laws.specs.Parts.{pos_part, ints}
use Rattle.laws.specs.Logic.{eq_z_holds, lt_z_true, lt_z_holds, lt_z_fails}
use Rattle.laws.specs.Circle.{names_it}
use Rattle.figures.specs.Outcome.{Outcome, answered, refused, and_then, map_answer}
use Rattle.figures.specs.Points.{Point27}
use Rattle.figures.proofs.Laws.{answer_not_refusal, same_answer}
use Rattle.grid.specs.Grid.{Grid}
use Rattle.grid.specs.Check.{Passes}
use Rattle.grid.proofs.Passing.{Good, good}
use Rattle.convert.specs.Points.{on_grid, east}
use Rattle.convert.specs.Convert.{shifted, to83}
use Rattle.convert.specs.declared.Shifted.{Shifted}
use Rattle.convert.proofs.Places.{Local, local, same_distances, west_named}
use Rattle.convert.proofs.Demands.{shifted_is, plus_shift}
use Rattle.convert.proofs.Order.{KeepsOrder, keeps_order}
use Rattle.order.specs.Standings.{line_standing, edge_standing, circle_standing}
use Rattle.order.specs.Comparing.{on_meridian, on_parallel, compared, paired, order_of, meridian_order, parallel_order}
use Rattle.order.specs.Needs.{LongitudesNamed}
use Rattle.order.specs.declared.Order.{Order}
use Rattle.order.proofs.StandingLaws.{line_asymmetric, distances_asymmetric, circle_asymmetric, is_east_lem, alike, same_as_itself}

-- ---- two points converted

module _ {A B : Type 0} where
  pub pair_refused : (o : Outcome A) (o' : Outcome B) {n k : ℕ} {C : Type 0} (r : Outcome C) → refused n k ≡ paired o o' → refused n k ≡ and_then o (and_then o' r)
  pair_refused (answered a) (answered b) r e = absurd (answer_not_refusal (sym e))
  pair_refused (answered a) (refused n k) r e = (cc)
  pair_refused (refused n k) o' r e = (cc)

  pub pair_answered : (o : Outcome A) (o' : Outcome B) {a : A} {b : B} → answered (a, b) ≡ paired o o' → (o ≡ answered a) × (o' ≡ answered b)
  pair_answered (answered a) (answered b) e = let t = same_answer e in (ap (λ (u : A × B). answered u.0) (sym t), ap (λ (u : A × B). answered u.1) (sym t))
  pair_answered (answered a) (refused n k) e = absurd (answer_not_refusal e)
  pair_answered (refused n k) o' e = absurd (answer_not_refusal e)

-- ---- their order

order_kept : {related : Bool} {s t : Ordering} → (related ≡ true → s ≡ t) → order_of related s t ≡ cond related Order.Kept Order.Unrelated
unfolding order_of
order_kept {related = true} h = rw (same_as_itself (h refl))
order_kept {related = false} h = refl

module _ (g : Grid) (p q : Point27) {a b : Shifted} (e : answered (a, b) ≡ paired (to83 g p) (to83 g q)) where
  answers : (to83 g p ≡ answered a) × (to83 g q ≡ answered b)
  answers = pair_answered (to83 g p) (to83 g q) e

  first : Passes g × (on_grid g.header p ≡ true) × (shifted g p ≡ a)
  first = shifted_is g p answers.0

  second : Passes g × (on_grid g.header q ≡ true) × (shifted g q ≡ b)
  second = shifted_is g q answers.1

  ok : Good g
  ok = good g first.0

  kept : KeepsOrder g
  kept = keeps_order g first.0

  one_answer_lem : p ≡ q → a ≡ b
  one_answer_lem d = same_answer (sym answers.0 ∙ ap (to83 g) d ∙ answers.1)

  meridian_alike : p.lon.0 ≡ q.lon.0 → line_standing p.lat.0 q.lat.0 ≡ line_standing a.point.lat.0 b.point.lat.0
  meridian_alike m =
      alike line_asymmetric line_asymmetric p.lat.0 q.lat.0
      (λ t. lt_z_true (rw (answers.0, answers.1) at (kept.meridian p q first.1 second.1 m (lt_z_holds t))))
      (λ t. lt_z_true (rw (answers.1, answers.0) at (kept.meridian q p second.1 first.1 (sym m) (lt_z_holds t))))
      (λ s t. ap (λ (a : Shifted). a.point.lat.0) (one_answer_lem (one_point s t)))
    where
      one_point : lt_z p.lat.0 q.lat.0 ≡ false → lt_z q.lat.0 p.lat.0 ≡ false → p ≡ q
      one_point s t =
          let u : q.lat.0 ≤ℤ p.lat.0 = lt_z_fails s in
          let v : p.lat.0 ≤ℤ q.lat.0 = lt_z_fails t in
          let y : p.lat.0 ≡ q.lat.0 = omega (arith, ints) in
          λ i. record { lat = record { 0 = y i }; lon = record { 0 = m i } }

  pub meridian_kept : answered (meridian_order p q a.point b.point) ≡ compared g p q (on_meridian p q)
  unfolding compared
  meridian_kept = rw (answers.0, answers.1) (ap answered (order_kept (λ m. meridian_alike (eq_z_holds m))))

  in_p : Local g.header p
  in_p = local ok.header p first.1

  in_q : Local g.header q
  in_q = local ok.header q second.1

  parallel_alike : p.lat.0 ≡ q.lat.0 → edge_standing g.header.west.0 p.lon.0 q.lon.0 ≡ circle_standing a.point.lon.0 b.point.lon.0
  parallel_alike m =
      alike distances_asymmetric circle_asymmetric (east g.header p) (east g.header q)
      (λ t. let w = rw (answers.0, answers.1) at (kept.parallel p q first.1 second.1 m (ltb-true _ _ t)) in is_east_lem _ _ w.0 w.1)
      (λ t. let w = rw (answers.1, answers.0) at (kept.parallel q p second.1 first.1 (sym m) (ltb-true _ _ t)) in is_east_lem _ _ w.0 w.1)
      (λ s t. ap (λ (a : Shifted). a.point.lon.0) (one_answer_lem (one_point s t)))
    where
      one_point : ltb (east g.header p) (east g.header q) ≡ false → ltb (east g.header q) (east g.header p) ≡ false → p ≡ q
      one_point s t =
          let u : east g.header q ≤ east g.header p = ltb-false _ _ s in
          let v : east g.header p ≤ east g.header q = ltb-false _ _ t in
          let x : east g.header p ≡ east g.header q = omega arith in
          same_distances in_p in_q x (ap (λ z. pos_part (z -ℤ g.header.south.0)) m)

  pub parallel_kept : answered (parallel_order g.header.west p q a.point b.point) ≡ compared g p q (on_parallel p q)
  unfolding compared
  parallel_kept = rw (answers.0, answers.1) (ap answered (order_kept (λ m. parallel_alike (eq_z_holds m))))

  pub longitudes_named : LongitudesNamed g.header.west p q a.point b.point
  longitudes_named =
      let coordinates = map_answer (λ (a : Shifted). a.point) in
      record {
        of_west = names_it (west_named ok.header);
        of_p = names_it in_p.is_named;
        of_q = names_it in_q.is_named;
        of_a = (plus_shift g p (ap coordinates answers.0)).lon_place;
        of_b = (plus_shift g q (ap coordinates answers.1)).lon_place;
      }

pub both_refused : (g : Grid) (p q : Point27) (related : Bool) {n k : ℕ} → refused n k ≡ paired (to83 g p) (to83 g q) → refused n k ≡ compared g p q related
unfolding compared
both_refused g p q related e = pair_refused (to83 g p) (to83 g q) _ e
