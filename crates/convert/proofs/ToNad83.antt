-- The way to NAD 83 as the code goes it, on a grid that passes: from a point's place and the exact shift there to its answer.
use Prim.Native.Nat.{◌≤◌}
use mathlib.Core.Path.{◌≡◌, sym, ap, ◌∙◌}
use mathlib.Core.Bool.{true}
use Rattle.std.proofs.Common.{Option, Some, Ok, Err, ok_or}
use Rattle.laws.specs.Parts.{Within}
use Rattle.figures.specs.Outcome.{answered, refusal}
use Rattle.figures.specs.declared.Refusal.{Refusal}
use Rattle.figures.proofs.Laws.{some_of, none_of}
use Rattle.figures.specs.Points.{Point27}
use Rattle.grid.specs.Grid.{Grid}
use Rattle.grid.specs.Nodes.{max_shift}
use Rattle.grid.specs.Rules.{shape}
use Rattle.grid.specs.Check.{Passes}
use Rattle.grid.proofs.Passing.{Good, good}
use Rattle.shift.specs.Shift.{exact_of, rounded_shift}
use Rattle.shift.specs.declared.ExactShift.{ExactShift}
use Rattle.shift.proofs.OnGrid.{exact_shift, exact_signs}
use Rattle.convert.specs.Points.{on_grid, east, north, width, height, spot, position_of, answer_of, shifted_by}
use Rattle.convert.specs.Convert.{answer, answer_signs, to83}
use Rattle.convert.specs.declared.offsets.Spot.{Spot}
use Rattle.convert.proofs.Places.{at_position, outside, local, point_within}
use Rattle.convert.proofs.Cases.{to83_on, to83_off}
use Rattle.convert.proofs.OnPassing.{shift_within}

-- where the code has found the point
pub at_of : {o p : Option Spot} {at : Spot} → Ok at ≡ ok_or o Refusal.OffGrid → o ≡ p → Some at ≡ p
at_of i e = some_of _ i ∙ e

module _ (g : Grid) (p : Point27) (e : Passes g) where
  ok : Good g
  ok = good g e

  -- or has refused it
  pub refused_as : {o : Option Spot} {w : Refusal} → Err w ≡ ok_or o Refusal.OffGrid → o ≡ position_of g.header p → refusal w ≡ to83 g p
  refused_as i o = let t = none_of _ i in ap (refusal) t.1 ∙ sym (to83_off g p e (outside ok.header p (t.0 ∙ o)))

  module _ {at : Spot} (o : Some at ≡ position_of g.header p) where
    position : (on_grid g.header p ≡ true) × (at ≡ spot (east g.header p) (north g.header p))
    position = at_position ok.header p o

    pub place_in : (at.x ≤ width g.header) × (at.y ≤ height g.header)
    place_in = let l = local ok.header p position.0 in rw position.1 (l.on_east, l.on_north)

    pub on_within : Within 1000000000 p.lat.0 × Within 648000000 p.lon.0
    on_within = point_within ok.header p position.0

    module _ {v : ExactShift} (i : v ≡ exact_of (shape g.header) g.nodes at.x at.y) where
      pub rounded_within : Within max_shift (rounded_shift v).lat × Within max_shift (rounded_shift v).lon
      rounded_within = shift_within ok place_in.0 place_in.1 (exact_shift (shape g.header) g.nodes at.x at.y i)

      pub comes_to : answered (shifted_by p v) ≡ to83 g p
      unfolding answer answer_signs
      comes_to =
          let h = g.header in
          let there = i ∙ (λ j. exact_of (shape h) g.nodes (position.1 j).x (position.1 j).y) in
          let f = ap (answer_of p) (exact_shift (shape h) g.nodes (east h p) (north h p) there) in
          let s = exact_signs (shape h) g.nodes (east h p) (north h p) there in
          (λ j. answered (record { point = f j; signs = s j })) ∙ sym (to83_on g p e position.0)
