use Rattle.std.proofs.Common.{arith, ℕ, ◌+◌, ◌≤◌, ◌≡◌, eqb, eqb-true, ap, sym}
use Rattle.laws.specs.Logic.{both}
use Rattle.bilinear.specs.Search.{Reached, unshift, unshift_on, reach, reach_on, reach_end}
use Rattle.grid.specs.Grid.{Grid}
use Rattle.grid.specs.Lent.{lent}
use Rattle.grid.specs.Rules.{shape}
use Rattle.grid.proofs.Passing.{good}
use Rattle.shift.specs.Shift.{shift_of, raise}
use Rattle.shift.specs.declared.Shift.{Shift}
use Rattle.convert.specs.Points.{width, height}
use Rattle.convert.specs.Rounds.{raised_lat, raised_lon}
use Rattle.convert.specs.declared.offsets.Spot.{Spot}
use Rattle.convert.proofs.Candidate.{reached_on}
use Rattle.convert.proofs.OnPassing.{shift_within}
use Rattle.convert.proofs.search.rounds.Goals as goal

-- a round ends on the grid
ends_on : (g : Grid) (X Y R Q : ℕ) {W H : ℕ} {at : Spot} → W ≡ width g.header → H ≡ height g.header
    → (at.x ≡ unshift W X R) × (at.y ≡ unshift H Y Q) → (at.x ≤ width g.header) × (at.y ≤ height g.header)
ends_on g X Y R Q {W} {H} e f u = (omega (arith, e, u.0, unshift_on W X R), omega (arith, f, u.1, unshift_on H Y Q))

-- it goes on from the spot `at`, with the shift there
goes_on : (g : Grid) {W H X Y k : ℕ} {at next : Spot} {s : Shift} → Reached W H (raised_lon g) (raised_lat g) X Y k at.x at.y
    → s ≡ shift_of (shape g.header) g.nodes at.x at.y
    → (next.x ≡ unshift W X (raise s.lon)) × (next.y ≡ unshift H Y (raise s.lat)) → Reached W H (raised_lon g) (raised_lat g) X Y (k + 1) next.x next.y
unfolding raised_lat raised_lon
goes_on g r e u = reach_on r (ap (λ (s : Shift). raise s.lon) e) (ap (λ (s : Shift). raise s.lat) e) u.0 u.1

pub with_shift-last-requires : goal.with_shift-last-requires
with_shift-last-requires c = ends_on (lent c.args.checked.grid) _ _ _ _ c.requires.2 c.requires.3 c.round.ensures

pub loop-init : goal.loop-init
unfolding raise
loop-init c = let e = c.with_shift-last.ensures in rw e.0 record { reached = reach c.round.ensures.0 c.round.ensures.1; shift = e.1 }

pub round-next-requires : goal.round-next-requires
round-next-requires c =
    let r = c.requires in
    let p = reached_on c.loop.invariant.reached in
    let w = shift_within (good _ c.args.checked.passes) (omega (arith, p.0, r.2)) (omega (arith, p.1, r.3)) c.loop.invariant.shift in
    (r.0, r.1, w.0, w.1)

pub returns-then-eq : goal.returns-then-eq
returns-then-eq c =
    let i = c.loop.invariant in
    let next = c.round-next.result in
    let e = both (eqb next.x c.loop.last.at.x) (eqb next.y c.loop.last.at.y) (sym c.if-eq.ensures) in
    (reach_end 6 (omega arith) i.reached (goes_on (lent c.args.checked.grid) i.reached i.shift c.round-next.ensures) (eqb-true _ _ e.0) (eqb-true _ _ e.1), i.shift)

pub with_shift-last-requires-in-loop : goal.with_shift-last-requires-in-loop
with_shift-last-requires-in-loop c = ends_on (lent c.args.checked.grid) _ _ _ _ c.requires.2 c.requires.3 c.round-next.ensures

pub loop-preserved : goal.loop-preserved
loop-preserved c =
    let i = c.loop.invariant in
    let e = c.with_shift-last-in-loop.ensures in
    rw e.0 record { reached = goes_on (lent c.args.checked.grid) i.reached i.shift c.round-next.ensures; shift = e.1 }

pub returns : goal.returns
returns c = let e : c.loop.counter ≡ 6 = omega arith in (rw e at c.loop.invariant.reached, c.loop.invariant.shift)
