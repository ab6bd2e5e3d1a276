use Rattle.std.proofs.Common.{arith, ◌∙◌}
use Rattle.grid.specs.Lent.{lent}
use Rattle.grid.proofs.Passing.{good}
use Rattle.convert.proofs.Candidate.{reached_on, same_edges, candidate_is, shift_at_point}
use Rattle.convert.proofs.search.candidate.Goals as goal

pub point_at-requires : goal.point_at-requires
point_at-requires c =
    let k = (good _ c.args.checked.passes).header in
    let r = reached_on c.rounds.ensures.0 in
    (omega (arith, r, c.width.ensures), omega (arith, r, c.height.ensures))

pub returns : goal.returns
returns c =
    let g = lent c.args.checked.grid in
    let r = same_edges c.width.ensures.0 c.height.ensures.0 c.rounds.ensures.0 in
    let p = c.point_at.ensures in
    (p ∙ candidate_is g c.args.to.x c.args.to.y r, shift_at_point (good _ c.args.checked.passes).header g.nodes _ _ (reached_on r).0 p c.rounds.ensures.1)
