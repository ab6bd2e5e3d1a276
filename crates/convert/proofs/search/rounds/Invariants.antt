use Rattle.std.proofs.Common.{◌≡◌}
use Rattle.bilinear.specs.Search.{Reached}
use Rattle.grid.specs.Lent.{lent}
use Rattle.grid.specs.Rules.{shape}
use Rattle.shift.specs.Shift.{shift_of}
use Rattle.convert.specs.Rounds.{raised_lat, raised_lon}
use Rattle.convert.proofs.search.rounds.Given as goal

abbrev pub invariant-loop : goal.invariant-loop
invariant-loop l =
    let g = lent l.checked.grid in
    record {
      reached : Reached l.t.width l.t.height (raised_lon g) (raised_lat g) l.t.to.x l.t.to.y l.counter l.last.at.x l.last.at.y;
      shift : l.last.shift ≡ shift_of (shape g.header) g.nodes l.last.at.x l.last.at.y;
    }
