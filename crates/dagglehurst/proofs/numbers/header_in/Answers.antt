use Rattle.std.proofs.Common.{arith, rules}
use Rattle.dagglehurst.specs.Header.{header_in}
use Rattle.dagglehurst.proofs.numbers.header_in.Goals as goal

pub returns : goal.returns
unfolding header_in
returns c =
    let south = c.first.ensures 0 (omega arith) in
    let west = c.first.ensures 1 (omega arith) in
    let dlat = c.first.ensures 2 (omega arith) in
    let dlon = c.first.ensures 3 (omega arith) in
    let rows = c.first.ensures 4 (omega arith) in
    let cols = c.first.ensures 5 (omega arith) in
    search rules
