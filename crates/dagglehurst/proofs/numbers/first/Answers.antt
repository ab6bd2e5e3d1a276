use Rattle.dagglehurst.proofs.Laws.{first_number}
use Rattle.dagglehurst.proofs.numbers.first.Goals as goal

pub returns : goal.returns
returns g c k h = let e = c.put_all.ensures in rw e (first_number _ c.args.s.now k h)
