use Rattle.grid.proofs.NodeLaws.{east_is}
use Rattle.grid.proofs.component.Component.has_east.Goals as goal

pub returns : goal.returns
returns c = east_is c.args.self.shape c.args.k
