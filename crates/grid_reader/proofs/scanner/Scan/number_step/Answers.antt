use Rattle.std.proofs.Common.{arith}
use Rattle.grid_reader.proofs.Places.{within_form}
use Rattle.grid_reader.proofs.scanner.Scan.number_step.Goals as goal

pub overflow_add-self : goal.overflow_add-self
overflow_add-self c = omega (arith, within_form c.args.self.at c.requires)
