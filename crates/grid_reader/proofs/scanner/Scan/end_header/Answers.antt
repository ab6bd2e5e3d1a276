use Rattle.std.proofs.Common.{arith}
use Rattle.grid.proofs.Passing.{sizes}
use Rattle.grid_reader.proofs.scanner.Scan.end_header.Goals as goal

pub overflow_mul-n : goal.overflow_mul-n
overflow_mul-n c = let z = sizes c.in_ok-shape.ensures in omega (arith, z.extent.nodes)

pub overflow_cast-count : goal.overflow_cast-count
overflow_cast-count c = let z = sizes c.in_ok-shape.ensures in omega (arith, z.extent.nodes)
