use Rattle.std.proofs.Common.{◌∙◌}
use Rattle.figures.proofs.Laws.{at_exit}
use Rattle.grid_reader.proofs.Feeding.{fed_again, fed-left, fed-end}
use Rattle.grid_reader.proofs.nodes.scan.Goals as goal

pub returns-in_err-scan : goal.returns-in_err-scan
returns-in_err-scan c =
    let t = c.in_err-scan.ensures in
    let r = fed-left _ _ _ _ _ _ c.loop-byte.invariant c.loop-byte-test.true (t.out, t.nodes) in
    record { out = at_exit _ _ c.from_residual.ensures.1 ∙ r.0; nodes = r.1 }

pub loop-byte-preserved : goal.loop-byte-preserved
loop-byte-preserved c = let t = c.in_ok-scan.ensures in fed_again _ _ _ _ _ _ c.loop-byte.invariant c.loop-byte-test.true (t.out, t.nodes)

pub returns : goal.returns
returns c = let r = fed-end _ _ _ _ _ _ c.loop-byte.invariant c.loop-byte-test.false in record { out = r.0; nodes = r.1 }
