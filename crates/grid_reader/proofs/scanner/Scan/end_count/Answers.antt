use Rattle.std.proofs.Common.{SFits, w64, pos, ap, sym, ◌∙◌, eq-eqb, ne_eqb, arith}
use Rattle.laws.specs.Tests.{eq_bits}
use Rattle.grid_reader.specs.Scan.{on, count_end}
use Rattle.grid_reader.specs.declared.scanner.Scan.{Scan}
use Rattle.grid_reader.proofs.scanner.Scan.end_count.Goals as goal

pub returns-then-x-self : goal.returns-then-x-self
unfolding count_end
returns-then-x-self c =
    let n : SFits w64 (pos c.args.self.count) = omega arith in
    rw (c.departure.ensures, sym (eq_bits c.ranges.x n) ∙ ne_eqb _ _ c.if-x-self.true)

pub returns : goal.returns
unfolding count_end
returns c =
    let n : SFits w64 (pos c.args.self.count) = omega arith in
    rw (sym (eq_bits c.ranges.x n) ∙ eq-eqb _ _ c.if-x-self.false) (c.on.ensures ∙ ap (λ (s : Scan). on s) c.at_place.ensures)
