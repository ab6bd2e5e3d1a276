use Rattle.std.proofs.Common.{◌≤◌, mul-le-mul, ◌∙◌}
use Rattle.std.proofs.Math.Nat.{mul-pos}
use Rattle.laws.specs.Expr.{reads, reads_within, bounded}
use Rattle.shift.specs.Shift.{denominator}
use Rattle.convert.proofs.interpolation.interpolate.Goals as goal

pub returns : goal.returns
returns c =
    let y = c.numerator.ensures in
    let x = c.numerator-2.ensures in
    let w = c.requires.2 in
    let p = reads (bounded y.1) tt ∙ y.0 in
    let q = reads (bounded x.1) tt ∙ x.0 in
    let small : denominator c.args.at ≤ 810_000_000_000 = mul-le-mul w.narrow w.low in (
      λ i. record { lat = p i; lon = q i; denominator = denominator c.args.at },
      record { lat_in = reads_within (bounded y.1) tt; lon_in = reads_within (bounded x.1) tt; positive = mul-pos w.wide w.high; small = small },
    )
