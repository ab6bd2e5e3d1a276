use Rattle.std.proofs.Common.{ltb, nat_abs, ◌*◌, ◌/◌, to_z-of_z, ap, ◌∙◌}
use Rattle.grid.proofs.NodeLaws.{too_much_is}
use Rattle.grid.proofs.component.too_much.Goals as goal

pub returns : goal.returns
returns c =
    let a = c.args in
    ap (ltb (100 * a.spacing / a.times)) (c.unsigned_abs.ensures.value ∙ ap nat_abs (to_z-of_z c.ranges.x))
    ∙ too_much_is a.times a.spacing a.x c.requires.0
