use Rattle.figures.proofs.Laws.{at_exit}
use Rattle.text_round_trip.specs.Again.{scratch}
use Rattle.text_round_trip.proofs.AgainLaws.{text_refused, text_again_lem}
use Rattle.text_round_trip.proofs.read_and_write.Goals as goal

pub returns-in_err-header : goal.returns-in_err-header
unfolding scratch
returns-in_err-header c =
    let e = at_exit c.from_residual.result _ c.from_residual.ensures.1 in
    let r = text_refused c.args.text.now c.args.room.now c.in_err-header.ensures.answer in
    rw e record { answer = r.0; room = r.1 }

pub returns : goal.returns
unfolding scratch
returns c =
    let r = text_again_lem c.args.text.now c.args.room.now c.in_ok-header.ensures.answer c.in_ok-header.ensures.nodes c.write.ensures.answer c.write.ensures.text in
    record { answer = r.0; room = r.1 }
