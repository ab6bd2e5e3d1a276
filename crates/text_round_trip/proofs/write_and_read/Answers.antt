use Rattle.std.proofs.Common.{◌≡◌, ℕ, length, replicate, sym, ap, length-take-le}
use Rattle.std.proofs.lemmas.List.{length-replicate}
use Rattle.figures.specs.Outcome.{outcome}
use Rattle.figures.proofs.Laws.{at_exit}
use Rattle.text_round_trip.proofs.AgainLaws.{lent, grid_refused, grid_again_lem}
use Rattle.text_round_trip.proofs.write_and_read.Goals as goal

-- the room for the text
zeros : length {A = ℕ} (replicate 48000 0) ≡ 48000
zeros = length-replicate {A = ℕ} 48000 0

pub returns-in_err-n : goal.returns-in_err-n
returns-in_err-n c =
    let e = at_exit c.from_residual.result _ c.from_residual.ensures.1 in
    let r = grid_refused _ _ zeros _ c.in_err-n.ensures.answer in
    rw e record { answer = r.0; nodes = r.1 }

pub slice_bounds-text-end : goal.slice_bounds-text-end
slice_bounds-text-end c = lent _ _ zeros (ap outcome c.in_ok-n.was) c.write.ensures.answer c.write.ensures.text

pub slice_bounds-read-end : goal.slice_bounds-read-end
slice_bounds-read-end c = sym (length-take-le _ _ (lent _ _ zeros (ap outcome c.in_ok-n.was) c.write.ensures.answer c.write.ensures.text))

pub returns : goal.returns
returns c =
    let r = grid_again_lem _ _ zeros (ap outcome c.in_ok-n.was) c.write.ensures.answer c.write.ensures.text _ c.read.ensures.answer c.read.ensures.nodes in
    record { answer = r.0; nodes = r.1 }
