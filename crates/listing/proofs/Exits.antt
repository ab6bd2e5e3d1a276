-- The number that an answer tells: no more bytes than the room has.
use Rattle.std.specs.Prelude.{ℕ, ◌≤◌, List, ltb, length, Result, Ok, Err, IfOk}
use Rattle.std.proofs.Common.{sym, ap, ◌∙◌, ltb-false, arith}
use Rattle.laws.specs.Over.{length_over}
use Rattle.figures.specs.Outcome.{answered}
use Rattle.figures.specs.declared.Refusal.{Refusal}
use Rattle.figures.proofs.Laws.{not_refused, same_answer}
use Rattle.writing.specs.Writing.{in_room, room_after, Wrote}
use Rattle.writing.proofs.Laws.{fits}

pub wrote_within : {text room after : List ℕ} (r : Result ℕ Refusal) → Wrote text room after r → IfOk r (λ n. n ≤ length after)
unfolding in_room room_after
wrote_within (Err why) w = tt
wrote_within {text} {room} (Ok n) w =
    let p = not_refused (ltb (length room) (length text)) 8 _ (answered (length text)) (sym w.answer) in
    let h = ltb-false (length room) (length text) p.0 in
    let all = w.room ∙ ap (λ o. room_after o text room) (fits text room h) in
    omega (arith, same_answer p.1, ap length all, length_over text room h)
