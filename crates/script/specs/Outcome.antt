-- A case is right if it came to the number and the place that the script has, and everything else is as it should be.
use Rattle.std.specs.Prelude.{◌≡◌, Bool, true, Option, Some, None, Result, Ok, Err, IsTrue}
use Rattle.figures.specs.Refusal.{number_of, place_of}
use Rattle.figures.specs.declared.Refusal.{Refusal}
use Rattle.script.specs.declared.outcome.Refused.{Refused}
use Rattle.script.specs.declared.outcome.Outcome.{Outcome}

abbrev pub refused_by : Refusal → Refused
refused_by why = record { number = number_of why; place = place_of why }

abbrev pub outcome_of : Result Bool Refusal → Outcome
outcome_of (Ok same) = record { refusal = None; same = same }
outcome_of (Err why) = record { refusal = Some (refused_by why); same = true }

-- with no refusal it has to be answered
abbrev pub Agrees : Outcome → Option Refused → Type 0
Agrees came wanted = IsTrue came.same × (came.refusal ≡ wanted)
