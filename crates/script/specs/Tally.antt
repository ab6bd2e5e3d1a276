-- The count of cases, up to 1,000,000.
use Rattle.std.specs.Prelude.{ℕ, ◌+◌, min, Bool, true, false}
use Rattle.script.specs.declared.tally.Tally.{Tally}

abbrev pub one_more : ℕ → ℕ
one_more n = min (n + 1) 1000000

abbrev pub wrong_after : Bool → ℕ → ℕ
wrong_after true n = n
wrong_after false n = one_more n

abbrev pub fresh : Tally
fresh = record { cases = 0; wrong = 0 }

abbrev pub counted_in : Bool → Tally → Tally
counted_in right t = record { cases = one_more t.cases; wrong = wrong_after right t.wrong }
