-- The one number that an exported function answers: 256 times a value, plus the number of the refusal, or 0 where there is none. The value
-- is what was answered, or the place of the refusal.
use Rattle.std.specs.Prelude.{ℕ, ◌+◌, ◌*◌, min}
use Rattle.figures.specs.Outcome.{Outcome, answered, refused}

-- the largest value that there is room for, 2 ^ 56 − 1, stands for every larger one
abbrev pub capped : ℕ → ℕ
capped v = min v 72057594037927935

unfoldable pub reply : Outcome ℕ → ℕ
reply (answered v) = 256 * capped v
reply (refused n k) = 256 * capped k + n
