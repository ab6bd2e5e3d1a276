-- The number and the place of each refusal (document 01, "When the answer is no"; 14: document 02, request 11).
use Rattle.std.specs.Prelude.{ℕ}
use Rattle.figures.specs.declared.Refusal.{Refusal}

abbrev pub number_of : Refusal → ℕ
number_of (Refusal.Form line) = 1
number_of (Refusal.Rule rule) = 2
number_of (Refusal.Range node) = 3
number_of (Refusal.Steep node) = 4
number_of (Refusal.NodeRoom nodes) = 5
number_of Refusal.OffGrid = 6
number_of Refusal.NoPoint = 7
number_of (Refusal.Room needed) = 8
number_of (Refusal.File limit) = 9
number_of (Refusal.Twist node) = 14

abbrev pub place_of : Refusal → ℕ
place_of (Refusal.Form line) = line
place_of (Refusal.Rule rule) = rule
place_of (Refusal.Range node) = node
place_of (Refusal.Steep node) = node
place_of (Refusal.NodeRoom nodes) = nodes
place_of Refusal.OffGrid = 0
place_of Refusal.NoPoint = 0
place_of (Refusal.Room needed) = needed
place_of (Refusal.File limit) = limit
place_of (Refusal.Twist node) = node
