-- A line of one number, which the machine has read.
use Prim.Native.Nat.{ℕ}
use mathlib.Core.Path.{◌≡◌}
use mathlib.Core.List.{List, [], ◌∷◌}
use lib.IntN.{ℤ}
use Rattle.lines.specs.Text.{line}
use Rattle.writing.specs.Writing.{Added}

pub line_of : (key : List ℕ) {l m : List ℕ} {x y : ℤ} {i r : ℕ} → x ≡ y → Added (line key (x ∷ [])) i l m r → Added (line key (y ∷ [])) i l m r
line_of key e a = rw e at a
