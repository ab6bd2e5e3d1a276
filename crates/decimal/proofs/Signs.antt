-- An unsigned number below 2 ^ 63, as the machine has it among the signed ones.
use Prim.Native.Nat.{ℕ, ◌^◌, ◌<◌}
use mathlib.Core.Path.{◌≡◌}
use lib.IntN.{pos}
use mir.Syntax.{w64}
use mir.Val.{to_z}
use mir.Facts.{to_z-of_z}

pub read_pos : (n : ℕ) → n < 2 ^ 63 → to_z w64 n ≡ pos n
read_pos n h = to_z-of_z {w = w64} {z = pos n} (record { sfits = h })
