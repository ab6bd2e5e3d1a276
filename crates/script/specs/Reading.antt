-- What is left of a text when some of its front was read.
use Rattle.std.specs.Prelude.{ℕ, ◌≡◌, List, drop}

pub record LeftOf (before after : List ℕ) : Type 0 where
  pub passed : ℕ
  pub left : after ≡ drop passed before
