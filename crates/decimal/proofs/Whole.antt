-- A whole text pushed byte by byte, as a loop does it: what is left of it after i bytes.
use Prim.Native.Nat.{ℕ, ◌+◌, ◌≤◌, ◌<◌}
use mathlib.Core.Path.{◌≡◌, sym, ap, ◌∙◌}
use mathlib.Core.List.{List}
use native.Mathlib.Numerals.{add-one}
use lib.ListN.{length, get_or, drop, drop_of_length-le}
use lib.Seq.{drop-cons}
use lib.IntN.{ℤ}
use Rattle.std.specs.Prelude.{Option, Some, None, option_and_then}
use Rattle.decimal.specs.Spelling.{number_in}
use Rattle.decimal.specs.Pushing.{none, pushed, value_of, pushed_all}
use Rattle.decimal.specs.declared.Number.{Number}
use Rattle.decimal.proofs.Grown.{good_none}
use Rattle.decimal.proofs.Grammar.{number_pushed}

pub whole_start : (text : List ℕ) {n : Number} → n ≡ none → pushed_all n text ≡ number_in text
whole_start text e = ap (λ m. pushed_all m text) e ∙ sym (number_pushed none good_none text)

module _ (text : List ℕ) (i : ℕ) (n : Number) {o : Option ℤ} (left : pushed_all n (drop i text) ≡ o) where
  one_byte : i < length text → option_and_then (λ m. pushed_all m (drop (i + 1) text)) (pushed n (get_or text i 0)) ≡ o
  unfolding pushed_all
  one_byte h = rw add-one (sym (ap (pushed_all n) (drop-cons text i 0 h)) ∙ left)

  -- one byte more
  pub whole_byte : i < length text → {m : Number} → pushed n (get_or text i 0) ≡ Some m → pushed_all m (drop (i + 1) text) ≡ o
  whole_byte h e = rw e at (one_byte h)

  -- a byte after which no number can follow
  pub whole_none : i < length text → pushed n (get_or text i 0) ≡ None → None ≡ o
  whole_none h e = rw e at (one_byte h)

  -- the end
  pub whole_end : length text ≤ i → value_of n ≡ o
  unfolding pushed_all
  whole_end h = sym (ap (pushed_all n) (drop_of_length-le text h)) ∙ left
