use Rattle.std.proofs.Common.{◌≡◌, true, false, ℕ, ℤ, pos, ◌+ℤ◌, ◌-ℤ◌, ◌*ℤ◌, ◌<ℤ◌, ◌≤ℤ◌, sym, ap, ◌∙◌}
use Rattle.std.specs.Int.Signed.{lt_z, le_z}
use Rattle.laws.specs.Parts.{Within}
use Rattle.laws.specs.Logic.{le_z_true, le_z_false, lt_z_holds, lt_z_fails}
use Rattle.laws.specs.Expr.{Expr, need, reads, bounded as limited, lit, ◌⊕◌, ◌⊖◌, ◌⊛◌}
use Rattle.grid.specs.Rules.{first_false, last_node}
use Rattle.grid.specs.declared.Header.{Header}
use Rattle.grid.proofs.RuleLaws.{bound_broken, Bounded, bounded}
use Rattle.grid.proofs.Header.broken_rule.Goals as goal

module _ {h : Header} (b : Bounded h) where
  abbrev product : Expr (h.rows *ℤ h.cols)
  product = limited b.rows ⊛ limited b.cols

  abbrev span : Expr ((h.rows -ℤ pos 1) *ℤ h.dlat)
  span = (limited b.rows ⊖ lit (pos 1)) ⊛ limited b.dlat

  abbrev north : Expr (h.south.0 +ℤ (h.rows -ℤ pos 1) *ℤ h.dlat)
  north = limited b.south ⊕ span

pub returns-in-Some : goal.returns-in-Some
returns-in-Some c = bound_broken c.args.self (c.in-Some.ensures)

pub overflow_mul-self : goal.overflow_mul-self
overflow_mul-self c = need (product (bounded c.args.self (c.in_default.ensures))) tt

-- that the numbers of rule 8 fit is asked of each of these: it says nothing of which of them the rule is
module _ {h : Header} (b : Bounded h) {n : ℤ} (w : Within 256 n) where
  abbrev spaces : (m : ℕ) → Expr (n -ℤ pos m)
  spaces m = limited w ⊖ lit (pos m)

  abbrev spaced : (m : ℕ) → Expr ((n -ℤ pos m) *ℤ h.dlat)
  spaced m = spaces m ⊛ limited b.dlat

  abbrev edge : (m : ℕ) → Expr (h.south.0 +ℤ (n -ℤ pos m) *ℤ h.dlat)
  edge m = limited b.south ⊕ spaced m

pub overflow_sub-self : goal.overflow_sub-self
overflow_sub-self c =
    let b = bounded c.args.self (c.in_default.ensures) in
    search (need (spaces b b.rows 1) tt, need (spaces b b.rows 2) tt, need (spaces b b.cols 1) tt)

pub overflow_mul-self-2 : goal.overflow_mul-self-2
overflow_mul-self-2 c =
    let b = bounded c.args.self (c.in_default.ensures) in
    search (need (spaced b b.rows 1) tt, need (spaced b b.rows 2) tt, need (spaced b b.cols 1) tt)

pub overflow_add-self : goal.overflow_add-self
overflow_add-self c =
    let b = bounded c.args.self (c.in_default.ensures) in
    search (need (edge b b.rows 1) tt, need (edge b b.rows 2) tt, need (edge b b.cols 1) tt)

above : (y : ℤ) {x z : ℤ} → x ≡ z → lt_z y x ≡ true → le_z z y ≡ false
above y {x} e t = let l : y <ℤ x = lt_z_holds t in sym (ap (λ v. le_z v y) e) ∙ le_z_false l

not_above : (y : ℤ) {x z : ℤ} → x ≡ z → lt_z y x ≡ false → le_z z y ≡ true
not_above y {x} e t = let l : x ≤ℤ y = lt_z_fails t in sym (ap (λ v. le_z v y) e) ∙ le_z_true l

pub returns-then-self-gt-MAX_NODES : goal.returns-then-self-gt-MAX_NODES
unfolding first_false
returns-then-self-gt-MAX_NODES c =
    let b = bounded c.args.self c.in_default.ensures in
    rw (← b.rest, above (pos 2048) (reads (product b) tt) c.if-self-gt-MAX_NODES.true)

pub returns-then-self-gt-MAX_LATITUDE : goal.returns-then-self-gt-MAX_LATITUDE
unfolding first_false last_node
returns-then-self-gt-MAX_LATITUDE c =
    let b = bounded c.args.self c.in_default.ensures in
    rw (
      ← b.rest,
      not_above (pos 2048) (reads (product b) tt) c.if-self-gt-MAX_NODES.false,
      above (pos 323940000) (reads (north b) tt) c.if-self-gt-MAX_LATITUDE.true,
    )

pub returns : goal.returns
unfolding first_false last_node
returns c =
    let b = bounded c.args.self c.in_default.ensures in
    rw (
      ← b.rest,
      not_above (pos 2048) (reads (product b) tt) c.if-self-gt-MAX_NODES.false,
      not_above (pos 323940000) (reads (north b) tt) c.if-self-gt-MAX_LATITUDE.false,
    )
