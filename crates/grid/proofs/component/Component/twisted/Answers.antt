use Rattle.std.proofs.Common.{arith, ℤ, ℕ, List, Bool, true, false, ◌≡◌, ◌<◌, ◌+◌, ◌+ℤ◌, ◌-ℤ◌, length, min, sym, ◌∙◌}
use Rattle.laws.specs.Expr.{Expr, need, reads, bounded, ◌⊕◌, ◌⊖◌}
use Rattle.laws.specs.Logic.{and_last, and_false}
use Rattle.grid.specs.Nodes.{node, is_southwest, too_much, twist, twisted}
use Rattle.grid.specs.Needs.{Judgeable}
use Rattle.grid.specs.declared.Shape.{Shape}
use Rattle.grid.proofs.NodeLaws.{in_component, southwest_is, no_cell}
use Rattle.grid.proofs.component.Component.twisted.Goals as goal

module _ {s : Shape} {S : List ℤ} (j : Judgeable s S) (k : ℕ) (l : k + s.cols + 1 < length S) where
  abbrev three : Expr (node S k -ℤ node S (k + 1) -ℤ node S (k + s.cols))
  three = let at = in_component j in bounded (at k (omega arith)) ⊖ bounded (at (k + 1) (omega arith)) ⊖ bounded (at (k + s.cols) (omega arith))

  -- S1 − S2 − S3 + S4
  abbrev four : Expr (node S k -ℤ node S (k + 1) -ℤ node S (k + s.cols) +ℤ node S (k + s.cols + 1))
  four = three ⊕ bounded (in_component j (k + s.cols + 1) l)

  read : four.got ≡ twist s.cols S k
  unfolding twist
  read = reads four tt

  -- that the sums fit is asked of the nodes in any order: it says nothing of which of them the twist takes away
  abbrev three_across : Expr (node S k -ℤ node S (k + s.cols + 1) -ℤ node S (k + s.cols))
  three_across = let at = in_component j in bounded (at k (omega arith)) ⊖ bounded (at (k + s.cols + 1) l) ⊖ bounded (at (k + s.cols) (omega arith))

  abbrev four_across : Expr (node S k -ℤ node S (k + s.cols + 1) -ℤ node S (k + s.cols) +ℤ node S (k + 1))
  four_across = three_across ⊕ bounded (in_component j (k + 1) (omega arith))

pub overflow_sub-twist-2 : goal.overflow_sub-twist-2
overflow_sub-twist-2 c =
    let a = c.args in
    let j = a.self.judgeable in
    let l : a.k + a.self.shape.cols + 1 < length a.self.shifts.now = omega (arith, c.if-nw-s.false) in
    search (need (three j a.k l) tt, need (three_across j a.k l) tt)

pub overflow_add-twist-3 : goal.overflow_add-twist-3
overflow_add-twist-3 c =
    let a = c.args in
    let j = a.self.judgeable in
    let l : a.k + a.self.shape.cols + 1 < length a.self.shifts.now = omega (arith, c.if-nw-s.false) in
    search (need (four j a.k l) tt, need (four_across j a.k l) tt)

pub returns-then-nw-s : goal.returns-then-nw-s
unfolding twisted
returns-then-nw-s c =
    let g = c.args.self in
    rw (no_cell g.shape (omega (arith, g.sizes.cols_low)) c.args.k (omega (arith, g.judgeable.cut, c.if-nw-s.true)))

judged : {a b : Bool} {m n : ℕ} {y z : ℤ} → a ≡ too_much 64 m y → m ≡ n → y ≡ z → a ≡ b → too_much 64 n z ≡ b
judged e f g h = sym (e ∙ (λ i. too_much 64 (f i) (g i))) ∙ h

pub returns-then-too_much : goal.returns-then-too_much
unfolding twisted
returns-then-too_much c =
    let g = c.args.self in
    let k = c.args.k in
    let l : k + g.shape.cols + 1 < length g.shifts.now = omega (arith, c.if-nw-s.false) in
    let t : too_much 64 (min g.shape.dlat g.shape.dlon) (twist g.shape.cols g.shifts.now k) ≡ true = judged c.too_much.ensures (omega arith) (read g.judgeable k l) c.if-too_much.true in
    and_last (is_southwest g.shape k) t (c.has_east.ensures ∙ southwest_is g.shape k (omega (arith, g.judgeable.cut, l)))

pub returns-else-too_much : goal.returns-else-too_much
unfolding twisted
returns-else-too_much c =
    let g = c.args.self in
    let k = c.args.k in
    let l : k + g.shape.cols + 1 < length g.shifts.now = omega (arith, c.if-nw-s.false) in
    let t : too_much 64 (min g.shape.dlat g.shape.dlon) (twist g.shape.cols g.shifts.now k) ≡ false = judged c.too_much.ensures (omega arith) (read g.judgeable k l) c.if-too_much.false in
    rw (t, and_false (is_southwest g.shape k)) c.if-too_much.false
