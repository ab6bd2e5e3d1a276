-- The checks of a grid as one ordered list (document 01, "When the answer is no"; document 02, request 11): 2, 5, 3, 4, 14.
use Rattle.std.specs.Prelude.{ℕ, ◌*◌, ◌≡◌, Bool, cond, Option, Some, None, ltb}
use Rattle.laws.specs.First.{first}
use Rattle.figures.specs.Outcome.{Outcome, answered, refused, and_then, refuse_if}
use Rattle.grid.specs.Grid.{Nodes, node_room, Grid}
use Rattle.grid.specs.Rules.{broken_rule, shape}
use Rattle.grid.specs.Nodes.{out_of_range, steep_at, twisted_at}
use Rattle.grid.specs.declared.Header.{Header}
use Rattle.grid.specs.declared.Shape.{Shape}

-- refused by `number` at the place, if there is one; or else the outcome of what is judged next
abbrev pub refuse_at : {A : Type 0} → (number : ℕ) → Option ℕ → (next : Outcome A) → Outcome A
refuse_at number (Some k) next = refused number k
refuse_at number None next = next

-- "a header rule is broken", at the first; or else the header's sizes
abbrev pub header_check : Header → Outcome Shape
header_check h = refuse_at 2 (broken_rule h) (answered (shape h))

-- that; "a lent node slice is shorter than rows × cols"
unfoldable pub layout : Grid → Outcome Unit
layout g =
    let n = (shape g.header).rows * (shape g.header).cols in
    and_then (header_check g.header) (refuse_if (ltb (node_room g.nodes) n) 5 n (answered tt))

-- the lowest number below `n` at which the test holds
abbrev pub lowest : (n : ℕ) → (test : ℕ → Bool) → Option ℕ
lowest n test = cond (ltb (first test n) n) (Some (first test n)) None

-- "a node is too steep to its east or north neighbour"; then "14, the lowest southwest node of such a cell, directly after 4"
unfoldable pub smoothness : Shape → Nodes → Outcome Unit
smoothness s ns =
    let n = s.rows * s.cols in
    refuse_at 4 (lowest n (steep_at s ns))
    (refuse_at 14 (lowest n (twisted_at s ns)) (answered tt))

-- "a shift is beyond its range"; then smoothness
unfoldable pub nodes_verdict : Shape → Nodes → Outcome Unit
nodes_verdict s ns = refuse_at 3 (lowest (s.rows * s.cols) (out_of_range ns)) (smoothness s ns)

unfoldable pub verdict : Grid → Outcome Unit
verdict g = and_then (layout g) (nodes_verdict (shape g.header) g.nodes)

-- "passes the checks if none of 2, 5, 3 and 4 applies to it", nor 14. Its laws are in proofs/; no theorem looks into it.
abbrev pub Passes : Grid → Type 0
Passes g = verdict g ≡ answered tt
