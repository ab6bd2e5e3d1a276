use Rattle.std.proofs.Common.{◌≡◌, pos, get_or, ◌∙◌, arith, rules}
use Rattle.laws.specs.Expr.{machine}
use Rattle.list_state.specs.State.{listing_of}
use Rattle.dagglehurst.specs.Header.{number}
use Rattle.dagglehurst.specs.Pieces.{line_length, list_in}
use Rattle.dagglehurst.proofs.ListLaws.{whole-line}
use Rattle.dagglehurst.proofs.memory.list_in.Goals as goal

pub returns : goal.returns
unfolding list_in
returns c =
    let s = c.args.state.now in
    let e0 = c.first.ensures 0 (omega arith) in
    let e1 = c.first.ensures 1 (omega arith) in
    let e2 = c.first.ensures 2 (omega arith) in
    let length : c.line_length.result ≡ line_length (number s 0) = search rules in
    let answered : machine (get_or c.first.result 1 (pos 0)) ≡ number s 1 = search rules in
    let refused : machine (get_or c.first.result 2 (pos 0)) ≡ number s 2 = search rules in
    let line = whole-line (number s 0) c.args.line.now length c.requires in
    c.resumed.ensures ∙ (λ i. listing_of (line i) (record { answered = answered i; refused = refused i }))
