-- The whole list is its first line, what the request text adds to a fresh list, and the end of what that comes to.
use Prim.Native.Nat.{ℕ, zero, suc, ◌+◌, ◌^◌, ◌≤◌, ◌<◌}
use mathlib.Core.Path.{◌≡◌, refl, sym, ap, ◌∙◌}
use mathlib.Core.Bool.{cond}
use Rattle.std.specs.Prelude.{None}
use mathlib.Core.List.{List, [], ◌∷◌, ◌++◌, map, append-nil, append_assoc}
use native.Mathlib.Omega.{arith}
use borrow.Author.Tests.{ne_eqb}
use lib.Dec.{eqb, lt→ltb}
use lib.ListN.{length, take, length-append}
use lib.IntN.{pos}
use lib.Signed.{◌<ℤ◌}
use mir.Syntax.{w64}
use mir.Val.{to_z}
use Rattle.laws.specs.Logic.{lt_z_true, either_way}
use Rattle.laws.specs.Over.{over}
use Rattle.decimal.proofs.Signs.{read_pos}
use Rattle.lines.specs.Text.{newline}
use Rattle.grid.specs.Grid.{Grid}
use Rattle.grid.specs.Rules.{broken_rule, node_count, node_count_or0}
use Rattle.grid.specs.Check.{Passes}
use Rattle.grid.proofs.Passing.{good}
use Rattle.requests.specs.Requests.{request_in}
use Rattle.requests.specs.Replies.{is_answer, reply_to, reply_text}
use Rattle.requests.specs.declared.Reply.{Reply}
use Rattle.listing.specs.Lines.{requests_in, replies, rest, unended, all_replies, texts, answers, refusals}
use Rattle.listing.specs.Listing.{sheet_text, list_text}
use Rattle.list_state.specs.State.{one_more, listing_of, fresh}
use Rattle.listing.specs.Pieces.{raised, fed_replies, fed_text, fed_list, end_text}
use Rattle.list_state.proofs.Holding.{held_of}
use Rattle.listing.proofs.Cuts.{texts-append, answers-append, refusals-append}

-- ---- the first line, whose number is as the machine has it

pub sheet_told : (g : Grid) → Passes g → {n : ℕ} → (n ≡ node_count g.header) × (n ≤ 2048) → reply_text (Reply.Sheet (to_z w64 n)) ≡ sheet_text g
unfolding node_count_or0
sheet_told g passes {n} e =
    let u : broken_rule g.header ≡ None = (good g passes).unbroken in
    ap (λ x. reply_text (Reply.Sheet x)) (read_pos n (omega arith) ∙ rw u (ap pos e.0))

-- ---- totals below the greatest

one_more-pos : (m : ℕ) → m < 9223372036854775807 → one_more (pos m) ≡ pos (m + 1)
unfolding one_more
one_more-pos m h =
    let q : pos m <ℤ pos 9223372036854775807 = record { lt = lt→ltb m 9223372036854775807 h } in
    rw (lt_z_true q)

raised-pos : (m n : ℕ) → m + n ≤ 9223372036854775807 → raised (pos m) n ≡ pos (m + n)
raised-pos m zero h = let e : m ≡ m + 0 = omega arith in ap pos e
raised-pos m (suc n) h =
    let e : m + 1 + n ≡ m + suc n = omega arith in
    ap (λ x. raised x n) (one_more-pos m (omega arith)) ∙ raised-pos (m + 1) n (omega arith) ∙ ap pos e

raised_zero : (n : ℕ) → n ≤ 9223372036854775807 → raised (pos 0) n ≡ pos n
raised_zero n h = let e : 0 + n ≡ n = omega arith in raised-pos 0 n (omega arith) ∙ ap pos e

-- a line takes a byte at least
module _ (g : Grid) where
  lines-bound : (line t : List ℕ) → answers (replies g line t) + refusals (replies g line t) + length (rest line t) ≤ length line + length t
  unfolding replies requests_in rest answers refusals
  lines-bound line [] = omega arith
  lines-bound line (b ∷ t) =
      let r = reply_to g (request_in line) in
      let more = line ++ (b ∷ []) in
      let rs = replies g [] t in
      let one : cond (is_answer r) (suc (answers rs)) (answers rs) + cond (is_answer r) (refusals rs) (suc (refusals rs)) ≡ suc (answers rs + refusals rs) =
      either_way (λ p. cond p (suc (answers rs)) (answers rs) + cond p (refusals rs) (suc (refusals rs)) ≡ suc (answers rs + refusals rs)) (is_answer r) (omega arith) (omega arith) in
      either_way
      (λ p. answers (map (reply_to g) (cond p (request_in line ∷ requests_in [] t) (requests_in more t))) + refusals (map (reply_to g) (cond p (request_in line ∷ requests_in [] t) (requests_in more t))) + length (cond p (rest [] t) (rest more t)) ≤ length line + suc (length t))
      (eqb b newline)
      (omega (arith, one, lines-bound [] t))
      (omega (arith, lines-bound more t, length-append line (b ∷ [])))

-- ---- the end

end_is : (l : List ℕ) (a r : ℕ) → r + length l ≤ 9223372036854775807
    → end_text (listing_of (take 65 l) (record { answered = pos a; refused = pos r })) ≡ texts (unended l) ++ reply_text (Reply.Done (pos a) (pos (r + refusals (unended l))))
unfolding end_text texts refusals over
end_is [] a r h = let e : r ≡ r + 0 = omega arith in ap (λ k. reply_text (Reply.Done (pos a) (pos k))) e
end_is (b ∷ l) a r h =
    rw (ne_eqb (suc (length (take 64 l))) 0 (omega arith))
    (ap (λ x. reply_text (Reply.No (pos 1)) ++ reply_text (Reply.Done (pos a) x)) (one_more-pos r (omega arith))
    ∙ ap (λ w. w ++ reply_text (Reply.Done (pos a) (pos (r + 1)))) (sym (append-nil (reply_text (Reply.No (pos 1))))))

unended-answers : (l : List ℕ) → answers (unended l) ≡ 0
unfolding answers
unended-answers [] = refl
unended-answers (b ∷ l) = refl

module _ (g : Grid) (text : List ℕ) (h : length text < 2 ^ 63) where
  rs : List Reply
  rs = replies g [] text

  fed : fed_list g fresh text ≡ listing_of (take 65 (rest [] text)) (record { answered = pos (answers rs); refused = pos (refusals rs) })
  unfolding fed_list fed_replies over rs
  fed =
      let b = lines-bound g [] text in
      rw (held_of [] fresh.totals (omega arith), raised_zero (answers rs) (omega (arith, b)), raised_zero (refusals rs) (omega (arith, b)))

  pub list_text_lem : list_text g text ≡ sheet_text g ++ fed_text g fresh text ++ end_text (fed_list g fresh text)
  unfolding list_text all_replies fed_text fed_replies over rs
  list_text_lem =
      let l = rest [] text in
      let b = lines-bound g [] text in
      let a : answers (rs ++ unended l) ≡ answers rs = answers-append rs (unended l) ∙ rw (unended-answers l) (omega arith) in
      rw (held_of [] fresh.totals (omega arith), texts-append rs (unended l), a, refusals-append rs (unended l), fed, end_is l (answers rs) (refusals rs) (omega (arith, b)))
      (append_regroup (sheet_text g) (texts rs) (texts (unended l)) (reply_text (Reply.Done (pos (answers rs)) (pos (refusals rs + refusals (unended l))))))
    where
      append_regroup : (p q r s : List ℕ) → p ++ (q ++ r) ++ s ≡ p ++ q ++ (r ++ s)
      append_regroup p q r s = simp append_assoc
