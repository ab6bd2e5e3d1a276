use Rattle.std.proofs.Common.{◌∙◌, arith}
use Rattle.requests.specs.Requests.{words}
use Rattle.requests.proofs.WordLaws.{this_word, other_word, no_word}
use Rattle.requests.specs.declared.words.Word.{Word}
use Rattle.requests.proofs.words.read_line.Goals as goal

pub returns-in-Some : goal.returns-in-Some
returns-in-Some c =
    let k = c.loop-word.word-index in
    let s = c.in-Some.ensures.cases in
    c.ask.ensures
    ∙ rw (s.1) (this_word words c.args.line.now k Word.To83 (omega arith) c.text.ensures s.0 c.loop-word.invariant)

pub loop-word-preserved : goal.loop-word-preserved
loop-word-preserved c = other_word words c.args.line.now c.loop-word.word-index Word.To83 (omega arith) c.text.ensures c.in_default.ensures.cases c.loop-word.invariant

pub returns : goal.returns
returns c = no_word words c.args.line.now c.loop-word.word-index Word.To83 (omega arith) c.loop-word.invariant
