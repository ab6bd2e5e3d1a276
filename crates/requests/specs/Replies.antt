-- The reply to a request line, and its text (document 01, "The list program").
use Rattle.std.specs.Prelude.{ℕ, min, Bool, true, false, List, [], ◌∷◌, pos}
use Rattle.laws.specs.Bytes.{bytes}
use Rattle.figures.specs.Refusal.{number_of, place_of}
use Rattle.figures.specs.Outcome.{Outcome, answered, refused}
use Rattle.figures.specs.declared.Refusal.{Refusal}
use Rattle.figures.specs.Points.{Point27}
use Rattle.lines.specs.Text.{line}
use Rattle.grid.specs.Grid.{Grid}
use Rattle.convert.specs.Convert.{to83, numbers83, numbers27, to27}
use Rattle.convert.specs.declared.Shifted.{Shifted}
use Rattle.requests.specs.declared.Request.{Request}
use Rattle.requests.specs.declared.Reply.{Reply}

-- ---- replies

abbrev pub said83 : Outcome Shifted → Reply
said83 (answered a) = Reply.In83 a
said83 (refused n k) = Reply.No (pos n)

abbrev pub said27 : Outcome Point27 → Reply
said27 (answered p) = Reply.In27 p
said27 (refused n k) = Reply.No (pos n)

-- the reply to what a line asks; "A refused request line prints its number alone"
abbrev pub reply_to : Grid → Outcome Request → Reply
reply_to g (answered (Request.To83 p)) = said83 (to83 g p)
reply_to g (answered (Request.To27 f)) = said27 (to27 g f)
reply_to g (refused n k) = Reply.No (pos n)

-- a place as it can be told, at most 2 ^ 63 − 1
abbrev pub told_place : ℕ → ℕ
told_place k = min k 9223372036854775807

-- "A refused sheet prints only `no=NUMBER,PLACE`."
abbrev pub no_sheet : Refusal → Reply
no_sheet w = Reply.NoSheet (pos (number_of w)) (pos (told_place (place_of w)))

-- a request line was answered by it
abbrev pub is_answer : Reply → Bool
is_answer (Reply.No n) = false
is_answer (Reply.NoSheet n k) = false
is_answer (Reply.Sheet n) = true
is_answer (Reply.In83 a) = true
is_answer (Reply.In27 p) = true
is_answer (Reply.Done a b) = true

-- ---- their text; document 02, request 7: "`ok83` lines gain these as a third and fourth number"

unfoldable pub reply_text : Reply → List ℕ
reply_text (Reply.Sheet n) = line (bytes "sheet=") (n ∷ [])
reply_text (Reply.In83 a) = line (bytes "ok83=") (numbers83 a)
reply_text (Reply.In27 p) = line (bytes "ok27=") (numbers27 p)
reply_text (Reply.No n) = line (bytes "no=") (n ∷ [])
reply_text (Reply.NoSheet n k) = line (bytes "no=") (n ∷ k ∷ [])
reply_text (Reply.Done a b) = line (bytes "done=") (a ∷ b ∷ [])

-- no line of the list is longer: a key of 5 bytes, two numbers of 20 and two signs of 2, three commas and the newline
abbrev pub max_text : ℕ
max_text = 53
