use Rattle.std.proofs.Common.{ℕ, ◌*◌, sym}
use Rattle.std.proofs.lemmas.List.{length-replicate}
use Rattle.requests.specs.Replies.{max_text}
use Rattle.list_io.proofs.serve.serve.Goals as goal

-- by the law, since an array of this length is not counted out: the room is the longest line for each byte of a block
pub slice_bounds-serve_in-end : goal.slice_bounds-serve_in-end
slice_bounds-serve_in-end g c = sym (length-replicate {A = ℕ} (max_text * 65536) 0)
