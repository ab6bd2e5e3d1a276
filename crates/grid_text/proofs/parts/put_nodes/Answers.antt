use Rattle.std.proofs.Common.{ℕ, ◌≡◌, ◌≤◌, ◌+◌, [], ◌∷◌, ◌++◌, length, length-append, take, get_or, pos, sym, ◌∙◌, arith, rules}
use Rattle.std.proofs.Math.Seq.{length-take-le}
use Rattle.std.proofs.lemmas.List.{get_or-take}
use Rattle.std.proofs.lemmas.Slice.Zip.{zip_turn, zip_end}
use Rattle.laws.specs.Bytes.{bytes}
use Rattle.writing.proofs.Laws.{put_nothing, put_added}
use Rattle.lines.specs.Text.{line}
use Rattle.grid.specs.Grid.{node_room}
use Rattle.grid.specs.Rules.{node_count}
use Rattle.grid.specs.Lent.{lent}
use Rattle.grid.specs.declared.checked.CheckedGrid.{CheckedGrid}
use Rattle.grid.proofs.Passing.{good, laid}
use Rattle.grid_text.specs.Text.{node_lines}
use Rattle.grid_text.proofs.Lengths.{nodes_next}
use Rattle.grid_text.proofs.parts.put_nodes.Goals as goal

-- the shifts of the nodes
module _ (k : CheckedGrid) {n : ℕ} (e : n ≡ node_count k.grid.header) where
  roomy : n ≤ node_room (lent k.grid).nodes
  roomy = rw e (laid (lent k.grid) (good (lent k.grid) k.passes).laid_out).has_room

  lats : length (take n k.grid.lat.now) ≡ n
  lats = length-take-le n k.grid.lat.now (omega (arith, roomy))

  lons : length (take n k.grid.lon.now) ≡ n
  lons = length-take-le n k.grid.lon.now (omega (arith, roomy))

pub slice_bounds-iter-end : goal.slice_bounds-iter-end
slice_bounds-iter-end c = sym (lats c.args.checked c.node_count-n.ensures.0)

pub slice_bounds-zip-end : goal.slice_bounds-zip-end
slice_bounds-zip-end c = sym (lons c.args.checked c.node_count-n.ensures.0)

pub loop-lat-init : goal.loop-lat-init
unfolding node_lines
loop-lat-init c = put_nothing _

pub loop-lat-preserved : goal.loop-lat-preserved
loop-lat-preserved c =
    let g = c.args.checked.grid in
    let n = c.node_count-n.result in
    let l = c.loop-lat in
    let k = length l.yielded in
    let z = zip_turn (take n g.lat.now) (take n g.lon.now) l.yielded c.into_iter-lat-iterator.result l.lat-iterator c.next.new.self c.next.result (search rules) (search rules) l.yielded_by _ c.in-Some.is (search rules) in
    let one : length (l.yielded ++ ((c.in-Some.lat, c.in-Some.lon) ∷ [])) ≡ k + 1 = simp length-append (omega arith) in
    let below = lats c.args.checked c.node_count-n.ensures.0 in
    let lat : c.in-Some.lat.now ≡ get_or g.lat.now k (pos 0) = z.2 (pos 0) ∙ get_or-take n g.lat.now k (pos 0) (omega arith) in
    let lon : c.in-Some.lon.now ≡ get_or g.lon.now k (pos 0) = z.3 (pos 0) ∙ get_or-take n g.lon.now k (pos 0) (omega arith) in
    let a = c.put_behind-at.ensures.added (line (bytes "node=") (c.in-Some.lat.now ∷ c.in-Some.lon.now ∷ [])) (record { each = λ before after n q. search rules }) in
    rw (one, nodes_next (lent g).nodes k) (put_added l.invariant (rw (lat, lon) at a) (omega arith))

pub returns : goal.returns
returns c =
    let g = c.args.checked.grid in
    let n = c.node_count-n.result in
    let l = c.loop-lat in
    let z = zip_end (take n g.lat.now) (take n g.lon.now) l.yielded c.into_iter-lat-iterator.result l.lat-iterator c.next.new.self c.next.result (search rules) (search rules) l.yielded_by c.in-None.is (search rules) in
    let e : length l.yielded ≡ node_count g.header = omega (arith, lats c.args.checked c.node_count-n.ensures.0, lons c.args.checked c.node_count-n.ensures.0, c.node_count-n.ensures.0) in
    rw e at l.invariant
