use Rattle.std.proofs.Common.{◌≡◌, ℤ, Bool, false, not, Some, List, [], ◌∷◌, ap, ◌∙◌, rules, tests}
use Rattle.std.specs.List.{position}
use Rattle.std.specs.Int.Signed.{le_z}
use Rattle.std.specs.Ordering.{int_cmp, partial_le}
use Rattle.std.specs.Range.{range_inclusive_contains, range_inclusive_start, range_inclusive_end, range_inclusive_exhausted}
use Rattle.std.specs.declared.ops.RangeInclusive.{RangeInclusive}
use Rattle.std.proofs.lemmas.Iterator.{YieldsList-from_slice}
use Rattle.std.proofs.lemmas.Iterator.Search.{position_from_yields_List}
use Rattle.grid.specs.Rules.{between, bounds}
use Rattle.grid.proofs.Header.broken_bound.Goals as goal

le_is : (a b : ℤ) → partial_le (λ x y. Some (int_cmp x y)) a b ≡ le_z a b
le_is a b = search (rules, tests)

-- what `contains` answers of `lo..=hi`
told : {r : RangeInclusive ℤ} {lo hi : ℤ} (x : ℤ) {b : Bool} → b ≡ range_inclusive_contains (λ x y. Some (int_cmp x y)) r x
    → range_inclusive_start r ≡ lo → range_inclusive_end r ≡ hi → range_inclusive_exhausted r ≡ false → b ≡ between lo x hi
unfolding between
told {lo} {hi} x e s t u = e ∙ rw (s, t, u, le_is lo x, le_is x hi)

pub returns : goal.returns
returns c =
    let h = c.args.self in
    let list : List Bool = c.contains.result ∷ c.contains-2.result ∷ c.contains-3.result ∷ c.contains-4.result ∷ c.contains-5.result ∷ c.contains-6.result ∷ [] in
    let is : list ≡ bounds h = λ i.
    told h.south.0 c.contains.ensures.value c.new.ensures.start c.new.ensures.end c.new.ensures.exhausted i
    ∷ told h.west.0 c.contains-2.ensures.value c.new-2.ensures.start c.new-2.ensures.end c.new-2.ensures.exhausted i
    ∷ told h.dlat c.contains-3.ensures.value c.new-3.ensures.start c.new-3.ensures.end c.new-3.ensures.exhausted i
    ∷ told h.dlon c.contains-4.ensures.value c.new-4.ensures.start c.new-4.ensures.end c.new-4.ensures.exhausted i
    ∷ told h.rows c.contains-5.ensures.value c.new-5.ensures.start c.new-5.ensures.end c.new-5.ensures.exhausted i
    ∷ told h.cols c.contains-6.ensures.value c.new-6.ensures.start c.new-6.ensures.end c.new-6.ensures.exhausted i
    ∷ [] in
    position_from_yields_List not _ _ _ c.position.ensures.ran (YieldsList-from_slice list cc) (λ x b q k. search (rules, tests))
    ∙ ap (position not) is
