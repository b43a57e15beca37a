use Rattle.std.proofs.Common.{arith, length, sym, subst}
use Rattle.std.specs.List.Sorted.{IsPermutation}
use Rattle.std.proofs.lemmas.List.Sorted.{IsNonDecreasingBy-from_sort}
use Rattle.px_base.specs.Values.{by_position}
use Rattle.edge_reader.specs.Places.{AreTags, AreSorted, tag_at}
use Rattle.edge_reader.proofs.Numbering.{are_tags}
use Rattle.edge_reader.proofs.places.place_by_tags.Goals as goal

pub number_tags-requires-clause-tags : goal.number_tags-requires-clause-tags
number_tags-requires-clause-tags c =
    let moved : IsPermutation (by_position (length c.args.ends.now) (tag_at c.args.ends.now)) c.sort_unstable.new.self.items = rw c.in_ok-tags.ensures at c.sort_unstable.ensures.permutation in
    subst (AreTags c.args.ends.now) (sym c.as_slice.ensures.value) (are_tags c.args.ends.now c.sort_unstable.new.self.items c.requires moved)

pub number_tags-requires-clause-few : goal.number_tags-requires-clause-few
number_tags-requires-clause-few c =
    let moved : IsPermutation (by_position (length c.args.ends.now) (tag_at c.args.ends.now)) c.sort_unstable.new.self.items = rw c.in_ok-tags.ensures at c.sort_unstable.ensures.permutation in
    let all : AreTags c.args.ends.now c.sort_unstable.new.self.items = are_tags c.args.ends.now c.sort_unstable.new.self.items c.requires moved in
    rw c.as_slice.ensures.value (omega (arith, all.one_each, c.requires))

pub number_tags-requires-clause-rising : goal.number_tags-requires-clause-rising
number_tags-requires-clause-rising c = subst AreSorted (sym c.as_slice.ensures.value) (IsNonDecreasingBy-from_sort (λ x. x) c.sort_unstable.new.self.items c.sort_unstable.ensures.sorted)
