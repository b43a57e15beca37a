use Rattle.std.proofs.Common.{◌≡◌, ◌<◌, ◌++◌, ◌∷◌, length, arith, sym, ap, ◌∙◌}
use Rattle.std.specs.Vec.Iter.{into_iter_items}
use Rattle.px_base.specs.Parts.{part_count, mirrors_of}
use Rattle.partitioner.proofs.Parted.{ArePartsSoFar, list_at, list_count, one_part_more, parts_done, next_place, next_low, next_below, none_left}
use Rattle.partitioner.proofs.whole.parts_by.Goals as goal

pub loop-list-init : goal.loop-list-init
loop-list-init c = record {
  split = sym c.into_iter-list-iterator.ensures.into_iter_gives.0;
  parts = c.in_ok-parts.ensures.items;
}

pub overflow_cast-i : goal.overflow_cast-i
overflow_cast-i c =
    let at : c.len-i.result ≡ length c.loop-list.yielded =
    next_place c.args.rows.now c.args.starts.now c.args.cuts.now.ends c.args.lists.items c.loop-list.yielded (into_iter_items c.loop-list.list-iterator) c.loop-list.parts.items c.len-i.result
    c.loop-list.invariant (c.len-i.ensures ∙ c.loop-list.parts.ok.0) in
    let low : c.len-i.result < part_count c.args.cuts.now.ends =
    next_low c.args.lists.items c.loop-list.yielded (into_iter_items c.next.new.self) c.in-Some.list (part_count c.args.cuts.now.ends) c.len-i.result
    (c.loop-list.invariant.split ∙ ap (λ ls. c.loop-list.yielded ++ ls) c.in-Some.ensures.steps.0) (list_count c.args.lists.items (part_count c.args.cuts.now.ends) (mirrors_of c.args.rows.now c.args.cuts.now.ends) c.requires.mirrors) at in
    omega (arith, low, c.requires.cuts.room)

pub part_by-requires-clause-part : goal.part_by-requires-clause-part
part_by-requires-clause-part c =
    let at : c.len-i.result ≡ length c.loop-list.yielded =
    next_place c.args.rows.now c.args.starts.now c.args.cuts.now.ends c.args.lists.items c.loop-list.yielded (into_iter_items c.loop-list.list-iterator) c.loop-list.parts.items c.len-i.result
    c.loop-list.invariant (c.len-i.ensures ∙ c.loop-list.parts.ok.0) in
    next_low c.args.lists.items c.loop-list.yielded (into_iter_items c.next.new.self) c.in-Some.list (part_count c.args.cuts.now.ends) c.len-i.result
    (c.loop-list.invariant.split ∙ ap (λ ls. c.loop-list.yielded ++ ls) c.in-Some.ensures.steps.0) (list_count c.args.lists.items (part_count c.args.cuts.now.ends) (mirrors_of c.args.rows.now c.args.cuts.now.ends) c.requires.mirrors) at

pub part_by-requires-clause-mirrors : goal.part_by-requires-clause-mirrors
part_by-requires-clause-mirrors c =
    next_below c.args.rows.now c.args.starts.now c.args.cuts.now.ends c.args.lists.items c.loop-list.yielded (into_iter_items c.next.new.self) c.in-Some.list c.into_vec.result.items
    (c.loop-list.invariant.split ∙ ap (λ ls. c.loop-list.yielded ++ ls) c.in-Some.ensures.steps.0) (list_count c.args.lists.items (part_count c.args.cuts.now.ends) (mirrors_of c.args.rows.now c.args.cuts.now.ends) c.requires.mirrors) (list_at c.args.lists.items (part_count c.args.cuts.now.ends) (mirrors_of c.args.rows.now c.args.cuts.now.ends) c.requires.mirrors) c.requires.one_each c.into_vec.ensures

pub loop-list-preserved : goal.loop-list-preserved
loop-list-preserved c =
    let at : c.len-i.result ≡ length c.loop-list.yielded =
    next_place c.args.rows.now c.args.starts.now c.args.cuts.now.ends c.args.lists.items c.loop-list.yielded (into_iter_items c.loop-list.list-iterator) c.loop-list.parts.items c.len-i.result
    c.loop-list.invariant (c.len-i.ensures ∙ c.loop-list.parts.ok.0) in
    let so_far : ArePartsSoFar c.args.rows.now c.args.starts.now c.args.cuts.now.ends c.args.lists.items c.loop-list.yielded (c.in-Some.list ∷ into_iter_items c.next.new.self) c.loop-list.parts.items =
    (rw (← c.in-Some.ensures.steps.0) c.loop-list.invariant) in
    one_part_more c.args.rows.now c.args.starts.now c.args.cuts.now.ends c.args.words.now c.into_vec.result.items c.len-i.result
    c.args.lists.items c.loop-list.yielded (into_iter_items c.next.new.self) c.in-Some.list c.loop-list.parts.items c.push.new.self.items c.in_ok-part.part
    c.requires.bits (λ u. omega (arith, c.type_inv.words u)) (list_count c.args.lists.items (part_count c.args.cuts.now.ends) (mirrors_of c.args.rows.now c.args.cuts.now.ends) c.requires.mirrors) (list_at c.args.lists.items (part_count c.args.cuts.now.ends) (mirrors_of c.args.rows.now c.args.cuts.now.ends) c.requires.mirrors) so_far at c.into_vec.ensures c.in_ok-part.ensures c.in_ok-push.ensures.items

pub returns : goal.returns
returns c =
    c.from_vec.ensures
    ∙ parts_done c.args.rows.now c.args.starts.now c.args.cuts.now.ends c.args.lists.items c.loop-list.yielded (into_iter_items c.loop-list.list-iterator) c.loop-list.parts.items (part_count c.args.cuts.now.ends)
    c.loop-list.invariant (none_left (into_iter_items c.loop-list.list-iterator) c.loop-list.list-iterator.rest.len c.loop-list.list-iterator.rest.ok.0 c.in-None.ensures.steps.0)
    (list_count c.args.lists.items (part_count c.args.cuts.now.ends) (mirrors_of c.args.rows.now c.args.cuts.now.ends) c.requires.mirrors)
