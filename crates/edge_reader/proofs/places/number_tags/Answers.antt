use Rattle.std.proofs.Common.{arith, ◌≡◌, ◌-◌, ◌+◌, ◌<◌, ℕ, set, get_or, length, subst}
use Rattle.edge_reader.proofs.Numbering.{Numbered, AddsId, id_of, number, with_id_adds, numbered_more, numbered_all}
use Rattle.edge_reader.proofs.places.number_tags.Goals as goal

pub loop-tag-preserved : goal.loop-tag-preserved
loop-tag-preserved c =
    let tag : ℕ = get_or c.args.tags.now c.loop-tag.tag-index 0 in
    let below : c.loop-tag.tag-index < length c.args.tags.now = omega arith in
    let adds : AddsId c.loop-tag.ids.items c.add_id.new.ids.items (id_of tag) = rw c.in_ok-add_id.ensures (with_id_adds c.loop-tag.ids.items (id_of tag)) in
    let count : length c.add_id.new.ids.items ≡ c.len.result = omega (arith, c.len.ensures, c.add_id.new.ids.ok) in
    subst (λ n. Numbered c.args.ends.now c.args.tags.now (set c.loop-tag.ends (number tag) (n - 1)) c.add_id.new.ids.items (c.loop-tag.tag-index + 1)) count
    (numbered_more c.args.ends.now c.args.tags.now c.loop-tag.ends c.loop-tag.ids.items c.add_id.new.ids.items c.loop-tag.tag-index c.requires.tags c.requires.rising c.loop-tag.invariant below adds)

pub returns : goal.returns
returns c = numbered_all c.args.ends.now c.args.tags.now c.loop-tag.ends c.loop-tag.ids.items c.loop-tag.tag-index c.requires.tags c.loop-tag.invariant (omega arith)
