use Rattle.std.proofs.Common.{◌≡◌, ◌+◌, ◌∙◌, ◌<◌, length, ap, arith, rules}
use Rattle.std.specs.Prelude.{slice_index}
use Rattle.std.proofs.lemmas.List.{get_or_default, length-map}
use Rattle.reader_chains.specs.Chains.{readers_from}
use Rattle.reader_chains.proofs.Linked.{chains_more}
use Rattle.reader_chains.proofs.readers.Readers.add.Goals as goal

pub returns-clause-added : goal.returns-clause-added
returns-clause-added c =
    let first = c.self.inside.first.items in
    let links = c.self.inside.links.items in
    let inside : c.args.place < length first = omega (arith, c.requires.place, ap length c.self.view_is, length-map first (readers_from links)) in
    let number : c.in-Ok.number ≡ length links + 1 = search rules in
    let next : c.index-next.result.now ≡ slice_index first c.args.place = c.index-next.ensures ∙ get_or_default first c.args.place c.index-next.result.now 0 inside in
    rw (← c.self.view_is, c.in_ok-push.ensures.items, number, next) (chains_more first links c.args.place c.args.reader inside c.self.invariant)
