use Rattle.std.proofs.Common.{◌≡◌, ◌∙◌, ◌<◌, ◌+◌, ◌++◌, ◌∷◌, [], set, ap, length, refl}
use Rattle.std.specs.Prelude.{slice_index, ◌==◌, if◌then◌else◌}
use Rattle.std.proofs.lemmas.List.{get_or_default}
use Rattle.count_world.proofs.Tallied.{raised, room_to_touch}
use Rattle.count_world.proofs.tally.Tally.raise_at.Goals as goal

pub add_if-requires : goal.add_if-requires
add_if-requires c is =
    let inside : c.in-Some.i < length c.args.self.now.times.items = (rw c.in-Some.is at c.requires.within) c.in-Some.i refl in
    let before : c.index-before.result.now ≡ slice_index c.args.self.now.times.items c.in-Some.i = c.index-before.ensures ∙ get_or_default c.args.self.now.times.items c.in-Some.i c.index-before.result.now 0 inside in
    room_to_touch c.args.self.now c.in-Some.i c.requires.tally inside (rw before at is)

pub returns-in-Some : goal.returns-in-Some
returns-in-Some c =
    let inside : c.in-Some.i < length c.args.self.now.times.items = (rw c.in-Some.is at c.requires.within) c.in-Some.i refl in
    let before : c.index-before.result.now ≡ slice_index c.args.self.now.times.items c.in-Some.i = c.index-before.ensures ∙ get_or_default c.args.self.now.times.items c.in-Some.i c.index-before.result.now 0 inside in
    rw c.in-Some.is
    (raised c.args.self.now _ c.in-Some.i c.requires.tally inside (ap (λ n. set c.args.self.now.times.items c.in-Some.i (n + 1)) before)
    (c.add_if.ensures.items ∙ ap (λ n. c.args.self.now.touched.items ++ (if n == 0 then c.in-Some.i ∷ [] else [])) before) c.add_if.ensures.room)
