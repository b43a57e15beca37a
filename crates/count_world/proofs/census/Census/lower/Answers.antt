use Rattle.std.proofs.Common.{◌≡◌, ◌∙◌, ◌<◌, ◌++◌, ◌∷◌, [], length, ap, arith, sym, refl}
use Rattle.std.specs.Prelude.{slice_index, if◌then◌else◌}
use Rattle.std.proofs.lemmas.List.{get_or_default}
use Rattle.count_world.proofs.Lowered.{lowered, room_to_list}
use Rattle.count_world.proofs.census.Census.lower.Goals as goal

pub add_if-requires : goal.add_if-requires
add_if-requires c is =
    let census = c.args.self.now in
    let inside : c.args.k < length census.counts.items = omega (arith, c.requires.k, c.requires.census.counts) in
    let before : c.index-before.result.now ≡ slice_index census.counts.items c.args.k = c.index-before.ensures ∙ get_or_default census.counts.items c.args.k c.index-before.result.now 0 inside in
    let flag : c.index.result.now ≡ slice_index census.alive.items c.args.k = c.index.ensures ∙ get_or_default census.alive.items c.args.k c.index.result.now 0 c.requires.k in
    room_to_list census c.args.k c.saturating_sub-after.result c.requires.census c.requires.k (rw (flag, before) at (sym c.falls-dies.ensures ∙ is))

pub returns-clause-kept : goal.returns-clause-kept
returns-clause-kept c =
    let census = c.args.self.now in
    let inside : c.args.k < length census.counts.items = omega (arith, c.requires.k, c.requires.census.counts) in
    let before : c.index-before.result.now ≡ slice_index census.counts.items c.args.k = c.index-before.ensures ∙ get_or_default census.counts.items c.args.k c.index-before.result.now 0 inside in
    let flag : c.index.result.now ≡ slice_index census.alive.items c.args.k = c.index.ensures ∙ get_or_default census.alive.items c.args.k c.index.result.now 0 c.requires.k in
    lowered census _ c.args.k c.saturating_sub-after.result c.requires.census c.requires.k (omega (arith, before, c.saturating_sub-after.ensures)) refl refl refl
    (c.add_if.ensures.items ∙ ap (λ b. census.dying.items ++ (if b then c.args.k ∷ [] else [])) (rw (flag, before) at c.falls-dies.ensures)) c.add_if.ensures.room
