-- What a Step comes to where it isn't refused.
use Rattle.std.proofs.Common.{◌≡◌, ℕ, ◌+◌, ◌++◌, ◌≤◌, ◌∙◌, Bool, false, List, length, take, drop, refl, ap, arith, None}
use Rattle.px_base.specs.declared.graph.Part.{Part}
use Rattle.px_base.specs.declared.program.CoreProgram.{CoreProgram}
use Rattle.std.specs.Prelude.{nat_lt, Ok}
use Rattle.std.proofs.lemmas.Bool.Decides.{nat_tests}
use Rattle.px_base.specs.declared.wire.Update.{Update}
use Rattle.px_base.specs.declared.wire.Order.TheVariants.{Step}
use Rattle.px_base.specs.declared.wire.Answer.TheVariants.{Stepped}
use Rattle.px_base.specs.Worlds.{ValueWorld, of_values, takes_update, first_foreign, is_fresh}
use Rattle.px_base.specs.ValueSteps.{value_step, updated_mirrors, renewed_masters, some_changed, announcements}
use Rattle.px_base.specs.WorldSteps.{world_step}
use Rattle.worker_world.specs.declared.known.Known.{Known}
use Rattle.placed_parts.specs.Places.{master_count}
use Rattle.worker_world.specs.Placed.{mirrors_after, masters_after}
use Rattle.worker_world.specs.ByPlace.{IsByPlace, IsNoted, HasSameTables}
use Rattle.worker_world.proofs.Placing.{HasHalves, put_halves}

not_earlier : (a b : ℕ) → b ≤ a → nat_lt a b ≡ false
not_earlier a b h = grind (arith, nat_tests)

-- a world that was made as the definition makes it
pub step_made : (w : ValueWorld) (epoch round : ℕ) (updates : List Update) (mirrors masters : List ℕ) (changed : Bool) (announced : List Update) →
    w.epoch ≤ epoch → first_foreign (takes_update (of_values w)) updates ≡ None → mirrors ≡ updated_mirrors w.part.mirrors updates w.mirrors →
    masters ≡ renewed_masters w.part w.core w.masters mirrors → changed ≡ some_changed w.masters masters → announced ≡ announcements (is_fresh w.epoch epoch) w.part w.masters masters →
    world_step (of_values w) (Step epoch round updates)
    ≡ Ok (record { world = of_values (record { part = w.part; core = w.core; epoch = epoch; round = round; masters = masters; mirrors = mirrors }); answer = Stepped epoch round changed announced })
step_made w epoch round updates mirrors masters changed announced later taken new_mirrors new_masters is_changed is_announced =
    let late : nat_lt epoch w.epoch ≡ false = not_earlier epoch w.epoch later in
    rw (value_step, late, taken, is_announced, is_changed, new_masters, new_mirrors) refl

-- ---- what is noted, in force

-- the values after a step whose updates were noted among the old ones
pub put_in_force : (part : Part) (core : CoreProgram) (updates : List Update) (before noted after : Known) → drop (master_count part) before.next.items ≡ drop (master_count part) before.values.items →
    IsNoted part core updates before noted → after.values.items ≡ take (master_count part) noted.next.items ++ mirrors_after part updates noted.next.items →
    HasHalves part (masters_after part core updates before.values.items) (mirrors_after part updates before.values.items) after.values.items
put_in_force part core updates before noted after level is put =
    let rest : mirrors_after part updates noted.next.items ≡ mirrors_after part updates before.values.items = ap (updated_mirrors part.mirrors updates) (is.kept ∙ level) in
    let made : HasHalves part (take (master_count part) noted.next.items) (mirrors_after part updates noted.next.items) after.values.items = put_halves part updates noted.next.items after.values.items is.placed.next put in
    record { count = made.count; masters = made.masters ∙ is.next; mirrors = made.mirrors ∙ rest }

pub still_by_place : (part : Part) (core : CoreProgram) (noted after : Known) → IsByPlace part core noted → HasSameTables noted after → length after.values.items ≡ master_count part + length part.mirrors →
    length after.next.items ≡ length after.values.items → IsByPlace part core after
still_by_place part core noted after placed same count next = record {
  readers = rw same.readers placed.readers;
  table = rw same.table placed.table;
  values = count;
  next = next ∙ count;
  marks = same.marks ∙ placed.marks;
  stamps = rw same.stamps placed.stamps;
}
