use Rattle.std.proofs.Common.{◌≡◌, ◌∙◌, ◌++◌, true, false, take, get_or, ap, sym}
use Rattle.std.specs.Prelude.{◌||◌, All}
use Rattle.placed_parts.specs.Places.{master_count}
use Rattle.worker_world.specs.Placed.{mirrors_after}
use Rattle.worker_world.specs.Due.{is_due, IsUpdateTold}
use Rattle.worker_world.proofs.Reaching.{updates_told}
use Rattle.worker_world.proofs.known.Known.update.Goals as goal
use Rattle.worker_world.proofs.known.Known.update.Goals.{then-not-self, else-not-self}

pub returns-clause-told : goal.returns-clause-told
returns-clause-told c = elim c.if-not-self.branch [
  | then-not-self w ↦ λ s below k reads not.
      let part = c.args.part.now in
      let before = c.args.self.now.values.items in
      let due = w.tell_of_updates.new.due in
      let told : All (IsUpdateTold part c.args.self.now.readers due before) c.args.updates.now = rw w.as_slice.ensures.value at w.tell_of_updates.ensures.told in
      updates_told part c.args.self.now.readers due c.args.updates.now before c.put_updates.new.values.items c.requires.fits.mirrors_rise c.requires.values
      (c.put_updates.ensures ∙ ap (λ self. take (master_count part) self.values.items ++ mirrors_after part c.args.updates.now self.values.items) w.self-is)
      told s below k reads (sym (ap (λ self. is_due self.due k) w.self-is) ∙ not)
  | else-not-self w ↦ λ s below k reads not.
      let all : is_due c.if-not-self.self.due k ≡ true = ap (λ self. is_due self.due k) w.self-is ∙ ap (λ b. b || get_or c.args.self.now.due.marked.items k false) w.if-not-self.false in
      cc
]
