-- What a world knows of its part, by place.
use Rattle.std.specs.Prelude.{◌≡◌, ℕ, ◌+◌, ◌<◌, ◌≤◌, false, All, IsTrue, List, length, take, drop, slice_index}
use Rattle.px_base.specs.declared.graph.Part.{Part}
use Rattle.px_base.specs.declared.program.CoreProgram.{CoreProgram}
use Rattle.px_base.specs.declared.wire.Update.{Update}
use Rattle.px_base.specs.Classes.{is_mex}
use Rattle.px_base.specs.Values.{is_listed}
use Rattle.mirror_places.specs.Tables.{IsTableOf}
use Rattle.worker_world.specs.declared.known.Known.{Known}
use Rattle.px_base.specs.ValueSteps.{renewed_masters}
use Rattle.worker_world.specs.Readers.{AreReaders}
use Rattle.worker_world.specs.Due.{is_due}
use Rattle.placed_parts.specs.Places.{master_count}
use Rattle.worker_world.specs.Placed.{renewed_at, mirrors_after, masters_after}

-- The readers are those of the part by place, the table is the one of its mirrors, both lists of values have one
-- for each place, and there is a mark for each master. Where the program takes the least absent number, each row has room in
-- the table of stamps.
pub record IsByPlace (part : Part) (core : CoreProgram) (known : Known) : Type 0 where
  pub readers : AreReaders part known.readers
  pub table : IsTableOf part.mirrors known.table
  pub values : length known.values.items ≡ master_count part + length part.mirrors
  pub next : length known.next.items ≡ master_count part + length part.mirrors
  pub marks : length known.due.marked.items ≡ master_count part
  pub stamps : IsTrue (is_mex core.program.fold) → All (λ row. length row ≤ length known.stamps.marks.items) part.rows

-- A master that isn't due has the value that it would get. Where not all are, it has it in both lists.
pub record AreSettled (part : Part) (core : CoreProgram) (known : Known) : Type 0 where
  pub level : known.due.all ≡ false → take (master_count part) known.next.items ≡ take (master_count part) known.values.items
  pub each : (k : ℕ) → k < length part.rows → is_due known.due k ≡ false → renewed_at part core known.values.items k ≡ slice_index known.values.items k

-- The next values have the new values of the masters, and of the mirrors what they had. Where not all masters are due, none
-- changes but those that are listed.
pub record IsRenewed (part : Part) (core : CoreProgram) (before after : Known) : Type 0 where
  pub placed : IsByPlace part core after
  pub values : after.values ≡ before.values
  pub next : take (master_count part) after.next.items ≡ renewed_masters part core (take (master_count part) before.values.items) (drop (master_count part) before.values.items)
  pub kept : drop (master_count part) after.next.items ≡ drop (master_count part) before.next.items
  pub listed : after.due.all ≡ false → (k : ℕ) → k < master_count part → is_listed after.due.waiting.items k ≡ false → slice_index after.next.items k ≡ slice_index after.values.items k

-- What a Step has noted before it is in force: the updates are in place among the values, and the next ones have the new
-- values of the masters, and the old ones of the mirrors. Where not all are due, none changes but those that are listed.
pub record IsNoted (part : Part) (core : CoreProgram) (updates : List Update) (before after : Known) : Type 0 where
  pub placed : IsByPlace part core after
  pub masters : take (master_count part) after.values.items ≡ take (master_count part) before.values.items
  pub mirrors : drop (master_count part) after.values.items ≡ mirrors_after part updates before.values.items
  pub next : take (master_count part) after.next.items ≡ masters_after part core updates before.values.items
  pub kept : drop (master_count part) after.next.items ≡ drop (master_count part) before.next.items
  pub listed : after.due.all ≡ false → (k : ℕ) → k < master_count part → is_listed after.due.waiting.items k ≡ false → slice_index after.next.items k ≡ slice_index after.values.items k

-- what doesn't change but where a world is made or renewed
pub record HasSameTables (before after : Known) : Type 0 where
  pub readers : after.readers ≡ before.readers
  pub table : after.table ≡ before.table
  pub stamps : after.stamps ≡ before.stamps
  pub marks : length after.due.marked.items ≡ length before.due.marked.items
