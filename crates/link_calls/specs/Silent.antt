-- A nursery that hands on answers and tells nothing, as contracts see it.
use Rattle.std.specs.Prelude.{false, List, [], All, if◌then◌else◌, Some, None}
use Rattle.px_base.specs.declared.wire.Answer.{Answer}
use Rattle.hub_terms.specs.Systems.{AnswersValues}
use Rattle.link_trait.specs.Plans.{Plan, LentAs, LinkMark}
use Rattle.link_trait.specs.Links.{LinkView}
use Rattle.link_trait.specs.Spawners.{SpawnerView}
use Rattle.link_trait.specs.Nurseries.{NurseryView}
use Rattle.link_calls.specs.declared.silent.SilentLink.TheInside as link
use Rattle.link_calls.specs.declared.silent.SilentSpawner.TheInside as spawner
use Rattle.link_calls.specs.declared.silent.SilentNursery.TheInside as nursery

-- a plan of nothing
abbrev pub no_plan : Plan
no_plan = record { losses = []; refusals = []; retired = 0; starts = []; faults = []; ends = [] }

-- all lendings have the same mark
abbrev pub one_mark : LentAs
one_mark = record { plan = no_plan; starts = []; links = [] }

-- and so have all links
abbrev pub link_mark : LinkMark
link_mark = record { plan = no_plan; number = 0 }

-- each answer carries values
abbrev pub CarryValues : List Answer → Type 0
CarryValues answers = All AnswersValues answers

-- what a link's fields mean
abbrev pub link_view : link.Inside → LinkView
link_view l = record { worker = l.worker; mark = link_mark; peer = None; calls = 0; reports = 0; alive = l.alive; ends = l.ends; refused = if l.alive then None else l.broken }

-- what a spawner's fields mean
abbrev pub spawner_view : spawner.Inside → SpawnerView
spawner_view s = record {
  worker = s.worker;
  starts = s.starts;
  faults = s.faults;
  ends = s.ends;
  retired = [];
  lent_as = one_mark;
  out = if s.out then Some link_mark else None;
  tells = false;
  plan = no_plan;
}

-- what a nursery's fields mean
abbrev pub nursery_view : nursery.Inside → NurseryView
nursery_view n = record {
  lent = n.lent;
  count = n.count;
  mark = one_mark;
  starts = n.starts;
  faults = n.faults;
  ends = n.ends;
  retired = [];
  room = n.room;
  tells = false;
  plan = no_plan;
}
