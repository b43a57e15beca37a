use Rattle.std.proofs.Common.{◌≤◌}
use Rattle.link_trait.specs.Links.{IsSameLink}
use Rattle.link_calls.specs.Asked.{IsReady}
use Rattle.link_calls.proofs.lives.ask_all.Given as goal

-- the link is alive, and the same one
abbrev pub invariant-loop-what : goal.invariant-loop-what
invariant-loop-what g l = record {
  counted : l.answered ≤ l.what-index;
  early : l.epoch ≤ 1;
  ready : IsReady l.epoch l.link;
  same : IsSameLink l.initial.link l.link;
}
