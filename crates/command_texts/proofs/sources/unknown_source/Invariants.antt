use Rattle.std.proofs.Common.{◌≡◌, ℕ, ◌<◌, true, get_or}
use Rattle.px_base.specs.Values.{is_listed}
use Rattle.command_texts.proofs.sources.unknown_source.Given as goal

-- each source so far is an id
abbrev pub invariant-loop-id : goal.invariant-loop-id
invariant-loop-id l = (k : ℕ) → k < l.id-index → is_listed l.ids (get_or l.sources k 0) ≡ true
