-- What a quiet state is, by class, from the facts that every state keeps.
use Rattle.std.proofs.Common.{◌≡◌, ℕ, ◌+◌, ◌<◌, true, List, Some, length, subst}
use Rattle.std.specs.Prelude.{Result, Ok, MatchResult, slice_index}
use Rattle.px_base.specs.declared.program.Class.{Class}
use Rattle.px_base.specs.declared.program.Class.TheVariants.{LocallyCorrecting, GloballyCorrecting}
use Rattle.px_base.specs.declared.program.Refused.{Refused}
use Rattle.px_base.specs.Classes.{class_of}
use Rattle.px_base.specs.Parts.{low_of}
use Rattle.px_base.specs.Values.{is_in}
use Rattle.px_base.specs.Worlds.{ValueWorld, CountWorld, of_values, of_counts}
use Rattle.hub_terms.specs.Hubs.{worker_count, is_quiet_hub}
use Rattle.hub_terms.specs.Systems.{SystemState, world_at}
use Rattle.hub_terms.specs.InStep.{IsInStep}
use Rattle.hub_terms.specs.Valid.{IsCoreAnswer, ValidAs, IsValid}
use Rattle.valid_laws.proofs.Between.{lowest}
use Rattle.valid_laws.proofs.CountValid.{core_of}
use Rattle.quiet_laws.proofs.Quiet.{quiet_masters}
use Rattle.quiet_laws.proofs.QuietCounts.{quiet_living}

pub values_are_answer : (s : SystemState) (answer : List ℕ) (i k : ℕ) (u : ValueWorld) → IsInStep s → IsValid s → s.told ≡ true → is_quiet_hub s.hub ≡ true → class_of s.job.core.program ≡ Ok LocallyCorrecting →
    IsCoreAnswer s.job answer → i < worker_count s.hub → world_at s i ≡ Some (of_values u) → k < length u.masters → slice_index u.masters k ≡ slice_index answer (low_of s.hub.inboxes.cuts i + k)
values_are_answer s answer i k u ok valid told quiet class is inside mine there =
    quiet_masters s answer (lowest s.job answer ok.job.sound class is) ok
    (subst (λ (r : Result Class Refused). MatchResult r (λ class. ValidAs class s answer) (λ refused. ⊥)) class (valid told answer is)) told quiet i k u inside mine there

pub living_are_core : (s : SystemState) (answer : List ℕ) (i k : ℕ) (c : CountWorld) → IsInStep s → IsValid s → s.told ≡ true → is_quiet_hub s.hub ≡ true → class_of s.job.core.program ≡ Ok GloballyCorrecting →
    IsCoreAnswer s.job answer → i < worker_count s.hub → world_at s i ≡ Some (of_counts c) → k < length c.alive → is_in c.alive k ≡ is_in answer (low_of s.hub.inboxes.cuts i + k)
living_are_core s answer i k c ok valid told quiet class is inside mine there =
    quiet_living s answer (core_of s.job answer ok.job.sound class is) ok
    (subst (λ (r : Result Class Refused). MatchResult r (λ class. ValidAs class s answer) (λ refused. ⊥)) class (valid told answer is)) told quiet i k c inside mine there
