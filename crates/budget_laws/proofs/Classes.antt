-- What each class of programs gives, as one law; and so the facts on rounds of every run.
use Rattle.std.proofs.Common.{◌≡◌, ℕ, suc, Bool, true, List, length, arith, refl, sym, ap, ◌∙◌}
use Rattle.std.specs.Prelude.{Result, Ok, Err, IsOk}
use Rattle.px_base.specs.declared.program.Class.{Class}
use Rattle.px_base.specs.declared.program.Class.TheVariants.{SelfStabilising, LocallyCorrecting, GloballyCorrecting}
use Rattle.px_base.specs.declared.program.Refused.{Refused}
use Rattle.px_base.specs.declared.wire.Order.{Order}
use Rattle.px_base.specs.Classes.{class_of}
use Rattle.px_base.specs.Parts.{IsWorkerCuts}
use Rattle.px_base.specs.Worlds.{World}
use Rattle.hub_terms.specs.declared.tasks.Limits.{Limits}
use Rattle.hub_terms.specs.Jobs.{Job}
use Rattle.hub_terms.specs.Systems.{SystemState, Event, MayCome, state_after, opening_system}
use Rattle.hub_terms.specs.InStep.{IsInStep}
use Rattle.hub_terms.specs.Valid.{IsValid}
use Rattle.settling_laws.specs.Settling.{IsLowBy, IsRightBy, last_settling}
use Rattle.settling_laws.specs.SettledWorlds.{ValuesSettled, ValuesRead, CountsSettled, CountsRead, IsSettledAt, ReadsSettled}
use Rattle.round_laws.specs.OnTime.{IsTimed, AllowsEnough, IsOnTime, RoundsAreWithin}
use Rattle.round_laws.proofs.InTime.{Settles}
use Rattle.round_laws.proofs.Suffice.{same_run, some_part, event_in_time, event_in_budget, opens_in_time}
use Rattle.budget_laws.proofs.Correcting.{local_settles}
use Rattle.budget_laws.proofs.Stabilising.{stabilising_settles}
use Rattle.budget_laws.proofs.Dying.{counting_settles}

-- ---- one law for all classes

-- what is settled may be said in other words
settles_like : (S T : Job → ℕ → World → Type 0) (Q R : Job → ℕ → World → Order → Type 0) (last : Job → ℕ) (s : SystemState) →
    ((k : ℕ) (w : World) → S s.job k w → T s.job k w) → ((k : ℕ) (w : World) → T s.job k w → S s.job k w) →
    ((k : ℕ) (w : World) (order : Order) → Q s.job k w order → R s.job k w order) → ((k : ℕ) (w : World) (order : Order) → R s.job k w order → Q s.job k w order) →
    Settles S Q last s → Settles T R last s
settles_like S T Q R last s there back read unread old = record {
  given = λ i k w inside mine idle each known. read k w _ (old.given i k w inside mine idle each (λ j u is. (let here = known j u is in (here.0, back k u here.1))));
  begun = λ i epoch round updates w inside mine had now. there 0 _ (old.begun i epoch round updates w inside mine had now);
  more = λ i k epoch round updates w inside mine had now settled reads. there (suc k) _ (old.more i k epoch round updates w inside mine had now (back k w settled) (unread k w _ reads));
  ended = λ i epoch round updates w changed sent inside mine had now up settled reads answered.
      old.ended i epoch round updates w changed sent inside mine had now up (back (last s.job) w settled) (unread (last s.job) w _ reads) answered;
}

pub class_settles : (s : SystemState) → IsInStep s → IsValid s → s.told ≡ true → Settles IsSettledAt ReadsSettled last_settling s
class_settles s ok valid told = by_class (class_of s.job.core.program) refl ok.job.sound.class
  where
    by_class : (r : Result Class Refused) → class_of s.job.core.program ≡ r → IsOk r → Settles IsSettledAt ReadsSettled last_settling s
    by_class (Ok SelfStabilising) class accepted = settles_like (ValuesSettled IsRightBy) IsSettledAt (ValuesRead IsRightBy) ReadsSettled last_settling s
        (λ k w h. rw class h) (λ k w h. rw class at h) (λ k w order h. rw class h) (λ k w order h. rw class at h) (stabilising_settles s ok class)
    by_class (Ok LocallyCorrecting) class accepted = settles_like (ValuesSettled IsLowBy) IsSettledAt (ValuesRead IsLowBy) ReadsSettled last_settling s
        (λ k w h. rw class h) (λ k w h. rw class at h) (λ k w order h. rw class h) (λ k w order h. rw class at h) (local_settles s ok valid told class)
    by_class (Ok GloballyCorrecting) class accepted = settles_like CountsSettled IsSettledAt CountsRead ReadsSettled last_settling s
        (λ k w h. rw class h) (λ k w h. rw class at h) (λ k w order h. rw class h) (λ k w order h. rw class at h) (counting_settles s ok valid told class)
    by_class (Err refused) class accepted = absurd (cc accepted)

-- ---- every event, and the opening

pub opens_on_time : (cuts : List ℕ) (limits : Limits) (told : Bool) (job : Job) → IsWorkerCuts (length job.rows) cuts → IsOnTime (opening_system cuts limits told job)
opens_on_time cuts limits told job cut = record {
  facts = λ timed. opens_in_time IsSettledAt ReadsSettled last_settling cuts limits told job (some_part cut);
  budget = λ timed enough h. cc h;
}

-- no event changes whether a state is timed, nor how many rounds it allows
was_timed : (s : SystemState) (e : Event) → IsTimed (state_after s e) → IsTimed s
was_timed s e timed = record {
  told = sym (same_run s e).told ∙ timed.told;
  even = ap (λ (l : Limits). l.lag) (sym (same_run s e).limits) ∙ timed.even;
}

allowed_enough : (s : SystemState) (e : Event) → AllowsEnough (state_after s e) → AllowsEnough s
allowed_enough s e enough = rw ((same_run s e).job, (same_run s e).limits) at enough

pub event_on_time : (s : SystemState) (e : Event) → IsInStep s → IsValid s → IsOnTime s → MayCome s e → IsOnTime (state_after s e)
event_on_time s e ok valid old may = record {
  facts = λ after. (let timed = was_timed s e after in
      event_in_time IsSettledAt ReadsSettled last_settling s e ok (class_settles s ok valid timed.told) timed.even timed.told may (old.facts timed));
  budget = λ after allowed. (let timed = was_timed s e after in let enough = allowed_enough s e allowed in
      event_in_budget IsSettledAt ReadsSettled last_settling s e ok (some_part ok.job.cuts) (omega (arith, enough)) (old.facts timed) (old.budget timed enough));
}

-- each round is within its bound
pub on_time_within : (s : SystemState) → IsTimed s → IsOnTime s → RoundsAreWithin s
on_time_within s timed time each i live = omega (arith, ((time.facts timed).busy each).rounds i live)
