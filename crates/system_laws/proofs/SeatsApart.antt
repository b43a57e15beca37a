-- No event of a worker changes the part of another one.
use Rattle.std.proofs.Common.{◌≡◌, ◌≢◌, ℕ, ◌+◌, ◌<◌, Bool, true, false, cond, List, [], ◌∷◌, ◌++◌, Option, Some, None, length, set, refl, sym, ap, ◌∙◌}
use Rattle.std.specs.Prelude.{◌==◌, filter, is_none, nat_lt, if◌then◌else◌}
use Rattle.std.proofs.lemmas.List.Elements.{filter-append}
use Rattle.px_base.specs.declared.wire.Loss.{Loss}
use Rattle.px_base.specs.declared.wire.LossKind.{LossKind}
use Rattle.px_base.specs.declared.wire.Order.{Order}
use Rattle.px_base.specs.declared.wire.Order.TheVariants.{Step, Report}
use Rattle.px_base.specs.declared.wire.Answer.{Answer}
use Rattle.px_base.specs.declared.wire.Answer.TheVariants.{Stepped, Reported}
use Rattle.px_base.specs.declared.wire.Foreign.{Foreign}
use Rattle.px_base.specs.declared.wire.Update.{Update}
use Rattle.px_base.proofs.Listed.{not_equal}
use Rattle.hub_terms.specs.declared.stops.Why.{Why}
use Rattle.hub_terms.specs.declared.stops.Why.TheVariants as why
use Rattle.hub_terms.specs.declared.stops.Halt.{Halt}
use Rattle.hub_terms.specs.declared.stops.Halt.TheVariants as halt_kind
use Rattle.hub_terms.specs.declared.tasks.Task.TheVariants as task
use Rattle.hub_terms.specs.declared.workers.MemberState.{MemberState}
use Rattle.hub_terms.specs.Hubs.{Turn, worker_at, order_at, waiting_at, worker_count, after_turn}
use Rattle.hub_terms.specs.HubEvents.{after_loss, after_join, why_of, foreign_of, absorption, answer_to, answer_taken}
use Rattle.hub_terms.specs.Systems.{SystemState, Event, give, took, lost, joined, halt, world_at, with_world, new_world_at, world_after, MayCome, state_after, state_taken, AnswersValues}
use Rattle.hub_terms.specs.Seats.{seat_part, names_worker, worker_of}
use Rattle.hub_terms.specs.InStep.{IsInStep}
use Rattle.hub_laws.proofs.Workers.{live_tasked, round_tasked}
use Rattle.hub_laws.proofs.HubGave.{turn_by}
use Rattle.hub_laws.proofs.HubGave as gave
use Rattle.hub_laws.proofs.HubTook.{right_answer, stepped_order, reported_order, stepped_hub, reported_hub, stepped_is, reported_is}
use Rattle.hub_laws.proofs.HubTook as hub_took
use Rattle.hub_laws.proofs.HubChanged as changed
use Rattle.system_laws.proofs.WorldsKept.{world_elsewhere}
use Rattle.system_laws.proofs.TookWorlds.{stepped_cuts}

-- what makes the parts of j the same
pub record SameSeat (s t : SystemState) (j : ℕ) : Type 0 where
  pub job : t.job ≡ s.job
  pub cuts : t.hub.inboxes.cuts ≡ s.hub.inboxes.cuts
  pub limits : t.hub.members.limits ≡ s.hub.members.limits
  pub told : t.told ≡ s.told
  pub world : world_at t j ≡ world_at s j
  pub live : (worker_at t.hub j).live ≡ (worker_at s.hub j).live
  pub round : (worker_at t.hub j).round ≡ (worker_at s.hub j).round
  pub order : order_at t.hub j ≡ order_at s.hub j
  pub losses : filter (λ (loss : Loss). loss.worker == j) t.hub.members.losses ≡ filter (λ (loss : Loss). loss.worker == j) s.hub.members.losses
  pub refused : names_worker j t.hub.halt ≡ names_worker j s.hub.halt

same_seat : (s t : SystemState) (j : ℕ) → SameSeat s t j → seat_part t j ≡ seat_part s j
same_seat s t j same = rw (same.job, same.cuts, same.limits, same.told, same.world, same.live, same.round, same.order, same.losses, same.refused) refl

module _ (s : SystemState) (ok : IsInStep s) (i j : ℕ) (apart : j ≢ i) where
  stopped : (reason : Why) → names_worker j (Some reason) ≡ names_worker j s.hub.halt → SameSeat s (record s { hub = record s.hub { halt = Some reason } }) j
  stopped reason same = record { job = refl; cuts = refl; limits = refl; told = refl; world = refl; live = refl; round = refl; order = refl; losses = refl; refused = same }

  itself : SameSeat s s j
  itself = record { job = refl; cuts = refl; limits = refl; told = refl; world = refl; live = refl; round = refl; order = refl; losses = refl; refused = refl }

  gave_seat : MayCome s (give i) → SameSeat s (state_after s (give i)) j
  gave_seat may = turn_by (λ (turn : Turn). SameSeat s (record s { hub = after_turn s.hub i turn }) j) s.hub i
      (λ reason is. stopped reason (ap (names_worker j) (sym is))) (λ free quiet all. itself)
      (λ free quiet none. record {
        job = refl;
        cuts = refl;
        limits = refl;
        told = refl;
        world = refl;
        live = live_tasked s.hub.members i task.Report j;
        round = round_tasked s.hub.members i task.Report j;
        order = gave.order_other s.hub s.hub i (Report s.hub.members.epoch) s.hub.inboxes.boxes ok.hub may.0 may.1 j apart;
        losses = refl;
        refused = refl;
      })
      (λ free busy steps. record {
        job = refl;
        cuts = refl;
        limits = refl;
        told = refl;
        world = refl;
        live = live_tasked s.hub.members i task.Step j;
        round = round_tasked s.hub.members i task.Step j;
        order = gave.order_other s.hub s.hub i (Step s.hub.members.epoch (worker_at s.hub i).round (waiting_at s.hub i)) (set s.hub.inboxes.boxes i []) ok.hub may.0 may.1 j apart;
        losses = refl;
        refused = refl;
      })
      (λ free busy out. stopped why.Budget (sym (ap (names_worker j) free))) itself

  lost_seat : (kind : LossKind) → MayCome s (lost i kind) → SameSeat s (state_after s (lost i kind)) j
  lost_seat kind may = record {
    job = refl;
    cuts = refl;
    limits = refl;
    told = refl;
    world = world_elsewhere s i None (after_loss s.hub i kind) j apart;
    live = ap (λ (u : MemberState). u.live) (changed.lost_other s.hub i kind ok.hub may.0 may.1 j apart);
    round = changed.lost_round s.hub i kind ok.hub may.0 may.1 j;
    order = changed.lost_order_other s.hub i kind ok.hub may.0 may.1 j apart;
    losses = by_noted (is_none s.hub.halt);
    refused = by_halt s.hub.halt (nat_lt s.hub.members.limits.losses (length s.hub.members.losses + 1));
  }
    where
      append_nil : (xs : List Loss) → xs ++ [] ≡ xs
      append_nil [] = refl
      append_nil (x ∷ xs) = ap (λ (ys : List Loss). x ∷ ys) (append_nil xs)

      by_noted : (b : Bool) → filter (λ (loss : Loss). loss.worker == j) (if b then s.hub.members.losses ++ record { worker = i; epoch = s.hub.members.epoch; kind = kind } ∷ [] else s.hub.members.losses) ≡ filter (λ (loss : Loss). loss.worker == j) s.hub.members.losses
      by_noted false = refl
      by_noted true = filter-append (λ (loss : Loss). loss.worker == j) s.hub.members.losses (record { worker = i; epoch = s.hub.members.epoch; kind = kind } ∷ [])
          ∙ (ap (λ b. filter (λ (loss : Loss). loss.worker == j) s.hub.members.losses ++ cond b (record { worker = i; epoch = s.hub.members.epoch; kind = kind } ∷ []) []) (not_equal i j (λ e. apart (sym e)))
          ∙ append_nil (filter (λ (loss : Loss). loss.worker == j) s.hub.members.losses))

      by_halt : (h : Option Why) (b : Bool) → names_worker j (elim h [ Some reason ↦ Some reason | None ↦ if b then Some why.TooManyLosses else None ]) ≡ names_worker j h
      by_halt (Some reason) b = refl
      by_halt None true = refl
      by_halt None false = refl

  joined_seat : MayCome s (joined i) → SameSeat s (state_after s (joined i)) j
  joined_seat may = record {
    job = refl;
    cuts = refl;
    limits = refl;
    told = refl;
    world = world_elsewhere s i (new_world_at s i) (after_join s.hub i) j apart;
    live = ap (λ (u : MemberState). u.live) (changed.joined_other s.hub i ok.hub may.0 may.1 may.2 j apart);
    round = ap (λ (u : MemberState). u.round) (changed.joined_other s.hub i ok.hub may.0 may.1 may.2 j apart);
    order = refl;
    losses = refl;
    refused = refl;
  }

  halted_seat : (reason : Halt) → SameSeat s (state_after s (halt i reason)) j
  halted_seat reason = by_halt s.hub.halt refl
    where
      not_named : (reason : Halt) → names_worker j (Some (why_of reason i)) ≡ false
      not_named halt_kind.NoReplacement = not_equal i j (λ e. apart (sym e))
      not_named halt_kind.Memory = refl

      by_halt : (h : Option Why) → s.hub.halt ≡ h → SameSeat s (record s { hub = elim h [ Some first ↦ s.hub | None ↦ record s.hub { halt = Some (why_of reason i) } ] }) j
      by_halt (Some first) is = itself
      by_halt None is = stopped (why_of reason i) (not_named reason ∙ sym (ap (names_worker j) is))

  -- ---- an answer

  stepped_seat : (epoch round : ℕ) (sent : List Update) (changed : Bool) (updates : List Update) (inside : i < worker_count s.hub) (had : order_at s.hub i ≡ Some (Step epoch round sent)) (values : AnswersValues (Stepped epoch round changed updates)) (b : Bool) →
      SameSeat s (with_world s i (world_after s i) (stepped_hub b s.hub i changed updates)) j
  stepped_seat epoch round sent changed updates inside had values b =
      let other = hub_took.worker_other s.hub i epoch round sent changed updates ok.hub inside had values b j apart in
      record {
        job = refl;
        cuts = stepped_cuts b s.hub i changed updates;
        limits = refl;
        told = refl;
        world = world_elsewhere s i (world_after s i) (stepped_hub b s.hub i changed updates) j apart;
        live = ap (λ (u : MemberState). u.live) other;
        round = ap (λ (u : MemberState). u.round) other;
        order = hub_took.took_other s.hub i epoch round sent changed updates ok.hub inside had values b j apart;
        losses = refl;
        refused = refl;
      }

  absorbed_seat : (order : Order) (answer : Answer) → i < worker_count s.hub → order_at s.hub i ≡ Some order → foreign_of s.hub.inboxes i order answer ≡ None → AnswersValues answer → SameSeat s (with_world s i (world_after s i) (absorption s.hub i answer)) j
  absorbed_seat order (Stepped epoch round changed updates) inside had none values =
      let this = stepped_order order epoch round changed updates (right_answer s.hub.inboxes i order (Stepped epoch round changed updates) none).0 in
      rw (stepped_is s.hub i epoch round changed updates (epoch == s.hub.members.epoch) refl) (stepped_seat epoch round this.0 changed updates inside (had ∙ ap Some this.1) values (epoch == s.hub.members.epoch))
  absorbed_seat order (Reported epoch seen) inside had none known =
      let this = reported_order order epoch seen (right_answer s.hub.inboxes i order (Reported epoch seen) none).0 in
      rw (reported_is s.hub i epoch seen (epoch == s.hub.members.epoch) refl) (record {
        job = refl;
        cuts = refl;
        limits = refl;
        told = refl;
        world = world_elsewhere s i (world_after s i) (reported_hub (epoch == s.hub.members.epoch) s.hub i seen) j apart;
        live = live_tasked s.hub.members i task.Nothing j;
        round = round_tasked s.hub.members i task.Nothing j;
        order = hub_took.told_other s.hub i epoch seen ok.hub inside (had ∙ ap Some this) known (epoch == s.hub.members.epoch) j apart;
        losses = refl;
        refused = refl;
      })

  took_seat : (answer : Answer) → MayCome s (took i answer) → SameSeat s (state_after s (took i answer)) j
  took_seat answer may = by_order (order_at s.hub i) refl
    where
      by_foreign : (order : Order) → order_at s.hub i ≡ Some order → (f : Option Foreign) → foreign_of s.hub.inboxes i order answer ≡ f → SameSeat s (state_taken s i (answer_taken s.hub i answer f)) j
      by_foreign order had None none = absorbed_seat order answer may.0 had none may.2
      by_foreign order had (Some foreign) some = itself

      by_order : (o : Option Order) → order_at s.hub i ≡ o → SameSeat s (state_taken s i (answer_to s.hub i answer o)) j
      by_order None none = record { job = refl; cuts = refl; limits = refl; told = refl; world = world_elsewhere s i (world_after s i) s.hub j apart; live = refl; round = refl; order = refl; losses = refl; refused = refl }
      by_order (Some order) had = by_foreign order had (foreign_of s.hub.inboxes i order answer) refl

pub seat_kept : (s : SystemState) (e : Event) (j : ℕ) → IsInStep s → MayCome s e → worker_of e ≢ j → seat_part (state_after s e) j ≡ seat_part s j
seat_kept s (give i) j ok may other = same_seat s (state_after s (give i)) j (gave_seat s ok i j (λ e. other (sym e)) may)
seat_kept s (took i answer) j ok may other = same_seat s (state_after s (took i answer)) j (took_seat s ok i j (λ e. other (sym e)) answer may)
seat_kept s (lost i kind) j ok may other = same_seat s (state_after s (lost i kind)) j (lost_seat s ok i j (λ e. other (sym e)) kind may)
seat_kept s (joined i) j ok may other = same_seat s (state_after s (joined i)) j (joined_seat s ok i j (λ e. other (sym e)) may)
seat_kept s (halt i reason) j ok may other = same_seat s (state_after s (halt i reason)) j (halted_seat s ok i j (λ e. other (sym e)) reason)
