-- Each event keeps that the values of workers that aren't due are at all their mirrors, or on their way there.
use Rattle.std.proofs.Common.{◌≡◌, ◌≢◌, ℕ, ◌-◌, ◌<◌, Bool, true, false, not, List, [], Option, Some, None, length, get_or, set, arith, refl, sym, ap, subst, ◌∙◌, inl, inr, eq-eqb}
use Rattle.std.specs.Prelude.{◌&&◌, ◌==◌, is_none, slice_index}
use Rattle.std.proofs.lemmas.List.{get_or-set_same, get_or-set_other}
use Rattle.std.proofs.lemmas.Bool.{cases_eq}
use Rattle.px_base.specs.declared.wire.Update.{Update}
use Rattle.px_base.specs.declared.wire.Order.{Order}
use Rattle.px_base.specs.declared.wire.Order.TheVariants.{Step, Report}
use Rattle.px_base.specs.declared.wire.LossKind.{LossKind}
use Rattle.px_base.specs.Values.{place_of}
use Rattle.px_base.specs.Worlds.{World, CountWorld, of_values, of_counts}
use Rattle.hub_terms.specs.declared.workers.MemberState.{MemberState}
use Rattle.hub_terms.specs.Hubs.{Turn, worker_at, order_at, waiting_at, worker_count, turn_of, after_turn}
use Rattle.hub_terms.specs.HubEvents.{after_loss, after_join}
use Rattle.hub_terms.specs.UnderWay.{value_in, updates_now, current_updates, task_of}
use Rattle.hub_terms.specs.HubInStep.{IsHubInStep}
use Rattle.hub_terms.specs.Systems.{SystemState, world_at, with_world, new_world_at}
use Rattle.hub_terms.specs.InStep.{IsForJob, LiveHaveWorlds, IsNewest, WillHave, WorkerWillHave, ValuesArrive}
use Rattle.hub_laws.proofs.Workers.{due_tasked}
use Rattle.hub_laws.proofs.HubGave.{turn_by}
use Rattle.hub_laws.proofs.HubGave as gave
use Rattle.hub_laws.proofs.HubChanged as changed
use Rattle.system_laws.proofs.WorldsKept.{world_elsewhere}

-- ---- the same newest value

-- an inbox with the same value for v serves as well
pub will_on : (box other sent : List Update) (due : Bool) (world : Option World) (v x : ℕ) → value_in other v ≡ value_in box v → WillHave box sent due world v x → WillHave other sent due world v x
will_on box other sent due (Some (of_values w)) v x same will = subst (λ (o : Option ℕ). IsNewest o (value_in sent v) ((due ≡ false) × (slice_index w.mirrors (place_of w.part.mirrors v) ≡ x)) x) (sym same) will
will_on box other sent due (Some (of_counts w)) v x same will = tt
will_on box other sent due None v x same will = same ∙ will

-- where the inbox has the value, all else is the same
pub has_in_box : (box sent : List Update) (due : Bool) (world : Option World) (v x : ℕ) → value_in box v ≡ Some x → WillHave box sent due world v x
has_in_box box sent due (Some (of_values w)) v x is = subst (λ (o : Option ℕ). IsNewest o (value_in sent v) ((due ≡ false) × (slice_index w.mirrors (place_of w.part.mirrors v) ≡ x)) x) (sym is) refl
has_in_box box sent due (Some (of_counts w)) v x is = tt
has_in_box box sent due None v x is = is

moved_on : (o : Option ℕ) (HasSeen : Type 0) (x : ℕ) → IsNewest o None HasSeen x → IsNewest None o HasSeen x
moved_on (Some y) HasSeen x h = h
moved_on None HasSeen x h = h

-- what waits is handed out
handed_out : (box : List Update) (due : Bool) (world : Option World) (v x : ℕ) → is_none world ≡ false → WillHave box [] due world v x → WillHave [] box due world v x
handed_out box due (Some (of_values w)) v x there will = moved_on (value_in box v) ((due ≡ false) × (slice_index w.mirrors (place_of w.part.mirrors v) ≡ x)) x will
handed_out box due (Some (of_counts w)) v x there will = tt
handed_out box due None v x there will = cc

still_due : (o : Option ℕ) (HasSeen : Type 0) (x : ℕ) → (HasSeen → ⊥) → IsNewest o None HasSeen x → o ≡ Some x
still_due (Some y) HasSeen x none h = ap Some h
still_due None HasSeen x none h = absurd (none h)

-- for a worker that is due, the value is in its inbox, where no Step of this epoch is under way
pub due_in_box : (box : List Update) (world : Option World) (v x : ℕ) → ((w : CountWorld) → world ≡ Some (of_counts w) → ⊥) → WillHave box [] true world v x → value_in box v ≡ Some x
due_in_box box (Some (of_values w)) v x plain will = still_due (value_in box v) ((true ≡ false) × (slice_index w.mirrors (place_of w.part.mirrors v) ≡ x)) x (λ seen. cc (seen.0)) will
due_in_box box (Some (of_counts w)) v x plain will = absurd (plain w refl)
due_in_box box None v x plain will = will

-- ---- a turn

module _ (s : SystemState) (k : ℕ) (ok : IsHubInStep s.hub) (have : LiveHaveWorlds s) (arrive : ValuesArrive s) (inside : k < worker_count s.hub) (live : (worker_at s.hub k).live ≡ true) (idle : order_at s.hub k ≡ None) where
  told_by : (i : ℕ) (w : World) → world_at s i ≡ Some w → is_none (world_at s k) ≡ false
  told_by i w is = have k ∙ by_told s.told (worker_at s.hub i).live (ap is_none (sym is) ∙ have i)
    where
      by_told : (a b : Bool) → false ≡ not (a && b) → not (a && (worker_at s.hub k).live) ≡ false
      by_told true b h = ap not live
      by_told false b h = cc

  given_arrive : (boxes : List (List Update)) (order : Order) →
      ((v x : ℕ) → WorkerWillHave s k v x → is_none (world_at s k) ≡ false → WillHave (get_or boxes k []) (updates_now s.hub.members.epoch (Some order)) (worker_at s.hub k).due (world_at s k) v x) →
      ((j : ℕ) → j ≢ k → get_or boxes j [] ≡ waiting_at s.hub j) → ValuesArrive (record s { hub = gave.given s.hub s.hub k order boxes ok inside live })
  given_arrive boxes order here others i j v w is current master mirror below =
      let old = arrive i j v w is (sym (due_tasked s.hub.members k (task_of (Some order)) i) ∙ current) master mirror below in
      rw (due_tasked s.hub.members k (task_of (Some order)) j) (elim (cases_eq j k) [
        | inl same ↦ subst (λ (l : ℕ). WillHave (get_or boxes l []) (updates_now s.hub.members.epoch (order_at (gave.given s.hub s.hub k order boxes ok inside live) l)) (worker_at s.hub l).due (world_at s l) v (slice_index w.masters (v - w.part.low))) (sym same)
            (rw (gave.order_same s.hub s.hub k order boxes ok inside live) (here v (slice_index w.masters (v - w.part.low)) (subst (λ (l : ℕ). WorkerWillHave s l v (slice_index w.masters (v - w.part.low))) same old) (told_by i (of_values w) is)))
        | inr apart ↦ rw (others j apart, gave.order_other s.hub s.hub k order boxes ok inside live j apart) old
      ])

  pub gave_arrive : ValuesArrive (record s { hub = after_turn s.hub k (turn_of s.hub k) })
  gave_arrive = turn_by (λ (turn : Turn). ValuesArrive (record s { hub = after_turn s.hub k turn })) s.hub k
      (λ reason is. arrive)
      (λ free quiet all. arrive)
      (λ free quiet none. given_arrive s.hub.inboxes.boxes (Report s.hub.members.epoch) (λ v x will there. rw idle at will) (λ j apart. refl))
      (λ free busy may. (let room : k < length s.hub.inboxes.boxes = omega (arith, ok.places.boxes) in
      given_arrive (set s.hub.inboxes.boxes k []) (Step s.hub.members.epoch (worker_at s.hub k).round (waiting_at s.hub k))
      (λ v x will there. (let now : (s.hub.members.epoch == s.hub.members.epoch) ≡ true = eq-eqb s.hub.members.epoch s.hub.members.epoch refl in
      let before : WillHave (waiting_at s.hub k) [] (worker_at s.hub k).due (world_at s k) v x = rw idle at will in
      rw (get_or-set_same s.hub.inboxes.boxes k [] [] room, now) (handed_out (waiting_at s.hub k) (worker_at s.hub k).due (world_at s k) v x there before)))
      (λ j apart. get_or-set_other s.hub.inboxes.boxes k j [] [] apart)))
      (λ free busy out. arrive)
      arrive

-- ---- a loss

pub lost_arrive : (s : SystemState) (i : ℕ) (kind : LossKind) → IsHubInStep s.hub → i < worker_count s.hub → (worker_at s.hub i).live ≡ true → ValuesArrive (with_world s i None (after_loss s.hub i kind))
lost_arrive s i kind ok inside live j l v w is current = absurd (cc (current, changed.lost_due s.hub i kind ok inside live j))

-- ---- a join

module _ (s : SystemState) (k : ℕ) (ok : IsHubInStep s.hub) (fit : IsForJob s) (have : LiveHaveWorlds s) (arrive : ValuesArrive s) (inside : k < worker_count s.hub) (missing : (worker_at s.hub k).live ≡ false) (free : s.hub.halt ≡ None) where
  joined : SystemState
  joined = with_world s k (new_world_at s k) (after_join s.hub k)

  no_world : world_at s k ≡ None
  no_world = by_world (world_at s k) (have k ∙ ap (λ l. not (s.told && l)) missing ∙ by_told s.told)
    where
      by_told : (b : Bool) → not (b && false) ≡ true
      by_told true = refl
      by_told false = refl

      by_world : (o : Option World) → is_none o ≡ true → o ≡ None
      by_world None h = refl
      by_world (Some w) h = cc

  pub joined_arrive : ValuesArrive (with_world s k (new_world_at s k) (after_join s.hub k))
  joined_arrive i j v w is current master mirror below =
      let newcomer_due : (worker_at (after_join s.hub k) k).due ≡ true = ap (λ (u : MemberState). u.due) (changed.joined_worker s.hub k ok inside missing free) in
      let sender : i ≢ k = (λ e. cc (subst (λ (l : ℕ). (worker_at (after_join s.hub k) l).due ≡ false) e current, newcomer_due)) in
      let there : world_at s i ≡ Some (of_values w) = sym (world_elsewhere s k (new_world_at s k) (after_join s.hub k) i sender) ∙ is in
      let old = arrive i j v w there (sym (ap (λ (u : MemberState). u.due) (changed.joined_other s.hub k ok inside missing free i sender)) ∙ current) master mirror below in
      elim (cases_eq j k) [
        | inl same ↦
            (let in_box : value_in (waiting_at s.hub k) v ≡ Some (slice_index w.masters (v - w.part.low)) = rw (same, no_world) at old in
            has_in_box (waiting_at s.hub j) (current_updates s.hub j) (worker_at (after_join s.hub k) j).due (world_at (with_world s k (new_world_at s k) (after_join s.hub k)) j) v (slice_index w.masters (v - w.part.low)) (rw same in_box))
        | inr apart ↦ rw (changed.joined_other s.hub k ok inside missing free j apart, world_elsewhere s k (new_world_at s k) (after_join s.hub k) j apart) old
      ]
