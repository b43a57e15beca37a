-- Of a program that counts: the events but a Step's answer keep that each count goes with the deaths elsewhere.
use Rattle.std.proofs.Common.{◌≡◌, ◌≢◌, ℕ, ◌+◌, ◌<◌, ◌≤◌, Bool, true, false, not, List, [], ◌∷◌, Option, Some, None, length, get_or, arith, refl, sym, ap, subst, ◌∙◌, inl, inr, eqb-true}
use Rattle.std.specs.Prelude.{◌&&◌, ◌==◌, IsTrue, if◌then◌else◌}
use Rattle.std.specs.List.{list_any}
use Rattle.std.proofs.lemmas.Bool.{cases_eq}
use Rattle.px_base.specs.declared.graph.Read.{Read}
use Rattle.px_base.specs.declared.wire.Update.{Update}
use Rattle.px_base.specs.declared.wire.Order.{Order}
use Rattle.px_base.specs.declared.wire.Order.TheVariants.{Step, Report}
use Rattle.px_base.specs.declared.wire.LossKind.{LossKind}
use Rattle.px_base.specs.Values.{positions_below, one_if}
use Rattle.px_base.specs.Graphs.{row_at, reads_passing}
use Rattle.px_base.specs.Parts.{is_master}
use Rattle.px_base.specs.Worlds.{World, of_values, of_counts}
use Rattle.px_base.specs.CountSteps.{delta_of}
use Rattle.hub_terms.specs.Jobs.{Job}
use Rattle.hub_terms.specs.declared.workers.MemberState.{MemberState}
use Rattle.hub_terms.specs.Hubs.{worker_at, order_at, waiting_at, worker_count}
use Rattle.hub_terms.specs.HubEvents.{after_loss, after_join}
use Rattle.hub_terms.specs.UnderWay.{updates_now, current_updates, task_of}
use Rattle.hub_terms.specs.Systems.{SystemState, world_at, with_world, new_world_at}
use Rattle.hub_terms.specs.InStep.{IsInStep}
use Rattle.hub_terms.specs.Valid.{is_dead_in, is_dead_at, dead_away, dead_beside, delta_on_its_way, IsBalanced, IsCounted}
use Rattle.list_laws.proofs.Lists.{at_replicate}
use Rattle.step_laws.proofs.Counting.{passing_cons, passing_none}
use Rattle.hub_laws.proofs.Workers.{due_tasked}
use Rattle.hub_laws.proofs.HubGave as gave
use Rattle.hub_laws.proofs.HubChanged as changed
use Rattle.system_laws.proofs.WorldsKept.{world_elsewhere}
use Rattle.system_laws.proofs.Kept as all_kept

-- ---- the same deaths

pub passing_same : (f g : ℕ → Bool) (row : List Read) → ((u : ℕ) → f u ≡ g u) → reads_passing f row ≡ reads_passing g row
passing_same f g [] same = refl
passing_same f g (r ∷ row) same = let first : one_if (f r.source) ≡ one_if (g r.source) = ap one_if (same r.source) in omega (arith, passing_cons f r row, passing_cons g r row, first, passing_same f g row same)

pub any_same : (f g : ℕ → Bool) (js : List ℕ) → ((j : ℕ) → f j ≡ g j) → list_any f js ≡ list_any g js
any_same f g [] same = refl
any_same f g (j ∷ js) same = rw (same j, any_same f g js same) refl

pub any_none : (f : ℕ → Bool) (js : List ℕ) → ((j : ℕ) → f j ≡ false) → list_any f js ≡ false
any_none f [] none = refl
any_none f (j ∷ js) none = rw (none j) (any_none f js none)

pub away_same : (s t : SystemState) (i v : ℕ) → t.job ≡ s.job → worker_count t.hub ≡ worker_count s.hub → ((j u : ℕ) → is_dead_at t j u ≡ is_dead_at s j u) → dead_away t i v ≡ dead_away s i v
away_same s t i v jobs counts dead =
    passing_same (λ u. list_any (λ j. not (j == i) && is_dead_at t j u) (positions_below (worker_count t.hub))) (λ u. list_any (λ j. not (j == i) && is_dead_at s j u) (positions_below (worker_count s.hub))) (row_at t.job.rows v)
    (λ u. any_same (λ j. not (j == i) && is_dead_at t j u) (λ j. not (j == i) && is_dead_at s j u) (positions_below (worker_count t.hub)) (λ j. ap (λ b. not (j == i) && b) (dead j u))
    ∙ ap (λ n. list_any (λ j. not (j == i) && is_dead_at s j u) (positions_below n)) counts)
    ∙ ap (λ (job : Job). reads_passing (λ u. list_any (λ j. not (j == i) && is_dead_at s j u) (positions_below (worker_count s.hub))) (row_at job.rows v)) jobs

-- none is dead where all are due
pub none_away : (s : SystemState) (i v : ℕ) → ((j u : ℕ) → is_dead_at s j u ≡ false) → dead_away s i v ≡ 0
none_away s i v none = passing_none (λ u. list_any (λ j. not (j == i) && is_dead_at s j u) (positions_below (worker_count s.hub))) (row_at s.job.rows v)
    (λ u. any_none (λ j. not (j == i) && is_dead_at s j u) (positions_below (worker_count s.hub)) (λ j. ap (λ b. not (j == i) && b) (none j u) ∙ and_false (not (j == i))))
  where
    and_false : (b : Bool) → (b && false) ≡ false
    and_false true = refl
    and_false false = refl

pub balance_on : (s t : SystemState) (i v : ℕ) (due : Bool) (world : Option World) → t.job ≡ s.job → delta_on_its_way t i v ≡ delta_on_its_way s i v → dead_away t i v ≡ dead_away s i v → IsBalanced s i v due world → IsBalanced t i v due world
balance_on s t i v due None jobs deltas aways old = omega (arith, deltas, aways, old)
balance_on s t i v due (Some (of_values w)) jobs deltas aways old = tt
balance_on s t i v true (Some (of_counts w)) jobs deltas aways old = omega (arith, deltas, aways, old)
balance_on s t i v false (Some (of_counts w)) jobs deltas aways old =
    let rows : row_at t.job.rows v ≡ row_at s.job.rows v = ap (λ (job : Job). row_at job.rows v) jobs in
    let beside : dead_beside (of_counts w) (row_at t.job.rows v) ≡ dead_beside (of_counts w) (row_at s.job.rows v) = ap (dead_beside (of_counts w)) rows in
    let lengths : length (row_at t.job.rows v) ≡ length (row_at s.job.rows v) = ap length rows in
    omega (arith, deltas, aways, old, beside, lengths)

-- a worker that is due, or missing, has all that is away on its way
pub balanced_due : (s : SystemState) (i v : ℕ) (world : Option World) → delta_on_its_way s i v ≡ dead_away s i v → IsBalanced s i v true world
balanced_due s i v None is = is
balanced_due s i v (Some (of_values w)) is = tt
balanced_due s i v (Some (of_counts w)) is = is

module _ (s : SystemState) (core : List ℕ) (ok : IsInStep s) (counted : IsCounted s core) where
  -- ---- a turn

  -- an order that leaves what is on its way as it is
  pub given_balance : (k : ℕ) (inside : k < worker_count s.hub) (live : (worker_at s.hub k).live ≡ true) (boxes : List (List Update)) (order : Order) →
      ((v : ℕ) → delta_of (get_or boxes k []) v + delta_of (updates_now s.hub.members.epoch (Some order)) v ≡ delta_on_its_way s k v) → ((j : ℕ) → j ≢ k → get_or boxes j [] ≡ waiting_at s.hub j) →
      (i v : ℕ) → i < worker_count s.hub → IsTrue (is_master s.hub.inboxes.cuts i v) → IsBalanced (record s { hub = gave.given s.hub s.hub k order boxes ok.hub inside live }) i v (worker_at (gave.given s.hub s.hub k order boxes ok.hub inside live) i).due (world_at s i)
  given_balance k inside live boxes order here others i v below master =
      let new : SystemState = record s { hub = gave.given s.hub s.hub k order boxes ok.hub inside live } in
      let deltas : delta_on_its_way new i v ≡ delta_on_its_way s i v = elim (cases_eq i k) [
        | inl same ↦ subst (λ (l : ℕ). delta_on_its_way new l v ≡ delta_on_its_way s l v) (sym same) (rw (gave.order_same s.hub s.hub k order boxes ok.hub inside live) (here v))
        | inr apart ↦ rw (others i apart, gave.order_other s.hub s.hub k order boxes ok.hub inside live i apart) refl
      ] in
      rw (due_tasked s.hub.members k (task_of (Some order)) i) (balance_on s new i v (worker_at s.hub i).due (world_at s i) refl deltas
      (away_same s new i v refl refl (λ j u. ap (λ b. not b && is_dead_in (world_at s j) u) (due_tasked s.hub.members k (task_of (Some order)) j)))
      (counted.balance i v below master))

  -- ---- a loss

  pub lost_balance : (k : ℕ) (kind : LossKind) (inside : k < worker_count s.hub) (live : (worker_at s.hub k).live ≡ true) (i v : ℕ) →
      IsBalanced (with_world s k None (after_loss s.hub k kind)) i v (worker_at (after_loss s.hub k kind) i).due (world_at (with_world s k None (after_loss s.hub k kind)) i)
  lost_balance k kind inside live i v =
      let new : SystemState = with_world s k None (after_loss s.hub k kind) in
      rw (changed.lost_due s.hub k kind ok.hub inside live i) (balanced_due new i v (world_at new i)
      (ap (λ (box : List Update). delta_of box v + delta_of (current_updates new.hub i) v) (at_replicate {X = List Update} (length s.hub.inboxes.boxes) [] i)
      ∙ (ap (λ (us : List Update). 0 + delta_of us v) (none_current (order_at new.hub i) refl) ∙ sym (none_away new i v (λ j u. ap (λ b. not b && is_dead_in (world_at new j) u) (changed.lost_due s.hub k kind ok.hub inside live j))))))
    where
      none_current : (o : Option Order) → order_at (after_loss s.hub k kind) i ≡ o → updates_now (s.hub.members.epoch + 1) o ≡ []
      none_current None is = refl
      none_current (Some (Report epoch)) is = refl
      none_current (Some (Step epoch round updates)) is =
          let apart : i ≢ k = changed.order_apart s.hub k kind ok.hub inside live i (Step epoch round updates) is in
          let early = (ok.hub.orders i (Step epoch round updates) (sym (changed.lost_order_other s.hub k kind ok.hub inside live i apart) ∙ is)).not_later in
          not_now (epoch == s.hub.members.epoch + 1) refl early
        where
          not_now : (b : Bool) → (epoch == s.hub.members.epoch + 1) ≡ b → epoch ≤ s.hub.members.epoch → (if b then updates else []) ≡ []
          not_now true is early = absurd (omega (arith, eqb-true epoch (s.hub.members.epoch + 1) is, early))
          not_now false is early = refl

  -- ---- a join

  pub joined_balance : (k : ℕ) (inside : k < worker_count s.hub) (missing : (worker_at s.hub k).live ≡ false) (free : s.hub.halt ≡ None) (i v : ℕ) → i < worker_count s.hub → IsTrue (is_master s.hub.inboxes.cuts i v) →
      IsBalanced (with_world s k (new_world_at s k) (after_join s.hub k)) i v (worker_at (after_join s.hub k) i).due (world_at (with_world s k (new_world_at s k) (after_join s.hub k)) i)
  joined_balance k inside missing free i v below master =
      let new : SystemState = with_world s k (new_world_at s k) (after_join s.hub k) in
      let was_due : (worker_at s.hub k).due ≡ true = (ok.hub.missing k missing).due in
      let is_due : (worker_at new.hub k).due ≡ true = ap (λ (u : MemberState). u.due) (changed.joined_worker s.hub k ok.hub inside missing free) in
      let dead : (j u : ℕ) → is_dead_at new j u ≡ is_dead_at s j u = (λ j u. elim (cases_eq j k) [
        | inl same ↦ subst (λ (l : ℕ). is_dead_at new l u ≡ is_dead_at s l u) (sym same) (ap (λ b. not b && is_dead_in (world_at new k) u) is_due ∙ sym (ap (λ b. not b && is_dead_in (world_at s k) u) was_due))
        | inr apart ↦ rw (changed.joined_other s.hub k ok.hub inside missing free j apart, world_elsewhere s k (new_world_at s k) (after_join s.hub k) j apart) refl
      ]) in
      let aways : dead_away new i v ≡ dead_away s i v = away_same s new i v refl refl dead in
      elim (cases_eq i k) [
        | inl same ↦ subst (λ (l : ℕ). IsBalanced new l v (worker_at new.hub l).due (world_at new l)) (sym same)
            (rw is_due (balanced_due new k v (world_at new k) (
            let at_k = subst (λ (l : ℕ). IsBalanced s l v (worker_at s.hub l).due (world_at s l)) same (counted.balance i v below master) in
            let before : delta_on_its_way s k v ≡ dead_away s k v = no_world_balance (worker_at s.hub k).due (world_at s k) (gone k missing) at_k in
            let away_k : dead_away new k v ≡ dead_away s k v = away_same s new k v refl refl dead in
            before ∙ sym away_k)))
        | inr apart ↦ rw (changed.joined_other s.hub k ok.hub inside missing free i apart, world_elsewhere s k (new_world_at s k) (after_join s.hub k) i apart)
            (balance_on s new i v (worker_at s.hub i).due (world_at s i) refl refl aways (counted.balance i v below master))
      ]
    where
      no_world_balance : (due : Bool) (o : Option World) → o ≡ None → IsBalanced s k v due o → delta_on_its_way s k v ≡ dead_away s k v
      no_world_balance due None is old = old
      no_world_balance due (Some w) is old = absurd (cc is)

      gone : (k : ℕ) → (worker_at s.hub k).live ≡ false → world_at s k ≡ None
      gone k missing = by_world (world_at s k) refl
        where
          by_world : (o : Option World) → world_at s k ≡ o → world_at s k ≡ None
          by_world None is = is
          by_world (Some w) is = absurd (cc ((all_kept.some_told s k w ok.live_worlds is).1, missing))
