-- Where a worker is told that all is done, each worker has reported.
use Rattle.std.proofs.Common.{◌≡◌, ℕ, true}
use Rattle.hub_terms.specs.Hubs.{HubState, Turn, after_turn, all_reported, turn_of}
use Rattle.hub_laws.proofs.HubGave.{turn_by}
use Rattle.recovery.specs.declared.given.Turn.TheVariants.{Done}
use Rattle.recovery.specs.TurnFor.{turn_for}

pub done_reported : (hub : HubState) (i : ℕ) → turn_for i (turn_of hub i) ≡ Done → all_reported (after_turn hub i (turn_of hub i)) ≡ true
done_reported hub i = turn_by (λ (turn : Turn). turn_for i turn ≡ Done → all_reported (after_turn hub i turn) ≡ true) hub i
    (λ reason halted other. absurd (cc other))
    (λ free quiet all same. all)
    (λ free quiet none other. absurd (cc other))
    (λ free busy may other. absurd (cc other))
    (λ free busy spent other. absurd (cc other))
    (λ other. absurd (cc other))
