use Rattle.std.proofs.Common.{ℕ, [], ◌+◌, ◌<◌, ◌≤◌, ◌≢◌, ◌∙◌, ap, arith, inl, inr, subst, sym}
use Rattle.std.proofs.lemmas.Bool.{cases_lt}
use Rattle.px_base.specs.Values.{is_in}
use Rattle.core_solver.specs.Peelings.{HaveEnough, IsPeeling, PeelState}
use Rattle.core_solver.proofs.Peeled.{all_are_alive, checked, starts_peeling}
use Rattle.core_solver.proofs.peeling.Peeling.bury_short.Goals as goal

other_below : (u v : ℕ) → u < v + 1 → u ≢ v → u < v
other_below u v below apart = elim (cases_lt u v) [ inl low ↦ low | inr last ↦ absurd (apart (omega arith)) ]

above_is_other : (u v : ℕ) → v + 1 ≤ u → u ≢ v
above_is_other u v above = λ same. omega (arith, above, same)

pub loop-v-init : goal.loop-v-init
loop-v-init c =
    let k = c.args.needed in
    let rows = c.args.rows.now in
    record {
      peeling = subst (λ (s : PeelState). IsPeeling k rows [] s) (sym c.requires.start) (starts_peeling k rows c.requires.fit);
      enough = λ u below living. absurd (omega arith);
      living = λ u low inside. ap (λ (s : PeelState). is_in s.alive u) c.requires.start ∙ all_are_alive rows u inside;
    }

pub loop-v-preserved : goal.loop-v-preserved
loop-v-preserved c =
    let k = c.args.needed in
    let rows = c.args.rows.now in
    let v = c.loop-v.v in
    let i = c.loop-v.invariant in
    let is = c.in_ok-bury_if_short.ensures in
    let step = checked k (v + 1) rows [] c.loop-v.self v c.requires.mutual i.peeling (i.living v (omega arith) (omega (arith, c.row_count-v-end.ensures))) (λ u below apart living. i.enough u (other_below u v below apart) living) in
    record {
      peeling = subst (λ (s : PeelState). IsPeeling k rows [] s) (sym is) step.peeling;
      enough = subst (λ (s : PeelState). HaveEnough k (v + 1) s) (sym is) step.enough;
      living = λ u low inside. ap (λ (s : PeelState). is_in s.alive u) is ∙ step.others u (above_is_other u v low) ∙ i.living u (omega arith) inside;
    }
