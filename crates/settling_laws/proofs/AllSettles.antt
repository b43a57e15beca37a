-- All has settled after one round fewer than there are vertices, in each class.
use Rattle.std.proofs.Common.{◌≡◌, ℕ, suc, ◌-◌, ◌<◌, Bool, true, false, List, length, refl, sym, subst, ◌∙◌, arith}
use Rattle.std.specs.Prelude.{slice_index}
use Rattle.px_base.specs.declared.program.Class.TheVariants.{SelfStabilising, LocallyCorrecting, GloballyCorrecting}
use Rattle.px_base.specs.Values.{is_in}
use Rattle.px_base.specs.Answers.{IsKCore, reads_needed}
use Rattle.px_base.specs.Laws.{IsOrdered, NeverImproves}
use Rattle.consistent_solver.specs.CoreLists.{IsGreatestCoreConsistent}
use Rattle.consistent_solver.proofs.Turning.{no_mex}
use Rattle.hub_terms.specs.Jobs.{Job}
use Rattle.settling_laws.specs.Settling.{IsSoundAs, last_settling, value_after, IsShallow, IsGathered, is_left, is_above_layer}
use Rattle.settling_laws.proofs.ClassFacts.{never_improves}
use Rattle.settling_laws.proofs.Renewals.{settled_after}
use Rattle.settling_laws.proofs.Depths.{all_shallow, right_list}
use Rattle.settling_laws.proofs.Peeling.{left_is_core, core_is_left}

pub lowest_at_last : (job : Job) (answer : List ℕ) (v : ℕ) → IsSoundAs LocallyCorrecting job → IsGreatestCoreConsistent job.core job.rows job.starts answer → v < length job.rows →
    value_after job (last_settling job) v ≡ slice_index answer v
lowest_at_last job answer v job_is is inside = settled_after job.core job.rows job.starts answer (no_mex job.core.program job_is.of_class) never job_is.sound.rows is job_is.sound.starts v inside
  where
    never : NeverImproves job.core
    never = rw job_is.sound.core (never_improves job.core.program job_is.of_class)

-- the reads of a self-stabilising job are in some order
in_order : (job : Job) → IsSoundAs SelfStabilising job → IsOrdered job.rows
in_order job job_is = rw job_is.of_class at job_is.sound.suit

pub shallow_at_last : (job : Job) (v : ℕ) → IsSoundAs SelfStabilising job → v < length job.rows → IsShallow job.rows (last_settling job) v
shallow_at_last job v job_is inside = all_shallow job.rows (in_order job job_is) (last_settling job) v inside (omega arith)

pub some_right : (job : Job) → IsSoundAs SelfStabilising job → (list : List ℕ) × IsGathered job list
some_right job job_is = right_list job (in_order job job_is)

pub core_at_last : (job : Job) (core : List ℕ) (v : ℕ) → IsSoundAs GloballyCorrecting job → IsKCore (reads_needed job.core.program.fold) job.rows core → v < length job.rows →
    is_above_layer job (last_settling job) v ≡ is_in core v
core_at_last job core v job_is is inside = by_flags (is_above_layer job (last_settling job) v) (is_in core v) refl refl
  where
    all_layers : suc (length job.rows - 1) ≡ length job.rows
    all_layers = omega (arith, inside)

    by_flags : (a b : Bool) → is_above_layer job (last_settling job) v ≡ a → is_in core v ≡ b → a ≡ b
    by_flags true true left member = refl
    by_flags false false left member = refl
    by_flags true false left member = sym (left_is_core job.rows (reads_needed job.core.program.fold) core job_is.sound.rows is v inside (subst (λ (k : ℕ). is_left job.rows (reads_needed job.core.program.fold) k v ≡ true) all_layers left)) ∙ member
    by_flags false true left member = sym left ∙ core_is_left job.rows (reads_needed job.core.program.fold) core job_is.sound.rows is (suc (last_settling job)) v member
