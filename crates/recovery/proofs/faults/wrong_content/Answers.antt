use Rattle.std.proofs.Common.{◌∙◌, refl, sym}
use Rattle.hub_terms.specs.HubEvents.{foreign_content}
use Rattle.recovery.proofs.faults.wrong_content.Goals as goal

pub returns-in-Some : goal.returns-in-Some
returns-in-Some c = rw (c.in-Stepped.is, foreign_content, sym (rw c.as_slice.ensures at c.wrong_update.ensures) ∙ c.in-Some.is) refl
