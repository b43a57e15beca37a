-- What a class promises and a refusal shows, of any program.
use Rattle.std.proofs.Common.{◌≡◌, subst}
use Rattle.std.specs.Prelude.{MatchResult, Result, Ok, Err}
use Rattle.px_base.specs.declared.program.Program.{Program}
use Rattle.px_base.specs.declared.program.Class.{Class}
use Rattle.px_base.specs.declared.program.Refused.{Refused}
use Rattle.px_base.specs.Classes.{class_of}
use Rattle.px_base.specs.Laws.{ClassPromises, RefusalShows}
use Rattle.px_base.proofs.ClassLaws.{class_kept}

abbrev KeptBy : Program → Result Class Refused → Type 0
KeptBy p answer = MatchResult answer (λ class. ClassPromises class p) (λ why. RefusalShows why p)

all_kept : (p : Program) → KeptBy p (class_of p)
all_kept p = class_kept p.form p.reads p.start p.along p.fold p.own

pub promise_kept : (p : Program) (class : Class) → class_of p ≡ Ok class → ClassPromises class p
promise_kept p class is = subst (KeptBy p) is (all_kept p)

pub refusal_shown : (p : Program) (why : Refused) → class_of p ≡ Err why → RefusalShows why p
refusal_shown p why is = subst (KeptBy p) is (all_kept p)
