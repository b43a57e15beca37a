-- What is scripted for a nursery, and the marks of what it lends. Contracts alone see them.
use Rattle.std.specs.Prelude.{ℕ, List}
use Rattle.link_trait.specs.declared.scripts.Scripted.{Scripted}
use Rattle.link_trait.specs.declared.scripts.Refusal.{Refusal}

-- The losses and the refusals that are scripted; and how things stood when they were put: the number of retired links, and
-- per worker the starts, the faults and the ends. A nursery without scripts may have an empty plan.
pub record Plan : Type 0 where
  pub losses : List Scripted
  pub refusals : List Refusal
  pub retired : ℕ
  pub starts : List ℕ
  pub faults : List ℕ
  pub ends : List ℕ

-- The mark of a lending: the plan, and how many starts and links of each worker there had been since the plan was made. A
-- nursery that doesn't number them may have empty lists.
pub record LentAs : Type 0 where
  pub plan : Plan
  pub starts : List ℕ
  pub links : List ℕ

-- The mark of a link: the plan, and the link's number among those of its worker since the plan was made. A nursery that
-- doesn't number links may have 0 for each.
pub record LinkMark : Type 0 where
  pub plan : Plan
  pub number : ℕ
