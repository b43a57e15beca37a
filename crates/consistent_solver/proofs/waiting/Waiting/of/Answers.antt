use Rattle.std.proofs.Common.{rules, ◌≡◌, ◌<◌, ◌++◌, ◌∷◌, [], length}
use Rattle.std.proofs.lemmas.List.Elements.{All-push}
use Rattle.consistent_solver.proofs.Listed.{listed_first, passed_first}
use Rattle.consistent_solver.proofs.waiting.Waiting.of.Goals as goal
use Rattle.consistent_solver.proofs.waiting.Waiting.of.Goals.{then-marked+in_ok-push_back, else-marked}

pub loop-v-preserved : goal.loop-v-preserved
loop-v-preserved c = elim c.if-marked.branch [
  | then-marked+in_ok-push_back w ↦
      (let pushed : w.push_back.new.self.items ≡ c.loop-v.queue.items ++ c.loop-v.v ∷ [] = search rules in
      rw (w.queue-is, pushed) (record {
        vertices = All-push (λ u. u < length c.args.marks.items) c.loop-v.queue.items c.loop-v.v c.loop-v.invariant.vertices (search rules);
        listed = listed_first c.args.marks.items c.loop-v.queue.items c.loop-v.v c.loop-v.invariant.listed;
      }))
  | else-marked w ↦ rw w.queue-is (record {
    vertices = c.loop-v.invariant.vertices;
    listed = passed_first c.args.marks.items c.loop-v.queue.items c.loop-v.v c.loop-v.invariant.listed (search rules);
  })
]
