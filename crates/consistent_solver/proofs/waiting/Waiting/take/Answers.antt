use Rattle.std.proofs.Common.{◌≡◌, ◌<◌, ◌∷◌, length, false}
use Rattle.std.specs.Prelude.{All}
use Rattle.std.proofs.lemmas.List.{length-set}
use Rattle.std.proofs.lemmas.List.Elements.{All-head, All-tail}
use Rattle.consistent_solver.proofs.Listed.{listed_less}
use Rattle.consistent_solver.proofs.waiting.Waiting.take.Goals as goal

pub returns-in-Some-clause-list : goal.returns-in-Some-clause-list
returns-in-Some-clause-list c =
    let marks = c.args.self.now.marks.items in
    let rest = c.pop_front.new.self.items in
    let is : c.args.self.now.queue.items ≡ c.in-Some.v ∷ rest = c.in-Some.ensures.items in
    let all : All (λ v. v < length marks) (c.in-Some.v ∷ rest) = rw is at c.requires.list.vertices in
    let inside : c.in-Some.v < length marks = All-head (λ v. v < length marks) c.in-Some.v rest all in
    record {
      one_each = length-set marks c.in-Some.v false;
      vertices = All-tail (λ v. v < length marks) c.in-Some.v rest all;
      listed = listed_less marks c.args.self.now.queue.items rest c.in-Some.v inside is c.requires.list.listed;
    }
