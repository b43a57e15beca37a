use Rattle.std.proofs.Common.{◌≡◌, ◌-◌, ◌++◌, ◌∷◌, [], ◌∙◌, List, length, map, take, drop, ap, arith}
use Rattle.std.proofs.lemmas.List.{take_rest}
use Rattle.px_base.specs.declared.graph.Read.{Read}
use Rattle.part_loads.specs.Loads.{read_of}
use Rattle.part_loads.proofs.Runs.{rows_more}
use Rattle.part_loads.proofs.rows.rows_of.Goals as goal

pub loop-v-preserved : goal.loop-v-preserved
loop-v-preserved c =
    let rest = take (length c.args.triples.now - c.loop-v.at) (drop c.loop-v.at c.args.triples.now) in
    let row : List Read = map read_of (take c.run_of-run.result rest) in
    let made : c.add_row.new.rows.done ≡ c.loop-v.rows.done ++ row ∷ [] =
    ap (λ b. b.done) c.in_ok-add_row.ensures ∙ (λ i. c.loop-v.rows.done ++ (c.loop-v.invariant.open_row i ++ row) ∷ []) in
    record {
      open_row = ap (λ b. b.open_row) c.in_ok-add_row.ensures;
      done = rw made
          (rows_more c.args.low c.args.high c.loop-v.v c.args.triples.now rest
          c.loop-v.at c.run_of-run.result c.loop-v.rows.done (omega arith) c.requires.rows c.loop-v.invariant.done (take_rest c.args.triples.now c.loop-v.at)
          c.run_of-run.ensures.within c.run_of-run.ensures.run c.run_of-run.ensures.end);
    }
