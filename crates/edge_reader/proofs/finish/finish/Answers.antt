use Rattle.std.proofs.Common.{arith, ◌≡◌, ℕ, List, Ok, sym, subst, ◌∙◌}
use Rattle.px_base.specs.Lines.{EdgeListFits}
use Rattle.px_base.specs.Inputs.{input_limits, result_at_end}
use Rattle.edge_reader.specs.Places.{ArePlaced}
use Rattle.edge_reader.specs.Readings.{Says}
use Rattle.edge_reader.proofs.Finished.{says_list, says_many, list_fits, list_of, record_of, places_back, made_list}
use Rattle.edge_reader.proofs.finish.finish.Goals as goal

pub returns-then-len-gt-MOST_VERTICES-clause-says : goal.returns-then-len-gt-MOST_VERTICES-clause-says
returns-then-len-gt-MOST_VERTICES-clause-says c = λ edges is heavy.
    says_many edges c.as_mut_slice.result.now c.place_ends.new.ends c.in_ok-ids.ids.items c.in_ok-ids.ensures.placed (c.as_mut_slice.ensures.value ∙ is) (omega (arith, c.if-len-gt-MOST_VERTICES.true, c.len.ensures, c.in_ok-ids.ids.ok))

pub returns-clause-says : goal.returns-clause-says
returns-clause-says c = λ edges is heavy.
    let ids : List ℕ = c.in_ok-ids.ids.items in
    let places : List ℕ = c.place_ends.new.ends in
    let weights : List ℕ = c.args.lines.weights.items in
    let placed : ArePlaced c.args.lines.ends.items places ids = subst (λ l. ArePlaced l places ids) c.as_mut_slice.ensures.value c.in_ok-ids.ensures.placed in
    let back : c.as_slice.result.now ≡ places = places_back c.args.lines.ends.items places ids c.as_slice.result.now c.args.lines.ends.len placed (omega (arith, c.args.lines.ends.ok)) c.as_slice.ensures.value in
    let same : record_of c.from_vec.result c.from_vec-2.result ≡ list_of ids places weights =
    made_list ids places weights c.from_vec.result c.from_vec-2.result c.as_slice.result.now c.as_slice-2.result.now c.from_vec.ensures (c.from_vec-2.ensures ∙ c.in_ok-edges.ensures.edges) back c.as_slice-2.ensures.value in
    subst (λ l. Says (Ok l) (result_at_end input_limits.vertices (Ok edges))) (sym same)
    (says_list edges c.args.lines.ends.items places weights ids placed is heavy (omega (arith, c.if-len-gt-MOST_VERTICES.false, c.len.ensures, c.in_ok-ids.ids.ok)))

pub returns-clause-fits : goal.returns-clause-fits
returns-clause-fits c =
    let ids : List ℕ = c.in_ok-ids.ids.items in
    let places : List ℕ = c.place_ends.new.ends in
    let weights : List ℕ = c.args.lines.weights.items in
    let placed : ArePlaced c.args.lines.ends.items places ids = subst (λ l. ArePlaced l places ids) c.as_mut_slice.ensures.value c.in_ok-ids.ensures.placed in
    let back : c.as_slice.result.now ≡ places = places_back c.args.lines.ends.items places ids c.as_slice.result.now c.args.lines.ends.len placed (omega (arith, c.args.lines.ends.ok)) c.as_slice.ensures.value in
    let same : record_of c.from_vec.result c.from_vec-2.result ≡ list_of ids places weights =
    made_list ids places weights c.from_vec.result c.from_vec-2.result c.as_slice.result.now c.as_slice-2.result.now c.from_vec.ensures (c.from_vec-2.ensures ∙ c.in_ok-edges.ensures.edges) back c.as_slice-2.ensures.value in
    let small = rw c.as_mut_slice.ensures.value at c.place_ends.ensures.small in
    let light = rw c.as_slice-2.ensures.value at c.joined.ensures.light in
    subst EdgeListFits (sym same)
    (list_fits c.args.lines.ends.items places weights ids placed small light c.requires.few c.requires.both (omega (arith, c.if-len-gt-MOST_VERTICES.false, c.len.ensures, c.in_ok-ids.ids.ok)))
