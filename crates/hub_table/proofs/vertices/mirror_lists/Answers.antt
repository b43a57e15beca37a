use Rattle.std.proofs.Common.{◌≡◌, ◌<◌, ◌∙◌, ◌++◌, ◌∷◌, [], ap, sym, arith, length, cond}
use Rattle.std.specs.Prelude.{filter}
use Rattle.std.proofs.lemmas.List.{get_or_default}
use Rattle.px_base.specs.Values.{is_listed, positions_below}
use Rattle.hub_terms.specs.Inboxes.{route_at}
use Rattle.list_laws.proofs.Sums.{filter_more}
use Rattle.hub_table.proofs.vertices.mirror_lists.Goals as goal

pub loop-v-preserved : goal.loop-v-preserved
loop-v-preserved c =
    let routes = c.args.routes.now in
    let v = c.loop-v.v in
    let inside : v < length routes = omega arith in
    let route : c.as_slice.result.now ≡ route_at routes v = c.as_slice.ensures ∙ c.index-routes-v.is ∙ get_or_default routes v c.index-routes-v.result [] inside in
    record {
      count = c.in_ok-add_to.ensures.count ∙ c.loop-v.invariant.count;
      so_far = λ k low.
          c.in_ok-add_to.ensures.lists k (omega (arith, low, c.loop-v.invariant.count))
          ∙ ap (λ list. list ++ cond (is_listed c.as_slice.result.now k) (v ∷ []) []) (c.loop-v.invariant.so_far k low)
          ∙ ap (λ r. filter (λ u. is_listed (route_at routes u) k) (positions_below v) ++ cond (is_listed r k) (v ∷ []) []) route
          ∙ sym (filter_more (λ u. is_listed (route_at routes u) k) v);
    }
