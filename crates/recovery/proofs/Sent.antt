-- What updates leave of the inboxes: one after another, and one along its route, bit by bit.
use Rattle.std.proofs.Common.{◌≡◌, ℕ, zero, suc, ◌+◌, ◌^◌, ◌<◌, Bool, true, false, not, cond, List, [], ◌∷◌, ◌++◌, Some, None, length, take, get_or, set, arith, refl, sym, ap, ◌∙◌, inl, inr, length-set, get_or-set_same, get_or-set_other}
use Rattle.std.specs.Prelude.{◌==◌, ◌&&◌, All, filter, if◌then◌else◌}
use Rattle.std.specs.List.{find}
use Rattle.std.specs.Int.{trailing_zeros, w64}
use Rattle.std.proofs.lemmas.Bool.Decides.{eqb_tells}
use Rattle.std.proofs.lemmas.List.{take_more}
use Rattle.std.proofs.lemmas.List.Elements.{filter-append, All-cons, All-nil}
use Rattle.std.proofs.lemmas.List.FromFn.{fill_by_all}
use Rattle.std.proofs.lemmas.List.Sums.{fold-append}
use Rattle.px_base.specs.declared.wire.Update.{Update}
use Rattle.px_base.specs.Parts.{is_master, part_count, low_of, high_of}
use Rattle.px_base.specs.Values.{by_position, is_listed}
use Rattle.px_base.proofs.Positions.{at_position, length_by_position}
use Rattle.px_base.proofs.Ranges.{within_bounds}
use Rattle.partitioner.specs.Bits.{has_bit}
use Rattle.partitioner.specs.Cuts.{vertex_count}
use Rattle.partitioner.proofs.LowestBits.{IsRestOf, rest_of_all, rest_of_rest, lowest_has}
use Rattle.partitioner.proofs.Owned.{high_inside}
use Rattle.hub_terms.specs.Inboxes.{InboxesState, route_at, inbox_at, is_on_route, is_addressed, box_with, box_with_all, with_put, with_added, with_updates}
use Rattle.hub_terms.specs.HubEvents.{may_send}
use Rattle.recovery.specs.Keeping.{IsCutGraph, AreInboxesOf}
use Rattle.recovery.proofs.Worded.{no_bit}

-- ---- lists by position

same_positions : {X : Type 0} (n : ℕ) (f g : ℕ → X) (d : X) → ((k : ℕ) → k < n → f k ≡ g k) → by_position n f ≡ by_position n g
same_positions n f g d same = fill_by_all g (by_position n f) n d (length_by_position n f) (λ k low. at_position n f k d low ∙ same k low)

-- the same with these boxes
abbrev pub with_boxes : InboxesState → List (List Update) → InboxesState
with_boxes t boxes = record t { boxes = boxes }

-- ---- updates one after another

-- what worker j has after these updates
abbrev box_after : InboxesState → List Update → ℕ → List Update
box_after t us j = box_with_all t.counting (filter (λ u. is_addressed t j u.vertex) us) (inbox_at t j)

pub no_updates : (t : InboxesState) → with_updates t [] ≡ t
no_updates t = ap (λ (boxes : List (List Update)). record t { boxes = boxes }) (sym (fill_by_all (λ j. get_or t.boxes j []) t.boxes (length t.boxes) [] refl (λ k low. refl)))

pub updates_after : (t : InboxesState) (xs ys : List Update) → with_updates (with_updates t xs) ys ≡ with_updates t (xs ++ ys)
updates_after t xs ys = ap (λ (boxes : List (List Update)). record t { boxes = boxes }) (
    ap (λ n. by_position n (box_after (with_updates t xs) ys)) (length_by_position (length t.boxes) (box_after t xs))
    ∙ same_positions (length t.boxes) (box_after (with_updates t xs) ys) (box_after t (xs ++ ys)) [] (λ j low.
    ap (box_with_all t.counting (filter (λ u. is_addressed t j u.vertex) ys)) (at_position (length t.boxes) (box_after t xs) j [] low)
    ∙ sym (ap (λ us. box_with_all t.counting us (inbox_at t j)) (filter-append (λ (u : Update). is_addressed t j u.vertex) xs ys)
    ∙ fold-append (λ so_far u. box_with t.counting u so_far) (inbox_at t j) (filter (λ u. is_addressed t j u.vertex) xs) (filter (λ u. is_addressed t j u.vertex) ys))))

pub updates_more : (t : InboxesState) (us : List Update) (k : ℕ) (d : Update) → k < length us → with_updates (with_updates t (take k us)) (get_or us k d ∷ []) ≡ with_updates t (take (k + 1) us)
updates_more t us k d inside = updates_after t (take k us) (get_or us k d ∷ []) ∙ ap (with_updates t) (sym (take_more us k d inside))

pub inboxes_more : (to : List (List ℕ)) (counts : Bool) (t : InboxesState) (us : List Update) → AreInboxesOf to counts t → AreInboxesOf to counts (with_updates t us)
inboxes_more to counts t us are = record { graph = are.graph; routes = are.routes; counting = are.counting; size = length_by_position (length t.boxes) (box_after t us) ∙ are.size }

-- ---- one update

-- the box with the update, where it is addressed
one_box : (c b : Bool) (u : Update) (box : List Update) → (if b then box_with c u box else box) ≡ box_with_all c (cond b (u ∷ []) []) box
one_box c true u box = refl
one_box c false u box = refl

pub one_added : (t : InboxesState) (u : Update) → t.counting ≡ true → with_added t u.vertex u.value ≡ with_updates t (u ∷ [])
one_added t u counts = ap (λ (boxes : List (List Update)). record t { boxes = boxes }) (
    same_positions (length t.boxes) (λ j. if is_master t.cuts j u.vertex then box_with true u (inbox_at t j) else inbox_at t j) (box_after t (u ∷ [])) []
    (λ j low. by_class t.counting j counts))
  where
    by_class : (c : Bool) (j : ℕ) → c ≡ true → (if is_master t.cuts j u.vertex then box_with true u (inbox_at t j) else inbox_at t j)
        ≡ box_with_all c (cond (if c then is_master t.cuts j u.vertex else is_on_route t j u.vertex) (u ∷ []) []) (inbox_at t j)
    by_class true j is = one_box true (is_master t.cuts j u.vertex) u (inbox_at t j)
    by_class false j is = cc

-- ---- along a route

-- Of the workers on the route, those whose bit isn't left have the update.
pub record AreSent (t : InboxesState) (u : Update) (word rest : ℕ) (now : InboxesState) : Type 0 where
  pub of : IsRestOf word rest
  pub same : now ≡ with_boxes t now.boxes
  pub size : length now.boxes ≡ length t.boxes
  pub sent : (k : ℕ) → k < length t.boxes → inbox_at now k ≡ (if has_bit word k && not (has_bit rest k) then box_with false u (inbox_at t k) else inbox_at t k)

and_true : (b : Bool) → (b && true) ≡ b
and_true true = refl
and_true false = refl

and_false : (b : Bool) → (b && false) ≡ false
and_false true = refl
and_false false = refl

pub none_sent : (t : InboxesState) (u : Update) (word : ℕ) → word < 2 ^ 64 → AreSent t u word word t
none_sent t u word fits = record {
  of = rest_of_all word fits;
  same = refl;
  size = refl;
  sent = λ k low. by_bit (has_bit word k) k;
}
  where
    by_bit : (b : Bool) (k : ℕ) → inbox_at t k ≡ (if b && not b then box_with false u (inbox_at t k) else inbox_at t k)
    by_bit true k = refl
    by_bit false k = refl

-- the worker of the lowest bit that is left is on the route
pub next_routed : (t now : InboxesState) (u : Update) (word rest : ℕ) → 0 < rest → ((j : ℕ) → has_bit word j ≡ is_on_route t j u.vertex) → AreSent t u word rest now →
    is_on_route now (trailing_zeros w64 rest) u.vertex ≡ true
next_routed t now u word rest some route so_far =
    let low : ℕ = trailing_zeros w64 rest in
    ap (λ (s : InboxesState). is_on_route s low u.vertex) so_far.same ∙ sym (route low) ∙ so_far.of.inside low (lowest_has rest some so_far.of.fits)

pub next_sent : (t now : InboxesState) (u : Update) (word rest next : ℕ) → 0 < rest → next < 2 ^ 64 → ((k : ℕ) → has_bit next k ≡ (has_bit rest k && not (k == trailing_zeros w64 rest))) →
    AreSent t u word rest now → AreSent t u word next (with_put now (trailing_zeros w64 rest) u.vertex u.value)
next_sent t now u word rest next some fits bits so_far =
    let low : ℕ = trailing_zeros w64 rest in
    let new : List Update = box_with false u (inbox_at now low) in
    record {
      of = rest_of_rest word rest next fits bits so_far.of;
      same = ap (λ (s : InboxesState). with_boxes s (set now.boxes low new)) so_far.same;
      size = length-set now.boxes low new ∙ so_far.size;
      sent = λ k inside. elim (eqb_tells k low) [
        | inl (e, same) ↦
            (let had : has_bit rest low ≡ true = lowest_has rest some so_far.of.fits in
            let has : has_bit word low ≡ true = so_far.of.inside low had in
            let gone : has_bit next k ≡ false = bits k ∙ ap (λ b. has_bit rest k && not b) e ∙ and_false (has_bit rest k) in
            let before : inbox_at now k ≡ inbox_at t k =
            so_far.sent k inside
            ∙ ap (λ b. if has_bit word k && not b then box_with false u (inbox_at t k) else inbox_at t k) (ap (has_bit rest) same ∙ had)
            ∙ ap (λ b. if b then box_with false u (inbox_at t k) else inbox_at t k) (and_false (has_bit word k)) in
            ap (λ m. get_or (set now.boxes m (box_with false u (inbox_at now m))) k []) (sym same)
            ∙ get_or-set_same now.boxes k (box_with false u (inbox_at now k)) [] (omega (arith, inside, so_far.size))
            ∙ ap (box_with false u) before
            ∙ sym (ap (λ b. if has_bit word k && not b then box_with false u (inbox_at t k) else inbox_at t k) gone
            ∙ ap (λ b. if b && true then box_with false u (inbox_at t k) else inbox_at t k) (ap (has_bit word) same ∙ has)))
        | inr (e, apart) ↦
            (let stays : has_bit next k ≡ has_bit rest k = bits k ∙ ap (λ b. has_bit rest k && not b) e ∙ and_true (has_bit rest k) in
            get_or-set_other now.boxes low k new [] apart
            ∙ so_far.sent k inside
            ∙ sym (ap (λ b. if has_bit word k && not b then box_with false u (inbox_at t k) else inbox_at t k) stays))
      ];
    }

pub all_sent : (t now : InboxesState) (u : Update) (word rest : ℕ) → t.counting ≡ false → ((j : ℕ) → has_bit word j ≡ is_on_route t j u.vertex) → rest ≡ 0 → AreSent t u word rest now →
    now ≡ with_updates t (u ∷ [])
all_sent t now u word rest plain route none so_far = so_far.same ∙ ap (with_boxes t) (
    fill_by_all (box_after t (u ∷ [])) now.boxes (length t.boxes) [] so_far.size
    (λ k low. so_far.sent k low
    ∙ ap (λ b. if has_bit word k && not b then box_with false u (inbox_at t k) else inbox_at t k) (ap (λ r. has_bit r k) none ∙ no_bit k)
    ∙ ap (λ b. if b then box_with false u (inbox_at t k) else inbox_at t k) (and_true (has_bit word k) ∙ route k)
    ∙ by_class t.counting k plain))
  where
    by_class : (c : Bool) (k : ℕ) → c ≡ false → (if is_on_route t k u.vertex then box_with false u (inbox_at t k) else inbox_at t k)
        ≡ box_with_all c (cond (if c then is_master t.cuts k u.vertex else is_on_route t k u.vertex) (u ∷ []) []) (inbox_at t k)
    by_class true k plain = cc
    by_class false k plain = one_box false (is_on_route t k u.vertex) u (inbox_at t k)

-- ---- who may send

-- a vertex on some route has a place in the table of routes
routed_below : (to : List (List ℕ)) (v i : ℕ) → is_listed (route_at to v) i ≡ true → v < length to
routed_below [] v i listed = cc
routed_below (r ∷ to) zero i listed = omega arith
routed_below (r ∷ to) (suc v) i listed = omega (arith, routed_below to v i listed)

pub may_send_below : (t : InboxesState) (i v : ℕ) → IsCutGraph t.cuts t.routes → i < part_count t.cuts → may_send t i v ≡ true → v < vertex_count t.cuts
may_send_below t i v graph inside may = by_class t.counting may
  where
    first : (a b : Bool) → (a && b) ≡ true → a ≡ true
    first true b h = refl
    first false b h = h

    by_class : (c : Bool) → (if c then is_on_route t i v else is_master t.cuts i v && not (length (route_at t.routes v) == 0)) ≡ true → v < vertex_count t.cuts
    by_class true may = omega (arith, routed_below t.routes v i may, graph.one_each)
    by_class false may = omega (arith, within_bounds (low_of t.cuts i) (high_of t.cuts i) v (first (is_master t.cuts i v) _ may), high_inside (vertex_count t.cuts) t.cuts i graph.cut.cut inside)

pub all_pass : (p : Update → Bool) (us : List Update) → find (λ u. not (p u)) us ≡ None → All (λ u. p u ≡ true) us
all_pass p [] none = All-nil (λ u. p u ≡ true)
all_pass p (u ∷ us) none = by_first (p u) refl none (λ more. all_pass p us more)
  where
    by_first : (b : Bool) → p u ≡ b → cond (not b) (Some u) (find (λ u. not (p u)) us) ≡ None → (find (λ u. not (p u)) us ≡ None → All (λ u. p u ≡ true) us) → All (λ u. p u ≡ true) (u ∷ us)
    by_first true is none rest = All-cons (λ u. p u ≡ true) u us is (rest none)
    by_first false is none rest = cc

-- the vertex of an update that goes to some worker is one of the graph
pub addressed_below : (t : InboxesState) (j v : ℕ) → IsCutGraph t.cuts t.routes → j < part_count t.cuts → is_addressed t j v ≡ true → v < vertex_count t.cuts
addressed_below t j v graph inside is = by_class t.counting is
  where
    by_class : (c : Bool) → (if c then is_master t.cuts j v else is_on_route t j v) ≡ true → v < vertex_count t.cuts
    by_class true is = omega (arith, within_bounds (low_of t.cuts j) (high_of t.cuts j) v is, high_inside (vertex_count t.cuts) t.cuts j graph.cut.cut inside)
    by_class false is = omega (arith, routed_below t.routes v j is, graph.one_each)
