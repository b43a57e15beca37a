-- What lies in the inboxes after a round of all workers puts their mirrors right.
use Rattle.std.proofs.Common.{◌≡◌, ℕ, ◌+◌, ◌-◌, ◌<◌, ◌≤◌, Bool, true, false, List, [], length, map, get_or, refl, sym, ap, ◌∙◌, arith, inl, inr, eq-eqb}
use Rattle.std.specs.Prelude.{◌==◌, ◌&&◌, ◌⊎◌, slice_index, slice_range, All, None}
use Rattle.std.specs.List.{range_with_len}
use Rattle.std.proofs.lemmas.List.Elements.{All-filter, filter_passes}
use Rattle.std.proofs.lemmas.List.Folds.{list_any_at}
use Rattle.px_base.specs.declared.graph.Read.{Read}
use Rattle.px_base.specs.declared.wire.Update.{Update}
use Rattle.px_base.specs.Values.{is_listed, positions_below}
use Rattle.px_base.specs.Worlds.{first_foreign}
use Rattle.px_base.specs.ValueSteps.{announcements, updated_mirrors}
use Rattle.px_base.specs.Parts.{IsCuts, IsOwner, PartFits, part_count, low_of, high_of, is_mirror, is_routed, mirrors_of, boundary_of, part_of, route_of, routes_of}
use Rattle.px_base.proofs.Positions.{at_position}
use Rattle.px_base.proofs.Ranges.{within_bounds}
use Rattle.partitioner.proofs.Fitting.{mirror_on_route}
use Rattle.partitioner.proofs.Found.{position_has}
use Rattle.partitioner.proofs.Owned.{an_owner, high_inside}
use Rattle.serial_rounds.specs.declared.steps.Sent.{Sent}
use Rattle.serial_rounds.specs.Mail.{mail_for, routed_to}
use Rattle.list_laws.proofs.Ranges.{at_range, listed_range}
use Rattle.list_laws.proofs.Routes.{each_below}
use Rattle.list_laws.proofs.Told.{names, all_announced, all_joined, all_kept, any_joined, announced_or_same, listed_filter, mirrors_told, named_kept, none_refused}

-- the values of the masters of part i
abbrev pub share : List ℕ → ℕ → List ℕ → List ℕ
share cuts i x = slice_range x (low_of cuts i) (high_of cuts i)

-- what part i announces where the list x becomes z; all is for all of its boundary
abbrev pub told_by : Bool → List (List Read) → List ℕ → List ℕ → ℕ → List ℕ → List ℕ → List Update
told_by all rows starts cuts i x z = announcements all (part_of rows starts cuts i) (share cuts i x) (share cuts i z)

-- ---- routes

-- part j stands on the route of v exactly where v is a mirror of it
on_route : (rows : List (List Read)) (cuts : List ℕ) (v j : ℕ) → v < length rows → j < part_count cuts → is_listed (get_or (routes_of rows cuts) v []) j ≡ is_listed (mirrors_of rows cuts j) v
on_route rows cuts v j inside few = ap (λ route. is_listed route j) (at_position (length rows) (route_of rows cuts) v [] inside) ∙ sym (mirror_on_route rows cuts v j inside few)

-- ---- what each part announces

-- the update carries the value that its vertex has in z
pub record IsNews (n : ℕ) (z : List ℕ) (u : Update) : Type 0 where
  pub value_is : u.value ≡ slice_index z u.vertex
  pub vertex_below : u.vertex < n

all_news : (all : Bool) (rows : List (List Read)) (starts cuts : List ℕ) (i : ℕ) (x z : List ℕ) → PartFits (part_of rows starts cuts i) → high_of cuts i ≤ length rows →
    All (IsNews (length rows) z) (told_by all rows starts cuts i x z)
all_news all rows starts cuts i x z fits inside = all_announced (IsNews (length rows) z) all (part_of rows starts cuts i) (share cuts i x) (share cuts i z) (λ k d below.
    let v : ℕ = get_or (boundary_of rows cuts i) k d in
    let range : (low_of cuts i ≤ v) × (v < high_of cuts i) = within_bounds (low_of cuts i) (high_of cuts i) v (fits.boundary_inside k d below) in
    let back : low_of cuts i + (v - low_of cuts i) ≡ v = omega (arith, range.0) in
    record {
      value_is = at_range z (low_of cuts i) (high_of cuts i) (v - low_of cuts i) 0 (omega (arith, range.0, range.1)) ∙ ap (slice_index z) back;
      vertex_below = omega (arith, range.1);
    })

-- ---- what lies in an inbox

-- each worker announced what its part does where the list x becomes z
pub record AreTold (all : Bool) (rows : List (List Read)) (starts cuts x z : List ℕ) (sent : List Sent) : Type 0 where
  pub count : length sent ≡ part_count cuts
  pub updates_are : (i : ℕ) (s : Sent) → i < part_count cuts → (get_or sent i s).updates ≡ told_by all rows starts cuts i x z

-- all parts fit
abbrev pub AllFit : List (List Read) → List ℕ → List ℕ → Type 0
AllFit rows starts cuts = (i : ℕ) → i < part_count cuts → PartFits (part_of rows starts cuts i)

-- all that is sent is news of vertices
pub sent_news : (all : Bool) (rows : List (List Read)) (starts cuts x z : List ℕ) (sent : List Sent) → IsCuts (length rows) cuts → AllFit rows starts cuts → AreTold all rows starts cuts x z sent →
    All (λ s. All (IsNews (length rows) z) s.updates) sent
sent_news all rows starts cuts x z sent c fits told i d below =
    let few : i < part_count cuts = omega (arith, told.count) in
    rw (told.updates_are i d few) (all_news all rows starts cuts i x z (fits i few) (high_inside (length rows) cuts i c few))

-- the update carries the value that its vertex has in z, and worker j takes it
pub record IsDue (rows : List (List Read)) (cuts : List ℕ) (j : ℕ) (z : List ℕ) (u : Update) : Type 0 where
  pub value_is : u.value ≡ slice_index z u.vertex
  pub taken : is_listed (mirrors_of rows cuts j) u.vertex ≡ true

pub mail_due : (all : Bool) (rows : List (List Read)) (starts cuts : List ℕ) (j : ℕ) (x z : List ℕ) (sent : List Sent) → IsCuts (length rows) cuts → AllFit rows starts cuts →
    AreTold all rows starts cuts x z sent → j < part_count cuts → All (IsDue rows cuts j z) (mail_for (routes_of rows cuts) j sent)
mail_due all rows starts cuts j x z sent c fits told few =
    all_joined (IsDue rows cuts j z) (λ s. routed_to (routes_of rows cuts) j s.updates) sent (λ i d below.
    all_kept (IsDue rows cuts j z) (λ u. is_listed (get_or (routes_of rows cuts) u.vertex []) j) (get_or sent i d).updates (λ k e inside passes.
    let news : IsNews (length rows) z (get_or (get_or sent i d).updates k e) = sent_news all rows starts cuts x z sent c fits told i d below k e inside in
    record { value_is = news.value_is; taken = sym (on_route rows cuts (get_or (get_or sent i d).updates k e).vertex j news.vertex_below few) ∙ passes }))

-- ---- mirrors

-- a mirror of some part is in the boundary of its owner
at_boundary : (rows : List (List Read)) (starts cuts : List ℕ) (i j m : ℕ) → IsOwner cuts m i → j < part_count cuts → is_mirror rows cuts j m ≡ true → is_listed (boundary_of rows cuts i) m ≡ true
at_boundary rows starts cuts i j m owner few reads =
    listed_filter (is_routed rows cuts) (range_with_len (low_of cuts i) (high_of cuts i - low_of cuts i)) m
    ∙ ap (λ b. b && is_routed rows cuts m) (listed_range (low_of cuts i) (high_of cuts i - low_of cuts i) m owner.from (omega (arith, owner.from, owner.to)))
    ∙ position_has (λ k. is_mirror rows cuts k m) (part_count cuts) j few reads

-- each mirror has an update on its way, or has the value that it is to have
mirror_reached : (all : Bool) (rows : List (List Read)) (starts cuts : List ℕ) (j m : ℕ) (x z : List ℕ) (sent : List Sent) → IsCuts (length rows) cuts →
    AreTold all rows starts cuts x z sent → j < part_count cuts → m < length rows → is_listed (mirrors_of rows cuts j) m ≡ true → is_mirror rows cuts j m ≡ true →
    (names m (mail_for (routes_of rows cuts) j sent) ≡ true) ⊎ (slice_index x m ≡ slice_index z m)
mirror_reached all rows starts cuts j m x z sent c told few inside listed reads = by_owner (an_owner (length rows) cuts m c inside)
  where
    none : Sent
    none = record { changed = false; updates = [] }

    by_owner : (i : ℕ) × IsOwner cuts m i → (names m (mail_for (routes_of rows cuts) j sent) ≡ true) ⊎ (slice_index x m ≡ slice_index z m)
    by_owner (i, owner) = by_told (announced_or_same all (part_of rows starts cuts i) (share cuts i x) (share cuts i z) m (at_boundary rows starts cuts i j m owner few reads))
      where
        by_told : (names m (told_by all rows starts cuts i x z) ≡ true) ⊎ (slice_index (share cuts i x) (m - low_of cuts i) ≡ slice_index (share cuts i z) (m - low_of cuts i)) →
            (names m (mail_for (routes_of rows cuts) j sent) ≡ true) ⊎ (slice_index x m ≡ slice_index z m)
        by_told (inl named) = inl (any_joined (λ u. u.vertex == m) (λ s. routed_to (routes_of rows cuts) j s.updates) sent i none (omega (arith, told.count, owner.below))
            (named_kept m (λ v. is_listed (get_or (routes_of rows cuts) v []) j) (get_or sent i none).updates (on_route rows cuts m j inside few ∙ listed) (rw (told.updates_are i none owner.below) named)))
        by_told (inr same) = inr (
            let place : m - low_of cuts i < high_of cuts i - low_of cuts i = omega (arith, owner.from, owner.to) in
            let back : low_of cuts i + (m - low_of cuts i) ≡ m = omega (arith, owner.from) in
            ap (slice_index x) (sym back) ∙ sym (at_range x (low_of cuts i) (high_of cuts i) (m - low_of cuts i) 0 place) ∙ same
            ∙ at_range z (low_of cuts i) (high_of cuts i) (m - low_of cuts i) 0 place ∙ ap (slice_index z) back)

-- The mirrors of part j have their values of z, once they are told what lies in the inbox of worker j.
pub mail_told : (all : Bool) (rows : List (List Read)) (starts cuts : List ℕ) (j : ℕ) (x z : List ℕ) (sent : List Sent) → IsCuts (length rows) cuts → AllFit rows starts cuts →
    AreTold all rows starts cuts x z sent → j < part_count cuts →
    updated_mirrors (mirrors_of rows cuts j) (mail_for (routes_of rows cuts) j sent) (map (slice_index x) (mirrors_of rows cuts j)) ≡ map (slice_index z) (mirrors_of rows cuts j)
mail_told all rows starts cuts j x z sent c fits told few =
    let mirrors : List ℕ = mirrors_of rows cuts j in
    mirrors_told x z mirrors (mail_for (routes_of rows cuts) j sent) (λ k d below. (mail_due all rows starts cuts j x z sent c fits told few k d below).value_is)
    (λ k below.
    let m : ℕ = slice_index mirrors k in
    mirror_reached all rows starts cuts j m x z sent c told few
    (All-filter (is_mirror rows cuts j) (λ v. v < length rows) (positions_below (length rows)) (each_below (length rows)) k 0 below)
    (list_any_at (λ item. item == m) mirrors k 0 below (eq-eqb m m refl))
    (filter_passes (is_mirror rows cuts j) (positions_below (length rows)) k 0 below))

-- and worker j refuses nothing of it
pub mail_taken : (all : Bool) (rows : List (List Read)) (starts cuts : List ℕ) (j : ℕ) (x z : List ℕ) (sent : List Sent) → IsCuts (length rows) cuts → AllFit rows starts cuts →
    AreTold all rows starts cuts x z sent → j < part_count cuts → first_foreign (is_listed (mirrors_of rows cuts j)) (mail_for (routes_of rows cuts) j sent) ≡ None
mail_taken all rows starts cuts j x z sent c fits told few = none_refused (is_listed (mirrors_of rows cuts j)) (mail_for (routes_of rows cuts) j sent)
    (λ k d below. (mail_due all rows starts cuts j x z sent c fits told few k d below).taken)
