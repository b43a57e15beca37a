-- The rows of the forms: what edges tell is what vertices read.
use Rattle.std.proofs.Common.{◌≡◌, ℕ, zero, suc, ◌+◌, ◌<◌, ◌≤◌, Bool, true, false, cond, eqb, List, [], ◌∷◌, ◌++◌, length, map, get_or, take, refl, ap, sym, ◌∙◌, subst, arith, inl, inr}
use Rattle.std.specs.Prelude.{All, filter}
use Rattle.std.proofs.lemmas.Bool.Decides.{eqb_tells, nat_tests}
use Rattle.std.proofs.lemmas.List.{map-append, take_all}
use Rattle.std.proofs.lemmas.List.Elements.{filter-append, AllZip-get_or, length_all_zip}
use Rattle.std.proofs.lemmas.List.FromFn.{fill_by_all}
use Rattle.px_base.specs.declared.graph.Edge.{Edge}
use Rattle.px_base.specs.declared.graph.Read.{Read}
use Rattle.px_base.specs.declared.program.Form.TheVariants.{Simple}
use Rattle.px_base.specs.Values.{by_position}
use Rattle.px_base.specs.Graphs.{is_neighbour, read_of_source, read_of_target, reads_of}
use Rattle.px_base.proofs.Positions.{at_position, length_by_position}
use Rattle.row_blocks.specs.declared.told.Told.{Told}
use Rattle.row_blocks.specs.declared.told.Direction.{Direction}
use Rattle.row_blocks.specs.declared.told.Direction.TheVariants.{Forward, Backward}
use Rattle.row_blocks.specs.Telling.{read_told, told_to, rows_told, told_of, told_by, told_ends, told_ends_of}
use Rattle.row_blocks.specs.Blocks.{TellsSame}
use Rattle.row_blocks.proofs.EdgeSteps.{no_edge}
use Rattle.row_blocks.proofs.EndSteps.{ends_more}
use Rattle.px_base.proofs.FlatGrowing.{same_positions}
use Rattle.graph_forms.specs.Neighbours.{HasMembers, ReadsMembers, form_of, other_end}
use Rattle.graph_forms.specs.Ordering.{AreOnce, ReadsOnce}
use Rattle.graph_forms.proofs.Members.{members_more, no_members}
use Rattle.graph_forms.proofs.Sets.{simple_row}

-- ---- edges that tell one end

tells_at : (d : Direction) (n : ℕ) (e : Edge) (edges : List Edge) (v : ℕ) → told_to (told_by d edges) v ≡ reads_of (form_of d) n edges v → told_to (told_by d (e ∷ edges)) v ≡ reads_of (form_of d) n (e ∷ edges) v
tells_at Forward n e edges v rest = elim (eqb e.target v) as (λ b. map read_told (cond b (told_of Forward e ∷ filter (λ (t : Told). eqb t.reader v) (told_by Forward edges)) (filter (λ (t : Told). eqb t.reader v) (told_by Forward edges)))
    ≡ map read_of_source (cond b (e ∷ filter (λ (x : Edge). eqb x.target v) edges) (filter (λ (x : Edge). eqb x.target v) edges))) [ true ↦ ap (λ r. read_of_source e ∷ r) rest | false ↦ rest ]
tells_at Backward n e edges v rest = elim (eqb e.source v) as (λ b. map read_told (cond b (told_of Backward e ∷ filter (λ (t : Told). eqb t.reader v) (told_by Backward edges)) (filter (λ (t : Told). eqb t.reader v) (told_by Backward edges)))
    ≡ map read_of_target (cond b (e ∷ filter (λ (x : Edge). eqb x.source v) edges) (filter (λ (x : Edge). eqb x.source v) edges))) [ true ↦ ap (λ r. read_of_target e ∷ r) rest | false ↦ rest ]

tells_none : (d : Direction) (n v : ℕ) → told_to (told_by d []) v ≡ reads_of (form_of d) n [] v
tells_none Forward n v = refl
tells_none Backward n v = refl

pub edges_tell : (d : Direction) (n : ℕ) (edges : List Edge) (v : ℕ) → told_to (told_by d edges) v ≡ reads_of (form_of d) n edges v
edges_tell d n [] v = tells_none d n v
edges_tell d n (e ∷ edges) v = tells_at d n e edges v (edges_tell d n edges v)

pub directed : (d : Direction) (n : ℕ) (edges : List Edge) (told : List Told) → TellsSame told (told_by d edges) → rows_told n told ≡ by_position n (reads_of (form_of d) n edges)
directed d n edges told same = same_positions n (told_to told) (reads_of (form_of d) n edges) (λ v below. same v ∙ edges_tell d n edges v)

-- ---- edges that tell both ends

abbrev sources_of : List Read → List ℕ
sources_of reads = map (λ (r : Read). r.source) reads

told_to-append : (told more : List Told) (v : ℕ) → told_to (told ++ more) v ≡ told_to told v ++ told_to more v
told_to-append told more v = ap (map read_told) (filter-append (λ t. eqb t.reader v) told more) ∙ map-append read_told (filter (λ t. eqb t.reader v) told) (filter (λ t. eqb t.reader v) more)

-- what an edge tells v is its other end
one_end : (e : Edge) (v : ℕ) → sources_of (told_to (told_ends_of e) v) ≡ other_end e v
one_end e v = elim (eqb_tells e.source e.target) [
  | inl (loop, same) ↦ rw loop refl
  | inr (two, apart) ↦ elim (eqb_tells e.target v) [
    | inl (here, at) ↦ (let other : eqb e.source v ≡ false = grind (arith, nat_tests) in rw (two, here, other) refl)
    | inr (there, elsewhere) ↦ rw (two, there) (last (eqb e.source v))
  ]
]
  where
    last : (b : Bool) → sources_of (map read_told (cond b (record { reader = e.source; source = e.target; weight = 1 } ∷ []) [])) ≡ cond b (e.target ∷ []) []
    last true = refl
    last false = refl

members_so_far : (edges : List Edge) (v i : ℕ) → i ≤ length edges → HasMembers (is_neighbour (take i edges) v) (sources_of (told_to (told_ends (take i edges)) v))
members_so_far edges v zero within = no_members v
members_so_far edges v (suc i) within =
    let inside : i < length edges = omega arith in
    let next : suc i ≡ i + 1 = omega arith in
    let grown : sources_of (told_to (told_ends (take (i + 1) edges)) v) ≡ sources_of (told_to (told_ends (take i edges)) v) ++ other_end (get_or edges i no_edge) v =
    ap (λ told. sources_of (told_to told v)) (ends_more edges i inside)
    ∙ ap sources_of (told_to-append (told_ends (take i edges)) (told_ends_of (get_or edges i no_edge)) v)
    ∙ map-append (λ (r : Read). r.source) (told_to (told_ends (take i edges)) v) (told_to (told_ends_of (get_or edges i no_edge)) v)
    ∙ ap (λ r. sources_of (told_to (told_ends (take i edges)) v) ++ r) (one_end (get_or edges i no_edge) v) in
    subst (λ (k : ℕ). HasMembers (is_neighbour (take k edges) v) (sources_of (told_to (told_ends (take k edges)) v))) (sym next)
    (subst (λ (items : List ℕ). HasMembers (is_neighbour (take (i + 1) edges) v) items) (sym grown)
    (members_more edges i no_edge v (sources_of (told_to (told_ends (take i edges)) v)) inside (members_so_far edges v i (omega arith))))

pub members_told : (edges : List Edge) (v : ℕ) → HasMembers (is_neighbour edges v) (sources_of (told_to (told_ends edges) v))
members_told edges v =
    subst (λ (es : List Edge). HasMembers (is_neighbour es v) (sources_of (told_to (told_ends es) v))) (take_all (length edges) edges (omega arith)) (members_so_far edges v (length edges) (omega arith))

pub simple : (n : ℕ) (edges : List Edge) (told : List Told) (rows : List (List Read)) → All (λ (e : Edge). (e.source < n) × (e.target < n)) edges → TellsSame told (told_ends edges) →
    AreOnce (rows_told n told) rows → rows ≡ by_position n (reads_of Simple n edges)
simple n edges told rows vertices same are =
    let size : length rows ≡ n = sym (length_all_zip ReadsOnce (rows_told n told) rows are) ∙ length_by_position n (told_to told) in
    fill_by_all (reads_of Simple n edges) rows n [] size
    (λ v below.
    let once : ReadsOnce (get_or (rows_told n told) v []) (get_or rows v []) = AllZip-get_or ReadsOnce (rows_told n told) rows v [] [] are (omega (arith, length_by_position n (told_to told))) in
    let row : get_or (rows_told n told) v [] ≡ told_to (told_ends edges) v = at_position n (told_to told) v [] below ∙ same v in
    let members : ReadsMembers (sources_of (told_to (told_ends edges) v)) (get_or rows v []) = rw row at once.members in
    simple_row n edges v (sources_of (told_to (told_ends edges) v)) (get_or rows v []) vertices (members_told edges v) members)
