-- Empty inboxes, made one after another.
use Rattle.std.proofs.Common.{◌≡◌, ℕ, ◌+◌, ◌-◌, ◌<◌, ◌∙◌, Bool, true, false, List, [], ◌∷◌, ◌++◌, length, get_or, replicate, refl, sym, ap, subst, arith, inl, inr, length-append, append_assoc, append-nil}
use Rattle.std.specs.Prelude.{IfOk, Result, Ok, Err}
use Rattle.std.specs.List.{range_with_len}
use Rattle.std.proofs.lemmas.Bool.{cases_lt}
use Rattle.std.proofs.lemmas.List.{length-map, length_push, map-append, replicate_more, get_or_at, get_or_append_left}
use Rattle.std.proofs.Math.ListN.{get_or-eq_default}
use Rattle.px_base.specs.declared.wire.Update.{Update}
use Rattle.px_base.specs.Values.{is_listed}
use Rattle.px_base.specs.Parts.{IsWorkerCuts, part_count, low_of, high_of}
use Rattle.px_base.proofs.Members.{listed_contains}
use Rattle.partitioner.specs.Cuts.{vertex_count}
use Rattle.list_laws.specs.Routes.{AreRoutes}
use Rattle.hub_terms.specs.Inboxes.{opening_inboxes, route_at}
use Rattle.hub_table.specs.Slots.{InboxState}
use Rattle.hub_table.specs.Tables.{AreInboxes, AreTables, mails, tables}
use Rattle.hub_table.proofs.Fitting.{empty_fits}

-- what two facts about a result say of it
pub both_ok : {X E : Type 0} (r : Result X E) (P Q R : X → Type 0) → ((x : X) → P x → Q x → R x) → IfOk r P → IfOk r Q → IfOk r R
both_ok (Ok x) P Q R f p q = f x p q
both_ok (Err e) P Q R f p q = p

-- a list without items
pub none_left : {X : Type 0} (xs : List X) (n : ℕ) → n ≡ length xs → n ≡ 0 → xs ≡ []
none_left [] n size none = refl
none_left (x ∷ xs) n size none = absurd (omega (arith, size, none))

-- ---- one inbox more

-- the next of the lists
pub next_list : (P : List ℕ → Type 0) (lists ys rest : List (List ℕ)) (list : List ℕ) → lists ≡ ys ++ list ∷ rest → ((j : ℕ) → j < length lists → P (get_or lists j [])) → P list
next_list P lists ys rest list split each =
    let size : length lists ≡ length ys + length (list ∷ rest) = ap length split ∙ length-append ys (list ∷ rest) in
    let low : length ys < length lists = omega (arith, size) in
    subst P (ap (λ (ls : List (List ℕ)). get_or ls (length ys) []) split ∙ get_or_at ys list rest [] (length ys) refl) (each (length ys) low)

tables_more : (inboxes now : List InboxState) (b : InboxState) → now ≡ inboxes ++ b ∷ [] → tables now ≡ tables inboxes ++ b.vertices ∷ []
tables_more inboxes now b pushed = ap tables pushed ∙ map-append (λ (x : InboxState). x.vertices) inboxes (b ∷ [])

-- nothing waits in one inbox more, which is empty
pub mails_more : (inboxes now : List InboxState) (b : InboxState) → b.mail ≡ [] → now ≡ inboxes ++ b ∷ [] → mails inboxes ≡ replicate (length inboxes) [] → mails now ≡ replicate (length now) []
mails_more inboxes now b is pushed empty =
    ap mails pushed ∙ map-append (λ (x : InboxState). x.mail) inboxes (b ∷ []) ∙ ap (λ (m : List Update). mails inboxes ++ m ∷ []) is
    ∙ ap (λ (ms : List (List Update)). ms ++ [] ∷ []) empty ∙ replicate_more (length inboxes) [] ∙ ap (λ (n : ℕ). replicate n []) (sym (ap length pushed ∙ length_push inboxes b))

-- one inbox more for the next of the lists
pub made_more : (lists rest : List (List ℕ)) (inboxes now : List InboxState) (list : List ℕ) (b : InboxState) → b ≡ record { vertices = list; mail = [] } → now ≡ inboxes ++ b ∷ [] →
    lists ≡ tables inboxes ++ list ∷ rest → mails inboxes ≡ replicate (length inboxes) [] → (lists ≡ tables now ++ rest) × (mails now ≡ replicate (length now) [])
made_more lists rest inboxes now list b is pushed split empty = (
  split ∙ sym (append_assoc (tables inboxes) (list ∷ []) rest)
      ∙ ap (λ (ts : List (List ℕ)). ts ++ rest) (ap (λ (v : List ℕ). tables inboxes ++ v ∷ []) (sym (ap (λ (x : InboxState). x.vertices) is)) ∙ sym (tables_more inboxes now b pushed)),
  mails_more inboxes now b (ap (λ (x : InboxState). x.mail) is) pushed empty,
)

-- one inbox more for the masters of the next part
pub part_more : (cuts : List ℕ) (inboxes now : List InboxState) (b : InboxState) (i : ℕ) → length inboxes ≡ i → b.vertices ≡ range_with_len (low_of cuts i) (high_of cuts i - low_of cuts i) → now ≡ inboxes ++ b ∷ [] →
    ((k : ℕ) → k < i → get_or (tables inboxes) k [] ≡ range_with_len (low_of cuts k) (high_of cuts k - low_of cuts k)) →
    (k : ℕ) → k < i + 1 → get_or (tables now) k [] ≡ range_with_len (low_of cuts k) (high_of cuts k - low_of cuts k)
part_more cuts inboxes now b i size is pushed before k low = ap (λ (ts : List (List ℕ)). get_or ts k []) (tables_more inboxes now b pushed) ∙ elim (cases_lt k i) [
  | inl early ↦ get_or_append_left (tables inboxes) (b.vertices ∷ []) [] k (omega (arith, early, size, length-map inboxes (λ (x : InboxState). x.vertices))) ∙ before k early
  | inr late ↦
      (let last : k ≡ i = omega (arith, late, low) in
      get_or_at (tables inboxes) b.vertices [] [] k (omega (arith, last, size, length-map inboxes (λ (x : InboxState). x.vertices)))
      ∙ is ∙ ap (λ (j : ℕ). range_with_len (low_of cuts j) (high_of cuts j - low_of cuts j)) (sym last))
]

-- ---- all of them

pub all_made : (lists rest : List (List ℕ)) (inboxes : List InboxState) → rest ≡ [] → lists ≡ tables inboxes ++ rest → tables inboxes ≡ lists
all_made lists rest inboxes none split = sym (split ∙ ap (λ (r : List (List ℕ)). tables inboxes ++ r) none ∙ append-nil (tables inboxes))

pub all_empty_made : (lists : List (List ℕ)) (inboxes : List InboxState) → tables inboxes ≡ lists → mails inboxes ≡ replicate (length inboxes) [] → mails inboxes ≡ replicate (length lists) []
all_empty_made lists inboxes made empty = empty ∙ ap (λ (n : ℕ). replicate n []) (sym (length-map inboxes (λ (x : InboxState). x.vertices)) ∙ ap length made)

pub opening_fits : (cuts : List ℕ) (routes : List (List ℕ)) (counting : Bool) (boxes : List (List Update)) (lists : List (List ℕ)) → IsWorkerCuts (vertex_count cuts) cuts → AreRoutes (part_count cuts) routes →
    AreTables cuts routes counting lists → boxes ≡ replicate (part_count cuts) [] → AreInboxes (record { cuts = cuts; routes = routes; counting = counting; boxes = boxes }) lists
opening_fits cuts routes counting boxes lists cut fit made empty = rw empty (record {
  cut = cut;
  inside = within;
  tables = made;
  fit = empty_fits (opening_inboxes cuts routes counting) (part_count cuts);
})
  where
    within : (v j : ℕ) → is_listed (route_at routes v) j ≡ true → j < part_count cuts
    within v j told = elim (cases_lt v (length routes)) [
      | inl low ↦ (let found = listed_contains (route_at routes v) j told in omega (arith, fit.within v [] low found.0 j found.1, found.2))
      | inr high ↦ (let none : is_listed (route_at routes v) j ≡ false = ap (λ (r : List ℕ). is_listed r j) (get_or-eq_default routes [] high) in absurd (grind (arith, told, none)))
    ]
