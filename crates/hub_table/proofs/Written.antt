-- One inbox is written, or all are.
use Rattle.std.proofs.Common.{◌≡◌, ℕ, ◌+◌, ◌<◌, ◌∙◌, Bool, true, false, List, [], length, get_or, set, replicate, refl, sym, ap, arith, inl, inr, length-set}
use Rattle.std.specs.Prelude.{◌==◌, if◌then◌else◌}
use Rattle.std.specs.List.{list_all}
use Rattle.std.proofs.lemmas.Bool.Decides.{nat_tests, eqb_tells}
use Rattle.std.proofs.lemmas.List.{length-map, length-replicate, map-set, get_or-map, get_or-set_same, get_or-set_other, get_or-replicate, get_or_default, set-get_or, same_lists}
use Rattle.std.proofs.lemmas.List.Folds.{list_all-map}
use Rattle.std.proofs.lemmas.List.FromFn.{fill_by_all}
use Rattle.px_base.specs.declared.wire.Update.{Update}
use Rattle.px_base.specs.Values.{by_position}
use Rattle.px_base.specs.Parts.{IsCuts, IsOwner, is_master, part_count, low_of, high_of}
use Rattle.px_base.proofs.Owners.{one_owner}
use Rattle.px_base.proofs.Ranges.{within_bounds}
use Rattle.hub_terms.specs.Inboxes.{box_with, is_empty_box}
use Rattle.hub_table.specs.Slots.{InboxState}
use Rattle.hub_table.specs.Tables.{mails, tables}

no_inbox : InboxState
no_inbox = record { vertices = []; mail = [] }

-- ---- one

pub mail_at : (inboxes : List InboxState) (i : ℕ) (d : InboxState) → i < length inboxes → get_or (mails inboxes) i [] ≡ (get_or inboxes i d).mail
mail_at inboxes i d inside = get_or-map (λ b. b.mail) inboxes i d [] inside

pub table_at : (inboxes : List InboxState) (i : ℕ) (d : InboxState) → i < length inboxes → get_or (tables inboxes) i [] ≡ (get_or inboxes i d).vertices
table_at inboxes i d inside = get_or-map (λ b. b.vertices) inboxes i d [] inside

pub written_mails : (inboxes : List InboxState) (i : ℕ) (b : InboxState) (mail : List Update) → b.mail ≡ mail → mails (set inboxes i b) ≡ set (mails inboxes) i mail
written_mails inboxes i b mail is = map-set (λ (x : InboxState). x.mail) inboxes i b ∙ ap (λ m. set (mails inboxes) i m) is

pub written_tables : (inboxes : List InboxState) (i : ℕ) (b d : InboxState) → i < length inboxes → b.vertices ≡ (get_or inboxes i d).vertices → tables (set inboxes i b) ≡ tables inboxes
written_tables inboxes i b d inside is =
    map-set (λ (x : InboxState). x.vertices) inboxes i b ∙ ap (λ vs. set (tables inboxes) i vs) (is ∙ sym (table_at inboxes i d inside)) ∙ set-get_or (tables inboxes) i []

-- ---- all

pub all_nil : (xs : List (List Update)) (n : ℕ) → length xs ≡ n → ((k : ℕ) → k < n → get_or xs k [] ≡ []) → xs ≡ replicate n []
all_nil xs n size none = same_lists xs (replicate n []) (size ∙ sym (length-replicate n [])) (λ k d below.
    let low : k < n = omega (arith, below, size) in
    get_or_default xs k d [] below ∙ none k low ∙ sym (get_or-replicate n k [] d low))

pub cleared_more : (inboxes : List InboxState) (i k : ℕ) (b : InboxState) → i < length inboxes → b.mail ≡ [] → ((j : ℕ) → j < i → get_or (mails inboxes) j [] ≡ []) → k < i + 1 → get_or (mails (set inboxes i b)) k [] ≡ []
cleared_more inboxes i k b inside is before low = ap (λ ms. get_or ms k []) (written_mails inboxes i b [] is) ∙ at_each
  where
    at_each : get_or (set (mails inboxes) i []) k [] ≡ []
    at_each = elim (eqb_tells k i) [
      | inl (t, same) ↦ (rw same (get_or-set_same (mails inboxes) i [] [] (omega (arith, length-map inboxes (λ (x : InboxState). x.mail)))))
      | inr (t, away) ↦ get_or-set_other (mails inboxes) i k [] [] away ∙ before k (omega arith)
    ]

pub none_waits : (inboxes : List InboxState) → list_all (λ b. length b.mail == 0) inboxes ≡ list_all is_empty_box (mails inboxes)
none_waits inboxes = sym (list_all-map is_empty_box (λ (b : InboxState). b.mail) inboxes)

-- ---- the owner

-- the owner has the vertex
pub owner_has : (cuts : List ℕ) (v i : ℕ) → IsOwner cuts v i → is_master cuts i v ≡ true
owner_has cuts v i owner = let low = owner.from in let high = owner.to in grind (arith, nat_tests)

owner_is : (n : ℕ) (cuts : List ℕ) (v i k : ℕ) → IsCuts n cuts → IsOwner cuts v i → k < part_count cuts → (b : Bool) → is_master cuts k v ≡ b → b ≡ (i == k)
owner_is n cuts v i k c owner below true is =
    let bounds = within_bounds (low_of cuts k) (high_of cuts k) v is in
    let same : i ≡ k = one_owner n cuts v i k c owner (record { below = below; from = bounds.0; to = bounds.1 }) in
    grind (arith, nat_tests, same)
owner_is n cuts v i k c owner below false is = elim (eqb_tells i k) [
  | inl (t, same) ↦ (let inn : is_master cuts i v ≡ true = owner_has cuts v i owner in absurd (grind (arith, (rw same at inn), is)))
  | inr (t, apart) ↦ sym t
]

pub added_is : (n : ℕ) (cuts : List ℕ) (boxes : List (List Update)) (v i : ℕ) (u : Update) → IsCuts n cuts → length boxes ≡ part_count cuts → IsOwner cuts v i →
    set boxes i (box_with true u (get_or boxes i [])) ≡ by_position (length boxes) (λ j. if is_master cuts j v then box_with true u (get_or boxes j []) else get_or boxes j [])
added_is n cuts boxes v i u c size owner =
    fill_by_all (λ j. if is_master cuts j v then box_with true u (get_or boxes j []) else get_or boxes j []) (set boxes i (box_with true u (get_or boxes i []))) (length boxes) []
    (length-set boxes i (box_with true u (get_or boxes i []))) (λ k low. rw (owner_is n cuts v i k c owner (omega (arith, size, low)) (is_master cuts k v) refl) (at_each k low))
  where
    at_each : (k : ℕ) → k < length boxes → get_or (set boxes i (box_with true u (get_or boxes i []))) k [] ≡ (if i == k then box_with true u (get_or boxes k []) else get_or boxes k [])
    at_each k low = elim (eqb_tells i k) [
      | inl (t, same) ↦ rw (t, same) (get_or-set_same boxes k (box_with true u (get_or boxes k [])) [] low)
      | inr (t, apart) ↦ rw t (get_or-set_other boxes i k (box_with true u (get_or boxes i [])) [] (λ e. apart (sym e)))
    ]
