-- What waits for a worker goes to it, whatever is sent, drained or cleared.
use Rattle.std.proofs.Common.{◌≡◌, ℕ, ◌<◌, ◌∙◌, Bool, true, List, [], ◌∷◌, length, get_or, set, replicate, sym}
use Rattle.std.proofs.lemmas.List.Elements.{All-cons, All-nil}
use Rattle.px_base.specs.declared.wire.Update.{Update}
use Rattle.std.proofs.lemmas.List.{length-map}
use Rattle.px_base.specs.Values.{IsValue}
use Rattle.px_base.specs.Parts.{part_count}
use Rattle.hub_terms.specs.Inboxes.{InboxesState, box_with, inbox_at, is_addressed}
use Rattle.hub_terms.specs.HubInStep.{IsMailOf}
use Rattle.list_laws.proofs.Lists.{at_set, at_replicate}
use Rattle.hub_laws.proofs.Mail.{mail_more, no_mail}
use Rattle.hub_laws.proofs.Workers.{mail_kept}
use Rattle.hub_table.specs.Slots.{InboxState}
use Rattle.hub_table.specs.Tables.{AreInboxes, AreTables, mails, tables}

-- there is a box for each part
pub box_each : (inboxes : List InboxState) (cuts : List ℕ) (routes : List (List ℕ)) (counting : Bool) → AreTables cuts routes counting (tables inboxes) → length (mails inboxes) ≡ part_count cuts
box_each inboxes cuts routes counting are = length-map inboxes (λ (b : InboxState). b.mail) ∙ sym (length-map inboxes (λ (b : InboxState). b.vertices)) ∙ are.size

-- one update more for worker j, to whom it goes
mail_sent_to : (t : InboxesState) (j : ℕ) (u : Update) (box : List Update) → is_addressed t j u.vertex ≡ true → IsValue u.value → IsMailOf t j box → IsMailOf t j (box_with t.counting u box)
mail_sent_to t j u box goes known mail = rw goes at (mail_more t j t.counting (u ∷ []) box (All-cons (λ w. IsValue w.value) u [] known (All-nil (λ w. IsValue w.value))) mail)

-- other inboxes, in which what waits goes to its worker
others : (t : InboxesState) (boxes : List (List Update)) (lists : List (List ℕ)) → AreInboxes t lists → ((j : ℕ) → IsMailOf t j (get_or boxes j [])) → AreInboxes (record t { boxes = boxes }) lists
others t boxes lists are mail = record { cut = are.cut; inside = are.inside; tables = are.tables; fit = λ j. mail_kept t boxes j (get_or boxes j []) (mail j) }

pub sent_fits : (t : InboxesState) (lists after : List (List ℕ)) (boxes : List (List Update)) (j : ℕ) (u : Update) → AreInboxes t lists → j < length t.boxes → is_addressed t j u.vertex ≡ true → IsValue u.value →
    boxes ≡ set t.boxes j (box_with t.counting u (inbox_at t j)) → after ≡ lists → AreInboxes (record t { boxes = boxes }) after
sent_fits t lists after boxes j u are inside goes known sent same = rw (sent, same)
    (others t (set t.boxes j (box_with t.counting u (inbox_at t j))) lists are
    (at_set (λ k box. IsMailOf t k box) t.boxes j (box_with t.counting u (inbox_at t j)) [] inside (mail_sent_to t j u (inbox_at t j) goes known (are.fit j)) (λ k apart. are.fit k)))

pub drained_fits : (t : InboxesState) (lists after : List (List ℕ)) (boxes : List (List Update)) (j : ℕ) → AreInboxes t lists → j < length t.boxes → boxes ≡ set t.boxes j [] → after ≡ lists →
    AreInboxes (record t { boxes = boxes }) after
drained_fits t lists after boxes j are inside drained same = rw (drained, same)
    (others t (set t.boxes j []) lists are (at_set (λ k box. IsMailOf t k box) t.boxes j [] [] inside (no_mail t j) (λ k apart. are.fit k)))

pub empty_fits : (t : InboxesState) (n : ℕ) (j : ℕ) → IsMailOf t j (get_or (replicate n []) j [])
empty_fits t n j = rw (at_replicate {X = List Update} n [] j) (no_mail t j)

pub cleared_fits : (t : InboxesState) (lists after : List (List ℕ)) (boxes : List (List Update)) → AreInboxes t lists → boxes ≡ replicate (length t.boxes) [] → after ≡ lists →
    AreInboxes (record t { boxes = boxes }) after
cleared_fits t lists after boxes are cleared same = rw (cleared, same) (others t (replicate (length t.boxes) []) lists are (empty_fits t (length t.boxes)))
