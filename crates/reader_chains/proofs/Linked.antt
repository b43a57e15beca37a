-- Chains of links.
use Rattle.std.proofs.Common.{◌≡◌, ℕ, zero, suc, ◌+◌, ◌-◌, ◌<◌, ◌≤◌, ◌∙◌, List, [], ◌∷◌, ◌++◌, length, map, get_or, set, refl, sym, ap, arith, inl, inr, length-append, replicate, add-one}
use Rattle.std.specs.Prelude.{slice_index}
use Rattle.std.proofs.lemmas.Bool.Decides.{eqb_tells}
use Rattle.std.proofs.lemmas.Bool.{cases_lt}
use Rattle.std.proofs.lemmas.List.{get_or_append_left, map-set}
use Rattle.std.proofs.Math.Seq.{get_or-append_seam}
use Rattle.std.proofs.Math.ListN.{get_or-eq_default, get_or-map}
use Rattle.reader_chains.specs.declared.chain.Link.{Link}
use Rattle.reader_chains.specs.Chains.{link_at, chain, chains, readers_from, LeadsBack, AreLinked, IsWithin}
use Rattle.reader_chains.specs.Readers.{readers_of}

abbrev pub no_link : Link
no_link = record { reader = 0; next = 0 }

-- how far at most a chain is followed doesn't matter, where it is far enough
chain_whole : (links : List Link) → LeadsBack links → (one other at : ℕ) → at ≤ one → at ≤ other → chain links one at ≡ chain links other at
chain_whole links back zero zero at low less = refl
chain_whole links back zero (suc other) zero low less = refl
chain_whole links back zero other (suc i) low less = absurd (omega arith)
chain_whole links back (suc one) zero zero low less = refl
chain_whole links back (suc one) (suc other) zero low less = refl
chain_whole links back (suc one) zero (suc i) low less = absurd (omega arith)
chain_whole links back (suc one) (suc other) (suc i) low less =
    ap (λ rest. (link_at links i).reader ∷ rest) (chain_whole links back one other (link_at links i).next (omega (arith, back i)) (omega (arith, back i)))

-- one link more leaves the chains from those before it as they were
chain_kept : (links : List Link) (l : Link) → LeadsBack links → (most at : ℕ) → at ≤ length links → chain (links ++ l ∷ []) most at ≡ chain links most at
chain_kept links l back zero at inside = refl
chain_kept links l back (suc most) zero inside = refl
chain_kept links l back (suc most) (suc i) inside =
    let same : link_at (links ++ l ∷ []) i ≡ link_at links i = get_or_append_left links (l ∷ []) no_link i (omega arith) in
    rw same (ap (λ rest. (link_at links i).reader ∷ rest) (chain_kept links l back most (link_at links i).next (omega (arith, back i))))

-- a chain from its first link
from_next : (links : List Link) → LeadsBack links → (i : ℕ) → readers_from links (suc i) ≡ (link_at links i).reader ∷ readers_from links (link_at links i).next
from_next links back i = ap (λ rest. (link_at links i).reader ∷ rest) (chain_whole links back i (link_at links i).next (link_at links i).next (back i) (omega arith))

-- a chain from its first link, as the code reads it
pub from_link : (links : List Link) (at : ℕ) (link : Link) → IsWithin links at → 0 < at → link ≡ link_at links (at - 1) → readers_from links at ≡ link.reader ∷ readers_from links link.next
from_link links zero link w some is = absurd (omega arith)
from_link links (suc i) link w some is =
    let here : suc i - 1 ≡ i = omega arith in
    let same : link ≡ link_at links i = is ∙ ap (link_at links) here in
    rw same (from_next links w.back i)

-- ---- one link more

link_kept : (links : List Link) (l : Link) (i : ℕ) → i < length links → link_at (links ++ l ∷ []) i ≡ link_at links i
link_kept links l i inside = get_or_append_left links (l ∷ []) no_link i inside

link_new : (links : List Link) (l : Link) → link_at (links ++ l ∷ []) (length links) ≡ l
link_new links l = get_or-append_seam links l [] no_link

back_more : (links : List Link) (l : Link) → LeadsBack links → l.next ≤ length links → LeadsBack (links ++ l ∷ [])
back_more links l back inside i = elim (cases_lt i (length links)) [
  | inl low ↦ rw (link_kept links l i low) (back i)
  | inr high ↦ elim (eqb_tells i (length links)) [
    | inl (t, same) ↦ rw (same, link_new links l) inside
    | inr (t, apart) ↦
        let past : link_at (links ++ l ∷ []) i ≡ no_link = get_or-eq_default (links ++ l ∷ []) no_link (omega (arith, length-append links (l ∷ []))) in
        rw past (omega arith)
  ]
]

-- what does the same to each item does the same to the list
map_same : (f g : ℕ → List ℕ) (xs : List ℕ) → ((k : ℕ) → k < length xs → f (get_or xs k 0) ≡ g (get_or xs k 0)) → map f xs ≡ map g xs
map_same f g [] each = refl
map_same f g (x ∷ xs) each = rw (each 0 (omega arith)) (ap (λ rest. g x ∷ rest) (map_same f g xs (λ k below. each (suc k) (omega arith))))

-- a link more makes its reader the first of its place, and leaves the other places
pub chains_more : (first : List ℕ) (links : List Link) (place reader : ℕ) → place < length first → AreLinked first links →
    chains (set first place (length links + 1)) (links ++ record { reader = reader; next = slice_index first place } ∷ []) ≡ set (chains first links) place (reader ∷ readers_of (chains first links) place)
chains_more first links place reader inside are =
    map-set (readers_from grown) first place (length links + 1)
    ∙ ap (λ lists. set lists place (readers_from grown (length links + 1))) (map_same (readers_from grown) (readers_from links) first (λ k below. kept (slice_index first k) (are.begun k)))
    ∙ ap (set (chains first links) place) new
  where
    l : Link
    l = record { reader = reader; next = slice_index first place }

    grown : List Link
    grown = links ++ l ∷ []

    kept : (at : ℕ) → at ≤ length links → readers_from grown at ≡ readers_from links at
    kept at low = chain_kept links l are.back at at low

    new : readers_from grown (length links + 1) ≡ reader ∷ readers_of (chains first links) place
    new =
        ap (readers_from grown) (add-one (length links))
        ∙ from_next grown (back_more links l are.back (are.begun place)) (length links)
        ∙ ap (λ x. x.reader ∷ readers_from grown x.next) (link_new links l)
        ∙ ap (λ rest. reader ∷ rest) (kept (slice_index first place) (are.begun place) ∙ sym (get_or-map (readers_from links) first place 0))

-- ---- no link yet

pub none_yet : (places : ℕ) → chains (replicate places 0) [] ≡ replicate places []
none_yet zero = refl
none_yet (suc n) = ap (λ rest. [] ∷ rest) (none_yet n)
