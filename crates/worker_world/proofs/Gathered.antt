-- Masters that are added to the readers of places.
use Rattle.std.proofs.Common.{◌≡◌, ℕ, ◌<◌, ◌∙◌, Bool, true, false, [], ◌∷◌, length, set, replicate, refl, sym, ap, arith, inl, inr, length-set}
use Rattle.std.specs.Prelude.{◌==◌, ◌||◌}
use Rattle.std.proofs.lemmas.Bool.Decides.{eqb_tells}
use Rattle.std.proofs.lemmas.Bool.{eq-eqb}
use Rattle.px_base.specs.Values.{is_listed}
use Rattle.reader_chains.specs.declared.readers.Readers.{Readers}
use Rattle.reader_chains.specs.Readers.{readers_of}
use Rattle.reader_chains.proofs.Lists.{none_of, of_added, of_others, all_added}
use Rattle.worker_world.specs.Readers.{is_reader, AreMasters, HasGrown}

or_right : (b c : Bool) → c ≡ true → (b || c) ≡ true
or_right true c is = refl
or_right false c is = is

-- the reader that is added to a place reads it
pub added_reads : (old new : Readers) (place reader : ℕ) → place < length old → new ≡ set old place (reader ∷ readers_of old place) → is_reader new place reader ≡ true
added_reads old new place reader inside is =
    ap (λ list. is_listed list reader) (ap (λ readers. readers_of readers place) is ∙ of_added old place reader inside)
    ∙ ap (λ b. b || is_reader old place reader) (eq-eqb reader reader refl)

pub added_grows : (old new : Readers) (place reader : ℕ) → place < length old → new ≡ set old place (reader ∷ readers_of old place) → HasGrown reader old new
added_grows old new place reader inside is = record {
  size = ap length is ∙ length-set old place (reader ∷ readers_of old place);
  masters = λ count within are. rw is (all_added (λ k. k < count) old place reader inside are within);
  kept = λ s k had. elim (eqb_tells s place) [
    | inl (t, same) ↦
        ap (λ n. is_reader new n k) same ∙ ap (λ list. is_listed list k) (ap (λ readers. readers_of readers place) is ∙ of_added old place reader inside)
        ∙ or_right (reader == k) (is_reader old place k) (ap (λ n. is_reader old n k) (sym same) ∙ had)
    | inr (t, apart) ↦ ap (λ list. is_listed list k) (ap (λ readers. readers_of readers s) is ∙ of_others old place reader s apart) ∙ had
  ];
}

pub grows_on : (reader : ℕ) (old mid new : Readers) → HasGrown reader old mid → HasGrown reader mid new → HasGrown reader old new
grows_on reader old mid new g h = record {
  size = h.size ∙ g.size;
  masters = λ count within are. h.masters count within (g.masters count within are);
  kept = λ s k had. h.kept s k (g.kept s k had);
}

-- before anybody is added there is nobody
pub none_yet : (places masters : ℕ) (readers : Readers) → readers ≡ replicate places [] → AreMasters masters readers
none_yet places masters readers is s = rw (is, none_of places s) (λ i d below. absurd (omega (arith, below)))
