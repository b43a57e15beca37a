-- The one frame that a kind and a body can be of.
use Rattle.std.proofs.Common.{◌≡◌, ℕ, zero, suc, ◌/◌, Bool, true, false, cond, eqb, List, [], ◌∷◌, ◌++◌, length, drop, get_or, refl, ap, ◌∙◌, arith}
use Rattle.std.specs.Prelude.{flat_map, All}
use Rattle.std.specs.List.{AllByRecursion}
use Rattle.std.specs.Int.{w32, w64, from_be_bytes}
use Rattle.std.proofs.lemmas.List.Elements.{recursion_from_All}
use Rattle.std.proofs.lemmas.Nat.{from_be_bytes-to_be_bytes_4, from_be_bytes-to_be_bytes_8}
use Rattle.px_base.specs.declared.program.Form.{Form}
use Rattle.px_base.specs.declared.program.Form.TheVariants.{Given, Back, Simple}
use Rattle.px_base.specs.declared.program.Rank.TheVariants.{ById, ByDegree}
use Rattle.px_base.specs.declared.program.Reads.{Reads}
use Rattle.px_base.specs.declared.program.Reads.TheVariants as reads_kind
use Rattle.px_base.specs.declared.program.Start.{Start}
use Rattle.px_base.specs.declared.program.Start.TheVariants.{Source, Each, OwnId}
use Rattle.px_base.specs.declared.program.Along.{Along}
use Rattle.px_base.specs.declared.program.Along.TheVariants.{Same, Plus, PlusWeight, FloorWeight, CapWeight, Minus}
use Rattle.px_base.specs.declared.program.Fold.{Fold}
use Rattle.px_base.specs.declared.program.Fold.TheVariants.{Least, Greatest, Mex, Count}
use Rattle.px_base.specs.declared.program.Own.{Own}
use Rattle.px_base.specs.declared.program.Own.TheVariants as own
use Rattle.px_base.specs.declared.program.Program.{Program}
use Rattle.px_base.specs.declared.wire.Update.{Update}
use Rattle.px_base.specs.declared.wire.Order.TheVariants.{Step, Report}
use Rattle.px_base.specs.declared.wire.Answer.TheVariants.{Stepped, Reported}
use Rattle.px_base.specs.declared.frame.Setup.{Setup}
use Rattle.px_base.specs.declared.frame.Triple.{Triple}
use Rattle.px_base.specs.declared.frame.Frame.{Frame}
use Rattle.px_base.specs.declared.frame.Frame.TheVariants as frame
use Rattle.px_base.specs.Frames.{four_bytes, eight_bytes, pair_bytes, triple_bytes, form_code, reads_code, start_code, start_first, start_second, along_code, along_number, fold_code, fold_number, own_code, program_bytes, setup_bytes, kind_of, body_of}
use Rattle.px_base.specs.FrameFits.{IsWord}
use Rattle.frame_bodies.specs.Widths.{IsLong, ProgramHasRoom, SetupHasRoom, PairHasRoom, TripleHasRoom, HasRoom}
use Rattle.frame_bodies.proofs.Lengths.{length_values, length_pairs, length_vertices, length_triples}

-- ---- numbers and lists

-- the number in four or eight bytes from a place on
abbrev pub four_at : ℕ → List ℕ → ℕ
four_at at bytes = from_be_bytes w32 (drop at bytes)

abbrev pub eight_at : ℕ → List ℕ → ℕ
eight_at at bytes = from_be_bytes w64 (drop at bytes)

abbrev pub values_from : ℕ → List ℕ → List ℕ
values_from zero bytes = []
values_from (suc n) bytes = eight_at 0 bytes ∷ values_from n (drop 8 bytes)

abbrev pub vertices_from : ℕ → List ℕ → List ℕ
vertices_from zero bytes = []
vertices_from (suc n) bytes = four_at 0 bytes ∷ vertices_from n (drop 4 bytes)

abbrev pub pair : ℕ → ℕ → Update
pair v x = record { vertex = v; value = x }

abbrev pub pairs_from : ℕ → List ℕ → List Update
pairs_from zero bytes = []
pairs_from (suc n) bytes = pair (four_at 0 bytes) (eight_at 4 bytes) ∷ pairs_from n (drop 12 bytes)

abbrev pub triple : ℕ → ℕ → ℕ → Triple
triple v u w = record { target = v; source = u; weight = w }

abbrev pub triples_from : ℕ → List ℕ → List Triple
triples_from zero bytes = []
triples_from (suc n) bytes = triple (four_at 0 bytes) (four_at 4 bytes) (four_at 8 bytes) ∷ triples_from n (drop 12 bytes)

-- two lists of equal heads and tails
both_equal : {X : Type 0} (x y : X) (xs ys : List X) → x ≡ y → xs ≡ ys → x ∷ xs ≡ y ∷ ys
both_equal {X = X} x y xs ys e f = ap (λ (z : X). z ∷ xs) e ∙ ap (λ (zs : List X). y ∷ zs) f

pub values_back : (xs : List ℕ) → AllByRecursion IsLong xs → values_from (length xs) (flat_map eight_bytes xs) ≡ xs
values_back [] h = refl
values_back (x ∷ xs) h = both_equal _ x _ xs (from_be_bytes-to_be_bytes_8 x h.0) (values_back xs h.1)

pub vertices_back : (xs : List ℕ) → AllByRecursion IsWord xs → vertices_from (length xs) (flat_map four_bytes xs) ≡ xs
vertices_back [] h = refl
vertices_back (x ∷ xs) h = both_equal _ x _ xs (from_be_bytes-to_be_bytes_4 x h.0) (vertices_back xs h.1)

same_pair : (v w x y : ℕ) → v ≡ w → x ≡ y → pair v x ≡ pair w y
same_pair v w x y e f = ap (λ (z : ℕ). pair z x) e ∙ ap (λ (z : ℕ). pair w z) f

pub pairs_back : (xs : List Update) → AllByRecursion PairHasRoom xs → pairs_from (length xs) (flat_map pair_bytes xs) ≡ xs
pairs_back [] h = refl
pairs_back (u ∷ us) h =
    both_equal _ u _ us
    (same_pair _ u.vertex _ u.value (from_be_bytes-to_be_bytes_4 u.vertex h.0.0) (from_be_bytes-to_be_bytes_8 u.value h.0.1))
    (pairs_back us h.1)

same_triple : (v w x y a b : ℕ) → v ≡ w → x ≡ y → a ≡ b → triple v x a ≡ triple w y b
same_triple v w x y a b e f g = ap (λ (z : ℕ). triple z x a) e ∙ ap (λ (z : ℕ). triple w z a) f ∙ ap (λ (z : ℕ). triple w y z) g

pub triples_back : (xs : List Triple) → AllByRecursion TripleHasRoom xs → triples_from (length xs) (flat_map triple_bytes xs) ≡ xs
triples_back [] h = refl
triples_back (t ∷ ts) h =
    both_equal _ t _ ts
    (same_triple _ t.target _ t.source _ t.weight (from_be_bytes-to_be_bytes_4 t.target h.0.0) (from_be_bytes-to_be_bytes_4 t.source h.0.1) (from_be_bytes-to_be_bytes_4 t.weight h.0.2))
    (triples_back ts h.1)

-- ---- a setup

abbrev pub form_from : ℕ → Form
form_from zero = Given
form_from (suc zero) = Back
form_from (suc (suc n)) = Simple

form_back : (f : Form) → form_from (form_code f) ≡ f
form_back Given = refl
form_back Back = refl
form_back Simple = refl

abbrev pub reads_from : ℕ → Reads
reads_from zero = reads_kind.All
reads_from (suc zero) = reads_kind.Earlier ById
reads_from (suc (suc n)) = reads_kind.Earlier ByDegree

reads_back : (r : Reads) → reads_from (reads_code r) ≡ r
reads_back reads_kind.All = refl
reads_back (reads_kind.Earlier ById) = refl
reads_back (reads_kind.Earlier ByDegree) = refl

abbrev pub start_from : ℕ → ℕ → ℕ → Start
start_from zero a b = Source a b
start_from (suc zero) a b = Each a
start_from (suc (suc n)) a b = OwnId

start_back : (s : Start) → start_from (start_code s) (start_first s) (start_second s) ≡ s
start_back (Source a b) = refl
start_back (Each a) = refl
start_back OwnId = refl

abbrev pub along_from : ℕ → ℕ → Along
along_from zero n = Same
along_from (suc zero) n = Plus n
along_from (suc (suc zero)) n = PlusWeight
along_from (suc (suc (suc zero))) n = FloorWeight
along_from (suc (suc (suc (suc zero)))) n = CapWeight
along_from (suc (suc (suc (suc (suc m))))) n = Minus n

along_back : (a : Along) → along_from (along_code a) (along_number a) ≡ a
along_back Same = refl
along_back (Plus n) = refl
along_back PlusWeight = refl
along_back FloorWeight = refl
along_back CapWeight = refl
along_back (Minus n) = refl

abbrev pub fold_from : ℕ → ℕ → Fold
fold_from zero k = Least
fold_from (suc zero) k = Greatest
fold_from (suc (suc zero)) k = Mex
fold_from (suc (suc (suc n))) k = Count k

fold_back : (f : Fold) → fold_from (fold_code f) (fold_number f) ≡ f
fold_back Least = refl
fold_back Greatest = refl
fold_back Mex = refl
fold_back (Count k) = refl

abbrev pub own_from : ℕ → Own
own_from zero = own.Keep
own_from (suc n) = own.Drop

own_back : (o : Own) → own_from (own_code o) ≡ o
own_back own.Keep = refl
own_back own.Drop = refl

abbrev pub program : Form → Reads → Start → Along → Fold → Own → Program
program f r s a d o = record { form = f; reads = r; start = s; along = a; fold = d; own = o }

abbrev pub program_from : List ℕ → Program
program_from b = program (form_from (get_or b 0 0)) (reads_from (get_or b 1 0)) (start_from (get_or b 2 0) (eight_at 3 b) (eight_at 11 b))
    (along_from (get_or b 19 0) (eight_at 20 b)) (fold_from (get_or b 28 0) (four_at 29 b)) (own_from (get_or b 33 0))

same_program : (p q : Program) → p.form ≡ q.form → p.reads ≡ q.reads → p.start ≡ q.start → p.along ≡ q.along → p.fold ≡ q.fold → p.own ≡ q.own → p ≡ q
same_program p q a b c d e f =
    ap (λ (x : Form). program x p.reads p.start p.along p.fold p.own) a
    ∙ ap (λ (x : Reads). program q.form x p.start p.along p.fold p.own) b
    ∙ ap (λ (x : Start). program q.form q.reads x p.along p.fold p.own) c
    ∙ ap (λ (x : Along). program q.form q.reads q.start x p.fold p.own) d
    ∙ ap (λ (x : Fold). program q.form q.reads q.start q.along x p.own) e
    ∙ ap (λ (x : Own). program q.form q.reads q.start q.along q.fold x) f

pub program_back : (p : Program) (more : List ℕ) → ProgramHasRoom p → program_from (program_bytes p ++ more) ≡ p
program_back p more h =
    let first = from_be_bytes-to_be_bytes_8 (start_first p.start) h.first in
    let second = from_be_bytes-to_be_bytes_8 (start_second p.start) h.second in
    let number = from_be_bytes-to_be_bytes_8 (along_number p.along) h.number in
    let count = from_be_bytes-to_be_bytes_4 (fold_number p.fold) h.count in
    same_program (program_from (program_bytes p ++ more)) p (form_back p.form) (reads_back p.reads)
    (ap (λ (x : ℕ). start_from (start_code p.start) x (eight_at 11 (program_bytes p ++ more))) first ∙ ap (λ (x : ℕ). start_from (start_code p.start) (start_first p.start) x) second ∙ start_back p.start)
    (ap (λ (x : ℕ). along_from (along_code p.along) x) number ∙ along_back p.along)
    (ap (λ (x : ℕ). fold_from (fold_code p.fold) x) count ∙ fold_back p.fold)
    (own_back p.own)

abbrev pub setup : ℕ → ℕ → ℕ → Program → ℕ → ℕ → ℕ → ℕ → Setup
setup i l h p c m b r = record { index = i; low = l; high = h; program = p; chunks = c; mirrors = m; boundary = b; reads = r }

abbrev pub setup_from : List ℕ → Setup
setup_from b = setup (four_at 0 b) (four_at 4 b) (four_at 8 b) (program_from (drop 12 b)) (four_at 46 b) (four_at 50 b) (four_at 54 b) (four_at 58 b)

same_setup : (s t : Setup) → s.index ≡ t.index → s.low ≡ t.low → s.high ≡ t.high → s.program ≡ t.program → s.chunks ≡ t.chunks → s.mirrors ≡ t.mirrors
    → s.boundary ≡ t.boundary → s.reads ≡ t.reads → s ≡ t
same_setup s t a b c d e f g h =
    ap (λ (x : ℕ). setup x s.low s.high s.program s.chunks s.mirrors s.boundary s.reads) a
    ∙ ap (λ (x : ℕ). setup t.index x s.high s.program s.chunks s.mirrors s.boundary s.reads) b
    ∙ ap (λ (x : ℕ). setup t.index t.low x s.program s.chunks s.mirrors s.boundary s.reads) c
    ∙ ap (λ (x : Program). setup t.index t.low t.high x s.chunks s.mirrors s.boundary s.reads) d
    ∙ ap (λ (x : ℕ). setup t.index t.low t.high t.program x s.mirrors s.boundary s.reads) e
    ∙ ap (λ (x : ℕ). setup t.index t.low t.high t.program t.chunks x s.boundary s.reads) f
    ∙ ap (λ (x : ℕ). setup t.index t.low t.high t.program t.chunks t.mirrors x s.reads) g
    ∙ ap (λ (x : ℕ). setup t.index t.low t.high t.program t.chunks t.mirrors t.boundary x) h

pub setup_back : (s : Setup) → SetupHasRoom s → setup_from (setup_bytes s) ≡ s
setup_back s h =
    same_setup (setup_from (setup_bytes s)) s
    (from_be_bytes-to_be_bytes_4 s.index h.index) (from_be_bytes-to_be_bytes_4 s.low h.low) (from_be_bytes-to_be_bytes_4 s.high h.high)
    (program_back s.program (four_bytes s.chunks ++ four_bytes s.mirrors ++ four_bytes s.boundary ++ four_bytes s.reads) h.program)
    (from_be_bytes-to_be_bytes_4 s.chunks h.chunks) (from_be_bytes-to_be_bytes_4 s.mirrors h.mirrors)
    (from_be_bytes-to_be_bytes_4 s.boundary h.boundary) (from_be_bytes-to_be_bytes_4 s.reads h.reads)

-- ---- frames

abbrev pub changed_from : ℕ → Bool
changed_from n = eqb n 1

abbrev pub frame_from : ℕ → List ℕ → Frame
frame_from kind b =
    cond (eqb kind 1) (frame.Setup (setup_from b))
    (cond (eqb kind 2) (frame.Starts (values_from (length b / 8) b))
    (cond (eqb kind 3) (frame.Mirrors (pairs_from (length b / 12) b))
    (cond (eqb kind 4) (frame.Boundary (vertices_from (length b / 4) b))
    (cond (eqb kind 5) (frame.Reads (triples_from (length b / 12) b))
    (cond (eqb kind 6) frame.Ready
    (cond (eqb kind 7) (frame.Order (Step (four_at 0 b) (eight_at 4 b) (pairs_from (four_at 12 b) (drop 16 b))))
    (cond (eqb kind 8) (frame.Order (Report (four_at 0 b)))
    (cond (eqb kind 9) (frame.Answer (Stepped (four_at 0 b) (eight_at 4 b) (changed_from (get_or b 12 0)) (pairs_from (four_at 13 b) (drop 17 b))))
    (frame.Answer (Reported (four_at 0 b) (values_from (four_at 4 b) (drop 8 b))))))))))))

same_step : {e f r s : ℕ} {us vs : List Update} → e ≡ f → r ≡ s → us ≡ vs → frame.Order (Step e r us) ≡ frame.Order (Step f s vs)
same_step {f = f} {r = r} {s = s} {us = us} p q h =
    ap (λ (x : ℕ). frame.Order (Step x r us)) p ∙ ap (λ (x : ℕ). frame.Order (Step f x us)) q ∙ ap (λ (xs : List Update). frame.Order (Step f s xs)) h

same_stepped : {e f r s : ℕ} (c : Bool) {us vs : List Update} → e ≡ f → r ≡ s → us ≡ vs → frame.Answer (Stepped e r c us) ≡ frame.Answer (Stepped f s c vs)
same_stepped {f = f} {r = r} {s = s} c {us = us} p q h =
    ap (λ (x : ℕ). frame.Answer (Stepped x r c us)) p ∙ ap (λ (x : ℕ). frame.Answer (Stepped f x c us)) q ∙ ap (λ (xs : List Update). frame.Answer (Stepped f s c xs)) h

same_reported : {e f : ℕ} {xs ys : List ℕ} → e ≡ f → xs ≡ ys → frame.Answer (Reported e xs) ≡ frame.Answer (Reported f ys)
same_reported {f = f} {xs = xs} p h = ap (λ (x : ℕ). frame.Answer (Reported x xs)) p ∙ ap (λ (zs : List ℕ). frame.Answer (Reported f zs)) h

updates_back : (us : List Update) → IsWord (length us) → All PairHasRoom us → pairs_from (four_at 0 (four_bytes (length us))) (flat_map pair_bytes us) ≡ us
updates_back us few h =
    let count = from_be_bytes-to_be_bytes_4 (length us) few in
    ap (λ (n : ℕ). pairs_from n (flat_map pair_bytes us)) count ∙ pairs_back us (recursion_from_All PairHasRoom us h)

-- a frame is read back from its kind and its body
pub back : (f : Frame) → HasRoom f → frame_from (kind_of f) (body_of f) ≡ f
back (frame.Setup s) h = ap (λ (x : Setup). frame.Setup x) (setup_back s h)
back (frame.Starts xs) h =
    let count : length (flat_map eight_bytes xs) / 8 ≡ length xs = omega (arith, length_values xs) in
    ap (λ (ys : List ℕ). frame.Starts ys) (ap (λ (n : ℕ). values_from n (flat_map eight_bytes xs)) count ∙ values_back xs (recursion_from_All IsLong xs h))
back (frame.Mirrors us) h =
    let count : length (flat_map pair_bytes us) / 12 ≡ length us = omega (arith, length_pairs us) in
    ap (λ (ys : List Update). frame.Mirrors ys) (ap (λ (n : ℕ). pairs_from n (flat_map pair_bytes us)) count ∙ pairs_back us (recursion_from_All PairHasRoom us h))
back (frame.Boundary xs) h =
    let count : length (flat_map four_bytes xs) / 4 ≡ length xs = omega (arith, length_vertices xs) in
    ap (λ (ys : List ℕ). frame.Boundary ys) (ap (λ (n : ℕ). vertices_from n (flat_map four_bytes xs)) count ∙ vertices_back xs (recursion_from_All IsWord xs h))
back (frame.Reads ts) h =
    let count : length (flat_map triple_bytes ts) / 12 ≡ length ts = omega (arith, length_triples ts) in
    ap (λ (ys : List Triple). frame.Reads ys) (ap (λ (n : ℕ). triples_from n (flat_map triple_bytes ts)) count ∙ triples_back ts (recursion_from_All TripleHasRoom ts h))
back frame.Ready h = refl
back (frame.Order (Step e r us)) h = same_step (from_be_bytes-to_be_bytes_4 e h.0) (from_be_bytes-to_be_bytes_8 r h.1) (updates_back us h.2 h.3)
back (frame.Order (Report e)) h = ap (λ (x : ℕ). frame.Order (Report x)) (from_be_bytes-to_be_bytes_4 e h)
back (frame.Answer (Stepped e r false us)) h = same_stepped false (from_be_bytes-to_be_bytes_4 e h.0) (from_be_bytes-to_be_bytes_8 r h.1) (updates_back us h.2 h.3)
back (frame.Answer (Stepped e r true us)) h = same_stepped true (from_be_bytes-to_be_bytes_4 e h.0) (from_be_bytes-to_be_bytes_8 r h.1) (updates_back us h.2 h.3)
back (frame.Answer (Reported e xs)) h =
    same_reported (from_be_bytes-to_be_bytes_4 e h.0)
    (ap (λ (n : ℕ). values_from n (flat_map eight_bytes xs)) (from_be_bytes-to_be_bytes_4 (length xs) h.1) ∙ values_back xs (recursion_from_All IsLong xs h.2))
