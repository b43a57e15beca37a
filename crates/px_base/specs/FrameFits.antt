-- Which frames have a spelling, and which frames a string of bytes has.
use Rattle.std.specs.Prelude.{◌≡◌, ℕ, ◌+◌, ◌*◌, ◌^◌, ◌<◌, ◌≤◌, Bool, false, ◌&&◌, ◌||◌, ◌⊎◌, ◌==◌, nat_lt, nat_le, List, ◌++◌, length, map, take, flat_map, All, slice_index, ⊤}
use Rattle.std.specs.List.Sorted.{IsStrictlyIncreasing, IsSortedBy}
use Rattle.px_base.specs.declared.wire.Update.{Update}
use Rattle.px_base.specs.declared.wire.Order.TheVariants.{Step, Report}
use Rattle.px_base.specs.declared.wire.Answer.TheVariants.{Stepped, Reported}
use Rattle.px_base.specs.declared.TheConstants.{MOST_READS, MOST_VERTICES}
use Rattle.px_base.specs.Values.{IsValue}
use Rattle.px_base.specs.declared.frame.Setup.{Setup}
use Rattle.px_base.specs.declared.frame.Triple.{Triple}
use Rattle.px_base.specs.declared.frame.Frame.{Frame}
use Rattle.px_base.specs.declared.frame.Frame.TheVariants as frame
use Rattle.px_base.specs.Frames.{spelling}
use Rattle.px_base.specs.RowTexts.{IsRowProgram}

-- ---- which frames have a spelling

-- a position
abbrev pub IsVertex : ℕ → Type 0
IsVertex v = v < MOST_VERTICES

-- a number of four bytes
abbrev pub IsWord : ℕ → Type 0
IsWord n = n < 2 ^ 32

-- 1 to 2 ^ 20 entries in a load frame
abbrev pub IsLoad : ℕ → Type 0
IsLoad n = (1 ≤ n) × (n ≤ 2 ^ 20)

-- a setup within the limits
pub record SetupFits (s : Setup) : Type 0 where
  pub index : s.index < 64
  pub range : s.low ≤ s.high
  pub room : s.high ≤ MOST_VERTICES
  pub program : IsRowProgram s.program
  pub chunks : (1 ≤ s.chunks) × (s.chunks ≤ 64)
  pub mirrors : s.mirrors ≤ MOST_VERTICES
  pub boundary : s.boundary ≤ MOST_VERTICES
  pub reads : s.reads ≤ MOST_READS

-- pairs by strictly rising vertex
pub record PairsFit (pairs : List Update) : Type 0 where
  pub rising : IsStrictlyIncreasing (map (λ u. u.vertex) pairs)
  pub each : All (λ u. IsVertex u.vertex × IsValue u.value) pairs

-- a triple stands before another: by its target, then its source, then its weight
abbrev pub is_lower_triple : Triple → Triple → Bool
is_lower_triple a b = nat_lt a.target b.target || (a.target == b.target && (nat_lt a.source b.source || (a.source == b.source && nat_lt a.weight b.weight)))

-- the frame has a spelling
abbrev pub FrameFits : Frame → Type 0
FrameFits (frame.Setup s) = SetupFits s
FrameFits (frame.Starts values) = IsLoad (length values) × All IsValue values
FrameFits (frame.Mirrors pairs) = IsLoad (length pairs) × PairsFit pairs
FrameFits (frame.Boundary vertices) = IsLoad (length vertices) × IsStrictlyIncreasing vertices × All IsVertex vertices
FrameFits (frame.Reads triples) = IsLoad (length triples) × IsSortedBy is_lower_triple triples
    × All (λ t. IsVertex t.target × IsVertex t.source × IsWord t.weight) triples
FrameFits frame.Ready = ⊤
FrameFits (frame.Order (Step epoch round updates)) = IsWord epoch × (round < 2 ^ 64) × (length updates ≤ MOST_VERTICES) × PairsFit updates
FrameFits (frame.Order (Report epoch)) = IsWord epoch
FrameFits (frame.Answer (Stepped epoch round changed updates)) = IsWord epoch × (round < 2 ^ 64) × (length updates ≤ MOST_VERTICES) × PairsFit updates
FrameFits (frame.Answer (Reported epoch values)) = IsWord epoch × (length values ≤ MOST_VERTICES) × All IsValue values

-- ---- a string of bytes

-- the bytes are the spelling of the frame
abbrev pub Spells : Frame → List ℕ → Type 0
Spells f bytes = FrameFits f × (bytes ≡ spelling f)

-- These are all the frames at the front of the bytes, and the rest begins with none.
pub record AreFramesOf (bytes : List ℕ) (frames : List Frame) (rest : List ℕ) : Type 0 where
  pub fit : All FrameFits frames
  pub whole : bytes ≡ flat_map spelling frames ++ rest
  pub no_more : (f : Frame) (more : List ℕ) → FrameFits f → rest ≡ spelling f ++ more → ⊥

-- what 4 bytes from a place on say
abbrev pub word_at : List ℕ → ℕ → ℕ
word_at bytes at = ((slice_index bytes at * 256 + slice_index bytes (at + 1)) * 256 + slice_index bytes (at + 2)) * 256 + slice_index bytes (at + 3)

-- the first 8 bytes are a header that some frame may have
abbrev pub is_right_header : List ℕ → Bool
is_right_header bytes = slice_index bytes 0 == 80 && slice_index bytes 1 == 1 && nat_le 1 (slice_index bytes 2) && nat_le (slice_index bytes 2) 10
    && slice_index bytes 3 == 0 && nat_le (word_at bytes 4) (2 ^ 26)

-- The rest is torn: it has a whole header that no frame has, or a header and its whole body that spell no frame.
abbrev pub IsTorn : List ℕ → Type 0
IsTorn rest = (8 ≤ length rest) × ((is_right_header rest ≡ false)
    ⊎ ((8 + word_at rest 4 ≤ length rest) × ((f : Frame) → Spells f (take (8 + word_at rest 4) rest) → ⊥)))
