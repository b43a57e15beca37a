-- How long the bodies of frames are.
use Rattle.std.proofs.Common.{◌≡◌, ℕ, ◌*◌, ◌^◌, ◌≤◌, List, [], ◌∷◌, length, length-append, refl, arith}
use Rattle.std.specs.Prelude.{flat_map}
use Rattle.px_base.specs.declared.TheConstants.{MOST_VERTICES}
use Rattle.px_base.specs.declared.wire.Update.{Update}
use Rattle.px_base.specs.declared.wire.Order.TheVariants.{Step, Report}
use Rattle.px_base.specs.declared.wire.Answer.TheVariants.{Stepped, Reported}
use Rattle.px_base.specs.declared.frame.Triple.{Triple}
use Rattle.px_base.specs.declared.frame.Frame.{Frame}
use Rattle.px_base.specs.declared.frame.Frame.TheVariants as frame
use Rattle.px_base.specs.Frames.{four_bytes, eight_bytes, pair_bytes, triple_bytes, body_of}
use Rattle.px_base.specs.FrameFits.{FrameFits}

-- entries of one width each
length_each : {X : Type 0} (f : X → List ℕ) (n : ℕ) → ((x : X) → length (f x) ≡ n) → (xs : List X) → length (flat_map f xs) ≡ n * length xs
length_each f n h [] = omega arith
length_each f n h (x ∷ xs) =
    let rest = length_each f n h xs in
    let first = h x in
    omega (arith, length-append (f x) (flat_map f xs), rest, first)

pub length_values : (xs : List ℕ) → length (flat_map eight_bytes xs) ≡ 8 * length xs
length_values xs = length_each eight_bytes 8 (λ x. refl) xs

pub length_vertices : (xs : List ℕ) → length (flat_map four_bytes xs) ≡ 4 * length xs
length_vertices xs = length_each four_bytes 4 (λ x. refl) xs

pub length_pairs : (xs : List Update) → length (flat_map pair_bytes xs) ≡ 12 * length xs
length_pairs xs = length_each pair_bytes 12 (λ x. refl) xs

pub length_triples : (xs : List Triple) → length (flat_map triple_bytes xs) ≡ 12 * length xs
length_triples xs = length_each triple_bytes 12 (λ x. refl) xs

-- a header can say how long the body is
pub body_small : (f : Frame) → FrameFits f → length (body_of f) ≤ 2 ^ 26
body_small (frame.Setup s) h = omega arith
body_small (frame.Starts values) h = let few : length values ≤ 2 ^ 20 = h.0.1 in omega (arith, length_values values)
body_small (frame.Mirrors pairs) h = let few : length pairs ≤ 2 ^ 20 = h.0.1 in omega (arith, length_pairs pairs)
body_small (frame.Boundary vertices) h = let few : length vertices ≤ 2 ^ 20 = h.0.1 in omega (arith, length_vertices vertices)
body_small (frame.Reads triples) h = let few : length triples ≤ 2 ^ 20 = h.0.1 in omega (arith, length_triples triples)
body_small frame.Ready h = omega arith
body_small (frame.Order (Step epoch round updates)) h = let few : length updates ≤ MOST_VERTICES = h.2 in omega (arith, length_pairs updates)
body_small (frame.Order (Report epoch)) h = omega arith
body_small (frame.Answer (Stepped epoch round changed updates)) h = let few : length updates ≤ MOST_VERTICES = h.2 in omega (arith, length_pairs updates)
body_small (frame.Answer (Reported epoch values)) h = let few : length values ≤ MOST_VERTICES = h.1 in omega (arith, length_values values)
