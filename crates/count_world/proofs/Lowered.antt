-- Counts that are lowered, and the list of those that are to die.
use Rattle.std.proofs.Common.{◌≡◌, ℕ, ◌<◌, ◌≤◌, ◌∙◌, Bool, true, false, List, [], ◌∷◌, ◌++◌, length, set, refl, sym, ap, arith, length-set}
use Rattle.std.specs.Prelude.{◌==◌, ◌&&◌, ◌||◌, not, nat_lt, All, slice_index, if◌then◌else◌}
use Rattle.std.specs.Vec.{vec_capacity}
use Rattle.std.proofs.lemmas.Bool.Decides.{nat_tests}
use Rattle.std.proofs.lemmas.List.{get_or-set_same, get_or-set_other}
use Rattle.px_base.specs.Values.{is_in, is_listed}
use Rattle.count_world.specs.declared.census.Census.{Census}
use Rattle.count_world.specs.Census.{IsCensus, KeepsCensus}
use Rattle.list_laws.specs.Sets.{IsListOf}
use Rattle.count_world.specs.Sets.{is_dying, falls, without}
use Rattle.list_laws.proofs.Sums.{one_more, room_for_one, none_list, listed_is}
use Rattle.px_base.proofs.Positions.{at_position, length_by_position}

-- whoever falls below the number isn't listed yet
pub not_listed_yet : (flag before after needed : ℕ) → falls flag before after needed ≡ true → ((flag == 1) && nat_lt before needed) ≡ false
not_listed_yet flag before after needed is = by_tests (flag == 1) (nat_lt before needed) (nat_lt after needed) is
  where
    by_tests : (a b c : Bool) → (a && (not b && c)) ≡ true → (a && b) ≡ false
    by_tests true true c is = cc
    by_tests true false c is = refl
    by_tests false b c is = refl

never_twice : (flag before after needed : ℕ) → (((flag == 1) && nat_lt before needed) && falls flag before after needed) ≡ false
never_twice flag before after needed = by_tests (flag == 1) (nat_lt before needed) (nat_lt after needed)
  where
    by_tests : (a b c : Bool) → ((a && b) && (a && (not b && c))) ≡ false
    by_tests true true c = refl
    by_tests true false c = refl
    by_tests false b c = refl

listed_now : (flag before after needed : ℕ) → after ≤ before → ((flag == 1) && nat_lt after needed) ≡ (((flag == 1) && nat_lt before needed) || falls flag before after needed)
listed_now flag before after needed lower = by_tests (flag == 1) (nat_lt before needed) (nat_lt after needed) still
  where
    still : nat_lt before needed ≡ true → nat_lt after needed ≡ true
    still is = grind (arith, nat_tests)

    by_tests : (a b c : Bool) → (b ≡ true → c ≡ true) → (a && c) ≡ ((a && b) || (a && (not b && c)))
    by_tests true true c is = is refl
    by_tests true false c is = refl
    by_tests false b c is = refl

-- one count is lowered
pub lowered : (old new : Census) (k after : ℕ) → IsCensus old → k < length old.alive.items → after ≤ slice_index old.counts.items k →
    new.needed ≡ old.needed → new.alive.items ≡ old.alive.items → new.counts.items ≡ set old.counts.items k after →
    new.dying.items ≡ old.dying.items ++ (if falls (slice_index old.alive.items k) (slice_index old.counts.items k) after old.needed then k ∷ [] else []) →
    vec_capacity old.dying ≤ vec_capacity new.dying → KeepsCensus old new
lowered old new k after census inside lower needed alive counts dying room =
    let before : ℕ = slice_index old.counts.items k in
    let flag : ℕ = slice_index old.alive.items k in
    let here : slice_index (set old.counts.items k after) k ≡ after = get_or-set_same old.counts.items k after 0 (omega (arith, inside, census.counts)) in
    record {
      census = record {
        few = rw alive census.few;
        flags = rw alive census.flags;
        counts = rw alive (ap length counts ∙ length-set old.counts.items k after ∙ census.counts);
        room = rw alive (omega (arith, census.room, room));
        lists =
            rw (alive, counts, needed, dying)
            (one_more (length old.alive.items) k (is_dying old.alive.items old.counts.items old.needed) (is_dying old.alive.items (set old.counts.items k after) old.needed) (falls flag before after old.needed)
            old.dying.items inside census.lists (never_twice flag before after old.needed)
            (ap (λ n. (flag == 1) && nat_lt n old.needed) here ∙ listed_now flag before after old.needed lower)
            (λ j low apart. ap (λ n. is_in old.alive.items j && nat_lt n old.needed) (get_or-set_other old.counts.items k j after 0 apart)));
      };
      alive = alive;
      needed = needed;
    }

-- there is room to list one more
pub room_to_list : (c : Census) (k after : ℕ) → IsCensus c → k < length c.alive.items → falls (slice_index c.alive.items k) (slice_index c.counts.items k) after c.needed ≡ true → length c.dying.items < vec_capacity c.dying
room_to_list c k after census inside is =
    omega (arith, census.room, room_for_one (length c.alive.items) k (is_dying c.alive.items c.counts.items c.needed) c.dying.items census.lists inside (not_listed_yet (slice_index c.alive.items k) (slice_index c.counts.items k) after c.needed is))

pub keeps_on : (old mid new : Census) → KeepsCensus old mid → KeepsCensus mid new → KeepsCensus old new
keeps_on old mid new one two = record { census = two.census; alive = two.alive ∙ one.alive; needed = two.needed ∙ one.needed }

-- once those on the list are dead, nobody is to die
pub none_die : (alive counts members : List ℕ) (needed : ℕ) → IsListOf (length alive) (is_dying alive counts needed) members → IsListOf (length alive) (is_dying (without members alive) counts needed) []
none_die alive counts members needed lists =
    none_list (length alive) (is_dying (without members alive) counts needed) dead
  where
    by_tests : (listed : Bool) (flag : ℕ) (low : Bool) → listed ≡ ((flag == 1) && low) → (((if listed then 0 else flag) == 1) && low) ≡ false
    by_tests true flag low is = refl
    by_tests false flag low is = sym is

    dead : (k : ℕ) → k < length alive → is_dying (without members alive) counts needed k ≡ false
    dead k inside =
        rw (at_position (length alive) (λ j. if is_listed members j then 0 else slice_index alive j) k 0 inside)
        (by_tests (is_listed members k) (slice_index alive k) (nat_lt (slice_index counts k) needed) (listed_is (length alive) (is_dying alive counts needed) members k lists inside))

pub without_size : (members items : List ℕ) → length (without members items) ≡ length items
without_size members items = length_by_position (length items) (λ k. if is_listed members k then 0 else slice_index items k)

-- each flag is still one
pub still_flags : (members alive : List ℕ) → All (λ flag. flag ≤ 1) alive → All (λ flag. flag ≤ 1) (without members alive)
still_flags members alive flags = λ k d below.
    (let inside : k < length alive = omega (arith, below, length_by_position (length alive) (λ j. if is_listed members j then 0 else slice_index alive j)) in
    rw (at_position (length alive) (λ j. if is_listed members j then 0 else slice_index alive j) k d inside) (at_most (is_listed members k) (slice_index alive k) (flags k 0 inside)))
  where
    at_most : (b : Bool) (flag : ℕ) → flag ≤ 1 → (if b then 0 else flag) ≤ 1
    at_most true flag low = omega arith
    at_most false flag low = low

-- those on the list have died, and a list without anybody takes its place
pub buried : (old new : Census) → IsCensus old → new.needed ≡ old.needed → new.alive.items ≡ without old.dying.items old.alive.items → new.counts.items ≡ old.counts.items → new.dying.items ≡ [] →
    length old.alive.items ≤ vec_capacity new.dying → IsCensus new
buried old new census needed alive counts dying room =
    let size : length new.alive.items ≡ length old.alive.items = ap length alive ∙ without_size old.dying.items old.alive.items in
    record {
      few = omega (arith, size, census.few);
      flags = rw alive (still_flags old.dying.items old.alive.items census.flags);
      counts = ap length counts ∙ census.counts ∙ sym size;
      room = omega (arith, size, room);
      lists = rw (size, alive, counts, needed, dying) (none_die old.alive.items old.counts.items old.dying.items old.needed census.lists);
    }
