use Rattle.std.proofs.Common.{◌≡◌, ◌<◌, true, length, get_or, take, arith}
use Rattle.std.proofs.lemmas.List.{take_all}
use Rattle.std.proofs.lemmas.List.Elements.{All-more}
use Rattle.worker_world.specs.Readers.{is_reader, HasGrown}
use Rattle.worker_world.proofs.Gathered.{added_grows, added_reads, grows_on}
use Rattle.worker_world.proofs.readers.add_places.Goals as goal

pub add-requires : goal.add-requires
add-requires c = record { place = omega (arith, c.requires.places c.loop-place.place-index 0 c.loop-place-test.true, c.loop-place.invariant.grown.size) }

pub loop-place-preserved : goal.loop-place-preserved
loop-place-preserved c =
    let places = c.args.places.now in
    let i = c.loop-place.place-index in
    let before = c.loop-place.readers in
    let after = c.add.new.self in
    let reader = c.args.reader in
    let inside : i < length places = c.loop-place-test.true in
    let place : get_or places i 0 < length before = omega (arith, c.requires.places i 0 inside, c.loop-place.invariant.grown.size) in
    let grown : HasGrown reader before after = added_grows before after (get_or places i 0) reader place c.in_ok-add.ensures.added in
    record {
      grown = grows_on reader c.args.readers.now before after c.loop-place.invariant.grown grown;
      reads = All-more (λ s. is_reader after s reader ≡ true) places i 0 inside
          (λ k d below. grown.kept (get_or (take i places) k d) reader (c.loop-place.invariant.reads k d below))
          (added_reads before after (get_or places i 0) reader place c.in_ok-add.ensures.added);
    }

pub returns-clause-reads : goal.returns-clause-reads
returns-clause-reads c =
    let all : take c.loop-place.place-index c.args.places.now ≡ c.args.places.now = take_all c.loop-place.place-index c.args.places.now c.loop-place-test.false in
    rw all at c.loop-place.invariant.reads
