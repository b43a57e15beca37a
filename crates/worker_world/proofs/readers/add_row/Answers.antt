use Rattle.std.proofs.Common.{◌≡◌, ◌<◌, true, length}
use Rattle.worker_world.specs.Readers.{is_reader}
use Rattle.worker_world.proofs.Sources.{all_sources, each_source}
use Rattle.worker_world.proofs.readers.add_row.Goals as goal

pub add_places-requires : goal.add_places-requires
add_places-requires c = record { places = all_sources (λ s. s < length c.args.readers.now) c.args.row.now c.sources.result.now c.sources.ensures c.requires.row }

pub returns-clause-reads : goal.returns-clause-reads
returns-clause-reads c = each_source (λ s. is_reader c.add_places.new.readers s c.args.reader ≡ true) c.args.row.now c.sources.result.now c.sources.ensures c.in_ok-add_places.ensures.reads
