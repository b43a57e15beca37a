use Rattle.std.proofs.Common.{◌≡◌, ◌∙◌, length, drop, arith}
use Rattle.std.proofs.lemmas.List.{take_at}
use Rattle.program_table.proofs.StartLists.{source_starts_are}
use Rattle.program_table.proofs.start_values.source_starts.Goals as goal

pub returns : goal.returns
returns c =
    let size : length c.put_sources.new.values ≡ length c.deref_mut.result.now = c.put_sources.auto.values in
    take_at c.put_sources.new.values (drop (length c.put_sources.new.values) c.in_ok-found.found.items) c.in_ok-found.found.len (omega arith)
    ∙ source_starts_are c.args.n c.args.at_source c.args.elsewhere c.deref_mut.result.now c.put_sources.new.values c.args.sources.now
    (c.deref_mut.ensures.value ∙ c.in_ok-found.ensures) size c.put_sources.ensures
