use Rattle.std.proofs.Common.{Ok, Err}
use Rattle.px_base.proofs.Listed.{found_place}
use Rattle.command_texts.proofs.sources.find_id.Goals as goal

pub returns-in-Ok-clause-some : goal.returns-in-Ok-clause-some
returns-in-Ok-clause-some c = found_place c.args.ids.now c.args.id (Ok c.in-Ok.at) c.requires c.in-Ok.ensures.position

pub returns-in-Err-clause-none : goal.returns-in-Err-clause-none
returns-in-Err-clause-none c = found_place c.args.ids.now c.args.id (Err c.in-Err.field-0) c.requires c.in-Err.ensures.position
