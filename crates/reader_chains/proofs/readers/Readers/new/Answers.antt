use Rattle.std.proofs.Common.{◌≡◌, ◌∙◌, [], replicate, ap, rules}
use Rattle.reader_chains.specs.Chains.{chains}
use Rattle.reader_chains.proofs.Linked.{none_yet}
use Rattle.reader_chains.proofs.readers.Readers.new.Goals as goal

pub returns : goal.returns
returns c =
    let first : c.in_ok-vec.field-0.items ≡ replicate c.args.places 0 = search rules in
    rw c.in_ok-with_capacity.ensures.items (ap (λ first. chains first []) first ∙ none_yet c.args.places)
