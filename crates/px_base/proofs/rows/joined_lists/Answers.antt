use Rattle.std.proofs.Common.{◌≡◌, ◌+◌, ◌++◌, ◌∙◌, ℕ, length, map, arith, rules}
use Rattle.std.proofs.lemmas.Slice.{between_to_end}
use Rattle.px_base.proofs.FlatJoins.{behind, joined_flat, rows_joined}
use Rattle.px_base.proofs.rows.joined_lists.Goals as goal

pub from_flat-requires : goal.from_flat-requires
from_flat-requires c =
    let base = length c.args.lists.sources.items in
    let starts : c.put_behind.new.starts.items ≡ c.args.lists.starts.items ++ behind base c.args.starts.now =
    (let same : c.len-base.result ≡ base = search rules in
    let rest = between_to_end c.args.starts.now 1 (length c.args.starts.now) (omega arith) in
    c.in_ok-put_behind.ensures ∙ (λ i. c.args.lists.starts.items ++ map (λ (s : ℕ). same i + s) (rest i))) in
    let sources : c.extend_from_slice.new.self.items ≡ c.args.lists.sources.items ++ c.args.sources.now = search rules in
    let weights : c.extend_from_slice-2.new.self.items ≡ c.args.lists.weights.items ++ c.args.weights.now = search rules in
    rw (starts, sources, weights)
    (joined_flat c.args.lists.starts.items c.args.lists.sources.items c.args.lists.weights.items c.requires.front c.requires.some
    c.args.starts.now c.args.sources.now c.args.weights.now c.requires.back c.requires.another c.requires.room)

pub returns : goal.returns
returns c =
    let base = length c.args.lists.sources.items in
    let starts : c.put_behind.new.starts.items ≡ c.args.lists.starts.items ++ behind base c.args.starts.now =
    (let same : c.len-base.result ≡ base = search rules in
    let rest = between_to_end c.args.starts.now 1 (length c.args.starts.now) (omega arith) in
    c.in_ok-put_behind.ensures ∙ (λ i. c.args.lists.starts.items ++ map (λ (s : ℕ). same i + s) (rest i))) in
    let sources : c.extend_from_slice.new.self.items ≡ c.args.lists.sources.items ++ c.args.sources.now = search rules in
    let weights : c.extend_from_slice-2.new.self.items ≡ c.args.lists.weights.items ++ c.args.weights.now = search rules in
    (rw (starts, sources, weights) at c.from_flat.ensures)
    ∙ rows_joined c.args.lists.starts.items c.args.lists.sources.items c.args.lists.weights.items c.requires.front c.requires.some
    c.args.starts.now c.args.sources.now c.args.weights.now c.requires.back c.requires.another c.requires.room
