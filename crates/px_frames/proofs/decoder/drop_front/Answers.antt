use Rattle.std.proofs.Common.{◌≡◌, ◌+◌, ◌-◌, length, take, drop, vec_len, ap, ◌∙◌, arith, rules, length-drop, take_all}
use Rattle.std.proofs.lemmas.List.Edits.{take-paste}
use Rattle.px_frames.proofs.decoder.drop_front.Goals as goal
use lib.Seq.{paste}

pub returns : goal.returns
returns c =
    let all = c.args.pending.now.items in
    let left = vec_len c.args.pending.now - c.args.at in
    let long : length all ≡ vec_len c.args.pending.now = search rules in
    let rest : length (drop c.args.at all) ≡ left = omega (arith, length-drop c.args.at all) in
    let same : left ≡ 0 + left = omega arith in
    c.truncate.ensures.items ∙ ap (λ n. take (n - c.args.at) c.copy_within.new.self.items) c.len.ensures ∙ ap (take left) c.copy_within.ensures.items
    ∙ ap (λ k. take k (paste all 0 (drop c.args.at all) left)) same ∙ take-paste all 0 (drop c.args.at all) left (omega arith) (omega arith)
    ∙ take_all left (drop c.args.at all) (omega arith)
