use Rattle.std.proofs.Common.{rules, vec_len, ◌≡◌, ◌+◌, ◌^◌, min, drop, Err, None, ◌∙◌, sym, ap, subst, length, length-append, arith}
use Rattle.worker_serve.specs.Talks.{answer_bytes, took_one}
use Rattle.worker_serve.specs.Stages.{IsStageAfter}
use Rattle.worker_serve.proofs.Stepping.{next_of, step_none, step_taken, step_ended}
use Rattle.worker_serve.proofs.session.Session.step.Goals as goal

pub returns-in_default : goal.returns-in_default
returns-in_default g c =
    (let on : c.self.inside.said.end ≡ None = ap (λ t. t.end) c.self.view_is ∙ c.requires in
    step_none c.args.self.now c.self.inside.said c.self.inside.decoder c.self.inside.stage c.self.inside.at c.args.out.now.items c.self.view_is on (c.self.invariant.goes_on on) c.in_default.ensures.oldest)

pub spelled_length-length-requires : goal.spelled_length-length-requires
spelled_length-length-requires g c =
    (let on : c.self.inside.said.end ≡ None = ap (λ t. t.end) c.self.view_is ∙ c.requires in
    (next_of c.self.inside.said c.self.inside.decoder c.self.inside.stage c.self.inside.at c.in-Some.frame (c.self.invariant.goes_on on) c.in-Some.ensures.oldest).fits)

pub next_stage-requires : goal.next_stage-requires
next_stage-requires g c =
    (let on : c.self.inside.said.end ≡ None = ap (λ t. t.end) c.self.view_is ∙ c.requires in
    (c.type_bounds.sync-R, (next_of c.self.inside.said c.self.inside.decoder c.self.inside.stage c.self.inside.at c.in-Some.frame (c.self.invariant.goes_on on) c.in-Some.ensures.oldest).fits))

pub told_since-requires : goal.told_since-requires
told_since-requires g c =
    (let on : c.self.inside.said.end ≡ None = ap (λ t. t.end) c.self.view_is ∙ c.requires in
    let n = next_of c.self.inside.said c.self.inside.decoder c.self.inside.stage c.self.inside.at c.in-Some.frame (c.self.invariant.goes_on on) c.in-Some.ensures.oldest in
    let stage = c.in-Ok.ensures.ok n.it.frames n.it.answers (subst (λ s. IsStageAfter n.it.frames n.it.answers s) (sym c.replace-stage.ensures.value) n.it.stage) in
    let long : length c.args.out.now.items ≡ vec_len c.args.out.now = search rules in
    let count : c.len-before.result ≡ length c.args.out.now.items = c.len-before.ensures ∙ sym long in
    let longer : length c.next_stage.new.out.items ≡ length c.args.out.now.items + length (answer_bytes stage.more) = ap length stage.added ∙ length-append c.args.out.now.items (answer_bytes stage.more) in
    let all : length c.next_stage.new.out.items ≡ vec_len c.next_stage.new.out = search rules in
    omega (arith, count, longer, all))

pub invariant_of-self-in-Ok : goal.invariant_of-self-in-Ok
invariant_of-self-in-Ok g c =
    (let on : c.self.inside.said.end ≡ None = ap (λ t. t.end) c.self.view_is ∙ c.requires in
    let long : length c.args.out.now.items ≡ vec_len c.args.out.now = search rules in
    let count : c.len-before.result ≡ length c.args.out.now.items = c.len-before.ensures ∙ sym long in
    step_taken c.args.self.now c.self.inside.said c.note_taken.new.said c.self.inside.decoder c.next.new.self c.self.inside.stage c.in-Ok.next c.self.inside.at c.further-self-inside.result c.in-Some.frame c.self.inside.ended
    c.args.out.now.items c.next_stage.new.out.items c.self.view_is on c.self.invariant.end (c.self.invariant.goes_on on) c.in-Some.ensures.oldest c.in-Some.ensures.took
    (λ frames answers is. c.in-Ok.ensures.ok frames answers (subst (λ s. IsStageAfter frames answers s) (sym c.replace-stage.ensures.value) is))
    (c.further-self-inside.ensures ∙ ap (λ k. min (c.self.inside.at + k) (2 ^ 62)) c.spelled_length-length.ensures)
    (c.note_taken.ensures ∙ ap (took_one c.self.inside.said) (c.told_since.ensures ∙ ap (λ k. drop k c.next_stage.new.out.items) count))).keeps

pub returns-in-Ok : goal.returns-in-Ok
returns-in-Ok g c =
    (let on : c.self.inside.said.end ≡ None = ap (λ t. t.end) c.self.view_is ∙ c.requires in
    let long : length c.args.out.now.items ≡ vec_len c.args.out.now = search rules in
    let count : c.len-before.result ≡ length c.args.out.now.items = c.len-before.ensures ∙ sym long in
    step_taken c.args.self.now c.self.inside.said c.note_taken.new.said c.self.inside.decoder c.next.new.self c.self.inside.stage c.in-Ok.next c.self.inside.at c.further-self-inside.result c.in-Some.frame c.self.inside.ended
    c.args.out.now.items c.next_stage.new.out.items c.self.view_is on c.self.invariant.end (c.self.invariant.goes_on on) c.in-Some.ensures.oldest c.in-Some.ensures.took
    (λ frames answers is. c.in-Ok.ensures.ok frames answers (subst (λ s. IsStageAfter frames answers s) (sym c.replace-stage.ensures.value) is))
    (c.further-self-inside.ensures ∙ ap (λ k. min (c.self.inside.at + k) (2 ^ 62)) c.spelled_length-length.ensures)
    (c.note_taken.ensures ∙ ap (took_one c.self.inside.said) (c.told_since.ensures ∙ ap (λ k. drop k c.next_stage.new.out.items) count))).step

pub returns-in-Err : goal.returns-in-Err
returns-in-Err g c =
    (let on : c.self.inside.said.end ≡ None = ap (λ t. t.end) c.self.view_is ∙ c.requires in
    step_ended c.args.self.now c.self.inside.said c.end_by.new.said c.self.inside.decoder c.self.inside.stage c.self.inside.at c.in-Some.frame c.in-Err.fault c.end_of_fault-end.result c.args.out.now.items c.next_stage.new.out.items
    c.self.view_is (c.self.invariant.goes_on on) c.in-Some.ensures.oldest (λ frames answers is same. c.in-Err.ensures.refused frames answers (subst (λ s. IsStageAfter frames answers s) (sym c.replace-stage.ensures.value) is) (ap Err same)) c.end_of_fault-end.ensures c.end_by.ensures.said c.in-Err.ensures.silent)
