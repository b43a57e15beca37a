use Rattle.std.proofs.Common.{[], subst}
use Rattle.std.specs.Io.KnownBytes.{Appends}
use Rattle.px_io.specs.Causes.{AppendsPrefix}
use Rattle.worker_serve.specs.Talks.{IsFed}
use Rattle.worker_serve.proofs.Passing.{passed_all, passed_front, passed_wanting}
use Rattle.worker_serve.proofs.serving.pass.Goals as goal

pub returns-in-Ok-clause-passed : goal.returns-in-Ok-clause-passed
returns-in-Ok-clause-passed g c =
    (let fed : IsFed c.args.session.now c.args.piece.now c.feed-fed.new.self [] c.feed-fed.new.out.items c.feed-fed.result = subst (λ bs. IsFed c.args.session.now c.args.piece.now c.feed-fed.new.self bs c.feed-fed.new.out.items c.feed-fed.result) c.clear.ensures.items (c.feed-fed.ensures.fed c.requires) in
    passed_all c.args.session.now c.feed-fed.new.self c.args.piece.now c.feed-fed.new.out.items (g.K.Sink.written c.args.sink.now) (g.K.Sink.written c.put_all.new.sink) c.feed-fed.result fed
    (subst (λ bs. Appends (g.K.Sink.written c.args.sink.now) (g.K.Sink.written c.put_all.new.sink) bs) c.as_slice.ensures.value c.in-Ok.ensures.ok))

pub returns-in-Err-Failed-clause-passed : goal.returns-in-Err-Failed-clause-passed
returns-in-Err-Failed-clause-passed g c =
    (let fed : IsFed c.args.session.now c.args.piece.now c.feed-fed.new.self [] c.feed-fed.new.out.items c.feed-fed.result = subst (λ bs. IsFed c.args.session.now c.args.piece.now c.feed-fed.new.self bs c.feed-fed.new.out.items c.feed-fed.result) c.clear.ensures.items (c.feed-fed.ensures.fed c.requires) in
    passed_front c.args.session.now c.feed-fed.new.self c.args.piece.now c.feed-fed.new.out.items (g.K.Sink.written c.args.sink.now) (g.K.Sink.written c.put_all.new.sink) c.feed-fed.result fed
    (subst (λ bs. AppendsPrefix (g.K.Sink.written c.args.sink.now) (g.K.Sink.written c.put_all.new.sink) bs) c.as_slice.ensures.value c.in-Err-Failed.ensures.err))

pub returns-in-Err-Memory-clause-passed : goal.returns-in-Err-Memory-clause-passed
returns-in-Err-Memory-clause-passed g c =
    (let fed : IsFed c.args.session.now c.args.piece.now c.feed-fed.new.self [] c.feed-fed.new.out.items c.feed-fed.result = subst (λ bs. IsFed c.args.session.now c.args.piece.now c.feed-fed.new.self bs c.feed-fed.new.out.items c.feed-fed.result) c.clear.ensures.items (c.feed-fed.ensures.fed c.requires) in
    passed_wanting c.args.session.now c.feed-fed.new.self c.args.piece.now c.feed-fed.new.out.items (g.K.Sink.written c.args.sink.now) (g.K.Sink.written c.put_all.new.sink) c.feed-fed.result fed
    (subst (λ bs. AppendsPrefix (g.K.Sink.written c.args.sink.now) (g.K.Sink.written c.put_all.new.sink) bs) c.as_slice.ensures.value c.in-Err-Memory.ensures.err))
