use Rattle.std.proofs.Common.{arith, ◌≡◌, ◌<◌, ◌≤◌, ◌-◌, ◌+◌, ◌^◌, ℕ, [], length, take, drop, ap, sym, subst, ◌∙◌, refl, append-nil, Ok}
use Rattle.std.proofs.lemmas.Result.{err_from_is_err_and}
use Rattle.std.proofs.lemmas.List.{length-take-le}
use Rattle.std.proofs.KnownBytes.{Consumes-nil}
use Rattle.std.specs.Io.KnownBytes.{Consumes}
use Rattle.px_base.specs.Lines.{line_of}
use Rattle.px_base.specs.Inputs.{ended_lines}
use Rattle.edge_reader.specs.Scans.{judged, line_said}
use Rattle.edge_reader.specs.Lists.{open_line}
use Rattle.edge_reader.proofs.Texts.{ended_few}
use Rattle.edge_reader.proofs.LineScans.{scanned_is}
use Rattle.edge_reader.proofs.WholeInputs.{Progress, few_bytes, progress_fails, progress_ends, progress_goes_on, progress_faulty, progress_long, front_taken, more_left, line_counts_nothing, line_is_no_read_fault}
use Rattle.edge_reader.specs.declared.fault.EdgeFault.TheVariants.{ReadFault, TooManyVertices}
use Rattle.edge_reader.proofs.reader.read_lines.Goals as goal

pub loop-count-init : goal.loop-count-init
loop-count-init g c = record {
  progress = record { text = []; size = refl; short = omega arith; lost = Consumes-nil (g.S.Source.left c.args.source.now); fed = (c.requires.fresh, c.new-scan.ensures); same = refl };
  faults = refl;
  ends_told = refl;
}

pub loop-count-preserved : goal.loop-count-preserved
loop-count-preserved g c =
    let size : length (take c.in-Ok.count c.take.new.space) ≡ c.in-Ok.count = length-take-le c.in-Ok.count c.take.new.space (omega (arith, c.in-Ok.ensures.within)) in
    record {
      progress = subst (λ n. Progress c.args.lines.now.weighted (g.S.Source.left c.args.source.now) (g.S.Source.left c.take.new.self) c.feed-in-loop-count.new.self c.in_ok-scan.scan (c.loop-count.total + n)) size
          (progress_goes_on c.args.lines.now.weighted (g.S.Source.left c.args.source.now) (g.S.Source.left c.loop-count.source) (g.S.Source.left c.take.new.self) c.loop-count.lines c.feed-in-loop-count.new.self c.loop-count.scan c.in_ok-scan.scan c.loop-count.total
          (take c.in-Ok.count c.take.new.space) c.loop-count.invariant.progress c.in-Ok.ensures.moved (omega (arith, size, c.loop-count.invariant.progress.short)) c.feed-in-loop-count.ensures.weighted c.in_ok-scan.ensures.fed);
      faults = c.in-Ok.ensures.quiet ∙ c.loop-count.invariant.faults;
      ends_told = c.in-Ok.ensures.told.goes_on (λ same. let zero : c.in-Ok.count ≡ 0 = cc same in absurd (search (c.if-count-eq0.false, zero))) ∙ c.loop-count.invariant.ends_told;
    }

pub returns-in_default-clause-read : goal.returns-in_default-clause-read
returns-in_default-clause-read g c =
    progress_fails c.args.lines.now.weighted (g.S.Source.left c.args.source.now) (g.S.Source.left c.loop-count.source) (g.S.Source.left c.take.new.self) c.loop-count.lines c.loop-count.scan c.loop-count.total c.loop-count.invariant.progress c.in_default.ensures.kept

pub returns-then-count-eq0-clause-read : goal.returns-then-count-eq0-clause-read
returns-then-count-eq0-clause-read g c =
    let p = c.loop-count.invariant.progress in
    let none : Consumes (g.S.Source.left c.loop-count.source) (g.S.Source.left c.take.new.self) [] = rw c.if-count-eq0.true at c.in-Ok.ensures.moved in
    let few : length (ended_lines p.text) < 2 ^ 32 = omega (arith, ended_few p.text, p.size, p.short) in
    let is : line_of c.loop-count.lines.weighted (open_line p.text) ≡ line_said c.judged.result = sym (scanned_is c.loop-count.lines.weighted (open_line p.text)) ∙ ap judged (sym p.fed.1) ∙ sym c.judged.ensures in
    progress_ends c.args.lines.now.weighted (g.S.Source.left c.args.source.now) (g.S.Source.left c.loop-count.source) (g.S.Source.left c.take.new.self) c.loop-count.lines c.end_line.new.self c.loop-count.scan c.loop-count.total c.end_line.result p none
    (c.in-Ok.ensures.ended (ap (λ n. Ok n) c.if-count-eq0.true)) c.end_line.ensures.weighted (c.end_line.ensures.adds (ended_lines p.text) (open_line p.text) p.fed.0 is few)

pub returns-then-count-eq0-clause-cause : goal.returns-then-count-eq0-clause-cause
returns-then-count-eq0-clause-cause g c = λ e.
    let p = c.loop-count.invariant.progress in
    let few : length (ended_lines p.text) < 2 ^ 32 = omega (arith, ended_few p.text, p.size, p.short) in
    let is : line_of c.loop-count.lines.weighted (open_line p.text) ≡ line_said c.judged.result = sym (scanned_is c.loop-count.lines.weighted (open_line p.text)) ∙ ap judged (sym p.fed.1) ∙ sym c.judged.ensures in
    absurd (line_is_no_read_fault _ c.end_line.new.self c.end_line.result (c.end_line.ensures.adds (ended_lines p.text) (open_line p.text) p.fed.0 is few) e)

pub returns-then-count-eq0-clause-not_ended : goal.returns-then-count-eq0-clause-not_ended
returns-then-count-eq0-clause-not_ended g c = λ e.
    let p = c.loop-count.invariant.progress in
    let few : length (ended_lines p.text) < 2 ^ 32 = omega (arith, ended_few p.text, p.size, p.short) in
    let is : line_of c.loop-count.lines.weighted (open_line p.text) ≡ line_said c.judged.result = sym (scanned_is c.loop-count.lines.weighted (open_line p.text)) ∙ ap judged (sym p.fed.1) ∙ sym c.judged.ensures in
    absurd (line_is_no_read_fault _ c.end_line.new.self c.end_line.result (c.end_line.ensures.adds (ended_lines p.text) (open_line p.text) p.fed.0 is few) e)

pub returns-in_err-feed-clause-read : goal.returns-in_err-feed-clause-read
returns-in_err-feed-clause-read g c =
    let room : ℕ = 4294967295 - c.loop-count.total in
    let over : room ≤ c.in-Ok.count = omega (arith, c.if-count-room.true) in
    let size : length (take room c.take.new.space) ≡ room = length-take-le room c.take.new.space (omega (arith, c.in-Ok.ensures.within)) in
    let p = err_from_is_err_and c.from_residual.result c.from_residual.ensures.1 in
    rw (p.1, p.2) (progress_faulty c.args.lines.now.weighted (g.S.Source.left c.args.source.now) (g.S.Source.left c.loop-count.source) (g.S.Source.left c.take.new.self) c.loop-count.lines c.feed.new.self c.loop-count.scan c.loop-count.total
    (take room c.take.new.space) (drop room (take c.in-Ok.count c.take.new.space)) (take c.in-Ok.count c.take.new.space) c.in_err-feed.field-0.0 c.loop-count.invariant.progress c.in-Ok.ensures.moved
    (front_taken c.take.new.space room c.in-Ok.count over) (omega (arith, size, c.loop-count.invariant.progress.short)) c.feed.ensures.weighted c.in_err-feed.ensures.fed)

pub returns-in_err-feed-clause-cause : goal.returns-in_err-feed-clause-cause
returns-in_err-feed-clause-cause g c = λ e.
    let p = c.loop-count.invariant.progress in
    let room : ℕ = 4294967295 - c.loop-count.total in
    let size : length (take room c.take.new.space) ≡ room = length-take-le room c.take.new.space (omega (arith, c.in-Ok.ensures.within, c.if-count-room.true)) in
    let q = err_from_is_err_and c.from_residual.result c.from_residual.ensures.1 in
    let same : c.in_err-feed.field-0.0 ≡ ReadFault = cc (q.1, q.2) in
    absurd ((c.in_err-feed.ensures.fed p.text p.fed (few_bytes p.text (take room c.take.new.space) c.loop-count.total p.size (omega (arith, size, p.short)))).own same)

pub returns-then-count-room-clause-read : goal.returns-then-count-room-clause-read
returns-then-count-room-clause-read g c =
    let room : ℕ = 4294967295 - c.loop-count.total in
    let over : room < c.in-Ok.count = omega (arith, c.if-count-room.true) in
    let inside : c.in-Ok.count ≤ length c.take.new.space = omega (arith, c.in-Ok.ensures.within) in
    let size : length (take room c.take.new.space) ≡ room = length-take-le room c.take.new.space (omega arith) in
    progress_long c.args.lines.now.weighted (g.S.Source.left c.args.source.now) (g.S.Source.left c.loop-count.source) (g.S.Source.left c.take.new.self) c.loop-count.lines c.feed.new.self c.loop-count.scan c.in_ok-feed.field-0 c.loop-count.total
    (take room c.take.new.space) (drop room (take c.in-Ok.count c.take.new.space)) (take c.in-Ok.count c.take.new.space) c.loop-count.invariant.progress c.in-Ok.ensures.moved
    (front_taken c.take.new.space room c.in-Ok.count (omega arith)) (more_left c.take.new.space room c.in-Ok.count over inside) (omega (arith, size, c.loop-count.invariant.progress.short)) c.feed.ensures.weighted c.in_ok-feed.ensures.fed

pub returns-in_err-scan-clause-read : goal.returns-in_err-scan-clause-read
returns-in_err-scan-clause-read g c =
    let size : length (take c.in-Ok.count c.take.new.space) ≡ c.in-Ok.count = length-take-le c.in-Ok.count c.take.new.space (omega (arith, c.in-Ok.ensures.within)) in
    let p = err_from_is_err_and c.from_residual-in_err-scan.result c.from_residual-in_err-scan.ensures.1 in
    rw (p.1, p.2) (progress_faulty c.args.lines.now.weighted (g.S.Source.left c.args.source.now) (g.S.Source.left c.loop-count.source) (g.S.Source.left c.take.new.self) c.loop-count.lines c.feed-in-loop-count.new.self c.loop-count.scan c.loop-count.total
    (take c.in-Ok.count c.take.new.space) [] (take c.in-Ok.count c.take.new.space) c.in_err-scan.field-0.0 c.loop-count.invariant.progress c.in-Ok.ensures.moved
    (sym (append-nil (take c.in-Ok.count c.take.new.space))) (omega (arith, size, c.if-count-room.false, c.loop-count.invariant.progress.short)) c.feed-in-loop-count.ensures.weighted c.in_err-scan.ensures.fed)

pub returns-in_err-scan-clause-cause : goal.returns-in_err-scan-clause-cause
returns-in_err-scan-clause-cause g c = λ e.
    let p = c.loop-count.invariant.progress in
    let size : length (take c.in-Ok.count c.take.new.space) ≡ c.in-Ok.count = length-take-le c.in-Ok.count c.take.new.space (omega (arith, c.in-Ok.ensures.within)) in
    let q = err_from_is_err_and c.from_residual-in_err-scan.result c.from_residual-in_err-scan.ensures.1 in
    let same : c.in_err-scan.field-0.0 ≡ ReadFault = cc (q.1, q.2) in
    absurd ((c.in_err-scan.ensures.fed p.text p.fed (few_bytes p.text (take c.in-Ok.count c.take.new.space) c.loop-count.total p.size (omega (arith, size, c.if-count-room.false, p.short)))).own same)

pub returns-then-count-eq0-clause-uncounted : goal.returns-then-count-eq0-clause-uncounted
returns-then-count-eq0-clause-uncounted g c = λ e.
    let p = c.loop-count.invariant.progress in
    let few : length (ended_lines p.text) < 2 ^ 32 = omega (arith, ended_few p.text, p.size, p.short) in
    let is : line_of c.loop-count.lines.weighted (open_line p.text) ≡ line_said c.judged.result = sym (scanned_is c.loop-count.lines.weighted (open_line p.text)) ∙ ap judged (sym p.fed.1) ∙ sym c.judged.ensures in
    absurd (line_counts_nothing _ c.end_line.new.self c.end_line.result (c.end_line.ensures.adds (ended_lines p.text) (open_line p.text) p.fed.0 is few) e)

pub returns-in_err-feed-clause-uncounted : goal.returns-in_err-feed-clause-uncounted
returns-in_err-feed-clause-uncounted g c = λ e.
    let p = c.loop-count.invariant.progress in
    let room : ℕ = 4294967295 - c.loop-count.total in
    let size : length (take room c.take.new.space) ≡ room = length-take-le room c.take.new.space (omega (arith, c.in-Ok.ensures.within, c.if-count-room.true)) in
    let q = err_from_is_err_and c.from_residual.result c.from_residual.ensures.1 in
    let same : c.in_err-feed.field-0.0 ≡ TooManyVertices = cc (q.1, q.2) in
    absurd ((c.in_err-feed.ensures.fed p.text p.fed (few_bytes p.text (take room c.take.new.space) c.loop-count.total p.size (omega (arith, size, p.short)))).early same)

pub returns-in_err-scan-clause-uncounted : goal.returns-in_err-scan-clause-uncounted
returns-in_err-scan-clause-uncounted g c = λ e.
    let p = c.loop-count.invariant.progress in
    let size : length (take c.in-Ok.count c.take.new.space) ≡ c.in-Ok.count = length-take-le c.in-Ok.count c.take.new.space (omega (arith, c.in-Ok.ensures.within)) in
    let q = err_from_is_err_and c.from_residual-in_err-scan.result c.from_residual-in_err-scan.ensures.1 in
    let same : c.in_err-scan.field-0.0 ≡ TooManyVertices = cc (q.1, q.2) in
    absurd ((c.in_err-scan.ensures.fed p.text p.fed (few_bytes p.text (take c.in-Ok.count c.take.new.space) c.loop-count.total p.size (omega (arith, size, c.if-count-room.false, p.short)))).early same)
