use Rattle.std.proofs.Common.{List, ℕ, sym, subst}
use Rattle.std.proofs.lemmas.Bool.{false≢true}
use Rattle.std.proofs.lemmas.List.{take_rest}
use Rattle.px_base.specs.FrameFits.{IsTorn}
use Rattle.px_frames.specs.Fronts.{IsWhole}
use Rattle.px_frames.proofs.Reading.{scans_more}
use Rattle.px_frames.proofs.decoder.scan.Goals as goal

pub loop-frame-preserved : goal.loop-frame-preserved
loop-frame-preserved c =
    scans_more c.args.bytes.now c.args.waiting.now.items c.loop-frame.waiting.items c.push_back.new.self.items c.loop-frame.at c.in-Whole.length c.in-Whole.frame c.loop-frame.invariant
    (subst (λ (l : List ℕ). IsWhole l c.in-Whole.frame c.in-Whole.length) (take_rest c.args.bytes.now c.loop-frame.at) (rw c.in-Whole.is at c.in_ok-frame.ensures))
    c.in_ok-push_back-in-Whole.ensures.items

pub returns-in-Torn-clause-ok : goal.returns-in-Torn-clause-ok
returns-in-Torn-clause-ok c = record {
  to = c.loop-frame.invariant;
  broken = λ e. subst (λ (l : List ℕ). IsTorn l) (take_rest c.args.bytes.now c.loop-frame.at) (rw c.in-Torn.is at c.in_ok-frame.ensures);
  short = λ e. absurd (false≢true (sym e));
}
