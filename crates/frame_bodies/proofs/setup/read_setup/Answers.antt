use Rattle.std.proofs.Common.{ℕ, List, ◌++◌, drop, ap, sym, ◌∙◌}
use Rattle.px_base.specs.Frames.{four_bytes}
use Rattle.frame_bodies.proofs.setup.read_setup.Goals as goal

pub returns-in_err-program : goal.returns-in_err-program
returns-in_err-program c =
    rw c.from_residual-in_err-program.ensures
    (λ s h e. c.in_err-program.ensures s.program (four_bytes s.chunks ++ four_bytes s.mirrors ++ four_bytes s.boundary ++ four_bytes s.reads) h.program
    (ap (λ (l : List ℕ). drop 12 l) (sym c.in_ok-index.ensures.0 ∙ sym e)))
