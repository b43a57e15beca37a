use Rattle.std.proofs.Common.{◌≡◌, ℕ, List, length, drop, ap, ◌∙◌, arith}
use Rattle.std.specs.Int.{w32, from_be_bytes}
use Rattle.std.proofs.lemmas.Nat.{from_be_bytes-to_be_bytes_4}
use Rattle.frame_bodies.proofs.Candidates.{no_reported}
use Rattle.frame_bodies.proofs.Fields.{reported_is}
use Rattle.frame_bodies.proofs.Unspelled.{four_at}
use Rattle.frame_bodies.proofs.answers.read_reported.Goals as goal

pub returns-then-rest-count : goal.returns-then-rest-count
returns-then-rest-count c =
    let count : four_at 4 c.args.body.now ≡ c.in-Some.count =
    ap (λ (l : List ℕ). from_be_bytes w32 (drop 4 l)) c.in-Some.ensures.0 ∙ from_be_bytes-to_be_bytes_4 c.in-Some.count c.in-Some.ensures.2 in
    let long = ap length c.in-Some.ensures.0 in
    no_reported c.args.body.now (λ e. omega (arith, e, count, long, c.if-rest-count.true))

pub returns : goal.returns
returns c =
    rw c.from_vec-values.ensures
    (reported_is c.in-Some.epoch c.in-Some.count c.in-Some.rest.now c.args.body.now c.in_ok-read_values.field-0.items
    c.in-Some.ensures.0 c.in-Some.ensures.1 c.in-Some.ensures.2 c.if-rest-count.false c.in_ok-read_values.ensures.is c.in_ok-read_values.ensures.room)
