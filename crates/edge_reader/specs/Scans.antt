-- What is known of a line after some of its bytes.
use Rattle.std.specs.Prelude.{ℕ, ◌+◌, ◌-◌, ◌*◌, ◌^◌, Bool, true, false, ◌==◌, ◌||◌, nat_lt, if◌then◌else◌, Option, Some, None, List, [], ◌∷◌, take, drop, ◌≡◌, ◌≢◌}
use Rattle.std.specs.List.{fold, AllByRecursion}
use Rattle.px_base.specs.Lines.{Line, skipped, an_edge, faulty, missing, bad_id, bad_weight, is_blank}
use Rattle.std.specs.Char.{is_ascii_digit}
use Rattle.edge_reader.specs.declared.scan.Scan.{Scan}
use Rattle.edge_reader.specs.declared.scan.Stage.{Stage}
use Rattle.edge_reader.specs.declared.scan.Stage.TheVariants.{Start, Comment, Indent, Source, AfterSource, Target, AfterTarget, Weight, Rest, WrongId, WrongWeight}
use Rattle.edge_reader.specs.declared.scan.Said.{Said}
use Rattle.edge_reader.specs.declared.scan.Said.TheVariants.{Skipped, Edge, Missing, BadId, BadWeight}

-- the number with one more digit, where the byte is one and the number stays below 2 ^ 32
abbrev pub with_digit : ℕ → ℕ → Option ℕ
with_digit number byte = if is_ascii_digit byte then (if nat_lt (number * 10 + (byte - 48)) (2 ^ 32) then Some (number * 10 + (byte - 48)) else None) else None

-- what f makes of it, where there is something
abbrev pub on_some : {X Y : Type 0} → Option X → (X → Option Y) → Option Y
on_some None f = None
on_some (Some x) f = f x

-- the number with the digits of these bytes, where all are digits and it stays below 2 ^ 32
abbrev pub with_digits : ℕ → List ℕ → Option ℕ
with_digits n [] = Some n
with_digits n (b ∷ bs) = on_some (with_digit n b) (λ m. with_digits m bs)

-- the bytes from a place up to another
abbrev pub bytes_between : List ℕ → ℕ → ℕ → List ℕ
bytes_between piece from to = take (to - from) (drop from piece)

-- nothing is read yet
abbrev pub line_start : Scan
line_start = record { stage = Start; held = false; source = 0; target = 0; weight = 1 }

-- a byte of the first field, of which the digits so far write the number
abbrev pub in_source : Scan → ℕ → ℕ → Scan
in_source s number byte = elim (with_digit number byte) [ Some n ↦ record s { stage = Source; source = n } | None ↦ record s { stage = WrongId } ]

-- a byte of the second field
abbrev pub in_target : Scan → ℕ → ℕ → Scan
in_target s number byte = elim (with_digit number byte) [ Some n ↦ record s { stage = Target; target = n } | None ↦ record s { stage = WrongId } ]

-- a byte of the third field
abbrev pub in_weight : Scan → ℕ → ℕ → Scan
in_weight s number byte = elim (with_digit number byte) [ Some n ↦ record s { stage = Weight; weight = n } | None ↦ record s { stage = WrongWeight } ]

-- the first byte of the third field, which may be one to skip
abbrev pub in_third : Bool → Scan → ℕ → Scan
in_third weighted s byte = if weighted then in_weight s 0 byte else record s { stage = Rest; weight = 1 }

-- the first byte of a line, where it is no separator
abbrev pub at_start : Scan → ℕ → Scan
at_start s byte = if byte == 35 || byte == 37 then record s { stage = Comment } else in_source s 0 byte

-- the stage after a separator
abbrev pub after_blank : Stage → Stage
after_blank Start = Indent
after_blank Source = AfterSource
after_blank Target = AfterTarget
after_blank Weight = Rest
after_blank Comment = Comment
after_blank Indent = Indent
after_blank AfterSource = AfterSource
after_blank AfterTarget = AfterTarget
after_blank Rest = Rest
after_blank WrongId = WrongId
after_blank WrongWeight = WrongWeight

-- a byte that is no separator, by the stage before it
abbrev pub in_field : Bool → Stage → Scan → ℕ → Scan
in_field weighted Start s byte = at_start s byte
in_field weighted Indent s byte = in_source s 0 byte
in_field weighted Source s byte = in_source s s.source byte
in_field weighted AfterSource s byte = in_target s 0 byte
in_field weighted Target s byte = in_target s s.target byte
in_field weighted AfterTarget s byte = in_third weighted s byte
in_field weighted Weight s byte = in_weight s s.weight byte
in_field weighted Comment s byte = s
in_field weighted Rest s byte = s
in_field weighted WrongId s byte = s
in_field weighted WrongWeight s byte = s

-- one more byte of the line, carriage returns like any other byte
abbrev pub next_in_line : Bool → Scan → ℕ → Scan
next_in_line weighted s byte = if is_blank byte then record s { stage = after_blank s.stage } else in_field weighted s.stage s byte

-- a return that was held back isn't the line's last byte, so it counts
abbrev pub let_go : Bool → Scan → Scan
let_go weighted s = if s.held then next_in_line weighted (record s { held = false }) 13 else s

-- one more byte of the line; a return is held back
abbrev pub next_byte : Bool → Scan → ℕ → Scan
next_byte weighted s byte = if byte == 13 then record (let_go weighted s) { held = true } else next_in_line weighted (let_go weighted s) byte

-- what is known after these bytes of a line
abbrev pub scanned : Bool → List ℕ → Scan
scanned weighted bytes = fold (next_byte weighted) line_start bytes

-- what the line says if it ends at this stage
abbrev pub judged_at : Stage → Scan → Line
judged_at Start s = skipped
judged_at Comment s = skipped
judged_at Indent s = skipped
judged_at Source s = faulty missing
judged_at AfterSource s = faulty missing
judged_at Target s = an_edge (record { source = s.source; target = s.target; weight = 1 })
judged_at AfterTarget s = an_edge (record { source = s.source; target = s.target; weight = 1 })
judged_at Weight s = an_edge (record { source = s.source; target = s.target; weight = s.weight })
judged_at Rest s = an_edge (record { source = s.source; target = s.target; weight = s.weight })
judged_at WrongId s = faulty bad_id
judged_at WrongWeight s = faulty bad_weight

abbrev pub judged : Scan → Line
judged s = judged_at s.stage s

-- a line's answer as the line that it stands for
abbrev pub line_said : Said → Line
line_said Skipped = skipped
line_said (Edge a b w) = an_edge (record { source = a; target = b; weight = w })
line_said Missing = faulty missing
line_said BadId = faulty bad_id
line_said BadWeight = faulty bad_weight

-- the scan takes these bytes, and none of them is a newline
pub record TakesDigits (old new : Scan) (bytes : List ℕ) : Type 0 where
  pub taken : (weighted : Bool) → new ≡ fold (next_byte weighted) old bytes
  pub inside : AllByRecursion (λ b. b ≢ 10) bytes
