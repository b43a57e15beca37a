-- What cuts say of themselves.
use Rattle.std.specs.Prelude.{ℕ, ◌-◌, List, length, slice_index}

-- how many vertices the cuts share out: where the last part ends
abbrev pub vertex_count : List ℕ → ℕ
vertex_count cuts = slice_index cuts (length cuts - 1)
