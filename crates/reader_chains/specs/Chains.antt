-- Lists of readers as chains of links. Links are numbered from 1 on, and where the number is 0 a chain ends.
use Rattle.std.specs.Prelude.{ℕ, zero, suc, ◌≤◌, List, [], ◌∷◌, length, map, slice_index, slice_index_or}
use Rattle.reader_chains.specs.declared.chain.Link.{Link}

-- the link at i, or past the last one a link that leads nowhere
abbrev pub link_at : List Link → ℕ → Link
link_at links i = slice_index_or links i (record { reader = 0; next = 0 })

-- the readers on the chain that begins with a link, as far as the first argument says
abbrev pub chain : List Link → ℕ → ℕ → List ℕ
chain links zero at = []
chain links (suc most) zero = []
chain links (suc most) (suc i) = (link_at links i).reader ∷ chain links most (link_at links i).next

-- all of them: no chain is longer than the number of its first link
abbrev pub readers_from : List Link → ℕ → List ℕ
readers_from links at = chain links at at

-- for each place those on the chain from its first link
abbrev pub chains : List ℕ → List Link → List (List ℕ)
chains first links = map (readers_from links) first

-- each link leads to an earlier one, or nowhere
abbrev pub LeadsBack : List Link → Type 0
LeadsBack links = (i : ℕ) → (link_at links i).next ≤ i

-- a chain that begins with a link that is there
pub record IsWithin (links : List Link) (at : ℕ) : Type 0 where
  pub back : LeadsBack links
  pub begun : at ≤ length links

-- each place has its first link, or 0
pub record AreLinked (first : List ℕ) (links : List Link) : Type 0 where
  pub back : LeadsBack links
  pub begun : (k : ℕ) → slice_index first k ≤ length links
