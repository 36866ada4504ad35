-- How often each symbol comes among the readings of a load. Assumes nothing.
use Rattle.std.specs.Prelude.{ℕ, ◌+◌, cond, List, [], ◌∷◌, map, Some, None, Option, count_by, nat_eq, nat_lt, slice_index, slice_set}
use Rattle.reading.specs.declared.Symbol.{Symbol}

-- the place of a symbol among the readings a to h, if it is one
abbrev pub index_of : Symbol → Option ℕ
index_of s = cond (nat_lt s.0 8) (Some s.0) None

-- how many of the symbols have the number k
abbrev pub occurs : ℕ → List Symbol → ℕ
occurs k ss = count_by (λ s. nat_eq s.0 k) ss

-- the eight counts, of a first and of h last; a symbol above 7 is in none
abbrev pub counts_of : List Symbol → List ℕ
counts_of ss = map (λ k. occurs k ss) (0 ∷ 1 ∷ 2 ∷ 3 ∷ 4 ∷ 5 ∷ 6 ∷ 7 ∷ [])

-- eight counts with one symbol more
abbrev pub counted : List ℕ → Symbol → List ℕ
counted ns s = cond (nat_lt s.0 8) (slice_set ns s.0 (slice_index ns s.0 + 1)) ns
