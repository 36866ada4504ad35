-- What is printed of a symbol and of eight counts, as bytes. Assumes nothing.
use Rattle.std.specs.Prelude.{ℕ, ◌+◌, cond, List, [], ◌∷◌, ◌++◌, map, decimal, nat_lt, slice_index}
use Rattle.reading.specs.declared.Symbol.{Symbol}

-- the letter of the symbol k: 97 is the byte of a
abbrev pub letter : ℕ → ℕ
letter k = 97 + k

-- the letter of a reading, and the number of any other symbol
abbrev pub symbol_text : Symbol → List ℕ
symbol_text s = cond (nat_lt s.0 8) (letter s.0 ∷ []) (decimal s.0)

-- the letter of the symbol k, a space and its count
abbrev pub count_text : List ℕ → ℕ → List ℕ
count_text ns k = letter k ∷ 32 ∷ decimal (slice_index ns k)

-- texts with a space between each two
abbrev pub spaced : List (List ℕ) → List ℕ
spaced [] = []
spaced (x ∷ []) = x
spaced (x ∷ y ∷ rest) = x ++ (32 ∷ spaced (y ∷ rest))

-- each letter with its count, as `a 2 b 0 c 1 ..`
abbrev pub counts_text : List ℕ → List ℕ
counts_text ns = spaced (map (count_text ns) (0 ∷ 1 ∷ 2 ∷ 3 ∷ 4 ∷ 5 ∷ 6 ∷ 7 ∷ []))
