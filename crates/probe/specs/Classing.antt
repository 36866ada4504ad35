-- What classing asks of its two slices. Assumes nothing.
use Rattle.std.specs.Prelude.{ℕ, List, [], ◌∷◌, length, ◌==◌}
use Rattle.reading.specs.declared.Symbol.{Symbol}
use Rattle.refusal.specs.declared.Refusal.TheVariants.{LengthMismatch}
use Rattle.refusal.specs.Checks.{Check, check}

-- its one check: are there as many places for symbols as there are bytes?
abbrev pub checks : List ℕ → List Symbol → List Check
checks bytes symbols = check LengthMismatch (length bytes == length symbols) 0 ∷ []
