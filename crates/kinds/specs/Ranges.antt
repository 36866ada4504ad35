-- The numbers of which questions are made. Assumes nothing.
use Rattle.std.specs.Prelude.{ℕ, Bool, ◌&&◌, List, [], ◌∷◌, ℤ, nat_le, nat_lt, unsigned_abs}
use Rattle.std.specs.List.{list_all}
use Rattle.refusal.specs.Checks.{Check, check}
use Rattle.refusal.specs.declared.Refusal.TheVariants.{NumberRange}

-- each coefficient from -99 to 99
abbrev pub coefficients_fit : List ℤ → Bool
coefficients_fit = list_all (λ k. nat_le (unsigned_abs k) 99)

-- and the bound from -999 to 999
abbrev pub threshold_fits : List ℤ → ℤ → Bool
threshold_fits coefficients bound = coefficients_fit coefficients && nat_le (unsigned_abs bound) 999

-- and the modulus from 2 to 999, the residue below it
abbrev pub remainder_fits : List ℤ → ℕ → ℕ → Bool
remainder_fits coefficients modulus residue = coefficients_fit coefficients && (nat_le 2 modulus && (nat_le modulus 999 && nat_lt residue modulus))

-- what is asked of the numbers that a question is made from
abbrev pub numbers_checks : Bool → List Check
numbers_checks fit = check NumberRange fit 0 ∷ []
