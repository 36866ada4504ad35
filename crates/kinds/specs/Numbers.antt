-- Fields and state numbers, each way: unknown numbers have no fields, and fields out of range no number. Assumes nothing.
use Rattle.std.specs.Prelude.{ℕ, ◌+◌, ◌*◌, cond, ℤ, Some, None, Option, nat_le, nat_lt, unsigned_abs}
use Rattle.protocol.specs.declared.Fields.{Fields}
use Rattle.protocol.specs.Threshold as threshold
use Rattle.protocol.specs.Remainder as remainder

-- the fields in a number of a threshold with values from -s to s
abbrev pub threshold_fields : ℕ → ℕ → Option (Fields ℤ)
threshold_fields s state = cond (nat_lt state (4 * (2 * s + 1))) (Some (threshold.fields_of s state)) None

-- the number of its fields
abbrev pub threshold_number : ℕ → Fields ℤ → Option ℕ
threshold_number s f = cond (nat_le (unsigned_abs f.value) s) (Some (threshold.number_of s f)) None

-- the fields in a number of a remainder with values below the modulus
abbrev pub remainder_fields : ℕ → ℕ → Option (Fields ℕ)
remainder_fields modulus state = cond (nat_lt state (4 * modulus)) (Some (remainder.fields_of state)) None

-- the number of its fields
abbrev pub remainder_number : ℕ → Fields ℕ → Option ℕ
remainder_number modulus f = cond (nat_lt f.value modulus) (Some (remainder.number_of f)) None
