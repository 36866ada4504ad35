-- What thresholds and remainders share: a sum of coefficients over the tags, and tags with a lead, a bit and a value. Assumes nothing.
use Rattle.std.specs.Prelude.{ℕ, ◌+◌, ◌*◌, ◌/◌, ◌%◌, Bool, cond, not, List, [], ◌∷◌, ℤ, pos, ◌+ℤ◌, ◌*ℤ◌, ◌==◌, slice_index_or}
use Rattle.protocol.specs.Joining.{one_if}

-- the coefficient of a symbol
abbrev pub coefficient_of : List ℤ → ℕ → ℤ
coefficient_of coefficients symbol = slice_index_or coefficients symbol (pos 0)

-- the sum of each coefficient times its count
abbrev pub weighed : List ℤ → List ℕ → ℤ
weighed [] counts = pos 0
weighed (k ∷ ks) [] = pos 0
weighed (k ∷ ks) (n ∷ ns) = (k *ℤ pos n) +ℤ weighed ks ns

-- one of the two bits is set, the other is not
abbrev pub differs : Bool → Bool → Bool
differs a b = cond a (not b) b

-- a value's number, a lead and a bit in one number
abbrev pub packed : ℕ → Bool → Bool → ℕ
packed value lead bit = value * 4 + 2 * one_if lead + one_if bit

-- the value's number
abbrev pub value_part : ℕ → ℕ
value_part state = state / 4

-- the lead
abbrev pub lead_part : ℕ → Bool
lead_part state = state / 2 % 2 == 1

-- the bit
abbrev pub bit_part : ℕ → Bool
bit_part state = state % 2 == 1
