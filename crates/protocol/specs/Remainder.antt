-- The remainder: does the sum of the coefficients over the tags leave a given remainder? Assumes nothing.
use Rattle.std.specs.Prelude.{ℕ, ◌+◌, ◌*◌, ◌%◌, Bool, true, false, cond, not, ◌&&◌, ◌||◌, List, [], ◌∷◌, length, ℤ, pos, ◌-ℤ◌, ◌==◌, unsigned_abs}
use Rattle.std.specs.Int.{int_rem_euclid}
use Rattle.protocol.specs.declared.Advice.{Advice}
use Rattle.protocol.specs.declared.Fields.{Fields}
use Rattle.protocol.specs.Protocols.{Protocol, Meaning}
use Rattle.protocol.specs.Places.{state_at, lowest, other, led}
use Rattle.protocol.specs.Sums.{coefficient_of, weighed, differs, packed, value_part, lead_part, bit_part}

-- fields to number, for values below the modulus
abbrev pub number_of : Fields ℕ → ℕ
number_of f = packed f.value f.lead f.bit

-- number to fields
abbrev pub fields_of : ℕ → Fields ℕ
fields_of state = record { lead = lead_part state; bit = bit_part state; value = value_part state }

-- the remainder of a coefficient, from 0 to modulus - 1
abbrev pub reduced : ℕ → ℤ → ℕ
reduced modulus k = unsigned_abs (int_rem_euclid k (pos modulus))

-- a meeting: where either leads, the first takes both values, the second none, and both the first's bit
abbrev pub met_fields : ℕ → ℕ → Fields ℕ → Fields ℕ → Fields ℕ × Fields ℕ
met_fields modulus residue a b =
    let kept : ℕ = (a.value + b.value) % modulus in
    cond (a.lead || b.lead)
    (record { lead = true; bit = (kept == residue); value = kept }, record { lead = false; bit = (kept == residue); value = 0 })
    (a, b)

-- the leader's partner, by two rules in their order
abbrev pub partner_rules : ℕ → (ℕ → Fields ℕ) → ℕ → List (ℕ → Bool)
partner_rules residue tag leader =
    other leader (λ place. (tag place).lead)
    ∷ other leader (λ place. differs ((tag leader).value == residue) (tag place).bit)
    ∷ []

-- the advice: the lowest tag that leads meets the partner that the rules name
abbrev pub next_of : ℕ → List ℕ → Advice
next_of residue states =
    let tag : ℕ → Fields ℕ = λ place. fields_of (state_at states place) in
    let n : ℕ = length states in
    led (lowest (λ place. (tag place).lead) n) (partner_rules residue tag) n

-- what a tag with this symbol starts with
abbrev pub start_fields : List ℤ → ℕ → ℕ → ℕ → Fields ℕ
start_fields coefficients modulus residue symbol =
    let u : ℕ = reduced modulus (coefficient_of coefficients symbol) in
    record { lead = true; bit = (u == residue); value = u }

-- the whole, by a coefficient for each symbol, a modulus and a residue
abbrev pub remainder_protocol : List ℤ → ℕ → ℕ → Protocol Bool
remainder_protocol coefficients modulus residue = record {
  tables = record {
    size = 4 * modulus;
    start = λ symbol. number_of (start_fields coefficients modulus residue symbol);
    answer = λ state. (fields_of state).bit;
    meet = λ a b.
        let left : Fields ℕ × Fields ℕ = met_fields modulus residue (fields_of a) (fields_of b) in
        (number_of left.0, number_of left.1);
  };
  weight = 2;
  next = next_of residue;
  truth = λ counts. (unsigned_abs (weighed coefficients counts -ℤ pos residue) % modulus == 0);
}

-- the question (R)
abbrev pub remainder : List ℤ → ℕ → ℕ → Meaning
remainder coefficients modulus residue = record { kind = 82; protocol = remainder_protocol coefficients modulus residue }
