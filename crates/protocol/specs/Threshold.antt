-- The threshold: is the sum of the coefficients over the tags below a bound? Assumes nothing.
use Rattle.std.specs.Prelude.{ℕ, ◌+◌, ◌*◌, max, Bool, true, false, cond, not, ◌&&◌, ◌||◌, List, [], ◌∷◌, length, ℤ, pos, ◌+ℤ◌, ◌-ℤ◌, neg_ℤ, ◌==◌, int_lt, nat_lt, unsigned_abs}
use Rattle.protocol.specs.declared.Advice.{Advice}
use Rattle.protocol.specs.declared.Fields.{Fields}
use Rattle.protocol.specs.Protocols.{Protocol, Meaning}
use Rattle.protocol.specs.Places.{state_at, lowest, other, led}
use Rattle.protocol.specs.Sums.{coefficient_of, weighed, differs, packed, value_part, lead_part, bit_part}

-- the largest absolute value of the coefficients
abbrev pub largest : List ℤ → ℕ
largest [] = 0
largest (k ∷ ks) = max (unsigned_abs k) (largest ks)

-- the values of a tag run from -s to s: room for each coefficient, and for a sum on either side of the bound
abbrev pub span_of : List ℤ → ℤ → ℕ
span_of coefficients bound = max (unsigned_abs bound + 1) (largest coefficients)

-- fields to number, for values from -s to s
abbrev pub number_of : ℕ → Fields ℤ → ℕ
number_of s f = packed (unsigned_abs (f.value +ℤ pos s)) f.lead f.bit

-- number to fields
abbrev pub fields_of : ℕ → ℕ → Fields ℤ
fields_of s state = record {
  lead = lead_part state;
  bit = bit_part state;
  value = pos (value_part state) -ℤ pos s;
}

-- a number held between -s and s
abbrev pub held : ℕ → ℤ → ℤ
held s z = cond (int_lt z (neg_ℤ (pos s))) (neg_ℤ (pos s)) (cond (int_lt (pos s) z) (pos s) z)

-- a meeting: where either leads, the first takes as much of both values as it can hold, the second the rest, and both the first's bit
abbrev pub met_fields : ℕ → ℤ → Fields ℤ → Fields ℤ → Fields ℤ × Fields ℤ
met_fields s bound a b =
    let sum : ℤ = a.value +ℤ b.value in
    let kept : ℤ = held s sum in
    cond (a.lead || b.lead)
    (record { lead = true; bit = int_lt kept bound; value = kept }, record { lead = false; bit = int_lt kept bound; value = sum -ℤ kept })
    (a, b)

-- the number is 0
abbrev pub is_zero : ℤ → Bool
is_zero z = unsigned_abs z == 0

-- v has the opposite sign of u, or u is 0 and v is not
abbrev pub opposes : ℤ → ℤ → Bool
opposes u v = (int_lt u (pos 0) && int_lt (pos 0) v) || ((int_lt (pos 0) u && int_lt v (pos 0)) || (is_zero u && not (is_zero v)))

-- v is not 0, and a leader with the value u can hold more
abbrev pub unjoined : ℕ → ℤ → ℤ → Bool
unjoined s u v = nat_lt (unsigned_abs u) s && not (is_zero v)

-- a tag that leads, or whose bit is not this one
abbrev pub unheard : Bool → Fields ℤ → Bool
unheard bit f = f.lead || differs bit f.bit

-- the leader's partner, by three rules in their order
abbrev pub partner_rules : ℕ → ℤ → (ℕ → Fields ℤ) → ℕ → List (ℕ → Bool)
partner_rules s bound tag leader =
    let u : ℤ = (tag leader).value in
    other leader (λ place. opposes u (tag place).value)
    ∷ other leader (λ place. unjoined s u (tag place).value)
    ∷ other leader (λ place. unheard (int_lt u bound) (tag place))
    ∷ []

-- the advice: the lowest tag that leads meets the partner that the rules name
abbrev pub next_of : ℕ → ℤ → List ℕ → Advice
next_of s bound states =
    let tag : ℕ → Fields ℤ = λ place. fields_of s (state_at states place) in
    let n : ℕ = length states in
    led (lowest (λ place. (tag place).lead) n) (partner_rules s bound tag) n

-- what a tag with this symbol starts with
abbrev pub start_fields : List ℤ → ℤ → ℕ → Fields ℤ
start_fields coefficients bound symbol =
    let k : ℤ = coefficient_of coefficients symbol in
    record { lead = true; bit = int_lt k bound; value = k }

-- the whole, by a coefficient for each symbol and a bound
abbrev pub threshold_protocol : List ℤ → ℤ → Protocol Bool
threshold_protocol coefficients bound =
    let s : ℕ = span_of coefficients bound in
    record {
      tables = record {
        size = 4 * (2 * s + 1);
        start = λ symbol. number_of s (start_fields coefficients bound symbol);
        answer = λ state. (fields_of s state).bit;
        meet = λ a b.
            let left : Fields ℤ × Fields ℤ = met_fields s bound (fields_of s a) (fields_of s b) in
            (number_of s left.0, number_of s left.1);
      };
      weight = 2;
      next = next_of s bound;
      truth = λ counts. int_lt (weighed coefficients counts) bound;
    }

-- the question (T)
abbrev pub threshold : List ℤ → ℤ → Meaning
threshold coefficients bound = record { kind = 84; protocol = threshold_protocol coefficients bound }
