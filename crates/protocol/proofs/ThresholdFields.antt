-- The numbers of the threshold's tags: a signed value as its offset from -s. Assumes nothing.
use Rattle.std.proofs.Common.{◌≡◌, ℕ, ◌+◌, ◌-◌, ◌*◌, ◌/◌, ◌%◌, ◌<◌, ◌≤◌, min, Bool, true, false, eqb, ltb, ◌⊎◌, ℤ, pos, ◌+ℤ◌, ◌-ℤ◌, nat_abs, sym, ap, ◌∙◌, ⊎_elim, arith}
use lib.Signed.{lt_z}
use Rattle.std.proofs.lemmas.Bool.{cases_eq, eq-eqb, ne_eqb}
use Rattle.std.proofs.lemmas.Bool.Decides.{nat_tests}
use Rattle.std.proofs.lemmas.Int.{ints}
use Rattle.protocol.specs.declared.Fields.{Fields}
use Rattle.protocol.specs.Joining.{one_if}
use Rattle.protocol.specs.Sums.{packed, value_part, lead_part, bit_part}
use Rattle.protocol.specs.Threshold.{number_of, fields_of, held, is_zero, opposes}

abbrev pub at : ℕ → ℕ → ℤ
at s x = pos x -ℤ pos s

-- the bound as an offset
pub lt_at : (s x b : ℕ) (c : ℤ) → c ≡ at s b → lt_z (at s x) c ≡ ltb x b
lt_at s x b c e = grind (arith, ints, nat_tests)

pub held_at : (s z : ℕ) → held s (pos z -ℤ pos (s + s)) ≡ at s (min (z - s) (s + s))
held_at s z = grind (arith, ints, nat_tests)

pub unsigned_abs_at : (s x : ℕ) → nat_abs (at s x +ℤ pos s) ≡ x
unsigned_abs_at s x = omega (arith, ints)

pub opposes_false : (s x y : ℕ) → opposes (at s x) (at s y) ≡ false → (x ≤ s → y ≤ s) × (s ≤ x → s ≤ y)
opposes_false s x y e = grind (arith, ints, nat_tests)

pub opposes_true : (s x y : ℕ) → opposes (at s x) (at s y) ≡ true → ((x ≤ s) × (s < y)) ⊎ ((s ≤ x) × (y < s))
opposes_true s x y e = grind (arith, ints, nat_tests)

-- the parts of a packed number
value-packed : (v : ℕ) (l d : Bool) → value_part (packed v l d) ≡ v
value-packed v true true = omega arith
value-packed v true false = omega arith
value-packed v false true = omega arith
value-packed v false false = omega arith

lead_packed : (v : ℕ) (l d : Bool) → lead_part (packed v l d) ≡ l
lead_packed v true true = eq-eqb _ 1 (omega arith)
lead_packed v true false = eq-eqb _ 1 (omega arith)
lead_packed v false true = ne_eqb _ 1 (λ e. omega arith)
lead_packed v false false = ne_eqb _ 1 (λ e. omega arith)

bit_packed : (v : ℕ) (l d : Bool) → bit_part (packed v l d) ≡ d
bit_packed v true true = eq-eqb _ 1 (omega arith)
bit_packed v true false = ne_eqb _ 1 (λ e. omega arith)
bit_packed v false true = eq-eqb _ 1 (omega arith)
bit_packed v false false = ne_eqb _ 1 (λ e. omega arith)

one_eqb : (a : ℕ) → a < 2 → one_if (eqb a 1) ≡ a
one_eqb a h = ⊎_elim (λ e. ap one_if (eq-eqb a 1 e) ∙ sym e) (λ e. ap one_if (ne_eqb a 1 e) ∙ omega arith) (cases_eq a 1)

-- a number is what it was, unknown ones too
pub number_same : (s q : ℕ) → number_of s (fields_of s q) ≡ q
number_same s q =
    let v = unsigned_abs_at s (q / 4) in
    let l = one_eqb (q / 2 % 2) (omega arith) in
    let d = one_eqb (q % 2) (omega arith) in
    omega arith

pub number_fields : (s q : ℕ) → q < 4 * (2 * s + 1) → number_of s (fields_of s q) ≡ q
number_fields s q h = number_same s q

pub at_back : (s : ℕ) (z : ℤ) → nat_abs z ≤ s → at s (nat_abs (z +ℤ pos s)) ≡ z
at_back s z h = omega (arith, ints)

fields_same : (l l' d d' : Bool) (z z' : ℤ) → l ≡ l' → d ≡ d' → z ≡ z' → ◌≡◌ {A = Fields ℤ} (record { lead = l; bit = d; value = z }) (record { lead = l'; bit = d'; value = z' })
fields_same l l' d d' z z' a b c = cc

pub fields_number : (s : ℕ) (f : Fields ℤ) → nat_abs f.value ≤ s → fields_of s (number_of s f) ≡ f
fields_number s f h =
    let v = nat_abs (f.value +ℤ pos s) in
    fields_same _ f.lead _ f.bit _ f.value
    (lead_packed v f.lead f.bit) (bit_packed v f.lead f.bit)
    (ap (at s) (value-packed v f.lead f.bit) ∙ at_back s f.value h)

one_most : (d : Bool) → one_if d ≤ 1
one_most true = omega arith
one_most false = omega arith

pub number_known : (s : ℕ) (f : Fields ℤ) → nat_abs f.value ≤ s → number_of s f < 4 * (2 * s + 1)
number_known s f h =
    let e : nat_abs (f.value +ℤ pos s) ≤ s + s = omega (arith, ints) in
    let l = one_most f.lead in
    let d = one_most f.bit in
    omega arith
