-- A remainder's tag and its number are each other's. Assumes nothing.
use Rattle.std.proofs.Common.{◌≡◌, ℕ, ◌*◌, ◌/◌, ◌%◌, ◌<◌, Bool, true, false, eqb, refl, arith}
use Rattle.std.proofs.lemmas.Bool.Decides.{nat_tests}
use Rattle.std.proofs.lemmas.Bool.{eq-eqb, ne_eqb}
use Rattle.protocol.specs.declared.Fields.{Fields}
use Rattle.protocol.specs.Joining.{one_if}
use Rattle.protocol.specs.Sums.{packed, value_part, lead_part, bit_part}
use Rattle.protocol.specs.Remainder.{number_of, fields_of}

-- a test for 1 of a number below 2, and back
one_of : (x : ℕ) → x < 2 → (b : Bool) → eqb x 1 ≡ b → one_if b ≡ x
one_of x h true e = grind (arith, nat_tests)
one_of x h false e = grind (arith, nat_tests)

pub number_fields : (q : ℕ) → number_of (fields_of q) ≡ q
number_fields q = omega (arith, one_of (q / 2 % 2) (omega arith) (lead_part q) refl, one_of (q % 2) (omega arith) (bit_part q) refl)

pub value_of_number : (value : ℕ) (lead bit : Bool) → value_part (packed value lead bit) ≡ value
value_of_number value true true = omega arith
value_of_number value true false = omega arith
value_of_number value false true = omega arith
value_of_number value false false = omega arith

pub lead_of_number : (value : ℕ) (lead bit : Bool) → lead_part (packed value lead bit) ≡ lead
lead_of_number value true true = eq-eqb _ 1 (omega arith)
lead_of_number value true false = eq-eqb _ 1 (omega arith)
lead_of_number value false true = ne_eqb _ 1 (omega arith)
lead_of_number value false false = ne_eqb _ 1 (omega arith)

pub bit_of_number : (value : ℕ) (lead bit : Bool) → bit_part (packed value lead bit) ≡ bit
bit_of_number value true true = eq-eqb _ 1 (omega arith)
bit_of_number value true false = ne_eqb _ 1 (omega arith)
bit_of_number value false true = eq-eqb _ 1 (omega arith)
bit_of_number value false false = ne_eqb _ 1 (omega arith)

pub fields_number : (f : Fields ℕ) → fields_of (number_of f) ≡ f
fields_number f = rw (value_of_number f.value f.lead f.bit, lead_of_number f.value f.lead f.bit, bit_of_number f.value f.lead f.bit)

one_small : (b : Bool) → one_if b < 2
one_small true = omega arith
one_small false = omega arith

pub number_known : (m : ℕ) (f : Fields ℕ) → f.value < m → number_of f < 4 * m
number_known m f h = omega (arith, one_small f.lead, one_small f.bit)

pub value_known : (m q : ℕ) → q < 4 * m → (fields_of q).value < m
value_known m q h = omega arith
