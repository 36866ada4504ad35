-- What the first of two tags can hold of their sum, and what is left of it. Assumes nothing.
use Rattle.std.proofs.Common.{◌≡◌, ℕ, ◌+◌, ◌≤◌, true, false, ◌||◌, ℤ, pos, int_lt, sym, ◌+ℤ◌, ◌-ℤ◌, neg_ℤ, nat_abs, ap, arith, w32, to_z, of_z}
use Rattle.std.specs.Int.{int_max, int_min}
use Rattle.std.proofs.lemmas.Bool.Decides.{nat_tests}
use Rattle.std.proofs.lemmas.Int.{ints}
use Rattle.std.proofs.lemmas.Bool.{cond-true}
use Rattle.protocol.specs.declared.Fields.{Fields}
use Rattle.protocol.specs.Threshold.{held, number_of, met_fields}

pub rest_within : (s : ℕ) (a b : ℤ) → nat_abs a ≤ s → nat_abs b ≤ s → nat_abs ((a +ℤ b) -ℤ held s (a +ℤ b)) ≤ s
rest_within s a b first second = let within : nat_abs (a +ℤ b) ≤ s + s = omega (arith, ints) in grind (arith, ints, nat_tests)

-- `clamp` holds a sum between -s and s
clamp_held : (s : ℕ) (z : ℤ) → int_max (neg_ℤ (pos s)) (int_min z (pos s)) ≡ held s z
clamp_held s z = grind (arith, ints, nat_tests)

-- the same as the code casts them
pub kept_is : (s : ℕ) (a b k : ℤ) → s ≤ 1000 → nat_abs a ≤ s → nat_abs b ≤ s
    → k ≡ int_max (to_z w32 (of_z w32 (pos 0 -ℤ to_z w32 s))) (int_min (to_z w32 (of_z w32 (to_z w32 (of_z w32 a) +ℤ to_z w32 (of_z w32 b)))) (to_z w32 s))
    → k ≡ held s (a +ℤ b)
kept_is s a b k few first second clamped =
    let low : to_z w32 (of_z w32 (pos 0 -ℤ to_z w32 s)) ≡ neg_ℤ (pos s) = omega (arith, ints) in
    let sum : to_z w32 (of_z w32 (to_z w32 (of_z w32 a) +ℤ to_z w32 (of_z w32 b))) ≡ a +ℤ b = omega (arith, ints) in
    let high : to_z w32 s ≡ pos s = omega (arith, ints) in
    rw (clamped, low, sum, high) (clamp_held s (a +ℤ b))

-- the two numbers of a meeting where one leads
pub met_numbers : (s : ℕ) (bound : ℤ) (a b : Fields ℤ) (kept rest bound' : ℤ) → (a.lead || b.lead) ≡ true
    → kept ≡ held s (a.value +ℤ b.value) → rest ≡ (a.value +ℤ b.value) -ℤ held s (a.value +ℤ b.value) → bound' ≡ bound
    → ◌≡◌ {A = ℕ × ℕ}
    (number_of s (record { lead = true; bit = int_lt kept bound'; value = kept }), number_of s (record { lead = false; bit = int_lt kept bound'; value = rest }))
    (number_of s (met_fields s bound a b).0, number_of s (met_fields s bound a b).1)
met_numbers s bound a b kept rest bound' leads e f g =
    rw (e, f, g) (ap (λ (m : Fields ℤ × Fields ℤ). (number_of s m.0, number_of s m.1)) (sym (cond-true _ _ (a, b) leads)))
