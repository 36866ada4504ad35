-- What the tests of the ranges say: a question of numbers in range keeps the laws. Assumes nothing.
use Rattle.std.specs.Prelude.{◌≡◌, ℕ, ◌≤◌, true, ◌&&◌, List, [], ◌∷◌, length, ℤ, nat_le, nat_lt, unsigned_abs}
use Rattle.std.specs.List.{AllByRecursion}
use Rattle.std.proofs.lemmas.Bool.{and_parts, leb-true, ltb-true}
use Rattle.protocol.specs.Laws.{Lawful}
use Rattle.protocol.specs.Remainder.{remainder_protocol}
use Rattle.protocol.specs.Threshold.{threshold_protocol}
use Rattle.protocol.proofs.Remainder.{remainder_lawful}
use Rattle.protocol.proofs.Threshold.{threshold_lawful}
use Rattle.kinds.specs.Ranges.{coefficients_fit, remainder_fits, threshold_fits}

coefficients_within : (ks : List ℤ) → coefficients_fit ks ≡ true → AllByRecursion (λ k. unsigned_abs k ≤ 99) ks
coefficients_within [] e = tt
coefficients_within (k ∷ ks) e =
    let parts = and_parts (nat_le (unsigned_abs k) 99) (coefficients_fit ks) e in
    (leb-true (unsigned_abs k) 99 parts.0, coefficients_within ks parts.1)

pub modulus_some : (ks : List ℤ) (m c : ℕ) → remainder_fits ks m c ≡ true → 2 ≤ m
modulus_some ks m c e =
    let one = and_parts (coefficients_fit ks) (nat_le 2 m && (nat_le m 999 && nat_lt c m)) e in
    leb-true 2 m (and_parts (nat_le 2 m) (nat_le m 999 && nat_lt c m) one.1).0

pub remainder_in_range : (ks : List ℤ) (m c : ℕ) → length ks ≡ 8 → remainder_fits ks m c ≡ true → Lawful (remainder_protocol ks m c)
remainder_in_range ks m c eight e =
    let one = and_parts (coefficients_fit ks) (nat_le 2 m && (nat_le m 999 && nat_lt c m)) e in
    let two = and_parts (nat_le 2 m) (nat_le m 999 && nat_lt c m) one.1 in
    let three = and_parts (nat_le m 999) (nat_lt c m) two.1 in
    remainder_lawful ks m c eight (leb-true 2 m two.0) (leb-true m 999 three.0) (ltb-true c m three.1)

pub threshold_within : (ks : List ℤ) (c : ℤ) → threshold_fits ks c ≡ true → AllByRecursion (λ k. unsigned_abs k ≤ 99) ks × (unsigned_abs c ≤ 999)
threshold_within ks c e =
    let parts = and_parts (coefficients_fit ks) (nat_le (unsigned_abs c) 999) e in
    (coefficients_within ks parts.0, leb-true (unsigned_abs c) 999 parts.1)

pub threshold_in_range : (ks : List ℤ) (c : ℤ) → length ks ≡ 8 → threshold_fits ks c ≡ true → Lawful (threshold_protocol ks c)
threshold_in_range ks c eight e =
    let fit = threshold_within ks c e in
    threshold_lawful ks c eight fit.0 fit.1
