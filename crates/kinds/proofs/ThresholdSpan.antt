-- What the ranges of a threshold's numbers say of its span. Assumes nothing.
use Rattle.std.specs.Prelude.{fold}
use Rattle.std.proofs.Common.{◌≡◌, ℕ, max, zero, suc, ◌≤◌, true, List, [], ◌∷◌, get_or, ℤ, pos, nat_abs, arith}
use Rattle.std.specs.List.{AllByRecursion}
use Rattle.protocol.specs.Threshold.{largest, span_of}
use Rattle.kinds.specs.Ranges.{threshold_fits}
use Rattle.kinds.specs.RangesLemmas.{threshold_within}

largest_small : (ks : List ℤ) → AllByRecursion (λ k. nat_abs k ≤ 99) ks → largest ks ≤ 99
largest_small [] h = omega arith
largest_small (k ∷ ks) h = omega (arith, h.0, largest_small ks h.1)

-- no coefficient is larger
pub largest_most : (ks : List ℤ) (i : ℕ) → nat_abs (get_or ks i (pos 0)) ≤ largest ks
largest_most [] i = omega arith
largest_most (k ∷ ks) zero = omega arith
largest_most (k ∷ ks) (suc i) = omega (arith, largest_most ks i)

pub span_small : (ks : List ℤ) (c : ℤ) (s : ℕ) → threshold_fits ks c ≡ true → s ≡ span_of ks c → s ≤ 1000
span_small ks c s e same =
    let fit = threshold_within ks c e in
    omega (arith, fit.1, largest_small ks fit.0)

-- the maximum from the front on is that from the back on
fold_largest : (ks : List ℤ) (n : ℕ) → fold (λ most k. max most (nat_abs k)) n ks ≡ max n (largest ks)
fold_largest [] n = omega arith
fold_largest (k ∷ ks) n = omega (arith, fold_largest ks (max n (nat_abs k)))

pub largest_is : (ks : List ℤ) → fold (λ most k. max most (nat_abs k)) 0 ks ≡ largest ks
largest_is ks = omega (arith, fold_largest ks 0)
