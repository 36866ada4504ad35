-- The weighed sum of the counts is the sum of the symbols' coefficients, place by place. Assumes nothing.
use Rattle.std.proofs.Common.{◌≡◌, ℕ, zero, suc, ◌+◌, ◌<◌, cond, eqb, List, [], ◌∷◌, map, length, get_or, ℤ, pos, ◌+ℤ◌, ◌*ℤ◌, sym, refl, ap, ◌∙◌, arith}
use lib.IntN.{+ℤ_comm, +ℤ_assoc}
use Rattle.std.specs.List.{AllByRecursion}
use Rattle.std.proofs.lemmas.Int.{ints}
use Rattle.std.proofs.lemmas.List.Sums.{sum_by-cons}
use Rattle.std.proofs.lemmas.Bool.{eq-eqb, ne_eqb}
use Rattle.reading.specs.Counting.{occurs, counts_of}
use Rattle.reading.specs.declared.Symbol.{Symbol}
use Rattle.protocol.specs.Sums.{coefficient_of, weighed}

-- the sum of f over the places below n
unfoldable pub total_z : (ℕ → ℤ) → ℕ → ℤ
total_z f zero = pos 0
total_z f (suc n) = total_z f n +ℤ f n

-- the first place on its own
total_first : (f : ℕ → ℤ) (n : ℕ) → total_z f (suc n) ≡ f 0 +ℤ total_z (λ i. f (suc i)) n
unfolding total_z
total_first f zero = +ℤ_comm (pos 0) (f 0)
total_first f (suc n) = ap (λ z. z +ℤ f (suc n)) (total_first f n) ∙ +ℤ_assoc (f 0) (total_z (λ i. f (suc i)) n) (f (suc n))

-- counts that are sums
times_plus : (k : ℤ) (a b : ℕ) (x y : ℤ) → (k *ℤ pos (a + b)) +ℤ (x +ℤ y) ≡ ((k *ℤ pos a) +ℤ x) +ℤ ((k *ℤ pos b) +ℤ y)
times_plus k a b x y = omega (arith, ints)

weighed_plus : (ks : List ℤ) (f g : ℕ → ℕ) (at : List ℕ) → weighed ks (map (λ k. f k + g k) at) ≡ weighed ks (map f at) +ℤ weighed ks (map g at)
weighed_plus [] f g at = refl
weighed_plus (k ∷ ks) f g [] = refl
weighed_plus (k ∷ ks) f g (i ∷ at) =
    ap (λ z. (k *ℤ pos (f i + g i)) +ℤ z) (weighed_plus ks f g at)
    ∙ times_plus k (f i) (g i) (weighed ks (map f at)) (weighed ks (map g at))

-- the numbers from `from` on, n of them
abbrev pub up_from : ℕ → ℕ → List ℕ
up_from from zero = []
up_from from (suc n) = from ∷ up_from (suc from) n

-- a symbol below all of these is not among them
not_there : (ks : List ℤ) (from n t : ℕ) → t < from → weighed ks (map (λ k. cond (eqb t k) 1 0) (up_from from n)) ≡ pos 0
not_there [] from n t h = refl
not_there (k ∷ ks) from zero t h = refl
not_there (k ∷ ks) from (suc n) t h =
    let rest = not_there ks (suc from) n t (omega arith) in
    rw (ne_eqb t from (omega arith)) (omega (arith, ints))

-- one symbol among them has its coefficient
one_there : (ks : List ℤ) (from n t : ℕ) → length ks ≡ n → t < n → weighed ks (map (λ k. cond (eqb (t + from) k) 1 0) (up_from from n)) ≡ coefficient_of ks t
one_there [] from zero t e h = absurd (omega arith)
one_there [] from (suc n) t e h = absurd (omega arith)
one_there (k ∷ ks) from zero t e h = absurd (omega arith)
one_there (k ∷ ks) from (suc n) zero e h =
    let rest = not_there ks (suc from) n (0 + from) (omega arith) in
    rw (eq-eqb (0 + from) from (omega arith)) (omega (arith, ints))
one_there (k ∷ ks) from (suc n) (suc t) e h =
    let rest : weighed ks (map (λ k. cond (eqb (suc t + from) k) 1 0) (up_from (suc from) n)) ≡ coefficient_of ks t
    = ap (λ x. weighed ks (map (λ k. cond (eqb x k) 1 0) (up_from (suc from) n))) (omega arith) ∙ one_there ks (suc from) n t (omega arith) (omega arith) in
    rw (ne_eqb (suc t + from) from (omega arith)) (omega (arith, ints))

one_symbol : (ks : List ℤ) (t : ℕ) → length ks ≡ 8 → t < 8 → weighed ks (map (λ k. cond (eqb t k) 1 0) (up_from 0 8)) ≡ coefficient_of ks t
one_symbol ks t e h = ap (λ x. weighed ks (map (λ k. cond (eqb x k) 1 0) (up_from 0 8))) (omega arith) ∙ one_there ks 0 8 t e h

-- no symbol at all
weighed_none : (ks : List ℤ) (at : List ℕ) → weighed ks (map (λ k. 0) at) ≡ pos 0
weighed_none [] at = refl
weighed_none (k ∷ ks) [] = refl
weighed_none (k ∷ ks) (i ∷ at) = let rest = weighed_none ks at in omega (arith, ints)

weighed-map : (ks : List ℤ) (f g : ℕ → ℕ) → ((k : ℕ) → f k ≡ g k) → (at : List ℕ) → weighed ks (map f at) ≡ weighed ks (map g at)
weighed-map [] f g e at = refl
weighed-map (k ∷ ks) f g e [] = refl
weighed-map (k ∷ ks) f g e (i ∷ at) = rw (e i, weighed-map ks f g e at)

pub weighed_is : (ks : List ℤ) (ss : List Symbol) → length ks ≡ 8 → AllByRecursion (λ s. s.0 < 8) ss → weighed ks (counts_of ss) ≡ total_z (λ i. coefficient_of ks (get_or (map (λ s. s.0) ss) i 0)) (length ss)
unfolding total_z
weighed_is ks [] e each = weighed_none ks (up_from 0 8)
weighed_is ks (s ∷ ss) e each =
    weighed-map ks (λ k. occurs k (s ∷ ss)) (λ k. cond (eqb s.0 k) 1 0 + occurs k ss) (λ k. sum_by-cons (λ s. cond (eqb s.0 k) 1 0) s ss) (up_from 0 8)
    ∙ weighed_plus ks (λ k. cond (eqb s.0 k) 1 0) (λ k. occurs k ss) (up_from 0 8)
    ∙ ap (λ z. z +ℤ weighed ks (counts_of ss)) (one_symbol ks s.0 e each.0)
    ∙ ap (λ z. coefficient_of ks s.0 +ℤ z) (weighed_is ks ss e each.1)
    ∙ sym (total_first (λ i. coefficient_of ks (get_or (map (λ s. s.0) (s ∷ ss)) i 0)) (length ss))

-- the number of the symbol at a place
abbrev pub symbol_at : List Symbol → ℕ → ℕ
symbol_at ss k = get_or (map (λ s. s.0) ss) k 0

pub started_at : (f : ℕ → ℕ) (ss : List Symbol) (k : ℕ) → k < length ss → get_or (map (λ s. f s.0) ss) k 0 ≡ f (symbol_at ss k)
started_at f [] k h = absurd (omega arith)
started_at f (s ∷ ss) zero h = refl
started_at f (s ∷ ss) (suc k) h = started_at f ss k (omega arith)
