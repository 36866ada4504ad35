-- The eight counts of the symbols so far, and one symbol more. Assumes nothing.
use Rattle.std.proofs.Common.{◌≡◌, ℕ, ◌+◌, ◌<◌, ◌≤◌, eqb, ltb, ◌≢◌, List, length, get_or, take, set, sym, ap, ◌∙◌, ⊎_elim, arith}
use Rattle.std.proofs.lemmas.List.FromFn.{fill_by_all}
use Rattle.std.proofs.lemmas.List.{length-set, get_or-set_same, get_or-set_other, get_or_past, take_all, length-take-le}
use Rattle.std.proofs.lemmas.List.Sums.{count_by-le-length, count_by_more_yes, count_by_more_no}
use Rattle.std.proofs.lemmas.Bool.{cases_eq, cases_lt, cond_both, eq-eqb, ne_eqb, ltb-false}
use Rattle.reading.specs.declared.Symbol.{Symbol}
use Rattle.reading.specs.Counting.{occurs, counts_of, counted}

-- ns are the eight counts of the first i symbols
pub record Counted (ss : List Symbol) (i : ℕ) (ns : List ℕ) : Type 0 where
  pub eight : length ns ≡ 8
  pub each : (k : ℕ) → k < 8 → get_or ns k 0 ≡ occurs k (take i ss)

module _ (ss : List Symbol) (i : ℕ) (ns : List ℕ) (d : Symbol) (in' : i < length ss) (old : Counted ss i ns) where
  -- no count passes the number of symbols
  pub few : (k : ℕ) → get_or ns k 0 ≤ i
  few k = ⊎_elim (λ lt. omega (arith, old.each k lt, count_by-le-length (λ s. eqb s.0 k) (take i ss), length-take-le i ss (omega arith)))
      (λ ge. omega (arith, get_or_past ns k 0 (omega (arith, old.eight)))) (cases_lt k 8)

  same : (k : ℕ) → (get_or ss i d).0 ≡ k → occurs k (take (i + 1) ss) ≡ occurs k (take i ss) + 1
  same k e = count_by_more_yes (λ s. eqb s.0 k) ss i d in' (eq-eqb _ k e)

  other : (k : ℕ) → (get_or ss i d).0 ≢ k → occurs k (take (i + 1) ss) ≡ occurs k (take i ss)
  other k ne = count_by_more_no (λ s. eqb s.0 k) ss i d in' (ne_eqb _ k ne)

  at_it : (k : ℕ) → k < 8 → (get_or ss i d).0 ≡ k → get_or (set ns (get_or ss i d).0 (get_or ns (get_or ss i d).0 0 + 1)) k 0 ≡ occurs k (take (i + 1) ss)
  at_it k h e = rw e (get_or-set_same ns k (get_or ns k 0 + 1) 0 (omega (arith, old.eight)) ∙ omega (arith, old.each k h, same k e))

  off_it : (k : ℕ) → k < 8 → (get_or ss i d).0 ≢ k → get_or (set ns (get_or ss i d).0 (get_or ns (get_or ss i d).0 0 + 1)) k 0 ≡ occurs k (take (i + 1) ss)
  off_it k h ne = get_or-set_other ns _ k _ 0 (λ e. ne (sym e)) ∙ old.each k h ∙ sym (other k ne)

  -- a symbol of the eight adds one to its own count, any other to none
  pub one_more : Counted ss (i + 1) (counted ns (get_or ss i d))
  one_more = cond_both (ltb (get_or ss i d).0 8) _ _ (Counted ss (i + 1))
      (λ lt. record { eight = length-set ns _ _ ∙ old.eight; each = λ k h. ⊎_elim (at_it k h) (off_it k h) (cases_eq (get_or ss i d).0 k) })
      (λ ge. record { eight = old.eight; each = λ k h. old.each k h ∙ sym (other k (omega (arith, ltb-false _ _ ge))) })

-- where no symbol is left, they are the counts of all
pub all_counted : (ss : List Symbol) (i : ℕ) (ns : List ℕ) → length ss ≤ i → Counted ss i ns → ns ≡ counts_of ss
all_counted ss i ns end h = fill_by_all (λ k. occurs k ss) ns 8 0 h.eight (λ k lt. h.each k lt ∙ ap (occurs k) (take_all i ss end))
