-- The threshold is lawful. Assumes nothing.
use Rattle.std.proofs.Common.{◌≡◌, ℕ, zero, suc, ◌+◌, ◌-◌, ◌*◌, ◌/◌, ◌%◌, ◌^◌, ◌<◌, ◌≤◌, eqb, ◌⊎◌, List, [], ◌∷◌, map, length, get_or, ℤ, pos, ◌+ℤ◌, nat_abs, sym, refl, ap, ◌∙◌, subst, inl, inr, ⊎_elim, arith}
use lib.Signed.{lt_z}
use Rattle.std.specs.List.{AllByRecursion}
use Rattle.std.proofs.lemmas.Bool.{cases_lt, cases_eq}
use Rattle.std.proofs.lemmas.Bool.Decides.{nat_tests}
use Rattle.std.proofs.lemmas.Int.{ints}
use Rattle.reading.specs.Counting.{counts_of}
use Rattle.reading.specs.declared.Symbol.{Symbol}
use Rattle.protocol.specs.Places.{Apart, state_at}
use Rattle.protocol.specs.Laws.{Readings, Reached, started, met, Stable, Lawful}
use Rattle.protocol.specs.Sums.{coefficient_of, weighed}
use Rattle.protocol.specs.Threshold.{largest, span_of, number_of, start_fields, next_of, threshold_protocol}
use Rattle.protocol.proofs.Places.{total, total_ext, reached_length}
use Rattle.protocol.proofs.Weighed.{total_z, weighed_is}
use Rattle.protocol.proofs.ThresholdFields.{at, at_back, number_known}
use Rattle.protocol.proofs.ThresholdLoads.{Load, sign, Sound, sound_met, Still}
use Rattle.protocol.proofs.ThresholdSettles.{settles_all, stays_settled, still_settled}
use Rattle.protocol.proofs.ThresholdViews.{load_of, meet_of, meets, view, start_parts, meet_known}

total_le : (f g : ℕ → ℕ) (n : ℕ) → ((k : ℕ) → k < n → f k ≤ g k) → total f n ≤ total g n
unfolding total
total_le f g zero le = omega arith
total_le f g (suc n) le = omega (arith, total_le f g n (λ k u. le k (omega arith)), le n (omega arith))

-- all places but one
total_but : (f g : ℕ → ℕ) (n i : ℕ) → i < n → ((k : ℕ) → k < n → (k ≡ i → ⊥) → f k ≤ g k) → total f n + g i ≤ total g n + f i
unfolding total
total_but f g zero i h le = absurd (omega arith)
total_but f g (suc n) i h le =
    ⊎_elim
    (λ e.
    let before = total_le f g n (λ k u. le k (omega arith) (λ z. omega arith)) in
    let fe : f i ≡ f n = ap f e in
    let ge : g i ≡ g n = ap g e in
    omega arith)
    (λ ne. omega (arith, total_but f g n i (omega arith) (λ k u. le k (omega arith)), le n (omega arith) (λ z. ne (sym z))))
    (cases_eq i n)

-- in a still load the chief's bit is the truth
module _ {s b n t : ℕ} {f : Load} (low : 0 < b) (high : b < s + s) (h : Sound s b n t f) (z : Still s b n f) where
  abbrev zeros : ℕ → ℕ
  zeros k = s

  least : s ≤ f.x z.chief → total zeros n + f.x z.chief ≤ t + s
  least e = omega (arith, h.sum, total_but zeros f.x n z.chief z.chief_within (λ k u ne. (z.quiet.beside k u ne).1 e))

  most : f.x z.chief ≤ s → t + s ≤ total zeros n + f.x z.chief
  most e = omega (arith, h.sum, total_but f.x zeros n z.chief z.chief_within (λ k u ne. (z.quiet.beside k u ne).0 e))

  exact : 0 < f.x z.chief → f.x z.chief < s + s → t + s ≡ total zeros n + f.x z.chief
  exact u v =
      let p = total_but zeros f.x n z.chief z.chief_within (λ k w ne. let y = z.quiet.full k w ne u v in omega arith) in
      let q = total_but f.x zeros n z.chief z.chief_within (λ k w ne. let y = z.quiet.full k w ne u v in omega arith) in
      omega (arith, h.sum)

  chief_truth : ((t + s < total zeros n + b) × (sign b (f.x z.chief) ≡ 1)) ⊎ ((total zeros n + b ≤ t + s) × (sign b (f.x z.chief) ≡ 0))
  chief_truth = ⊎_elim
      (λ some. ⊎_elim
      (λ room. let e = exact some room in ⊎_elim (λ y. inl (omega arith, omega arith)) (λ y. inr (omega arith, omega arith)) (cases_lt (f.x z.chief) b))
      (λ top. let e = least (omega arith) in inr (omega arith, omega arith))
      (cases_lt (f.x z.chief) (s + s)))
      (λ none. let e = most (omega arith) in inl (omega arith, omega arith))
      (cases_lt 0 (f.x z.chief))

  bit_truth : (k : ℕ) → k < n → f.bit k ≡ sign b (f.x z.chief)
  bit_truth k u = ⊎_elim
      (λ e. ap f.bit e ∙ h.right z.chief z.chief_within z.chief_leads)
      (λ ne. (z.heard k u ne).hears)
      (cases_eq k z.chief)

  pub still_truth : (w c : ℤ) → w +ℤ pos (total zeros n) ≡ pos t → c ≡ at s b → (k : ℕ) → k < n → eqb (f.bit k) 1 ≡ lt_z w c
  still_truth w c e d k u = ⊎_elim
      (λ y. let v = bit_truth k u in grind (arith, ints, nat_tests))
      (λ y. let v = bit_truth k u in grind (arith, ints, nat_tests))
      chief_truth

-- the sum of the values is that of the offsets, less s for each place
total_z_offsets : (s : ℕ) (v : ℕ → ℤ) → ((k : ℕ) → nat_abs (v k) ≤ s) → (n : ℕ) → total_z v n +ℤ pos (total (λ _. s) n) ≡ pos (total (λ k. nat_abs (v k +ℤ pos s)) n)
unfolding total total_z
total_z_offsets s v small zero = refl
total_z_offsets s v small (suc n) = let e = total_z_offsets s v small n in let h = small n in omega (arith, ints)

-- the span
largest_most : (ks : List ℤ) (k : ℕ) → nat_abs (get_or ks k (pos 0)) ≤ largest ks
largest_most [] k = omega arith
largest_most (z ∷ ks) zero = omega arith
largest_most (z ∷ ks) (suc k) = omega (arith, largest_most ks k)

largest_small : (ks : List ℤ) → AllByRecursion (λ k. nat_abs k ≤ 99) ks → largest ks ≤ 99
largest_small [] h = omega arith
largest_small (z ∷ ks) h = omega (arith, h.0, largest_small ks h.1)

started_at : (g : ℕ → ℕ) (ss : List Symbol) (k : ℕ) → k < length ss → get_or (map (λ y. g y.0) ss) k 0 ≡ g (get_or (map (λ y. y.0) ss) k 0)
started_at g [] k h = absurd (omega arith)
started_at g (y ∷ ss) zero h = refl
started_at g (y ∷ ss) (suc k) h = started_at g ss k (omega arith)

module _ (ks : List ℤ) (c : ℤ) (eight : length ks ≡ 8) (ks_small : AllByRecursion (λ k. nat_abs k ≤ 99) ks) (c_small : nat_abs c ≤ 999) where
  abbrev span : ℕ
  span = span_of ks c

  abbrev edge : ℕ
  edge = nat_abs (c +ℤ pos span)

  abbrev start_of : ℕ → ℕ
  start_of symbol = number_of span (start_fields ks c symbol)

  edge_at : c ≡ at span edge
  edge_at = omega (arith, ints)

  edge_low : 0 < edge
  edge_low = omega (arith, ints)

  edge_high : edge < span + span
  edge_high = omega (arith, ints)

  span_some : 0 < span
  span_some = omega arith

  span_coefficient : (k : ℕ) → nat_abs (coefficient_of ks k) ≤ span
  span_coefficient k = omega (arith, largest_most ks k)

  span_small : span ≤ 1000
  span_small = omega (arith, largest_small ks ks_small)

  module _ (ss : List Symbol) (readings : Readings ss) where
    abbrev n : ℕ
    n = length ss

    abbrev value_of : ℕ → ℤ
    value_of k = coefficient_of ks (get_or (map (λ y. y.0) ss) k 0)

    abbrev offset_of : ℕ → ℕ
    offset_of k = nat_abs (value_of k +ℤ pos span)

    abbrev sum : ℕ
    sum = total offset_of n

    sum_is : weighed ks (counts_of ss) +ℤ pos (total (λ _. span) n) ≡ pos sum
    sum_is = ap (λ z. z +ℤ pos (total (λ _. span) n)) (weighed_is ks ss eight readings.each) ∙ total_z_offsets span value_of (λ k. span_coefficient _) n

    -- the load at the start
    abbrev starts : List ℕ
    starts = map (λ y. start_of y.0) ss

    start_at : (k : ℕ) → k < n → (state_at starts k / 4 ≡ offset_of k) × (state_at starts k / 2 % 2 ≡ 1) × (state_at starts k % 2 ≡ sign edge (offset_of k))
    start_at k u =
        let z = span_coefficient (get_or (map (λ y. y.0) ss) k 0) in
        start_parts span edge c edge_at (value_of k) (offset_of k) (state_at starts k) (sym (at_back span (value_of k) z)) (started_at start_of ss k u)

    sound_start : Sound span edge n sum (load_of starts)
    sound_start = record {
      known = λ k u.
          let z = span_coefficient (get_or (map (λ y. y.0) ss) k 0) in
          let e = (start_at k u).0 in
          let y : offset_of k ≤ span + span = offset_most (value_of k) span z in
          subst (λ x. x ≤ span + span) (sym e) y;
      head = 0;
      head_within = readings.some;
      head_leads = (start_at 0 readings.some).1;
      right = λ k u e. (start_at k u).2 ∙ ap (sign edge) (sym (start_at k u).0);
      flag = λ k. bit_most (state_at starts k);
      sum = total_ext (λ k. state_at starts k / 4) offset_of n (λ k u. (start_at k u).0);
    }
      where
        offset_most : (v : ℤ) (s : ℕ) → nat_abs v ≤ s → nat_abs (v +ℤ pos s) ≤ s + s
        offset_most v s h = omega (arith, ints)

        bit_most : (q : ℕ) → q / 2 % 2 ≤ 1
        bit_most q = omega arith

    sound_reached : {qs : List ℕ} → Reached start_of (meet_of span c) ss qs → Sound span edge n sum (load_of qs)
    sound_reached started = sound_start
    sound_reached (met {states} r i j apart) =
        let len = reached_length r in
        sound_met apart (meets span edge c edge_at states i j (subst (λ k. Apart k i j) (sym len) apart)) (sound_reached r)

    stable_reached : (qs : List ℕ) → Reached start_of (meet_of span c) ss qs → Stable (threshold_protocol ks c) ss qs
    stable_reached qs r =
        let len = reached_length r in
        let h = sound_reached r in
        record {
          settles = settles_all span edge span_some (next_of span c) (meet_of span c) load_of (view span edge c edge_at) (meets span edge c edge_at) n sum qs len h;
          right = λ e k u.
              still_truth edge_low edge_high h
              (still_settled span edge span_some (next_of span c) (meet_of span c) load_of (view span edge c edge_at) (meets span edge c edge_at) n sum qs len e)
              (weighed ks (counts_of ss)) c sum_is edge_at k u;
          stays = λ e i j apart.
              stays_settled span edge span_some (next_of span c) (meet_of span c) load_of (view span edge c edge_at) (meets span edge c edge_at) n sum qs len h e i j apart;
        }

pub threshold_lawful : (ks : List ℤ) (c : ℤ) → length ks ≡ 8 → AllByRecursion (λ k. nat_abs k ≤ 99) ks → nat_abs c ≤ 999 → Lawful (threshold_protocol ks c)
threshold_lawful ks c eight ks_small c_small =
    let s = span_of ks c in
    let few : s ≤ 1000 = span_small ks c eight ks_small c_small in
    record {
      size_fits = size_most s few;
      weight_fits = weight_most s;
      start_known = λ symbol u some. number_known s (start_fields ks c symbol) (span_coefficient ks c eight ks_small c_small symbol);
      meet_known = λ p q u v. meet_known s (edge ks c eight ks_small c_small) c (edge_at ks c eight ks_small c_small) p q u v;
      stable = λ ss qs some readings r. stable_reached ks c eight ks_small c_small ss readings qs r;
    }
  where
    size_most : (s : ℕ) → s ≤ 1000 → 4 * (2 * s + 1) ≤ 2 ^ 32
    size_most s h = omega arith

    weight_most : (s : ℕ) → 2 ≤ 65536 * (4 * (2 * s + 1) - 1)
    weight_most s = omega arith
