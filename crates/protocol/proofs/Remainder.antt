-- The laws of remainders: leads merge into one, which then corrects the bits, and the values' sum stays congruent to the weighed sum. Assumes nothing.
use Rattle.std.proofs.Common.{◌≡◌, ℕ, zero, suc, ◌+◌, ◌-◌, ◌*◌, ◌/◌, ◌%◌, ◌<◌, ◌≤◌, Bool, true, false, cond, not, ◌||◌, eqb, ◌⊎◌, List, [], ◌∷◌, map, length, ℤ, pos, negsuc, ◌+ℤ◌, ◌-ℤ◌, nat_abs, Some, None, Option, sym, refl, ap, ◌∙◌, subst, inl, inr, ⊎_elim, arith}
use Rattle.std.specs.List.{AllByRecursion}
use Rattle.std.proofs.lemmas.Nat.{div-add-mod', mod_below, mod-mul-add}
use Rattle.std.proofs.lemmas.Int.{ints}
use Rattle.std.proofs.lemmas.Bool.{both_ways, cases_Bool, cases_eq, cases_lt, eq-eqb, ne_eqb, cond_both, and_parts, or_cases, or_parts}
use Rattle.reading.specs.Counting.{counts_of}
use Rattle.reading.specs.declared.Symbol.{Symbol}
use Rattle.protocol.specs.declared.Fields.{Fields}
use Rattle.protocol.specs.declared.Advice.{Advice}
use Rattle.protocol.specs.declared.Advice.TheVariants.{Meet, Settled}
use Rattle.protocol.specs.Places.{state_at, meeting, Apart, lowest, other, first_fit, paired, led}
use Rattle.protocol.specs.Remainder.{partner_rules, next_of, remainder_protocol, number_of, fields_of, reduced, met_fields, start_fields}
use Rattle.protocol.specs.Laws.{Reached, started, met, Settles, done, step, Lawful}
use Rattle.protocol.specs.Sums.{coefficient_of, weighed}
use Rattle.protocol.proofs.Places.{lowest_some, lowest_none, lowest_fails, lowest_is, tally, tally_falls, tally_le, tally_but, tally_none, settles_more, total, total_two, total_ext, meeting_first, meeting_second, meeting_other, length-meeting, reached_length}
use Rattle.protocol.proofs.RemainderFields.{fields_number, number_known, value_known}
use Rattle.protocol.proofs.Presence.{apart_at}
use Rattle.protocol.proofs.Weighed.{total_z, weighed_is, symbol_at, started_at}

-- ---- congruence

-- z and x leave the same remainder
abbrev Same : ℕ → ℤ → ℕ → Type 0
Same m z x = (a : ℕ) × (b : ℕ) × (z +ℤ pos (a * m) ≡ pos (x + b * m))

same_add : (m : ℕ) (z w : ℤ) (x y : ℕ) → Same m z x → Same m w y → Same m (z +ℤ w) (x + y)
same_add m z w x y (a, b, e) (c, d, f) = (a + c, b + d, omega (arith, ints))

same_reduced : (m : ℕ) (z : ℤ) → 0 < m → Same m z (reduced m z)
same_reduced m (pos a) h = (0, a / m, omega (arith, ints, div-add-mod' a m))
same_reduced m (negsuc a) h = (a / m + 1, 0, omega (arith, ints, div-add-mod' a m, mod_below a m h))

same_less : (m : ℕ) (z : ℤ) (x y q : ℕ) → x ≡ y + q * m → Same m z x → Same m z y
same_less m z x y q e (a, b, f) = (a, b + q, omega (arith, ints))

same_totals : (m : ℕ) (f : ℕ → ℤ) (g : ℕ → ℕ) (n : ℕ) → ((k : ℕ) → k < n → Same m (f k) (g k)) → Same m (total_z f n) (total g n)
unfolding total_z total
same_totals m f g zero each = (0, 0, refl)
same_totals m f g (suc n) each = same_add m (total_z f n) (f n) (total g n) (g n) (same_totals m f g n (λ k h. each k (omega arith))) (each n (omega arith))

small_same : (m v c p q : ℕ) → v < m → c < m → v + p * m ≡ c + q * m → v ≡ c
small_same m v c p q hv hc e = sym (mod-mul-add p m v hv) ∙ ap (λ x. x % m) (omega arith) ∙ mod-mul-add q m c hc

abs_cases : (w : ℤ) → (w ≡ pos (nat_abs w)) ⊎ (w +ℤ pos (nat_abs w) ≡ pos 0)
abs_cases (pos a) = inl refl
abs_cases (negsuc a) = inr (omega (arith, ints))

times_none : (d m : ℕ) → 0 < m → d * m % m ≡ 0
times_none d m h = ap (λ x. x % m) (omega arith) ∙ mod-mul-add d m 0 h

module _ (m c v : ℕ) (z : ℤ) (hv : v < m) (hc : c < m) (s : Same m z v) where
  same_yes : v ≡ c → nat_abs (z -ℤ pos c) % m ≡ 0
  same_yes e =
      let a : ℕ = s.0 in
      let b : ℕ = s.1 in
      ⊎_elim
      (λ less.
      let d : ℕ = b - a in
      let is : b * m ≡ (a + d) * m = ap (λ x. x * m) (omega arith) in
      ap (λ x. x % m) (omega (arith, ints, s.2)) ∙ times_none d m (omega arith))
      (λ more.
      let d : ℕ = a - b in
      let is : a * m ≡ (b + d) * m = ap (λ x. x * m) (omega arith) in
      ap (λ x. x % m) (omega (arith, ints, s.2)) ∙ times_none d m (omega arith))
      (cases_lt a b)

  same_no : nat_abs (z -ℤ pos c) % m ≡ 0 → v ≡ c
  same_no none =
      let w : ℤ = z -ℤ pos c in
      let q : ℕ = nat_abs w / m in
      let is : nat_abs w ≡ q * m = omega (arith, div-add-mod' (nat_abs w) m) in
      ⊎_elim
      (λ e. small_same m v c s.1 (s.0 + q) hv hc (omega (arith, ints, s.2)))
      (λ e. small_same m v c (s.1 + q) s.0 hv hc (omega (arith, ints, s.2)))
      (abs_cases w)

  truth_same : eqb (nat_abs (z -ℤ pos c) % m) 0 ≡ eqb v c
  truth_same =
      ⊎_elim
      (λ e. eq-eqb _ 0 (same_yes e) ∙ sym (eq-eqb v c e))
      (λ ne. ne_eqb _ 0 (λ t. ne (same_no t)) ∙ sym (ne_eqb v c ne))
      (cases_eq v c)

-- ---- a meeting, place by place

abbrev tag_of : List ℕ → ℕ → Fields ℕ
tag_of qs k = fields_of (state_at qs k)

abbrev made : Bool → Bool → ℕ → Fields ℕ
made lead bit value = record { lead = lead; bit = bit; value = value }

abbrev meet_of : ℕ → ℕ → ℕ → ℕ → ℕ × ℕ
meet_of m c a b =
    let left : Fields ℕ × Fields ℕ = met_fields m c (fields_of a) (fields_of b) in
    (number_of left.0, number_of left.1)

-- what a meeting of i and j does to the tags: where one of both leads, i takes both values and the lead; else nothing
data Met (m c : ℕ) (old new : ℕ → Fields ℕ) (i j : ℕ) : Type 0 where
  joined : (v : ℕ) → v ≡ ((old i).value + (old j).value) % m → ((old i).lead ≡ true) ⊎ ((old j).lead ≡ true)
      → new i ≡ made true (eqb v c) v → new j ≡ made false (eqb v c) 0
      → ((k : ℕ) → (k ≡ i → ⊥) → (k ≡ j → ⊥) → new k ≡ old k) → Met m c old new i j
  idle : (old i).lead ≡ false → (old j).lead ≡ false → ((k : ℕ) → new k ≡ old k) → Met m c old new i j

met_led : (m c : ℕ) (a b : Fields ℕ) → (a.lead || b.lead) ≡ true
    → met_fields m c a b ≡ (made true (eqb ((a.value + b.value) % m) c) ((a.value + b.value) % m), made false (eqb ((a.value + b.value) % m) c) 0)
met_led m c a b e = rw e refl

met_idle : (m c : ℕ) (a b : Fields ℕ) → (a.lead || b.lead) ≡ false → met_fields m c a b ≡ (a, b)
met_idle m c a b e = rw e refl

module _ (m c : ℕ) (qs : List ℕ) (i j : ℕ) (apart : Apart (length qs) i j) where
  met_first : tag_of (meeting (meet_of m c) qs i j) i ≡ (met_fields m c (tag_of qs i) (tag_of qs j)).0
  met_first = ap fields_of (meeting_first (meet_of m c) qs i j apart) ∙ fields_number (met_fields m c (tag_of qs i) (tag_of qs j)).0

  met_second : tag_of (meeting (meet_of m c) qs i j) j ≡ (met_fields m c (tag_of qs i) (tag_of qs j)).1
  met_second = ap fields_of (meeting_second (meet_of m c) qs i j apart) ∙ fields_number (met_fields m c (tag_of qs i) (tag_of qs j)).1

  met_other : (k : ℕ) → (k ≡ i → ⊥) → (k ≡ j → ⊥) → tag_of (meeting (meet_of m c) qs i j) k ≡ tag_of qs k
  met_other k ni nj = ap fields_of (meeting_other (meet_of m c) qs i j k ni nj)

  met_tags : Met m c (tag_of qs) (tag_of (meeting (meet_of m c) qs i j)) i j
  met_tags =
      ⊎_elim
      (λ e.
      let both = met_led m c (tag_of qs i) (tag_of qs j) e in
      joined (((tag_of qs i).value + (tag_of qs j).value) % m) refl (or_cases (tag_of qs i).lead (tag_of qs j).lead e)
      (met_first ∙ ap (λ w. w.0) both) (met_second ∙ ap (λ w. w.1) both) met_other)
      (λ e.
      let both = met_idle m c (tag_of qs i) (tag_of qs j) e in
      let none = or_parts (tag_of qs i).lead (tag_of qs j).lead e in
      idle none.0 none.1 (λ k. ⊎_elim
      (λ s. ap (tag_of (meeting (meet_of m c) qs i j)) s ∙ met_first ∙ ap (λ w. w.0) both ∙ ap (tag_of qs) (sym s))
      (λ ni. ⊎_elim
      (λ s. ap (tag_of (meeting (meet_of m c) qs i j)) s ∙ met_second ∙ ap (λ w. w.1) both ∙ ap (tag_of qs) (sym s))
      (met_other k ni)
      (cases_eq k j))
      (cases_eq k i)))
      (cases_Bool ((tag_of qs i).lead || (tag_of qs j).lead))

-- ---- what reached tags hold

record Held (m c n : ℕ) (z : ℤ) (tag : ℕ → Fields ℕ) : Type 0 where
  known : (k : ℕ) → k < n → (tag k).value < m
  leader : (k : ℕ) × (k < n) × ((tag k).lead ≡ true)
  empty : (k : ℕ) → k < n → (tag k).lead ≡ false → (tag k).value ≡ 0
  lead_bit : (k : ℕ) → k < n → (tag k).lead ≡ true → (tag k).bit ≡ eqb (tag k).value c
  sum : Same m z (total (λ k. (tag k).value) n)

at_places : (P : ℕ → Type 0) (i j : ℕ) → P i → P j → ((k : ℕ) → (k ≡ i → ⊥) → (k ≡ j → ⊥) → P k) → (k : ℕ) → P k
at_places P i j pi pj others k = ⊎_elim (λ e. subst P (sym e) pi) (λ ni. ⊎_elim (λ e. subst P (sym e) pj) (others k ni) (cases_eq k j)) (cases_eq k i)

held_met : (m c n : ℕ) (z : ℤ) (old new : ℕ → Fields ℕ) (i j : ℕ) → 0 < m → Apart n i j → Met m c old new i j → Held m c n z old → Held m c n z new
held_met m c n z old new i j some apart (joined v is _ at_i at_j off) h =
    let in_i : i < n = apart.first_within in
    let v_i : (new i).value ≡ v = ap (λ t. t.value) at_i in
    let v_j : (new j).value ≡ 0 = ap (λ t. t.value) at_j in
    let small : v < m = omega (arith, mod_below ((old i).value + (old j).value) m some) in
    let two = total_two (λ k. (old k).value) (λ k. (new k).value) n i j apart (λ k ni nj. ap (λ t. t.value) (off k ni nj)) in
    record {
      known = at_places (λ k. k < n → (new k).value < m) i j (λ _. omega arith) (λ _. omega arith)
          (λ k ni nj b. omega (arith, h.known k b, ap (λ t. t.value) (off k ni nj)));
      leader = (i, in_i, ap (λ t. t.lead) at_i);
      empty = at_places (λ k. k < n → (new k).lead ≡ false → (new k).value ≡ 0) i j
          (λ _ none. absurd (both_ways (new i).lead none (ap (λ t. t.lead) at_i)))
          (λ _ _. v_j)
          (λ k ni nj b. rw (off k ni nj) (h.empty k b));
      lead_bit = at_places (λ k. k < n → (new k).lead ≡ true → (new k).bit ≡ eqb (new k).value c) i j
          (λ _ _. rw at_i refl)
          (λ _ lead. absurd (both_ways (new j).lead (ap (λ t. t.lead) at_j) lead))
          (λ k ni nj b. rw (off k ni nj) (h.lead_bit k b));
      sum = same_less m z (total (λ k. (old k).value) n) (total (λ k. (new k).value) n) (((old i).value + (old j).value) / m)
          (omega (arith, div-add-mod' ((old i).value + (old j).value) m)) h.sum;
    }
held_met m c n z old new i j some apart (idle _ _ off) h = record {
  known = λ k b. rw (off k) (h.known k b);
  leader = (h.leader.0, h.leader.1, ap (λ t. t.lead) (off h.leader.0) ∙ h.leader.2);
  empty = λ k b. rw (off k) (h.empty k b);
  lead_bit = λ k b. rw (off k) (h.lead_bit k b);
  sum = same_less m z (total (λ k. (old k).value) n) (total (λ k. (new k).value) n) 0
      (omega (arith, total_ext (λ k. (new k).value) (λ k. (old k).value) n (λ k _. ap (λ t. t.value) (off k)))) h.sum;
}

reduced_small : (m : ℕ) (z : ℤ) → 0 < m → reduced m z < m
reduced_small m (pos a) h = mod_below a m h
reduced_small m (negsuc a) h = omega arith

abbrev start_of : List ℤ → ℕ → ℕ → ℕ → ℕ
start_of ks m c symbol = number_of (start_fields ks m c symbol)

first_held : (ks : List ℤ) (m c : ℕ) (ss : List Symbol) (tag : ℕ → Fields ℕ) → length ks ≡ 8 → 0 < m → 0 < length ss → AllByRecursion (λ s. s.0 < 8) ss
    → ((k : ℕ) → k < length ss → tag k ≡ start_fields ks m c (symbol_at ss k)) → Held m c (length ss) (weighed ks (counts_of ss)) tag
first_held ks m c ss tag eight some loaded each at =
    let coefficient : ℕ → ℤ = λ k. coefficient_of ks (symbol_at ss k) in
    record {
      known = λ k b. rw (at k b) (reduced_small m (coefficient k) some);
      leader = (0, loaded, ap (λ t. t.lead) (at 0 loaded));
      empty = λ k b none. absurd (both_ways (tag k).lead none (ap (λ t. t.lead) (at k b)));
      lead_bit = λ k b _. rw (at k b) refl;
      sum = rw (weighed_is ks ss eight each) (same_totals m coefficient (λ k. (tag k).value) (length ss) (λ k b. rw (at k b) (same_reduced m (coefficient k) some)));
    }

module _ (ks : List ℤ) (m c : ℕ) (ss : List Symbol) (eight : length ks ≡ 8) (some : 0 < m) (loaded : 0 < length ss) (each : AllByRecursion (λ s. s.0 < 8) ss) where
  started_held : Held m c (length ss) (weighed ks (counts_of ss)) (tag_of (map (λ s. start_of ks m c s.0) ss))
  started_held = first_held ks m c ss _ eight some loaded each
      (λ k b. ap fields_of (started_at (start_of ks m c) ss k b) ∙ fields_number (start_fields ks m c (symbol_at ss k)))

  held : {qs : List ℕ} → Reached (start_of ks m c) (meet_of m c) ss qs → Held m c (length ss) (weighed ks (counts_of ss)) (tag_of qs)
  held started = started_held
  held (met {states} r i j apart) =
      held_met m c (length ss) _ (tag_of states) (tag_of (meeting (meet_of m c) states i j)) i j some apart
      (met_tags m c states i j (apart_at (reached_length r) apart)) (held r)

-- ---- one lead

record Single (n l : ℕ) (tag : ℕ → Fields ℕ) : Type 0 where
  within : l < n
  leads : (tag l).lead ≡ true
  alone : (k : ℕ) → k < n → (k ≡ l → ⊥) → (tag k).lead ≡ false

-- every bit tells of the leader's value
abbrev Right : ℕ → ℕ → ℕ → (ℕ → Fields ℕ) → Type 0
Right c n l tag = (k : ℕ) → k < n → (tag k).bit ≡ eqb (tag l).value c

the_leader : (n l : ℕ) (tag : ℕ → Fields ℕ) → Single n l tag → (k : ℕ) → k < n → (tag k).lead ≡ true → k ≡ l
the_leader n l tag s k b e = ⊎_elim (λ same. same) (λ ne. absurd (both_ways (tag k).lead (s.alone k b ne) e)) (cases_eq k l)

module _ (m c n : ℕ) (z : ℤ) (old new : ℕ → Fields ℕ) (i j l : ℕ) (apart : Apart n i j) (h : Held m c n z old) (s : Single n l old) where
  -- the leader among the two
  among : ((old i).lead ≡ true) ⊎ ((old j).lead ≡ true) → (i ≡ l) ⊎ (j ≡ l)
  among (inl e) = inl (the_leader n l old s i apart.first_within e)
  among (inr e) = inr (the_leader n l old s j apart.second_within e)

  -- the other has nothing to give
  kept : (i ≡ l) ⊎ (j ≡ l) → ((old i).value + (old j).value) % m ≡ (old l).value
  kept (inl e) =
      let none : (old j).value ≡ 0 = h.empty j apart.second_within (s.alone j apart.second_within (λ f. apart.differ (e ∙ sym f))) in
      let is : (old i).value ≡ (old l).value = ap (λ k. (old k).value) e in
      ap (λ x. x % m) (omega arith) ∙ mod-mul-add 0 m (old l).value (h.known l s.within)
  kept (inr e) =
      let none : (old i).value ≡ 0 = h.empty i apart.first_within (s.alone i apart.first_within (λ f. apart.differ (f ∙ sym e))) in
      let is : (old j).value ≡ (old l).value = ap (λ k. (old k).value) e in
      ap (λ x. x % m) (omega arith) ∙ mod-mul-add 0 m (old l).value (h.known l s.within)

  module _ (v : ℕ) (led' : (i ≡ l) ⊎ (j ≡ l)) (at_i : new i ≡ made true (eqb v c) v) (at_j : new j ≡ made false (eqb v c) 0)
      (off : (k : ℕ) → (k ≡ i → ⊥) → (k ≡ j → ⊥) → new k ≡ old k) where
    single_met : Single n i new
    single_met = record {
      within = apart.first_within;
      leads = ap (λ t. t.lead) at_i;
      alone = at_places (λ k. k < n → (k ≡ i → ⊥) → (new k).lead ≡ false) i j
          (λ _ ne. absurd (ne refl))
          (λ _ _. ap (λ t. t.lead) at_j)
          (λ k ni nj b _. ap (λ t. t.lead) (off k ni nj) ∙ s.alone k b (λ e. ⊎_elim (λ f. ni (e ∙ sym f)) (λ f. nj (e ∙ sym f)) led'));
    }

    right_met : v ≡ (old l).value → Right c n l old → Right c n i new
    right_met is right =
        let at : eqb (new i).value c ≡ eqb v c = ap (λ t. eqb t.value c) at_i in
        let same : eqb v c ≡ eqb (old l).value c = ap (λ x. eqb x c) is in
        at_places (λ k. k < n → (new k).bit ≡ eqb (new i).value c) i j
        (λ _. ap (λ t. t.bit) at_i ∙ sym at)
        (λ _. ap (λ t. t.bit) at_j ∙ sym at)
        (λ k ni nj b. ap (λ t. t.bit) (off k ni nj) ∙ right k b ∙ sym same ∙ sym at)

-- ---- the advice

abbrev advice_of : ℕ → (ℕ → Fields ℕ) → ℕ → Advice
advice_of c tag n = led (lowest (λ place. (tag place).lead) n) (partner_rules c tag) n

abbrev wrong : ℕ → (ℕ → Fields ℕ) → ℕ → ℕ → Bool
wrong c tag l = other l (λ place. cond (eqb (tag l).value c) (not (tag place).bit) (tag place).bit)

right_bit : (t b : Bool) → cond t (not b) b ≡ false → b ≡ t
right_bit true true e = refl
right_bit true false e = absurd (both_ways true e refl)
right_bit false true e = absurd (both_ways true e refl)
right_bit false false e = refl

bit_right : (t b : Bool) → b ≡ t → cond t (not b) b ≡ false
bit_right true true e = refl
bit_right true false e = sym e
bit_right false true e = e
bit_right false false e = refl

other_false : (l : ℕ) (test : ℕ → Bool) (k : ℕ) → other l test k ≡ false → (k ≡ l → ⊥) → test k ≡ false
other_false l test k e ne = rw (ne_eqb k l ne) at e

other_true : (l : ℕ) (test : ℕ → Bool) (k : ℕ) → other l test k ≡ true → (k ≡ l → ⊥) × (test k ≡ true)
other_true l test k e = (λ same. both_ways (other l test k) (rw (eq-eqb k l same) refl) e, (and_parts (not (eqb k l)) (test k) e).1)

other_none : (l : ℕ) (test : ℕ → Bool) (k : ℕ) → ((k ≡ l → ⊥) → test k ≡ false) → other l test k ≡ false
other_none l test k f = ⊎_elim (λ same. rw (eq-eqb k l same) refl) (λ ne. rw (ne_eqb k l ne) (f ne)) (cases_eq k l)

fit_one : (f : ℕ → Bool) (fs : List (ℕ → Bool)) (n p : ℕ) → lowest f n ≡ Some p → first_fit (f ∷ fs) n ≡ Some p
fit_one f fs n p e = ap (λ (o : Option ℕ). elim o [ Some place ↦ Some place | None ↦ first_fit fs n ]) e

fit_none : (f : ℕ → Bool) (fs : List (ℕ → Bool)) (n : ℕ) → lowest f n ≡ None → first_fit (f ∷ fs) n ≡ first_fit fs n
fit_none f fs n e = ap (λ (o : Option ℕ). elim o [ Some place ↦ Some place | None ↦ first_fit fs n ]) e

advice_is : (c n : ℕ) (tag : ℕ → Fields ℕ) (l : ℕ) (o : Option ℕ) → lowest (λ k. (tag k).lead) n ≡ Some l → first_fit (partner_rules c tag l) n ≡ o
    → advice_of c tag n ≡ paired (Some l) o
advice_is c n tag l o e f = ap (λ (w : Option ℕ). led w (partner_rules c tag) n) e ∙ ap (paired (Some l)) f

data View (c n : ℕ) (tag : ℕ → Fields ℕ) : Type 0 where
  nobody : ((k : ℕ) → k < n → (tag k).lead ≡ false) → View c n tag
  single : (l : ℕ) → Single n l tag → View c n tag
  merges : (l p : ℕ) → advice_of c tag n ≡ Meet l p → Apart n l p → (tag l).lead ≡ true → (tag p).lead ≡ true → View c n tag

second_view : (c n : ℕ) (tag : ℕ → Fields ℕ) (l : ℕ) → lowest (λ k. (tag k).lead) n ≡ Some l
    → (o : Option ℕ) → lowest (other l (λ k. (tag k).lead)) n ≡ o → View c n tag
second_view c n tag l e None f =
    let it = lowest_some (λ k. (tag k).lead) n l e in
    single l (record {
      within = it.0;
      leads = it.1;
      alone = λ k b. other_false l (λ k. (tag k).lead) k (lowest_none (other l (λ k. (tag k).lead)) n f k b);
    })
second_view c n tag l e (Some p) f =
    let it = lowest_some (λ k. (tag k).lead) n l e in
    let that = lowest_some (other l (λ k. (tag k).lead)) n p f in
    let two = other_true l (λ k. (tag k).lead) p that.1 in
    merges l p (advice_is c n tag l (Some p) e (fit_one (other l (λ k. (tag k).lead)) (wrong c tag l ∷ []) n p f)) (record { first_within = it.0; second_within = that.0; differ = λ same. two.0 (sym same) }) it.1 two.1

first_view : (c n : ℕ) (tag : ℕ → Fields ℕ) (o : Option ℕ) → lowest (λ k. (tag k).lead) n ≡ o → View c n tag
first_view c n tag None e = nobody (lowest_none (λ k. (tag k).lead) n e)
first_view c n tag (Some l) e = second_view c n tag l e (lowest (other l (λ k. (tag k).lead)) n) refl

view : (c n : ℕ) (tag : ℕ → Fields ℕ) → View c n tag
view c n tag = first_view c n tag (lowest (λ k. (tag k).lead) n) refl

-- the advice where one tag leads
data Alone (c n l : ℕ) (tag : ℕ → Fields ℕ) : Type 0 where
  settled : advice_of c tag n ≡ Settled → ((k : ℕ) → k < n → wrong c tag l k ≡ false) → Alone c n l tag
  corrects : (p : ℕ) → advice_of c tag n ≡ Meet l p → Apart n l p → wrong c tag l p ≡ true → Alone c n l tag

module _ (c n l : ℕ) (tag : ℕ → Fields ℕ) (s : Single n l tag) where
  lead_lowest : lowest (λ k. (tag k).lead) n ≡ Some l
  lead_lowest =
      let in_l : l < n = s.within in
      lowest_is (λ k. (tag k).lead) n l s.within s.leads (λ k b. s.alone k (omega arith) (λ e. omega arith))

  no_second : lowest (other l (λ k. (tag k).lead)) n ≡ None
  no_second = lowest_fails (other l (λ k. (tag k).lead)) n (λ k b. other_none l (λ k. (tag k).lead) k (s.alone k b))

  alone_by : (o : Option ℕ) → lowest (wrong c tag l) n ≡ o → Alone c n l tag
  alone_by None e = settled (advice_is c n tag l None lead_lowest (fit_none (other l (λ k. (tag k).lead)) (wrong c tag l ∷ []) n no_second ∙ fit_none (wrong c tag l) [] n e)) (lowest_none (wrong c tag l) n e)
  alone_by (Some p) e =
      let it = lowest_some (wrong c tag l) n p e in
      corrects p (advice_is c n tag l (Some p) lead_lowest (fit_none (other l (λ k. (tag k).lead)) (wrong c tag l ∷ []) n no_second ∙ fit_one (wrong c tag l) [] n p e))
      (record { first_within = s.within; second_within = it.0; differ = λ same. (other_true l (λ k. cond (eqb (tag l).value c) (not (tag k).bit) (tag k).bit) p it.1).0 (sym same) })
      it.1

  alone_view : Alone c n l tag
  alone_view = alone_by (lowest (wrong c tag l) n) refl

  settled_is : Right c n l tag → advice_of c tag n ≡ Settled
  settled_is right =
      let none : lowest (wrong c tag l) n ≡ None = lowest_fails (wrong c tag l) n (λ k b. other_none l (λ k. cond (eqb (tag l).value c) (not (tag k).bit) (tag k).bit) k (λ _. bit_right _ _ (right k b))) in
      advice_is c n tag l None lead_lowest (fit_none (other l (λ k. (tag k).lead)) (wrong c tag l ∷ []) n no_second ∙ fit_none (wrong c tag l) [] n none)

-- ---- fewer leads, then fewer wrong bits

leads_fall : (m c n : ℕ) (old new : ℕ → Fields ℕ) (l p : ℕ) → Apart n l p → (old l).lead ≡ true → (old p).lead ≡ true → Met m c old new l p
    → tally (λ k. (new k).lead) n < tally (λ k. (old k).lead) n
leads_fall m c n old new l p apart lead_l lead_p (joined v is _ at_l at_p off) =
    tally_falls (λ k. (new k).lead) (λ k. (old k).lead) n p apart.second_within (ap (λ t. t.lead) at_p) lead_p
    (at_places (λ k. k < n → (new k).lead ≡ true → (old k).lead ≡ true) l p (λ _ _. lead_l) (λ _ _. lead_p) (λ k nl np _ e. sym (ap (λ t. t.lead) (off k nl np)) ∙ e))
leads_fall m c n old new l p apart lead_l lead_p (idle none _ _) = absurd (both_ways (old l).lead none lead_l)

wrong_same : (c : ℕ) (tag other' : ℕ → Fields ℕ) (l k : ℕ) → (tag k).bit ≡ (other' k).bit → (tag l).value ≡ (other' l).value → wrong c tag l k ≡ wrong c other' l k
wrong_same c tag other' l k e f = rw (e, f) refl

wrong_falls : (m c n : ℕ) (z : ℤ) (old new : ℕ → Fields ℕ) (l p : ℕ) → Apart n l p → Held m c n z old → Single n l old → wrong c old l p ≡ true → Met m c old new l p
    → tally (wrong c new l) n < tally (wrong c old l) n
wrong_falls m c n z old new l p apart h s bad (joined v is _ at_l at_p off) =
    let same : (old l).value ≡ (new l).value = sym (kept m c n z old new l p l apart h s (inl refl)) ∙ sym is ∙ sym (ap (λ t. t.value) at_l) in
    let good : wrong c new l p ≡ false = other_none l (λ k. cond (eqb (new l).value c) (not (new k).bit) (new k).bit) p
    (λ _. bit_right _ _ (ap (λ t. t.bit) at_p ∙ sym (ap (λ t. eqb t.value c) at_l))) in
    tally_falls (wrong c new l) (wrong c old l) n p apart.second_within good bad
    (at_places (λ k. k < n → wrong c new l k ≡ true → wrong c old l k ≡ true) l p
    (λ _ e. absurd ((other_true l (λ k. cond (eqb (new l).value c) (not (new k).bit) (new k).bit) l e).0 refl))
    (λ _ _. bad)
    (λ k nl np _ e. wrong_same c old new l k (sym (ap (λ t. t.bit) (off k nl np))) same ∙ e))
wrong_falls m c n z old new l p apart h s bad (idle none _ _) = absurd (both_ways (old l).lead none s.leads)

-- ---- following the advice

module _ (m c n : ℕ) (z : ℤ) (some : 0 < m) where
  next_is : (qs : List ℕ) → length qs ≡ n → (a : Advice) → advice_of c (tag_of qs) n ≡ a → next_of c qs ≡ a
  next_is qs long a e = ap (advice_of c (tag_of qs)) long ∙ e

  met_after : (qs : List ℕ) (i j : ℕ) → length qs ≡ n → Apart n i j → Met m c (tag_of qs) (tag_of (meeting (meet_of m c) qs i j)) i j
  met_after qs i j long apart = met_tags m c qs i j (apart_at long apart)

  held_after : (qs : List ℕ) (i j : ℕ) → length qs ≡ n → Apart n i j → Held m c n z (tag_of qs) → Held m c n z (tag_of (meeting (meet_of m c) qs i j))
  held_after qs i j long apart h = held_met m c n z (tag_of qs) (tag_of (meeting (meet_of m c) qs i j)) i j some apart (met_after qs i j long apart) h

  long_after : (qs : List ℕ) (i j : ℕ) → length qs ≡ n → length (meeting (meet_of m c) qs i j) ≡ n
  long_after qs i j long = length-meeting (meet_of m c) qs i j ∙ long

  -- the leader that corrects stays the leader
  single_after : (old new : ℕ → Fields ℕ) (l p : ℕ) → Apart n l p → Held m c n z old → Single n l old → Met m c old new l p → Single n l new
  single_after old new l p apart h s (joined v _ _ at_l at_p off) = single_met m c n z old new l p l apart h s v (inl refl) at_l at_p off
  single_after old new l p apart h s (idle none _ _) = absurd (both_ways (old l).lead none s.leads)

  correcting_end : (qs : List ℕ) (l : ℕ) → length qs ≡ n → Held m c n z (tag_of qs) → Single n l (tag_of qs) → tally (wrong c (tag_of qs) l) n ≤ 0
      → Alone c n l (tag_of qs) → Settles (next_of c) (meet_of m c) n qs 0
  correcting_end qs l long h s few (settled e _) = done (next_is qs long Settled e)
  correcting_end qs l long h s few (corrects p e apart bad) =
      absurd (omega (arith, wrong_falls m c n z (tag_of qs) (tag_of (meeting (meet_of m c) qs l p)) l p apart h s bad (met_after qs l p long apart)))

  correcting_step : (k : ℕ) (qs : List ℕ) (l : ℕ) → length qs ≡ n → Held m c n z (tag_of qs) → Single n l (tag_of qs) → tally (wrong c (tag_of qs) l) n ≤ suc k
      → Alone c n l (tag_of qs)
      → ((rs : List ℕ) → length rs ≡ n → Held m c n z (tag_of rs) → Single n l (tag_of rs) → tally (wrong c (tag_of rs) l) n ≤ k → Settles (next_of c) (meet_of m c) n rs k)
      → Settles (next_of c) (meet_of m c) n qs (suc k)
  correcting_step k qs l long h s few (settled e _) more = done (next_is qs long Settled e)
  correcting_step k qs l long h s few (corrects p e apart bad) more =
      let now = met_after qs l p long apart in
      step l p (next_is qs long (Meet l p) e) apart
      (more (meeting (meet_of m c) qs l p) (long_after qs l p long) (held_after qs l p long apart h)
      (single_after (tag_of qs) (tag_of (meeting (meet_of m c) qs l p)) l p apart h s now)
      (omega (arith, wrong_falls m c n z (tag_of qs) (tag_of (meeting (meet_of m c) qs l p)) l p apart h s bad now)))

  correcting : (k : ℕ) (l : ℕ) (qs : List ℕ) → length qs ≡ n → Held m c n z (tag_of qs) → Single n l (tag_of qs) → tally (wrong c (tag_of qs) l) n ≤ k
      → Settles (next_of c) (meet_of m c) n qs k
  correcting zero l qs long h s few = correcting_end qs l long h s few (alone_view c n l (tag_of qs) s)
  correcting (suc k) l qs long h s few = correcting_step k qs l long h s few (alone_view c n l (tag_of qs) s) (correcting k l)

  corrected : (k : ℕ) (l : ℕ) (qs : List ℕ) → n - 1 ≤ k → length qs ≡ n → Held m c n z (tag_of qs) → Single n l (tag_of qs) → Settles (next_of c) (meet_of m c) n qs k
  corrected k l qs enough long h s =
      correcting k l qs long h s
      (omega (arith, tally_but (wrong c (tag_of qs) l) n l s.within (other_none l (λ p. cond (eqb (tag_of qs l).value c) (not (tag_of qs p).bit) (tag_of qs p).bit) l (λ ne. absurd (ne refl)))))

  -- some tag leads
  led_some : (tag : ℕ → Fields ℕ) → Held m c n z tag → 0 < tally (λ k. (tag k).lead) n
  led_some tag h =
      ⊎_elim
      (λ none. absurd (both_ways (tag h.leader.0).lead (tally_none (λ k. (tag k).lead) n none h.leader.0 h.leader.1) h.leader.2))
      (λ ne. omega arith)
      (cases_eq (tally (λ k. (tag k).lead) n) 0)

  merging_step : (k : ℕ) (qs : List ℕ) → length qs ≡ n → Held m c n z (tag_of qs) → tally (λ p. (tag_of qs p).lead) n ≤ suc k → View c n (tag_of qs)
      → ((rs : List ℕ) → length rs ≡ n → Held m c n z (tag_of rs) → tally (λ p. (tag_of rs p).lead) n ≤ k → Settles (next_of c) (meet_of m c) n rs (k + (n - 1) - 1))
      → Settles (next_of c) (meet_of m c) n qs (k + (n - 1))
  merging_step k qs long h few (nobody none) more = absurd (both_ways (tag_of qs h.leader.0).lead (none h.leader.0 h.leader.1) h.leader.2)
  merging_step k qs long h few (single l s) more = corrected (k + (n - 1)) l qs (omega arith) long h s
  merging_step k qs long h few (merges l p e apart lead_l lead_p) more =
      let less = leads_fall m c n (tag_of qs) (tag_of (meeting (meet_of m c) qs l p)) l p apart lead_l lead_p (met_after qs l p long apart) in
      let after = held_after qs l p long apart h in
      let some_left = led_some (tag_of (meeting (meet_of m c) qs l p)) after in
      settles_more
      (step l p (next_is qs long (Meet l p) e) apart (more (meeting (meet_of m c) qs l p) (long_after qs l p long) after (omega arith)))
      (k + (n - 1)) (omega arith)

  merging : (k : ℕ) (qs : List ℕ) → length qs ≡ n → Held m c n z (tag_of qs) → tally (λ p. (tag_of qs p).lead) n ≤ k → Settles (next_of c) (meet_of m c) n qs (k + (n - 1) - 1)
  merging zero qs long h few = absurd (omega (arith, led_some (tag_of qs) h))
  merging (suc k) qs long h few = settles_more (merging_step k qs long h few (view c n (tag_of qs)) (merging k)) _ (omega arith)

  settles_all : (qs : List ℕ) → length qs ≡ n → Held m c n z (tag_of qs) → Settles (next_of c) (meet_of m c) n qs (2 * (n - 1))
  settles_all qs long h =
      let in_n : h.leader.0 < n = h.leader.1 in
      settles_more (merging n qs long h (tally_le (λ p. (tag_of qs p).lead) n)) (2 * (n - 1)) (omega arith)

-- ---- a settled load

total_none : (f : ℕ → ℕ) (n : ℕ) → ((k : ℕ) → k < n → f k ≡ 0) → total f n ≡ 0
unfolding total
total_none f zero none = refl
total_none f (suc n) none = omega (arith, total_none f n (λ k b. none k (omega arith)), none n (omega arith))

-- only one place has a value
total_only : (f : ℕ → ℕ) (n l : ℕ) → l < n → ((k : ℕ) → k < n → (k ≡ l → ⊥) → f k ≡ 0) → total f n ≡ f l
unfolding total
total_only f zero l b none = absurd (omega arith)
total_only f (suc n) l b none =
    ⊎_elim
    (λ e. omega (arith, ap f e, total_none f n (λ k h. none k (omega arith) (λ s. omega arith))))
    (λ ne. omega (arith, total_only f n l (omega arith) (λ k h. none k (omega arith)), none n (omega arith) (λ s. ne (sym s))))
    (cases_eq l n)

module _ (m c n : ℕ) (z : ℤ) (some : 0 < m) (small : c < m) where
  abbrev Told : (ℕ → Fields ℕ) → Type 0
  Told tag = (l : ℕ) × (Single n l tag) × (Right c n l tag)

  alone_told : (tag : ℕ → Fields ℕ) (l : ℕ) → Held m c n z tag → advice_of c tag n ≡ Settled → Single n l tag → Alone c n l tag → Told tag
  alone_told tag l h e s (settled _ right) = (
    l,
    s,
    λ k b. ⊎_elim
        (λ same. rw same (h.lead_bit l s.within s.leads))
        (λ ne. right_bit _ _ (other_false l (λ p. cond (eqb (tag l).value c) (not (tag p).bit) (tag p).bit) k (right k b) ne))
        (cases_eq k l),
  )
  alone_told tag l h e s (corrects p f _ _) = let no : ◌≡◌ {A = ℕ} 0 1 = cc in absurd (omega arith)

  view_told : (tag : ℕ → Fields ℕ) → Held m c n z tag → advice_of c tag n ≡ Settled → View c n tag → Told tag
  view_told tag h e (nobody none) = absurd (both_ways (tag h.leader.0).lead (none h.leader.0 h.leader.1) h.leader.2)
  view_told tag h e (single l s) = alone_told tag l h e s (alone_view c n l tag s)
  view_told tag h e (merges l p f _ _ _) = let no : ◌≡◌ {A = ℕ} 0 1 = cc in absurd (omega arith)

  told : (qs : List ℕ) → length qs ≡ n → Held m c n z (tag_of qs) → next_of c qs ≡ Settled → Told (tag_of qs)
  told qs long h e = view_told (tag_of qs) h (sym (ap (advice_of c (tag_of qs)) long) ∙ e) (view c n (tag_of qs))

  right_at : (tag : ℕ → Fields ℕ) → Held m c n z tag → Told tag → (k : ℕ) → k < n → (tag k).bit ≡ eqb (nat_abs (z -ℤ pos c) % m) 0
  right_at tag h (l, s, right) k b =
      let all : total (λ p. (tag p).value) n ≡ (tag l).value = total_only (λ p. (tag p).value) n l s.within (λ p q ne. h.empty p q (s.alone p q ne)) in
      right k b ∙ sym (truth_same m c (tag l).value z (h.known l s.within) small (same_less m z (total (λ p. (tag p).value) n) (tag l).value 0 (omega arith) h.sum))

  stays_at : (old new : ℕ → Fields ℕ) (i j : ℕ) → Apart n i j → Held m c n z old → Told old → Met m c old new i j → advice_of c new n ≡ Settled
  stays_at old new i j apart h (l, s, right) (joined v is led' at_i at_j off) =
      let who = among m c n z old new i j l apart h s led' in
      settled_is c n i new (single_met m c n z old new i j l apart h s v who at_i at_j off)
      (right_met m c n z old new i j l apart h s v who at_i at_j off (is ∙ kept m c n z old new i j l apart h s who) right)
  stays_at old new i j apart h (l, s, right) (idle _ _ off) =
      settled_is c n l new
      (record { within = s.within; leads = ap (λ t. t.lead) (off l) ∙ s.leads; alone = λ k b ne. ap (λ t. t.lead) (off k) ∙ s.alone k b ne })
      (λ k b. ap (λ t. t.bit) (off k) ∙ right k b ∙ sym (ap (λ t. eqb t.value c) (off l)))

-- ---- the laws

met_known : (m c : ℕ) (a b : Fields ℕ) → 0 < m → a.value < m → b.value < m → ((met_fields m c a b).0.value < m) × ((met_fields m c a b).1.value < m)
met_known m c a b some ha hb =
    cond_both {A = Fields ℕ × Fields ℕ} (a.lead || b.lead)
    (made true (eqb ((a.value + b.value) % m) c) ((a.value + b.value) % m), made false (eqb ((a.value + b.value) % m) c) 0) (a, b)
    (λ w. (w.0.value < m) × (w.1.value < m))
    (λ _. (mod_below (a.value + b.value) m some, some))
    (λ _. (ha, hb))

pub remainder_lawful : (ks : List ℤ) (m c : ℕ) → length ks ≡ 8 → 2 ≤ m → m ≤ 999 → c < m → Lawful (remainder_protocol ks m c)
remainder_lawful ks m c eight low high small =
    let some : 0 < m = omega arith in
    record {
      size_fits = omega arith;
      weight_fits = omega arith;
      start_known = λ s _ _. number_known m (start_fields ks m c s) (reduced_small m (coefficient_of ks s) some);
      meet_known = λ a b ha hb.
          let left = met_known m c (fields_of a) (fields_of b) some (value_known m a ha) (value_known m b hb) in
          (number_known m (met_fields m c (fields_of a) (fields_of b)).0 left.0, number_known m (met_fields m c (fields_of a) (fields_of b)).1 left.1);
      stable = λ ss qs _ readings r.
          let n : ℕ = length ss in
          let z : ℤ = weighed ks (counts_of ss) in
          let long : length qs ≡ n = reached_length r in
          let h : Held m c n z (tag_of qs) = held ks m c ss eight some readings.some readings.each r in
          record {
            settles = settles_all m c n z some qs long h;
            right = λ e. right_at m c n z some small (tag_of qs) h (told m c n z some small qs long h e);
            stays = λ e i j apart.
                next_is m c n z some (meeting (meet_of m c) qs i j) (long_after m c n z some qs i j long) Settled
                (stays_at m c n z some small (tag_of qs) (tag_of (meeting (meet_of m c) qs i j)) i j apart h (told m c n z some small qs long h e)
                (met_after m c n z some qs i j long apart));
          };
    }
