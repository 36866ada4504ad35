-- The laws of presence: each advised meeting makes one 0 a 1, and a 1 is there exactly where a symbol of the mask was read. Assumes nothing.
use Rattle.std.proofs.Common.{◌≡◌, ℕ, zero, suc, ◌+◌, ◌-◌, ◌*◌, ◌<◌, ◌≤◌, max, Bool, true, false, cond, ◌&&◌, eqb, ltb, ◌⊎◌, List, [], ◌∷◌, map, length, get_or, Some, None, Decides, Option, sym, refl, ap, ◌∙◌, inl, inr, ⊎_elim, arith}
use Rattle.std.specs.List.{AllByRecursion}
use Rattle.std.proofs.lemmas.List.{get_or-map, length-map}
use Rattle.std.proofs.lemmas.List.Sums.{sum_by-cons}
use Rattle.std.proofs.lemmas.Bool.{both_ways, cases_eq, eqb-true, eq-eqb, ne_eqb, ltb-true, lt-ltb, and_from, and_parts, or_cases, or_left, or_right}
use Rattle.std.proofs.lemmas.Bool.Decides.{nat_tests, same_from_decides}
use Rattle.reading.specs.Counting.{occurs, counts_of}
use Rattle.reading.specs.declared.Symbol.{Symbol}
use Rattle.protocol.specs.declared.Advice.TheVariants.{Meet, Settled}
use Rattle.protocol.specs.Places.{state_at, meeting, Apart, lowest, paired}
use Rattle.protocol.specs.Laws.{Reached, started, met, Settles, done, step, Lawful}
use Rattle.protocol.specs.Joining.{one_if, bit_at}
use Rattle.protocol.specs.Presence.{present_from, next_of, presence_protocol}
use Rattle.protocol.proofs.Weighed.{up_from, symbol_at, started_at}
use Rattle.protocol.proofs.Places.{lowest_some, lowest_none, lowest_fails, length-meeting, meeting_first, meeting_second, meeting_other, tally, tally_falls, tally_but}

-- ---- the truth

-- some count of a symbol of the mask is not 0
abbrev Counted : ℕ → ℕ → List ℕ → Type 0
Counted mask from ns = (k : ℕ) × (k < length ns) × (bit_at mask (k + from) ≡ true) × (0 < get_or ns k 0)

counted_to : (mask from : ℕ) (ns : List ℕ) → present_from mask from ns ≡ true → Counted mask from ns
counted_to mask from [] e = absurd (both_ways false refl e)
counted_to mask from (n ∷ ns) e =
    ⊎_elim
    (λ h. let both = and_parts (bit_at mask from) (ltb 0 n) h in (0, omega arith, ap (bit_at mask) (omega arith) ∙ both.0, ltb-true 0 n both.1))
    (λ t. let rest = counted_to mask (from + 1) ns t in (suc rest.0, omega arith, ap (bit_at mask) (omega arith) ∙ rest.2, rest.3))
    (or_cases (bit_at mask from && ltb 0 n) (present_from mask (from + 1) ns) e)

counted_from : (mask from : ℕ) (ns : List ℕ) (k : ℕ) → k < length ns → bit_at mask (k + from) ≡ true → 0 < get_or ns k 0 → present_from mask from ns ≡ true
counted_from mask from [] k h b c = absurd (omega arith)
counted_from mask from (n ∷ ns) zero h b c = or_left _ _ (and_from _ _ (ap (bit_at mask) (omega arith) ∙ b) (lt-ltb 0 n c))
counted_from mask from (n ∷ ns) (suc k) h b c = or_right (bit_at mask from && ltb 0 n) _ (counted_from mask (from + 1) ns k (omega arith) (ap (bit_at mask) (omega arith) ∙ b) c)

-- a symbol occurs exactly where some place has it
occurs_to : (k : ℕ) (ss : List Symbol) → 0 < occurs k ss → (j : ℕ) × (j < length ss) × (symbol_at ss j ≡ k)
occurs_to k [] h = absurd (omega arith)
occurs_to k (s ∷ ss) h =
    ⊎_elim
    (λ e. (0, omega arith, e))
    (λ ne.
    let more = sum_by-cons (λ s. cond (eqb s.0 k) 1 0) s ss in
    let no = ne_eqb s.0 k ne in
    let rest = occurs_to k ss (grind (arith, nat_tests)) in
    (suc rest.0, omega arith, rest.2))
    (cases_eq s.0 k)

occurs_from : (k : ℕ) (ss : List Symbol) (j : ℕ) → j < length ss → symbol_at ss j ≡ k → 0 < occurs k ss
occurs_from k [] j h e = absurd (omega arith)
occurs_from k (s ∷ ss) zero h e =
    let more = sum_by-cons (λ s. cond (eqb s.0 k) 1 0) s ss in
    let yes = eq-eqb s.0 k e in
    grind (arith, nat_tests)
occurs_from k (s ∷ ss) (suc j) h e = omega (arith, sum_by-cons (λ s. cond (eqb s.0 k) 1 0) s ss, occurs_from k ss j (omega arith) e)

-- some place has a symbol of the mask
abbrev Present : ℕ → List Symbol → Type 0
Present mask ss = (j : ℕ) × (j < length ss) × (bit_at mask (symbol_at ss j) ≡ true)

up_at : (from n k : ℕ) → k < n → get_or (up_from from n) k 0 ≡ k + from
up_at from zero k h = absurd (omega arith)
up_at from (suc n) zero h = omega arith
up_at from (suc n) (suc k) h = up_at (suc from) n k (omega arith) ∙ omega arith

count_at : (ss : List Symbol) (k : ℕ) → k < 8 → get_or (counts_of ss) k 0 ≡ occurs k ss
count_at ss k h = get_or-map (λ k. occurs k ss) (up_from 0 8) k 0 0 h ∙ ap (λ k. occurs k ss) (up_at 0 8 k h ∙ omega arith)

symbol_small : (ss : List Symbol) → AllByRecursion (λ s. s.0 < 8) ss → (k : ℕ) → k < length ss → symbol_at ss k < 8
symbol_small [] each k h = absurd (omega arith)
symbol_small (s ∷ ss) each zero h = each.0
symbol_small (s ∷ ss) each (suc k) h = symbol_small ss each.1 k (omega arith)

truth_is : (mask : ℕ) (ss : List Symbol) → AllByRecursion (λ s. s.0 < 8) ss → Decides (present_from mask 0 (counts_of ss)) (Present mask ss)
truth_is mask ss each = (to, from)
  where
    to : present_from mask 0 (counts_of ss) ≡ true → Present mask ss
    to e =
        let c = counted_to mask 0 (counts_of ss) e in
        let at = occurs_to c.0 ss (omega (arith, c.3, count_at ss c.0 c.1)) in
        (at.0, at.1, ap (bit_at mask) (at.2 ∙ omega arith) ∙ c.2)

    from : Present mask ss → present_from mask 0 (counts_of ss) ≡ true
    from p =
        let k : ℕ = symbol_at ss p.0 in
        let small : k < 8 = symbol_small ss each p.0 p.1 in
        counted_from mask 0 (counts_of ss) k small (ap (bit_at mask) (omega arith) ∙ p.2) (omega (arith, count_at ss k small, occurs_from k ss p.0 p.1 refl))

-- ---- the states

-- what reached states hold
record Held (mask : ℕ) (ss : List Symbol) (qs : List ℕ) : Type 0 where
  same_length : length qs ≡ length ss
  two : (k : ℕ) → k < length ss → state_at qs k ≤ 1
  to : (k : ℕ) → k < length ss → state_at qs k ≡ 1 → Present mask ss
  from : Present mask ss → (k : ℕ) × (k < length ss) × (state_at qs k ≡ 1)

-- the greater of both for both
abbrev higher : ℕ → ℕ → ℕ × ℕ
higher a b = (max a b, max a b)

pub apart_at : {m n i j : ℕ} → m ≡ n → Apart n i j → Apart m i j
apart_at {m} {n} {i} {j} e a = record { first_within = omega (arith, a.first_within); second_within = omega (arith, a.second_within); differ = a.differ }

module _ (qs : List ℕ) (n i j : ℕ) (long : length qs ≡ n) (apart : Apart n i j) where
  after_first : state_at (meeting higher qs i j) i ≡ max (state_at qs i) (state_at qs j)
  after_first = meeting_first higher qs i j (apart_at long apart)

  after_second : state_at (meeting higher qs i j) j ≡ max (state_at qs i) (state_at qs j)
  after_second = meeting_second higher qs i j (apart_at long apart)

  -- a place after a meeting: one of both, or another
  after : (k : ℕ) → ((state_at (meeting higher qs i j) k ≡ max (state_at qs i) (state_at qs j)) × (state_at qs k ≤ max (state_at qs i) (state_at qs j))) ⊎ (state_at (meeting higher qs i j) k ≡ state_at qs k)
  after k =
      ⊎_elim
      (λ e. inl (ap (state_at (meeting higher qs i j)) e ∙ after_first, omega (arith, ap (state_at qs) e)))
      (λ ni. ⊎_elim
      (λ e. inl (ap (state_at (meeting higher qs i j)) e ∙ after_second, omega (arith, ap (state_at qs) e)))
      (λ nj. inr (meeting_other higher qs i j k ni nj))
      (cases_eq k j))
      (cases_eq k i)

one_two : (b : Bool) → one_if b ≤ 1
one_two true = omega arith
one_two false = omega arith

one_true : (b : Bool) → one_if b ≡ 1 → b ≡ true
one_true true e = refl
one_true false e = absurd (omega arith)

started_held : (mask : ℕ) (ss : List Symbol) → Held mask ss (map (λ s. one_if (bit_at mask s.0)) ss)
started_held mask ss =
    let at : (k : ℕ) → k < length ss → state_at (map (λ s. one_if (bit_at mask s.0)) ss) k ≡ one_if (bit_at mask (symbol_at ss k)) = started_at (λ s. one_if (bit_at mask s)) ss in
    record {
      same_length = length-map ss (λ s. one_if (bit_at mask s.0));
      two = λ k h. omega (arith, at k h, one_two (bit_at mask (symbol_at ss k)));
      to = λ k h e. (k, h, one_true _ (sym (at k h) ∙ e));
      from = λ p. (p.0, p.1, at p.0 p.1 ∙ ap one_if p.2);
    }

met_held : (mask : ℕ) (ss : List Symbol) (qs : List ℕ) (i j : ℕ) → Apart (length ss) i j → Held mask ss qs → Held mask ss (meeting higher qs i j)
met_held mask ss qs i j apart h =
    let n : ℕ = length ss in
    let in_i : i < n = apart.first_within in
    let in_j : j < n = apart.second_within in
    let two_i = h.two i in_i in
    let two_j = h.two j in_j in
    let at = after qs n i j h.same_length apart in
    record {
      same_length = length-meeting higher qs i j ∙ h.same_length;
      two = λ k b. ⊎_elim (λ e. omega arith) (λ e. omega (arith, h.two k b)) (at k);
      to = λ k b e. ⊎_elim
          (λ m. ⊎_elim (h.to i in_i) (λ ne. h.to j in_j (omega arith)) (cases_eq (state_at qs i) 1))
          (λ m. h.to k b (sym m ∙ e))
          (at k);
      from = λ p.
          let w = h.from p in
          (w.0, w.1, ⊎_elim (λ m. omega (arith, w.2)) (λ m. m ∙ w.2) (at w.0));
    }

held : {mask : ℕ} {ss : List Symbol} {qs : List ℕ} → Reached (λ symbol. one_if (bit_at mask symbol)) higher ss qs → Held mask ss qs
held {mask} {ss} started = started_held mask ss
held {mask} {ss} (met {states} r i j apart) = met_held mask ss states i j apart (held r)

-- ---- the advice

data View (qs : List ℕ) (n : ℕ) : Type 0 where
  no_one : next_of qs ≡ Settled → ((k : ℕ) → k < n → state_at qs k ≡ 1 → ⊥) → View qs n
  no_zero : next_of qs ≡ Settled → ((k : ℕ) → k < n → state_at qs k ≡ 0 → ⊥) → View qs n
  meets : (i j : ℕ) → next_of qs ≡ Meet i j → i < n → j < n → state_at qs i ≡ 1 → state_at qs j ≡ 0 → View qs n

abbrev is : ℕ → List ℕ → ℕ → Bool
is state qs place = eqb (state_at qs place) state

never_is : (x : ℕ) (qs : List ℕ) (n : ℕ) → lowest (is x qs) n ≡ None → (k : ℕ) → k < n → state_at qs k ≡ x → ⊥
never_is x qs n e k h s = both_ways (is x qs k) (lowest_none (is x qs) n e k h) (eq-eqb _ x s)

paired_none : (o : Option ℕ) → paired o None ≡ Settled
paired_none (Some i) = refl
paired_none None = refl

view : (qs : List ℕ) (n : ℕ) → length qs ≡ n → View qs n
view qs n long = by (lowest (is 1 qs) (length qs)) (lowest (is 0 qs) (length qs)) refl refl
  where
    by : (a b : Option ℕ) → lowest (is 1 qs) (length qs) ≡ a → lowest (is 0 qs) (length qs) ≡ b → View qs n
    by None b ea eb = no_one (rw ea refl) (λ k h. never_is 1 qs (length qs) ea k (omega arith))
    by (Some i) None ea eb = no_zero (rw eb (paired_none _)) (λ k h. never_is 0 qs (length qs) eb k (omega arith))
    by (Some i) (Some j) ea eb =
        let one = lowest_some (is 1 qs) (length qs) i ea in
        let two = lowest_some (is 0 qs) (length qs) j eb in
        meets i j (rw (ea, eb) refl) (omega (arith, one.0)) (omega (arith, two.0)) (eqb-true _ 1 one.1) (eqb-true _ 0 two.1)

-- each advised meeting leaves fewer zeros
module _ (qs : List ℕ) (n i j : ℕ) (long : length qs ≡ n) (in_i : i < n) (in_j : j < n) (one : state_at qs i ≡ 1) (none : state_at qs j ≡ 0) where
  advised_apart : Apart n i j
  advised_apart = record { first_within = in_i; second_within = in_j; differ = λ s. omega (arith, ap (state_at qs) s) }

  zeros_fall : tally (is 0 (meeting higher qs i j)) n < tally (is 0 qs) n
  zeros_fall =
      tally_falls (is 0 (meeting higher qs i j)) (is 0 qs) n j in_j
      (ne_eqb _ 0 (λ z. omega (arith, after_second qs n i j long advised_apart)))
      (eq-eqb _ 0 none)
      (λ k h t. ⊎_elim
      (λ m. absurd (omega (arith, m.0, eqb-true _ 0 t)))
      (λ m. eq-eqb _ 0 (sym m ∙ eqb-true _ 0 t))
      (after qs n i j long advised_apart k))

settled_or_some : (qs : List ℕ) (n : ℕ) → length qs ≡ n → View qs n → (next_of qs ≡ Settled) ⊎ (0 < tally (is 0 qs) n)
settled_or_some qs n long (no_one e _) = inl e
settled_or_some qs n long (no_zero e _) = inl e
settled_or_some qs n long (meets i j e in_i in_j one none) = inr (omega (arith, zeros_fall qs n i j long in_i in_j one none))

settles_step : (qs : List ℕ) (n k : ℕ) → length qs ≡ n → tally (is 0 qs) n ≤ suc k → View qs n
    → ((rs : List ℕ) → length rs ≡ n → tally (is 0 rs) n ≤ k → Settles next_of higher n rs k) → Settles next_of higher n qs (suc k)
settles_step qs n k long few (no_one e _) more = done e
settles_step qs n k long few (no_zero e _) more = done e
settles_step qs n k long few (meets i j e in_i in_j one none) more =
    step i j e (advised_apart qs n i j long in_i in_j one none)
    (more (meeting higher qs i j) (length-meeting higher qs i j ∙ long) (omega (arith, zeros_fall qs n i j long in_i in_j one none)))

settles_by : (n k : ℕ) (qs : List ℕ) → length qs ≡ n → tally (is 0 qs) n ≤ k → Settles next_of higher n qs k
settles_by n zero qs long few = ⊎_elim (λ e. done e) (λ some. absurd (omega arith)) (settled_or_some qs n long (view qs n long))
settles_by n (suc k) qs long few = settles_step qs n k long few (view qs n long) (settles_by n k)

settles_all : (qs : List ℕ) (n : ℕ) → length qs ≡ n → View qs n → Settles next_of higher n qs (1 * (n - 1))
settles_all qs n long (no_one e _) = done e
settles_all qs n long (no_zero e _) = done e
settles_all qs n long (meets i j e in_i in_j one none) =
    settles_by n (1 * (n - 1)) qs long (omega (arith, tally_but (is 0 qs) n i in_i (ne_eqb _ 0 (λ z. omega arith))))

-- ---- the laws

module _ (mask : ℕ) (ss : List Symbol) (qs : List ℕ) (each : AllByRecursion (λ s. s.0 < 8) ss) (h : Held mask ss qs) where
  right_at : View qs (length ss) → next_of qs ≡ Settled → (k : ℕ) → k < length ss → eqb (state_at qs k) 1 ≡ present_from mask 0 (counts_of ss)
  right_at v e k b = same_from_decides (eqb (state_at qs k) 1) (present_from mask 0 (counts_of ss)) (to, from v) (truth_is mask ss each)
    where
      to : eqb (state_at qs k) 1 ≡ true → Present mask ss
      to t = h.to k b (eqb-true _ 1 t)

      from : View qs (length ss) → Present mask ss → eqb (state_at qs k) 1 ≡ true
      from (no_one _ none) p = let w = h.from p in absurd (none w.0 w.1 w.2)
      from (no_zero _ none) p = ⊎_elim (λ z. absurd (none k b z)) (λ nz. eq-eqb _ 1 (omega (arith, h.two k b))) (cases_eq (state_at qs k) 0)
      from (meets i j m _ _ _ _) p = let z : ◌≡◌ {A = ℕ} 0 1 = cc in absurd (omega arith)

  stays_at : View qs (length ss) → next_of qs ≡ Settled → (i j : ℕ) → Apart (length ss) i j → next_of (meeting higher qs i j) ≡ Settled
  stays_at (no_one _ none) e i j apart =
      let n : ℕ = length (meeting higher qs i j) in
      let long : n ≡ length ss = length-meeting higher qs i j ∙ h.same_length in
      rw (lowest_fails (is 1 (meeting higher qs i j)) n (λ k b. ne_eqb _ 1 (λ t. ⊎_elim
      (λ m. ⊎_elim (none i apart.first_within) (λ ne. none j apart.second_within (omega (arith, m.0, h.two i apart.first_within, h.two j apart.second_within))) (cases_eq (state_at qs i) 1))
      (λ m. none k (omega arith) (sym m ∙ t))
      (after qs (length ss) i j h.same_length apart k)))) refl
  stays_at (no_zero _ none) e i j apart =
      let n : ℕ = length (meeting higher qs i j) in
      let long : n ≡ length ss = length-meeting higher qs i j ∙ h.same_length in
      rw (lowest_fails (is 0 (meeting higher qs i j)) n (λ k b. ne_eqb _ 0 (λ t. ⊎_elim
      (λ m. none i apart.first_within (omega (arith, m.0)))
      (λ m. none k (omega arith) (sym m ∙ t))
      (after qs (length ss) i j h.same_length apart k)))) (paired_none _)
  stays_at (meets i j m _ _ _ _) e _ _ apart = let z : ◌≡◌ {A = ℕ} 0 1 = cc in absurd (omega arith)

pub presence_lawful : (mask : ℕ) → Lawful (presence_protocol mask)
presence_lawful mask = record {
  size_fits = omega arith;
  weight_fits = omega arith;
  start_known = λ s _ _. omega (arith, one_two (bit_at mask s));
  meet_known = λ a b h k. (omega arith, omega arith);
  stable = λ ss qs _ readings r.
      let h : Held mask ss qs = held r in
      let v : View qs (length ss) = view qs (length ss) h.same_length in
      record {
        settles = settles_all qs (length ss) h.same_length v;
        right = right_at mask ss qs readings.each h v;
        stays = stays_at mask ss qs readings.each h v;
      };
}
