-- The threshold's meetings and advice, read in natural numbers. Assumes nothing.
use Rattle.std.proofs.Common.{◌≡◌, ℕ, ◌+◌, ◌-◌, ◌*◌, ◌/◌, ◌%◌, ◌<◌, ◌≤◌, min, Bool, true, false, cond, not, ◌&&◌, ◌||◌, eqb, ltb, ◌⊎◌, List, length, ℤ, pos, ◌+ℤ◌, ◌-ℤ◌, nat_abs, Some, None, Option, sym, refl, ap, ◌∙◌, inl, inr, ⊎_elim, arith}
use lib.Signed.{lt_z}
use Rattle.std.proofs.lemmas.Bool.{cases_lt, cond-true, cond-false, and_parts, and_cases, eqb-true, eqb-false, not-true, not-false, ltb-true, ltb-false, lt-ltb, le-ltb, or_parts}
use Rattle.std.proofs.lemmas.Bool.Decides.{nat_tests}
use Rattle.std.proofs.lemmas.Int.{ints}
use Rattle.protocol.specs.declared.Fields.{Fields}
use Rattle.protocol.specs.Joining.{one_if}
use Rattle.protocol.specs.Places.{Apart, meeting, state_at, lowest, other, paired, led}
use Rattle.protocol.specs.Sums.{packed, lead_part}
use Rattle.protocol.specs.Threshold.{number_of, fields_of, held, met_fields, is_zero, opposes, unheard, partner_rules, next_of}
use Rattle.protocol.proofs.Places.{lowest_some, lowest_none, meeting_first, meeting_second, meeting_other}
use Rattle.protocol.proofs.ThresholdFields.{at, lt_at, held_at, unsigned_abs_at, opposes_false, opposes_true, number_same}
use Rattle.protocol.proofs.ThresholdLoads.{Load, sign, Change, joins, keeps, Met, Beside, Quiet}
use Rattle.protocol.proofs.ThresholdSettles.{Turn, opposed, hungry, unheard as unheard_by, settled, View, lost, led_by}

-- a load by the numbers of its states
abbrev pub load_of : List ℕ → Load
load_of qs = record { x = λ k. state_at qs k / 4; lead = λ k. state_at qs k / 2 % 2; bit = λ k. state_at qs k % 2 }

abbrev pub meet_of : ℕ → ℤ → ℕ → ℕ → ℕ × ℕ
meet_of s bound a b =
    let left : Fields ℤ × Fields ℤ = met_fields s bound (fields_of s a) (fields_of s b) in
    (number_of s left.0, number_of s left.1)

sum_at : (s x y : ℕ) → at s x +ℤ at s y ≡ pos (x + y) -ℤ pos (s + s)
sum_at s x y = omega (arith, ints)

rest_at : (s x y : ℕ) (z : ℤ) (k : ℕ) → z ≡ at s k → k ≤ x + y → (at s x +ℤ at s y) -ℤ z ≡ at s (x + y - k)
rest_at s x y z k e h = omega (arith, ints)

one_ltb : (a b : ℕ) → one_if (ltb a b) ≡ sign b a
one_ltb a b = ⊎_elim
    (λ h. ap one_if (lt-ltb a b h) ∙ omega arith)
    (λ h. ap one_if (le-ltb a b h) ∙ omega arith)
    (cases_lt a b)

module _ (s b : ℕ) (bound : ℤ) (bound_at : bound ≡ at s b) where
  -- what the first and the second keep
  bit_at_place : (z : ℤ) (k : ℕ) → z ≡ at s k → one_if (lt_z z bound) ≡ sign b k
  bit_at_place z k e = ap (λ z. one_if (lt_z z bound)) e ∙ ap one_if (lt_at s k b bound bound_at) ∙ one_ltb k b

  packed_at : (u : ℤ) (k : ℕ) (l d : Bool) (e : ℕ) → u ≡ at s k → one_if d ≡ e → packed (nat_abs (u +ℤ pos s)) l d ≡ k * 4 + 2 * one_if l + e
  packed_at u k l d e p q =
      let v : nat_abs (u +ℤ pos s) ≡ k = ap (λ u. nat_abs (u +ℤ pos s)) p ∙ unsigned_abs_at s k in
      omega arith

  module _ (p q : ℕ) where
    abbrev kept_by : ℕ
    kept_by = min (p / 4 + q / 4 - s) (s + s)

    held_by : held s (at s (p / 4) +ℤ at s (q / 4)) ≡ at s kept_by
    held_by = ap (held s) (sum_at s (p / 4) (q / 4)) ∙ held_at s (p / 4 + q / 4)

    meet_joined : (lead_part p || lead_part q) ≡ true
        → ((meet_of s bound p q).0 ≡ kept_by * 4 + 2 + sign b kept_by) × ((meet_of s bound p q).1 ≡ (p / 4 + q / 4 - kept_by) * 4 + sign b kept_by)
    meet_joined e =
        let c = cond-true {A = Fields ℤ × Fields ℤ} _ (
          record { lead = true; bit = lt_z (held s (at s (p / 4) +ℤ at s (q / 4))) bound; value = held s (at s (p / 4) +ℤ at s (q / 4)) },
          record { lead = false; bit = lt_z (held s (at s (p / 4) +ℤ at s (q / 4))) bound; value = (at s (p / 4) +ℤ at s (q / 4)) -ℤ held s (at s (p / 4) +ℤ at s (q / 4)) },
        )
        (fields_of s p, fields_of s q) e in
        let bitk = bit_at_place (held s (at s (p / 4) +ℤ at s (q / 4))) kept_by held_by in
        let least : kept_by ≤ p / 4 + q / 4 = omega arith in (
          ap (λ w. number_of s w.0) c ∙ packed_at _ kept_by true _ _ held_by bitk,
          ap (λ w. number_of s w.1) c ∙ packed_at _ (p / 4 + q / 4 - kept_by) false _ _ (rest_at s (p / 4) (q / 4) _ kept_by held_by least) bitk ∙ omega arith,
        )

    meet_kept : (lead_part p || lead_part q) ≡ false → ((meet_of s bound p q).0 ≡ p) × ((meet_of s bound p q).1 ≡ q)
    meet_kept e =
        let c = cond-false {A = Fields ℤ × Fields ℤ} _ (
          record { lead = true; bit = lt_z (held s (at s (p / 4) +ℤ at s (q / 4))) bound; value = held s (at s (p / 4) +ℤ at s (q / 4)) },
          record { lead = false; bit = lt_z (held s (at s (p / 4) +ℤ at s (q / 4))) bound; value = (at s (p / 4) +ℤ at s (q / 4)) -ℤ held s (at s (p / 4) +ℤ at s (q / 4)) },
        )
        (fields_of s p, fields_of s q) e in
        (ap (λ w. number_of s w.0) c ∙ number_same s p, ap (λ w. number_of s w.1) c ∙ number_same s q)

  lead_either : (p q : ℕ) → (lead_part p || lead_part q) ≡ true → 1 ≤ p / 2 % 2 + q / 2 % 2
  lead_either p q e = grind (arith, nat_tests)

  lead_neither : (p q : ℕ) → (lead_part p || lead_part q) ≡ false → (p / 2 % 2 ≡ 0) × (q / 2 % 2 ≡ 0)
  lead_neither p q e =
      let h = or_parts (lead_part p) (lead_part q) e in
      let u = eqb-false (p / 2 % 2) 1 h.0 in
      let v = eqb-false (q / 2 % 2) 1 h.1 in
      (omega arith, omega arith)

  first_parts : (p k d : ℕ) → d ≤ 1 → p ≡ k * 4 + 2 + d → (p / 4 ≡ k) × (p / 2 % 2 ≡ 1) × (p % 2 ≡ d)
  first_parts p k d h e = (omega arith, omega arith, omega arith)

  second_parts : (p k d : ℕ) → d ≤ 1 → p ≡ k * 4 + d → (p / 4 ≡ k) × (p / 2 % 2 ≡ 0) × (p % 2 ≡ d)
  second_parts p k d h e = (omega arith, omega arith, omega arith)

  sign_most : (k : ℕ) → sign b k ≤ 1
  sign_most k = omega arith

  change_by : (qs rs : List ℕ) (i j : ℕ) (t : Bool) → (lead_part (state_at qs i) || lead_part (state_at qs j)) ≡ t
      → state_at rs i ≡ (meet_of s bound (state_at qs i) (state_at qs j)).0 → state_at rs j ≡ (meet_of s bound (state_at qs i) (state_at qs j)).1
      → Change s b (load_of qs) (load_of rs) i j
  change_by qs rs i j true t e f =
      let p = state_at qs i in
      let q = state_at qs j in
      let k = kept_by p q in
      let z = meet_joined p q t in
      let u = first_parts (state_at rs i) k (sign b k) (sign_most k) (e ∙ z.0) in
      let v = second_parts (state_at rs j) (p / 4 + q / 4 - k) (sign b k) (sign_most k) (f ∙ z.1) in
      let same : sign b (state_at rs i / 4) ≡ sign b k = ap (sign b) u.0 in
      joins (record {
        leads = lead_either p q t;
        kept = u.0;
        rest = total_kept (state_at rs i / 4) (state_at rs j / 4) p q u.0 v.0;
        first_leads = u.1;
        second_follows = v.1;
        first_bit = u.2 ∙ sym same;
        second_bit = v.2 ∙ sym same;
      })
    where
      total_kept : (x y p q : ℕ) → x ≡ kept_by p q → y ≡ p / 4 + q / 4 - kept_by p q → x + y ≡ p / 4 + q / 4
      total_kept x y p q e f = omega arith
  change_by qs rs i j false t e f =
      let z = meet_kept (state_at qs i) (state_at qs j) t in
      let l = lead_neither (state_at qs i) (state_at qs j) t in
      let u : state_at rs i ≡ state_at qs i = e ∙ z.0 in
      let v : state_at rs j ≡ state_at qs j = f ∙ z.1 in
      keeps l.0 l.1
      (record { x_same = ap (λ q. q / 4) u; lead_same = ap (λ q. q / 2 % 2) u; bit_same = ap (λ q. q % 2) u })
      (record { x_same = ap (λ q. q / 4) v; lead_same = ap (λ q. q / 2 % 2) v; bit_same = ap (λ q. q % 2) v })

  pub meets : (qs : List ℕ) (i j : ℕ) → Apart (length qs) i j → Met s b (load_of qs) (load_of (meeting (meet_of s bound) qs i j)) i j
  meets qs i j apart = record {
    change = change_by qs (meeting (meet_of s bound) qs i j) i j _ refl (meeting_first (meet_of s bound) qs i j apart) (meeting_second (meet_of s bound) qs i j apart);
    others = λ k p q. let e = meeting_other (meet_of s bound) qs i j k p q in
        record { x_same = ap (λ q. q / 4) e; lead_same = ap (λ q. q / 2 % 2) e; bit_same = ap (λ q. q % 2) e };
  }

  -- a tag that leads with its own value
  pub start_parts : (u : ℤ) (k : ℕ) (q : ℕ) → u ≡ at s k → q ≡ packed (nat_abs (u +ℤ pos s)) true (lt_z u bound) → (q / 4 ≡ k) × (q / 2 % 2 ≡ 1) × (q % 2 ≡ sign b k)
  start_parts u k q e f = first_parts q k (sign b k) (sign_most k) (f ∙ packed_at u k true (lt_z u bound) (sign b k) e (bit_at_place u k e))

  known_by : (p q : ℕ) (t : Bool) → (lead_part p || lead_part q) ≡ t → p < 4 * (2 * s + 1) → q < 4 * (2 * s + 1)
      → ((meet_of s bound p q).0 < 4 * (2 * s + 1)) × ((meet_of s bound p q).1 < 4 * (2 * s + 1))
  known_by p q true e u v =
      let z = meet_joined p q e in (
        below (kept_by p q) (sign b (kept_by p q)) (omega arith) (sign_most (kept_by p q)) z.0,
        second_below (p / 4) (q / 4) (sign b (kept_by p q)) (omega arith) (omega arith) (sign_most (kept_by p q)) z.1,
      )
    where
      below : {w : ℕ} (k d : ℕ) → k ≤ s + s → d ≤ 1 → w ≡ k * 4 + 2 + d → w < 4 * (2 * s + 1)
      below k d l h e = omega arith

      second_below : {w : ℕ} (x y d : ℕ) → x ≤ s + s → y ≤ s + s → d ≤ 1 → w ≡ (x + y - min (x + y - s) (s + s)) * 4 + d → w < 4 * (2 * s + 1)
      second_below x y d h l m e = omega arith
  known_by p q false e u v = let z = meet_kept p q e in (omega arith, omega arith)

  pub meet_known : (p q : ℕ) → p < 4 * (2 * s + 1) → q < 4 * (2 * s + 1) → ((meet_of s bound p q).0 < 4 * (2 * s + 1)) × ((meet_of s bound p q).1 < 4 * (2 * s + 1))
  meet_known p q u v = known_by p q (lead_part p || lead_part q) refl u v

  -- the leader
  led_true : (q : ℕ) → lead_part q ≡ true → q / 2 % 2 ≡ 1
  led_true q e = eqb-true (q / 2 % 2) 1 e

  led_false : (q : ℕ) → lead_part q ≡ false → q / 2 % 2 ≡ 0
  led_false q e = let z = eqb-false (q / 2 % 2) 1 e in omega arith

  -- tests of another place than m
  other_true : (m : ℕ) (test : ℕ → Bool) (k : ℕ) → other m test k ≡ true → (k ≡ m → ⊥) × (test k ≡ true)
  other_true m test k e =
      let h = and_parts (not (eqb k m)) (test k) e in
      (eqb-false k m (not-true (eqb k m) h.0), h.1)

  other_false : (m : ℕ) (test : ℕ → Bool) (k : ℕ) → other m test k ≡ false → (k ≡ m → ⊥) → test k ≡ false
  other_false m test k e ne =
      ⊎_elim (λ z. absurd (ne (eqb-true k m (not-false (eqb k m) z)))) (λ z. z) (and_cases (not (eqb k m)) (test k) e)

  -- the tests of the three rules
  hungry_true : (x y : ℕ) → (ltb (nat_abs (at s x)) s && not (is_zero (at s y))) ≡ true → (0 < x) × (x < s + s) × (y ≡ s → ⊥)
  hungry_true x y e =
      let h = and_parts (ltb (nat_abs (at s x)) s) (not (is_zero (at s y))) e in
      let u = ltb-true (nat_abs (at s x)) s h.0 in
      let v = eqb-false (nat_abs (at s y)) 0 (not-true (is_zero (at s y)) h.1) in
      (omega (arith, ints), omega (arith, ints), λ z. v (omega (arith, ints)))

  hungry_false : (x y : ℕ) → (ltb (nat_abs (at s x)) s && not (is_zero (at s y))) ≡ false → 0 < x → x < s + s → y ≡ s
  hungry_false x y e low high =
      ⊎_elim
      (λ z. let u = ltb-false (nat_abs (at s x)) s z in absurd (omega (arith, ints)))
      (λ z. let u = eqb-true (nat_abs (at s y)) 0 (not-false (is_zero (at s y)) z) in omega (arith, ints))
      (and_cases (ltb (nat_abs (at s x)) s) (not (is_zero (at s y))) e)

  bit_tells : (x : ℕ) → ((lt_z (at s x) bound ≡ true) × (sign b x ≡ 1)) ⊎ ((lt_z (at s x) bound ≡ false) × (sign b x ≡ 0))
  bit_tells x = ⊎_elim
      (λ h. inl (lt_at s x b bound bound_at ∙ lt-ltb x b h, omega arith))
      (λ h. inr (lt_at s x b bound bound_at ∙ le-ltb x b h, omega arith))
      (cases_lt x b)

  heard_not : (t : Bool) (g l d : ℕ) → ((t ≡ true) × (g ≡ 1)) ⊎ ((t ≡ false) × (g ≡ 0)) → (eqb l 1 || cond t (not (eqb d 1)) (eqb d 1)) ≡ true → l ≡ 0 → d ≡ g → ⊥
  heard_not t g l d (inl z) e p q = grind (arith, nat_tests)
  heard_not t g l d (inr z) e p q = grind (arith, nat_tests)

  heard_by : (t : Bool) (g l d : ℕ) → l < 2 → d < 2 → ((t ≡ true) × (g ≡ 1)) ⊎ ((t ≡ false) × (g ≡ 0)) → (eqb l 1 || cond t (not (eqb d 1)) (eqb d 1)) ≡ false → (l ≡ 0) × (d ≡ g)
  heard_by t g l d u v (inl z) e = (grind (arith, nat_tests), grind (arith, nat_tests))
  heard_by t g l d u v (inr z) e = (grind (arith, nat_tests), grind (arith, nat_tests))

  unheard_true : (x q : ℕ) → unheard (lt_z (at s x) bound) (fields_of s q) ≡ true → q / 2 % 2 ≡ 0 → q % 2 ≡ sign b x → ⊥
  unheard_true x q e l d = heard_not (lt_z (at s x) bound) (sign b x) (q / 2 % 2) (q % 2) (bit_tells x) e l d

  unheard_false : (x q : ℕ) → unheard (lt_z (at s x) bound) (fields_of s q) ≡ false → (q / 2 % 2 ≡ 0) × (q % 2 ≡ sign b x)
  unheard_false x q e = heard_by (lt_z (at s x) bound) (sign b x) (q / 2 % 2) (q % 2) (omega arith) (omega arith) (bit_tells x) e

  module _ (qs : List ℕ) where
    abbrev tag_of : ℕ → Fields ℤ
    tag_of place = fields_of s (state_at qs place)

    module _ (m : ℕ) where
      abbrev rule1 : ℕ → Bool
      rule1 = other m (λ place. opposes (tag_of m).value (tag_of place).value)

      abbrev rule2 : ℕ → Bool
      rule2 = other m (λ place. ltb (nat_abs (tag_of m).value) s && not (is_zero (tag_of place).value))

      abbrev rule3 : ℕ → Bool
      rule3 = other m (λ place. unheard (lt_z (tag_of m).value bound) (tag_of place))

      module _ (n : ℕ) where
        beside_from : lowest rule1 n ≡ None → (k : ℕ) → k < n → (k ≡ m → ⊥) → Beside s ((load_of qs).x m) ((load_of qs).x k)
        beside_from e k u ne =
            opposes_false s (state_at qs m / 4) (state_at qs k / 4) (other_false m (λ place. opposes (tag_of m).value (tag_of place).value) k (lowest_none rule1 n e k u) ne)

        quiet_from : lowest rule1 n ≡ None → lowest rule2 n ≡ None → Quiet s n (load_of qs) m
        quiet_from e f = record {
          beside = beside_from e;
          full = λ k u ne. hungry_false (state_at qs m / 4) (state_at qs k / 4)
              (other_false m (λ place. ltb (nat_abs (tag_of m).value) s && not (is_zero (tag_of place).value)) k (lowest_none rule2 n f k u) ne);
        }

        turn_by : (o₁ o₂ o₃ : Option ℕ) → lowest rule1 n ≡ o₁ → lowest rule2 n ≡ o₂ → lowest rule3 n ≡ o₃
            → Turn s b n (load_of qs) m (paired (Some m)
            (elim o₁ [ Some place ↦ Some place | None ↦ elim o₂ [ Some place ↦ Some place | None ↦ elim o₃ [ Some place ↦ Some place | None ↦ None ] ] ]))
        turn_by (Some j) o₂ o₃ e f g =
            let h = lowest_some rule1 n j e in
            let z = other_true m (λ place. opposes (tag_of m).value (tag_of place).value) j h.1 in
            opposed j h.0 z.0 (opposes_true s (state_at qs m / 4) (state_at qs j / 4) z.1)
        turn_by None (Some j) o₃ e f g =
            let h = lowest_some rule2 n j f in
            let z = other_true m (λ place. ltb (nat_abs (tag_of m).value) s && not (is_zero (tag_of place).value)) j h.1 in
            let y = hungry_true (state_at qs m / 4) (state_at qs j / 4) z.1 in
            hungry j h.0 z.0 (beside_from e) y.0 y.1 y.2
        turn_by None None (Some j) e f g =
            let h = lowest_some rule3 n j g in
            let z = other_true m (λ place. unheard (lt_z (tag_of m).value bound) (tag_of place)) j h.1 in
            unheard_by j h.0 z.0 (quiet_from e f) (λ y. unheard_true (state_at qs m / 4) (state_at qs j) z.1 y.follows y.hears)
        turn_by None None None e f g =
            settled (quiet_from e f) (λ k u ne.
            let z = unheard_false (state_at qs m / 4) (state_at qs k)
            (other_false m (λ place. unheard (lt_z (tag_of m).value bound) (tag_of place)) k (lowest_none rule3 n g k u) ne) in
            record { follows = z.0; hears = z.1 })

    view_by : (n : ℕ) (o : Option ℕ) → lowest (λ place. (tag_of place).lead) n ≡ o → View s b n (load_of qs) (led o (partner_rules s bound tag_of) n)
    view_by n None e = lost (λ k u. led_false (state_at qs k) (lowest_none (λ place. (tag_of place).lead) n e k u))
    view_by n (Some m) e =
        let h = lowest_some (λ place. (tag_of place).lead) n m e in
        led_by m
        (record { within = h.0; leads = led_true (state_at qs m) h.1; lowest = λ k u. led_false (state_at qs k) (h.2 k u) })
        (turn_by m n (lowest (rule1 m) n) (lowest (rule2 m) n) (lowest (rule3 m) n) refl refl refl)

    pub view : View s b (length qs) (load_of qs) (next_of s bound qs)
    view = view_by (length qs) (lowest (λ place. (tag_of place).lead) (length qs)) refl
