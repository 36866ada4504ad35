-- Two lawful protocols make a lawful pair, and a function of a lawful answer is lawful. Assumes nothing.
use Rattle.std.proofs.Common.{◌≡◌, ℕ, zero, suc, ◌+◌, ◌-◌, ◌*◌, ◌/◌, ◌%◌, ◌^◌, ◌<◌, ◌≤◌, Bool, true, false, cond, eqb, leb, ◌⊎◌, List, [], ◌∷◌, map, length, get_or, set, sym, refl, ap, ◌∙◌, subst, inl, inr, ⊎_elim, mod-lt, suc-mul, div-lt_iff_lt-mul, add-mul, mul-zero, zero-mul, le-mul_of_pos_right, arith}
use native.Mathlib.Nat.{zero-div, zero-mod}
use lib.Arith.{digits_div, digits_mod, digits_lt}
use lib.ListN.{get_or-map}
use lib.Seq.{map-set}
use Rattle.std.proofs.lemmas.Bool.{cond-true, cond-false, cond_both, cases_Bool, cases_lt, cases_eq, leb-true, ne_eqb, eqb-true, eqb-false, lt-leb, le-leb}
use Rattle.std.specs.List.{AllByRecursion}
use Rattle.reading.specs.Counting.{counts_of}
use Rattle.reading.specs.declared.Symbol.{Symbol}
use Rattle.protocol.specs.declared.Advice.{Advice}
use Rattle.protocol.specs.declared.Advice.TheVariants.{Meet, Settled, Lost}
use Rattle.protocol.specs.Protocols.{Tables, Protocol, Meaning}
use Rattle.protocol.specs.Places.{state_at, meeting, Apart}
use Rattle.protocol.specs.Laws.{Readings, Reached, started, met, Settles, done, step, Stable, Lawful}
use Rattle.protocol.specs.Joining.{answered, pair, bounded, unless_settled, none, lanes}
use Rattle.protocol.proofs.Places.{settles_more, reached_length}

-- a function of a lawful answer is lawful
pub answered_lawful : {A B : Type 0} (f : A → B) (p : Protocol A) → Lawful p → Lawful (answered f p)
answered_lawful f p law = record {
  size_fits = law.size_fits;
  weight_fits = law.weight_fits;
  start_known = law.start_known;
  meet_known = law.meet_known;
  stable = λ symbols states some readings reached.
      let it = law.stable symbols states some readings reached in
      record {
        settles = it.settles;
        right = λ e place h. ap f (it.right e place h);
        stays = it.stays;
      };
}

-- the state at a place of mapped states
at : (f : ℕ → ℕ) → f 0 ≡ 0 → (qs : List ℕ) (k : ℕ) → state_at (map f qs) k ≡ f (state_at qs k)
at f z qs k = ap (get_or (map f qs) k) (sym z) ∙ get_or-map f qs k 0

pub pairs : {A B : Type 0} {a c : A} {b d : B} → a ≡ c → b ≡ d → ◌≡◌ {A = A × B} (a, b) (c, d)
pairs e f = cc

div_known : (a m c : ℕ) → 0 < c → a < m * c → a / c < m
div_known a m c h lt = (div-lt_iff_lt-mul h).1 lt

weights : (v w m c : ℕ) → 0 < m → 0 < c → v ≤ 65536 * (m - 1) → w ≤ 65536 * (c - 1) → (n : ℕ) → n ≡ m * c → v + w ≤ 65536 * (n - 1)
weights v w zero c hm hc hv hw n e = absurd (omega arith)
weights v w (suc m) c hm hc hv hw n e = omega (arith, suc-mul m c, le-mul_of_pos_right m hc)

-- a map of states that keeps meetings keeps what is reached
map-meeting : (f : ℕ → ℕ) (m w : ℕ → ℕ → ℕ × ℕ) (qs : List ℕ) (i j : ℕ) → f 0 ≡ 0
    → ((a b : ℕ) → f (m a b).0 ≡ (w (f a) (f b)).0) → ((a b : ℕ) → f (m a b).1 ≡ (w (f a) (f b)).1)
    → map f (meeting m qs i j) ≡ meeting w (map f qs) i j
map-meeting f m w qs i j z first second =
    let left = m (state_at qs i) (state_at qs j) in
    map-set f (set qs i left.0) j left.1
    ∙ ap (λ xs. set xs j (f left.1)) (map-set f qs i left.0)
    ∙ ap (λ x. set (set (map f qs) i x) j (f left.1)) (first _ _)
    ∙ ap (λ x. set (set (map f qs) i (w (f (state_at qs i)) (f (state_at qs j))).0) j x) (second _ _)
    ∙ ap (λ x. set (set (map f qs) i (w x (f (state_at qs j))).0) j (w x (f (state_at qs j))).1) (sym (at f z qs i))
    ∙ ap (λ x. set (set (map f qs) i (w (state_at (map f qs) i) x).0) j (w (state_at (map f qs) i) x).1) (sym (at f z qs j))

map-starts : (f : ℕ → ℕ) (s t : ℕ → ℕ) (ss : List Symbol) → AllByRecursion (λ x. x.0 < 8) ss
    → ((k : ℕ) → k < 8 → f (s k) ≡ t k) → map f (map (λ x. s x.0) ss) ≡ map (λ x. t x.0) ss
map-starts f s t [] all same = refl
map-starts f s t (x ∷ ss) all same =
    ap (λ y. y ∷ map f (map (λ x. s x.0) ss)) (same x.0 all.0)
    ∙ ap (λ ys. t x.0 ∷ ys) (map-starts f s t ss all.1 same)

map_reached : (f : ℕ → ℕ) (s t : ℕ → ℕ) (m w : ℕ → ℕ → ℕ × ℕ) (ss : List Symbol) → AllByRecursion (λ x. x.0 < 8) ss → f 0 ≡ 0
    → ((k : ℕ) → k < 8 → f (s k) ≡ t k)
    → ((a b : ℕ) → f (m a b).0 ≡ (w (f a) (f b)).0) → ((a b : ℕ) → f (m a b).1 ≡ (w (f a) (f b)).1)
    → {qs : List ℕ} → Reached s m ss qs → Reached t w ss (map f qs)
map_reached f s t m w ss all z starts first second started =
    subst (λ xs. Reached t w ss xs) (sym (map-starts f s t ss all starts)) started
map_reached f s t m w ss all z starts first second (met {states} r i j apart) =
    subst (λ xs. Reached t w ss xs) (sym (map-meeting f m w states i j z first second))
    (met (map_reached f s t m w ss all z starts first second r) i j apart)

-- a size that is not 0 is the product
pub bounded_is : (n : ℕ) → 0 < bounded n → (bounded n ≡ n) × (n ≤ 2 ^ 32)
bounded_is n h =
    ⊎_elim
    (λ e. (cond-true (leb n (2 ^ 32)) n 0 e, leb-true n (2 ^ 32) e))
    (λ e. let z : bounded n ≡ 0 = cond-false (leb n (2 ^ 32)) n 0 e in absurd (omega arith))
    (cases_Bool (leb n (2 ^ 32)))

pub factors : (a b : ℕ) → 0 < a * b → (0 < a) × (0 < b)
factors a b h = (
  ⊎_elim (λ (e : a ≡ 0). absurd (omega (arith, ap (λ x. x * b) e, zero-mul b))) (λ ne. omega arith) (cases_eq a 0),
  ⊎_elim (λ (e : b ≡ 0). absurd (omega (arith, ap (λ x. a * x) e, mul-zero a))) (λ ne. omega arith) (cases_eq b 0),
)

-- the advice of a pair, by its halves
next_left : (a b : Advice) (i j : ℕ) → a ≡ Meet i j → unless_settled a b ≡ Meet i j
next_left a b i j e = ap (λ x. unless_settled x b) e

next_right : (a b : Advice) → a ≡ Settled → unless_settled a b ≡ b
next_right a b e = ap (λ x. unless_settled x b) e

both_settled : (a b : Advice) → unless_settled a b ≡ Settled → (a ≡ Settled) × (b ≡ Settled)
both_settled (Meet i j) b e = let z : ◌≡◌ {A = ℕ} 0 1 = cc in absurd (omega arith)
both_settled Settled b e = (refl, e)
both_settled Lost b e = let z : ◌≡◌ {A = ℕ} 0 1 = cc in absurd (omega arith)

module _ {A B : Type 0} (l : Protocol A) (r : Protocol B) (ll : Lawful l) (lr : Lawful r) (some : 0 < r.tables.size) where
  abbrev high : ℕ → ℕ
  high q = q / r.tables.size

  abbrev low : ℕ → ℕ
  low q = q % r.tables.size

  -- the two halves of a meeting
  low_known : (a b : ℕ) → ((r.tables.meet (low a) (low b)).0 < r.tables.size) × ((r.tables.meet (low a) (low b)).1 < r.tables.size)
  low_known a b = lr.meet_known (low a) (low b) (mod-lt a some) (mod-lt b some)

  high_meets : (qs : List ℕ) (i j : ℕ) → map high (meeting (pair l r).tables.meet qs i j) ≡ meeting l.tables.meet (map high qs) i j
  high_meets qs i j =
      map-meeting high (pair l r).tables.meet l.tables.meet qs i j (zero-div _) (λ a b. digits_div _ (low_known a b).0) (λ a b. digits_div _ (low_known a b).1)

  low_meets : (qs : List ℕ) (i j : ℕ) → map low (meeting (pair l r).tables.meet qs i j) ≡ meeting r.tables.meet (map low qs) i j
  low_meets qs i j =
      map-meeting low (pair l r).tables.meet r.tables.meet qs i j (zero-mod _) (λ a b. digits_mod (l.tables.meet (high a) (high b)).0 (low_known a b).0) (λ a b. digits_mod (l.tables.meet (high a) (high b)).1 (low_known a b).1)

  module _ (ss : List Symbol) (readings : Readings ss) where
    high_reached : {qs : List ℕ} → Reached (pair l r).tables.start (pair l r).tables.meet ss qs
        → Reached l.tables.start l.tables.meet ss (map high qs)
    high_reached =
        map_reached high _ _ _ _ ss readings.each (zero-div _)
        (λ k h. digits_div _ (lr.start_known k h some))
        (λ a b. digits_div _ (low_known a b).0)
        (λ a b. digits_div _ (low_known a b).1)

    low_reached : {qs : List ℕ} → Reached (pair l r).tables.start (pair l r).tables.meet ss qs
        → Reached r.tables.start r.tables.meet ss (map low qs)
    low_reached =
        map_reached low _ _ _ _ ss readings.each (zero-mod _)
        (λ k h. digits_mod _ (lr.start_known k h some))
        (λ a b. digits_mod _ (low_known a b).0)
        (λ a b. digits_mod _ (low_known a b).1)

    -- once the left half is settled it stays so, and the right half settles
    right_settles : {rs : List ℕ} {k : ℕ} → Settles r.next r.tables.meet (length ss) rs k
        → (qs : List ℕ) → rs ≡ map low qs → l.next (map high qs) ≡ Settled
        → Reached (pair l r).tables.start (pair l r).tables.meet ss qs → 0 < l.tables.size
        → Settles (pair l r).next (pair l r).tables.meet (length ss) qs k
    right_settles (done e) qs same still reached big =
        done (next_right _ _ still ∙ ap r.next (sym same) ∙ e)
    right_settles (step i j e apart rest) qs same still reached big =
        let left = ll.stable ss (map high qs) big readings (high_reached reached) in
        step i j (next_right _ _ still ∙ ap r.next (sym same) ∙ e) apart
        (right_settles rest (meeting (pair l r).tables.meet qs i j)
        (ap (λ xs. meeting r.tables.meet xs i j) same ∙ sym (low_meets qs i j))
        (ap l.next (high_meets qs i j) ∙ left.stays still i j apart)
        (met reached i j apart) big)

    -- while the left half settles, the right one only moves along what it can reach
    left_settles : {ls : List ℕ} {k : ℕ} → Settles l.next l.tables.meet (length ss) ls k
        → (qs : List ℕ) → ls ≡ map high qs
        → Reached (pair l r).tables.start (pair l r).tables.meet ss qs → 0 < l.tables.size
        → Settles (pair l r).next (pair l r).tables.meet (length ss) qs (k + r.weight * (length ss - 1))
    left_settles {ls} {k} (done e) qs same reached big =
        settles_more
        (right_settles (lr.stable ss (map low qs) some readings (low_reached reached)).settles
        qs refl (ap l.next (sym same) ∙ e) reached big)
        (k + r.weight * (length ss - 1)) (omega arith)
    left_settles (step {k = k} i j e apart rest) qs same reached big =
        settles_more
        (step i j (next_left _ _ i j (ap l.next (sym same) ∙ e)) apart
        (left_settles rest (meeting (pair l r).tables.meet qs i j)
        (ap (λ xs. meeting l.tables.meet xs i j) same ∙ sym (high_meets qs i j))
        (met reached i j apart) big))
        (suc k + r.weight * (length ss - 1)) (omega arith)

  pair_stable : (ss : List Symbol) (qs : List ℕ) → 0 < l.tables.size → (pair l r).weight ≡ l.weight + r.weight → Readings ss
      → Reached (pair l r).tables.start (pair l r).tables.meet ss qs → Stable (pair l r) ss qs
  pair_stable ss qs big sum readings reached =
      let left = ll.stable ss (map high qs) big readings (high_reached ss readings reached) in
      let right = lr.stable ss (map low qs) some readings (low_reached ss readings reached) in
      record {
        settles =
            subst (λ w. Settles (pair l r).next (pair l r).tables.meet (length ss) qs w)
            (sym (ap (λ w. w * (length ss - 1)) sum ∙ add-mul l.weight r.weight (length ss - 1)))
            (left_settles ss readings left.settles qs refl reached big);
        right = λ e place h.
            let halves = both_settled _ _ e in
            pairs
            (ap l.tables.answer (sym (at high (zero-div _) qs place)) ∙ left.right halves.0 place h)
            (ap r.tables.answer (sym (at low (zero-mod _) qs place)) ∙ right.right halves.1 place h);
        stays = λ e i j apart.
            let halves = both_settled _ _ e in
            next_right _ _ (ap l.next (high_meets qs i j) ∙ left.stays halves.0 i j apart)
            ∙ ap r.next (low_meets qs i j) ∙ right.stays halves.1 i j apart;
      }

pub pair_lawful : {A B : Type 0} (l : Protocol A) (r : Protocol B) → Lawful l → Lawful r → Lawful (pair l r)
pair_lawful l r ll lr =
    let product : ℕ = l.tables.size * r.tables.size in
    record {
      size_fits =
          cond_both (leb product (2 ^ 32)) product 0 (λ n. n ≤ 2 ^ 32) (λ e. leb-true product (2 ^ 32) e) (λ e. omega arith);
      weight_fits =
          cond_both (eqb (bounded product) 0) 0 (l.weight + r.weight) (λ w. w ≤ 65536 * (bounded product - 1))
          (λ e. omega arith)
          (λ e.
          let big : 0 < bounded product = let ne = eqb-false (bounded product) 0 e in omega arith in
          let same = bounded_is product big in
          let parts = factors l.tables.size r.tables.size (omega arith) in
          weights l.weight r.weight l.tables.size r.tables.size parts.0 parts.1
          ll.weight_fits lr.weight_fits (bounded product) same.0);
      start_known = λ k h big.
          let same = bounded_is product big in
          let parts = factors l.tables.size r.tables.size (omega arith) in
          subst (λ n. l.tables.start k * r.tables.size + r.tables.start k < n) (sym same.0)
          (digits_lt (ll.start_known k h parts.0) (lr.start_known k h parts.1));
      meet_known = λ a b ha hb.
          let big : 0 < bounded product = omega arith in
          let same = bounded_is product big in
          let parts = factors l.tables.size r.tables.size (omega arith) in
          let ahigh : a / r.tables.size < l.tables.size = div_known a _ _ parts.1 (omega arith) in
          let bhigh : b / r.tables.size < l.tables.size = div_known b _ _ parts.1 (omega arith) in
          let left = ll.meet_known _ _ ahigh bhigh in
          let right = lr.meet_known _ _ (mod-lt a parts.1) (mod-lt b parts.1) in (
            subst (λ n. ((pair l r).tables.meet a b).0 < n) (sym same.0) (digits_lt left.0 right.0),
            subst (λ n. ((pair l r).tables.meet a b).1 < n) (sym same.0) (digits_lt left.1 right.1),
          );
      stable = λ ss qs big readings reached.
          let same = bounded_is product big in
          let parts = factors l.tables.size r.tables.size (omega arith) in
          pair_stable l r ll lr parts.1 ss qs parts.0
          (cond-false (eqb (bounded product) 0) 0 (l.weight + r.weight) (ne_eqb (bounded product) 0 (λ e. omega arith)))
          readings reached;
    }

-- the protocol of one state is lawful, and so are lanes that are
none_lawful : Lawful none
none_lawful = record {
  size_fits = omega arith;
  weight_fits = omega arith;
  start_known = λ k h big. omega arith;
  meet_known = λ a b ha hb. (ha, hb);
  stable = λ ss qs big readings reached. record { settles = done refl; right = λ e place h. refl; stays = λ e i j apart. refl };
}

pub lanes_lawful : (ps : List (Protocol Bool)) → AllByRecursion Lawful ps → Lawful (lanes ps)
lanes_lawful [] all = none_lawful
lanes_lawful (p ∷ ps) all =
    answered_lawful (λ halves. halves.0 ∷ halves.1) (pair p (lanes ps)) (pair_lawful p (lanes ps) all.0 (lanes_lawful ps all.1))
