-- Laws of places: the lowest that passes a test, what a meeting leaves at each, counts and sums over them. Assumes nothing.
use Rattle.std.proofs.Common.{◌≡◌, ℕ, zero, suc, ◌+◌, ◌-◌, ◌<◌, ◌≤◌, Bool, true, false, cond, eqb, ◌≢◌, ◌⊎◌, List, [], ◌∷◌, map, length, get_or, set, Some, None, Option, sym, refl, ap, ◌∙◌, subst, inl, inr, ⊎_elim, arith, length-set, get_or-set_other, get_or-set_same}
use Rattle.std.proofs.lemmas.Bool.{both_ways, cases_Bool, cases_eq, cases_lt, cond-true, cond-false, eq-eqb, ne_eqb}
use Rattle.std.proofs.lemmas.List.{length-map}
use Rattle.reading.specs.declared.Symbol.{Symbol}
use Rattle.protocol.specs.declared.Advice.{Advice}
use Rattle.protocol.specs.Places.{state_at, meeting, Apart, lowest}
use Rattle.protocol.specs.Laws.{Reached, started, met, Settles, done, step}

-- a place below suc n is n or below n
below_suc : {P : ℕ → Type 0} (n : ℕ) → ((k : ℕ) → k < n → P k) → P n → (k : ℕ) → k < suc n → P k
below_suc {P} n before here k h =
    ⊎_elim (λ e. subst P (sym e) here) (λ ne. before k (omega arith)) (cases_eq k n)

-- whether some place below n passes, with what that says of the lowest
data Search (p : ℕ → Bool) (n : ℕ) : Option ℕ → Type 0 where
  found : (k : ℕ) → k < n → p k ≡ true → ((j : ℕ) → j < k → p j ≡ false) → Search p n (Some k)
  missing : ((k : ℕ) → k < n → p k ≡ false) → Search p n None

searched_step : (p : ℕ → Bool) (n : ℕ) (o : Option ℕ) (b : Bool) → p n ≡ b → Search p n o → Search p (suc n) (elim o [ Some k ↦ Some k | None ↦ cond b (Some n) None ])
searched_step p n (Some _) b e (found k h y before) = found k (omega arith) y before
searched_step p n None true e (missing none) = found n (omega arith) e none
searched_step p n None false e (missing none) = missing (below_suc n none e)

searched : (p : ℕ → Bool) (n : ℕ) → Search p n (lowest p n)
unfolding lowest
searched p zero = missing (λ k h. absurd (omega arith))
searched p (suc n) = searched_step p n (lowest p n) (p n) refl (searched p n)

some_facts : {p : ℕ → Bool} {n : ℕ} {o : Option ℕ} → Search p n o → (k : ℕ) → o ≡ Some k → (k < n) × (p k ≡ true) × ((j : ℕ) → j < k → p j ≡ false)
some_facts {p} {n} (found i h y before) k e =
    let same : i ≡ k = cc in
    let P : ℕ → Type 0 = λ k. (k < n) × (p k ≡ true) × ((j : ℕ) → j < k → p j ≡ false) in
    subst P same (h, y, before)
some_facts (missing none) k e = let z : ◌≡◌ {A = ℕ} 0 1 = cc in absurd (omega arith)

none_facts : {p : ℕ → Bool} {n : ℕ} {o : Option ℕ} → Search p n o → o ≡ None → (k : ℕ) → k < n → p k ≡ false
none_facts (found i h y before) e = let z : ◌≡◌ {A = ℕ} 0 1 = cc in absurd (omega arith)
none_facts (missing none) e = none

pub lowest_some : (p : ℕ → Bool) (n k : ℕ) → lowest p n ≡ Some k → (k < n) × (p k ≡ true) × ((j : ℕ) → j < k → p j ≡ false)
lowest_some p n k e = some_facts (searched p n) k e

pub lowest_none : (p : ℕ → Bool) (n : ℕ) → lowest p n ≡ None → (k : ℕ) → k < n → p k ≡ false
lowest_none p n e = none_facts (searched p n) e

fails_by : {p : ℕ → Bool} {n : ℕ} {o : Option ℕ} → Search p n o → ((k : ℕ) → k < n → p k ≡ false) → o ≡ None
fails_by {p} (found k h y before) all = absurd (both_ways (p k) (all k h) y)
fails_by (missing none) all = refl

pub lowest_fails : (p : ℕ → Bool) (n : ℕ) → ((k : ℕ) → k < n → p k ≡ false) → lowest p n ≡ None
lowest_fails p n all = fails_by (searched p n) all

exists_by : {p : ℕ → Bool} {n : ℕ} {o : Option ℕ} → Search p n o → (k : ℕ) → k < n → p k ≡ true → (j : ℕ) × (o ≡ Some j)
exists_by (found j _ _ _) k h y = (j, refl)
exists_by {p} (missing none) k h y = absurd (both_ways (p k) (none k h) y)

pub lowest_exists : (p : ℕ → Bool) (n k : ℕ) → k < n → p k ≡ true → (j : ℕ) × (lowest p n ≡ Some j)
lowest_exists p n = exists_by (searched p n)

-- the lowest is known by what it is
pub lowest_is : (p : ℕ → Bool) (n k : ℕ) → k < n → p k ≡ true → ((j : ℕ) → j < k → p j ≡ false) → lowest p n ≡ Some k
lowest_is p n k h y before =
    let some = lowest_exists p n k h y in
    let it = lowest_some p n some.0 some.1 in
    ⊎_elim (λ e. some.1 ∙ ap (λ i. Some i) (sym e))
    (λ ne. absurd (⊎_elim
    (λ less. both_ways (p k) (it.2 k less) y)
    (λ more. both_ways (p some.0) (before some.0 (omega arith)) it.1)
    (cases_lt k some.0)))
    (cases_eq k some.0)

pub lowest_ext : (p q : ℕ → Bool) (n : ℕ) → ((k : ℕ) → k < n → p k ≡ q k) → lowest p n ≡ lowest q n
unfolding lowest
lowest_ext p q zero same = refl
lowest_ext p q (suc n) same =
    let before : lowest p n ≡ lowest q n = lowest_ext p q n (λ k h. same k (omega arith)) in
    let here : p n ≡ q n = same n (omega arith) in
    ap (λ (w : Option ℕ × Bool). elim w.0 [ Some k ↦ Some k | None ↦ cond w.1 (Some n) None ]) (pairs before here)
  where
    pairs : {a b : Option ℕ} {x y : Bool} → a ≡ b → x ≡ y → ◌≡◌ {A = Option ℕ × Bool} (a, x) (b, y)
    pairs e f = cc

pub length-meeting : (meet : ℕ → ℕ → ℕ × ℕ) (qs : List ℕ) (i j : ℕ) → length (meeting meet qs i j) ≡ length qs
length-meeting meet qs i j = length-set _ j _ ∙ length-set qs i _

module _ (meet : ℕ → ℕ → ℕ × ℕ) (qs : List ℕ) (i j : ℕ) where
  pub meeting_first : Apart (length qs) i j → state_at (meeting meet qs i j) i ≡ (meet (state_at qs i) (state_at qs j)).0
  meeting_first apart =
      get_or-set_other _ j i _ 0 apart.differ ∙ get_or-set_same qs i _ 0 apart.first_within

  pub meeting_second : Apart (length qs) i j → state_at (meeting meet qs i j) j ≡ (meet (state_at qs i) (state_at qs j)).1
  meeting_second apart =
      let h = apart.second_within in
      let once = (meet (state_at qs i) (state_at qs j)).0 in
      get_or-set_same (set qs i once) j _ 0 (omega (arith, length-set qs i once))

  pub meeting_other : (k : ℕ) → (k ≡ i → ⊥) → (k ≡ j → ⊥) → state_at (meeting meet qs i j) k ≡ state_at qs k
  meeting_other k ni nj = get_or-set_other _ j k _ 0 nj ∙ get_or-set_other qs i k _ 0 ni

pub reached_length : {start : ℕ → ℕ} {meet : ℕ → ℕ → ℕ × ℕ} {symbols : List Symbol} {states : List ℕ} → Reached start meet symbols states → length states ≡ length symbols
reached_length {start} {meet} {symbols} started = length-map symbols (λ s. start s.0)
reached_length {start} {meet} (met {states} r i j apart) = length-meeting meet states i j ∙ reached_length r

pub settles_more : {next : List ℕ → Advice} {meet : ℕ → ℕ → ℕ × ℕ} {n : ℕ} {qs : List ℕ} {k : ℕ} → Settles next meet n qs k → (m : ℕ) → k ≤ m → Settles next meet n qs m
settles_more (done e) m h = done e
settles_more (step i j e apart rest) zero h = absurd (omega arith)
settles_more (step i j e apart rest) (suc m) h = step i j e apart (settles_more rest m (omega arith))

-- how many of the places below n pass a test
unfoldable pub tally : (ℕ → Bool) → ℕ → ℕ
tally p zero = 0
tally p (suc n) = tally p n + cond (p n) 1 0

one_le : (b : Bool) → cond b 1 0 ≤ 1
one_le true = omega arith
one_le false = omega arith

one_grows : (a b : Bool) → (a ≡ true → b ≡ true) → cond a 1 0 ≤ cond b 1 0
one_grows true b f = let e = f refl in simp e (omega arith)
one_grows false b f = omega arith

pub tally_le : (p : ℕ → Bool) (n : ℕ) → tally p n ≤ n
unfolding tally
tally_le p zero = omega arith
tally_le p (suc n) = omega (arith, tally_le p n, one_le (p n))

pub tally_grows : (p q : ℕ → Bool) (n : ℕ) → ((k : ℕ) → k < n → p k ≡ true → q k ≡ true) → tally p n ≤ tally q n
unfolding tally
tally_grows p q zero more = omega arith
tally_grows p q (suc n) more =
    omega (arith, tally_grows p q n (λ k h. more k (omega arith)), one_grows (p n) (q n) (more n (omega arith)))

pub tally_falls : (p q : ℕ → Bool) (n i : ℕ) → i < n → p i ≡ false → q i ≡ true → ((k : ℕ) → k < n → p k ≡ true → q k ≡ true) → tally p n < tally q n
unfolding tally
tally_falls p q zero i h fails passes more = absurd (omega arith)
tally_falls p q (suc n) i h fails passes more =
    ⊎_elim
    (λ e.
    let pn : p n ≡ false = ap p (sym e) ∙ fails in
    let qn : q n ≡ true = ap q (sym e) ∙ passes in
    let before = tally_grows p q n (λ k h. more k (omega arith)) in
    simp (pn, qn) (omega arith))
    (λ ne.
    omega (arith, tally_falls p q n i (omega arith) fails passes (λ k h. more k (omega arith)), one_grows (p n) (q n) (more n (omega arith))))
    (cases_eq i n)

pub tally_but : (p : ℕ → Bool) (n i : ℕ) → i < n → p i ≡ false → tally p n ≤ n - 1
tally_but p n i h fails =
    let less : tally p n < tally (λ _. true) n = tally_falls p (λ _. true) n i h fails refl (λ _ _ _. refl) in
    omega (arith, tally_le (λ _. true) n)

pub tally_none : (p : ℕ → Bool) (n : ℕ) → tally p n ≡ 0 → (k : ℕ) → k < n → p k ≡ false
tally_none p n e k h =
    ⊎_elim
    (λ y. absurd (omega (arith, tally_falls (λ _. false) p n k h refl y (λ _ _ z. absurd (both_ways false refl z)))))
    (λ fails. fails)
    (cases_Bool (p k))

-- the sum of f over the places below n
unfoldable pub total : (ℕ → ℕ) → ℕ → ℕ
total f zero = 0
total f (suc n) = total f n + f n

pub total_ext : (f g : ℕ → ℕ) (n : ℕ) → ((k : ℕ) → k < n → f k ≡ g k) → total f n ≡ total g n
unfolding total
total_ext f g zero same = refl
total_ext f g (suc n) same = omega (arith, total_ext f g n (λ k h. same k (omega arith)), same n (omega arith))

-- one place differs
pub total_one : (f g : ℕ → ℕ) (n i : ℕ) → i < n → ((k : ℕ) → (k ≡ i → ⊥) → g k ≡ f k) → total g n + f i ≡ total f n + g i
unfolding total
total_one f g zero i h same = absurd (omega arith)
total_one f g (suc n) i h same =
    ⊎_elim
    (λ e.
    let before = total_ext g f n (λ k b. same k (λ z. omega arith)) in
    let fe : f i ≡ f n = ap f e in
    let ge : g i ≡ g n = ap g e in
    omega arith)
    (λ ne. omega (arith, total_one f g n i (omega arith) same, same n (λ z. ne (sym z))))
    (cases_eq i n)

-- two places differ
pub total_two : (f g : ℕ → ℕ) (n i j : ℕ) → Apart n i j → ((k : ℕ) → (k ≡ i → ⊥) → (k ≡ j → ⊥) → g k ≡ f k) → total g n + (f i + f j) ≡ total f n + (g i + g j)
total_two f g n i j apart same =
    let h : ℕ → ℕ = λ k. cond (eqb k i) (g i) (f k) in
    let at_i : h i ≡ g i = cond-true (eqb i i) (g i) (f i) (eq-eqb i i refl) in
    let off : (k : ℕ) → (k ≡ i → ⊥) → h k ≡ f k = λ k ne. cond-false (eqb k i) (g i) (f k) (ne_eqb k i ne) in
    let one = total_one f h n i apart.first_within off in
    let two = total_one h g n j apart.second_within
    (λ k ne. ⊎_elim
    (λ e. ap g e ∙ sym at_i ∙ ap h (sym e))
    (λ ni. same k ni ne ∙ sym (off k ni))
    (cases_eq k i)) in
    omega (arith, one, two, at_i, off j (λ e. apart.differ (sym e)))
