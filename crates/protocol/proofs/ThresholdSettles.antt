-- The advice of a threshold settles every load, over any advice and any meetings that do as the threshold's. Assumes nothing.
use Rattle.std.proofs.Common.{◌≡◌, ℕ, zero, suc, ◌+◌, ◌-◌, ◌*◌, ◌<◌, ◌≤◌, Bool, true, false, not, ◌&&◌, eqb, ◌⊎◌, List, length, sym, refl, ◌∙◌, subst, inl, inr, ⊎_elim, arith}
use Rattle.std.proofs.lemmas.Bool.{cases_Bool, cases_lt, cases_eq, cases_order, false≢true}
use Rattle.std.proofs.lemmas.Bool.Decides.{nat_tests}
use Rattle.protocol.specs.declared.Advice.{Advice}
use Rattle.protocol.specs.declared.Advice.TheVariants.{Meet, Settled, Lost}
use Rattle.protocol.specs.Places.{Apart, meeting}
use Rattle.protocol.specs.Laws.{Settles, done, step}
use Rattle.protocol.proofs.Places.{tally, tally_falls, tally_but, settles_more, length-meeting}
use Rattle.protocol.proofs.ThresholdLoads.{Load, sign, Joined, Change, joins, keeps, Met, Sound, Which, first, second, neither, which, Leader, Beside, Quiet, Heard, Still, quiet_take, sound_met, still_met}

-- x and y are on two sides of 0, or x is 0 and y is not
abbrev pub Opposed : ℕ → ℕ → ℕ → Type 0
Opposed s x y = ((x ≤ s) × (s < y)) ⊎ ((s ≤ x) × (y < s))

opposed_not : (s x y : ℕ) → Opposed s x y → Beside s x y → ⊥
opposed_not s x y (inl o) z = omega arith
opposed_not s x y (inr o) z = omega arith

-- the advice of a load that m leads
pub data Turn (s b n : ℕ) (f : Load) (m : ℕ) : Advice → Type 0 where
  opposed : (j : ℕ) → j < n → (j ≡ m → ⊥) → Opposed s (f.x m) (f.x j) → Turn s b n f m (Meet m j)
  hungry : (j : ℕ) → j < n → (j ≡ m → ⊥) → ((k : ℕ) → k < n → (k ≡ m → ⊥) → Beside s (f.x m) (f.x k))
      → 0 < f.x m → f.x m < s + s → (f.x j ≡ s → ⊥) → Turn s b n f m (Meet m j)
  unheard : (j : ℕ) → j < n → (j ≡ m → ⊥) → Quiet s n f m → (Heard b f m j → ⊥) → Turn s b n f m (Meet m j)
  settled : Quiet s n f m → ((k : ℕ) → k < n → (k ≡ m → ⊥) → Heard b f m k) → Turn s b n f m Settled

pub data View (s b n : ℕ) (f : Load) : Advice → Type 0 where
  lost : ((k : ℕ) → k < n → f.lead k ≡ 0) → View s b n f Lost
  led_by : {a : Advice} (m : ℕ) → Leader n f m → Turn s b n f m a → View s b n f a

one_leader : {n : ℕ} {f : Load} (m m' : ℕ) → Leader n f m → Leader n f m' → m ≡ m'
one_leader {n} {f} m m' a c =
    ⊎_elim (λ e. e) (λ o. absurd (⊎_elim
    (λ l. let z = c.lowest m l in omega (arith, a.leads))
    (λ l. let z = a.lowest m' l in omega (arith, c.leads)) o)) (cases_order m m')

turn : {s b n : ℕ} {f : Load} {m : ℕ} {a : Advice} → Leader n f m → View s b n f a → Turn s b n f m a
turn {m = m} l (lost none) = absurd (let z = none m l.within in omega (arith, l.leads))
turn {s} {b} {n} {f} {m} {a} l (led_by m' l' t) =
    let P : ℕ → Type 0 = λ k. Turn s b n f k a in
    subst P (one_leader m' m l' l) t

-- a place that has not heard from m, and one with a value of its own
abbrev deaf : ℕ → Load → ℕ → ℕ → Bool
deaf b f m k = not (eqb k m) && not (eqb (f.lead k) 0 && eqb (f.bit k) (sign b (f.x m)))

abbrev astray : ℕ → Load → ℕ → ℕ → Bool
astray s f m k = not (eqb k m) && not (eqb (f.x k) s)

deaf_here : (b : ℕ) (f : Load) (m : ℕ) → deaf b f m m ≡ false
deaf_here b f m = grind (arith, nat_tests)

astray_here : (s : ℕ) (f : Load) (m : ℕ) → astray s f m m ≡ false
astray_here s f m = grind (arith, nat_tests)

not_deaf : (b : ℕ) (f : Load) (m k : ℕ) → (k ≡ m → ⊥) → deaf b f m k ≡ false → Heard b f m k
not_deaf b f m k ne z = record { follows = grind (arith, nat_tests); hears = grind (arith, nat_tests) }

module _ {s b n t : ℕ} {f g : Load} {m j : ℕ} (apart : Apart n m j) (w : Met s b f g m j) (l : Leader n f m) (h : Sound s b n t f) where
  joined_change : Change s b f g m j → Joined s b (f.x m) (f.x j) (f.lead m) (f.lead j) (g.x m) (g.x j) (g.lead m) (g.lead j) (g.bit m) (g.bit j)
  joined_change (joins a) = a
  joined_change (keeps a c p q) = absurd (omega (arith, l.leads))

  joined_met : Joined s b (f.x m) (f.x j) (f.lead m) (f.lead j) (g.x m) (g.x j) (g.lead m) (g.lead j) (g.bit m) (g.bit j)
  joined_met = joined_change w.change

  low_each : (k : ℕ) → Which m j k → k < m → g.lead k ≡ 0
  low_each k first u = absurd (omega arith)
  low_each k second u = joined_met.second_follows
  low_each k (neither p q) u = omega (arith, (w.others k p q).lead_same, l.lowest k u)

  pub leader_met : Leader n g m
  leader_met = record { within = l.within; leads = joined_met.first_leads; lowest = λ k u. low_each k (which m j k) u }

  -- rule 3
  module _ (q : Quiet s n f m) where
    same_x : (g.x m ≡ f.x m) × (g.x j ≡ f.x j)
    same_x =
        let ne : j ≡ m → ⊥ = λ e. apart.differ (sym e) in
        quiet_take s (f.x m) (f.x j) (g.x m) (g.x j) (h.known m l.within)
        (q.beside j apart.second_within ne) (q.full j apart.second_within ne) joined_met.kept joined_met.rest

    same_each : (k : ℕ) → Which m j k → g.x k ≡ f.x k
    same_each k first = same_x.0
    same_each k second = same_x.1
    same_each k (neither p o) = (w.others k p o).x_same

    pub quiet_met : Quiet s n g m
    quiet_met =
        let e = same_x.0 in
        record {
          beside = λ k u ne. let d = same_each k (which m j k) in let y = q.beside k u ne in (λ z. omega arith, λ z. omega arith);
          full = λ k u ne v z. let d = same_each k (which m j k) in let y = q.full k u ne (omega arith) (omega arith) in omega arith;
        }

    deaf_each : (k : ℕ) → Which m j k → deaf b g m k ≡ true → deaf b f m k ≡ true
    deaf_each k first y = let z = deaf_here b g m in let o : ◌≡◌ {A = ℕ} 0 1 = cc in absurd (omega arith)
    deaf_each k second y = let p = joined_met.second_follows in let q = joined_met.second_bit in grind (arith, nat_tests)
    deaf_each k (neither p o) y =
        let d = w.others k p o in
        let e = same_x.0 in
        let u = d.lead_same in
        let v = d.bit_same in
        grind (arith, nat_tests)

    pub deaf_falls : (Heard b f m j → ⊥) → tally (deaf b g m) n < tally (deaf b f m) n
    deaf_falls un =
        tally_falls (deaf b g m) (deaf b f m) n j apart.second_within
        (let p = joined_met.second_follows in let q = joined_met.second_bit in grind (arith, nat_tests))
        (⊎_elim (λ y. y) (λ z. absurd (un (not_deaf b f m j (λ e. apart.differ (sym e)) z))) (cases_Bool (deaf b f m j)))
        (λ k u y. deaf_each k (which m j k) y)

  astray_each : (k : ℕ) → Which m j k → g.x j ≡ s → astray s g m k ≡ true → astray s f m k ≡ true
  astray_each k first e y = let z = astray_here s g m in let o : ◌≡◌ {A = ℕ} 0 1 = cc in absurd (omega arith)
  astray_each k second e y = grind (arith, nat_tests)
  astray_each k (neither p o) e y = let d = (w.others k p o).x_same in grind (arith, nat_tests)

  -- rules 1 and 2, where the partner is left at 0
  pub astray_falls : (f.x j ≡ s → ⊥) → g.x j ≡ s → tally (astray s g m) n < tally (astray s f m) n
  astray_falls ne e =
      let dj = apart.differ in
      tally_falls (astray s g m) (astray s f m) n j apart.second_within
      (grind (arith, nat_tests)) (grind (arith, nat_tests))
      (λ k u y. astray_each k (which m j k) e y)

  -- rule 1
  pub opposed_met : Opposed s (f.x m) (f.x j) → g.x j ≡ s
  opposed_met o =
      let a = joined_met in
      let p = h.known m l.within in
      let q = h.known j apart.second_within in
      omega arith

  -- rule 2: the partner is left at 0, or the leader at its limit
  module _ (some : 0 < s) (beside : (k : ℕ) → k < n → (k ≡ m → ⊥) → Beside s (f.x m) (f.x k)) (ne : g.x j ≡ s → ⊥) where
    limit : ((f.x m < s) × (g.x m ≡ 0) × (g.x j ≤ s)) ⊎ ((s < f.x m) × (g.x m ≡ s + s) × (s ≤ g.x j))
    limit =
        let a = joined_met in
        let p = h.known m l.within in
        let q = h.known j apart.second_within in
        let r = beside j apart.second_within (λ e. apart.differ (sym e)) in
        ⊎_elim (λ u. inl (omega arith, omega arith, omega arith)) (λ u. inr (omega arith, omega arith, omega arith)) (cases_lt (f.x m) s)

    limit_low : (f.x m < s) × (g.x m ≡ 0) × (g.x j ≤ s) → (k : ℕ) → Which m j k → k < n → (k ≡ m → ⊥) → g.x k ≤ s
    limit_low u k first v ne = absurd (ne refl)
    limit_low u k second v ne = u.2
    limit_low u k (neither p o) v ne = let d = (w.others k p o).x_same in let y = beside k v ne in omega arith

    limit_high : (s < f.x m) × (g.x m ≡ s + s) × (s ≤ g.x j) → (k : ℕ) → Which m j k → k < n → (k ≡ m → ⊥) → s ≤ g.x k
    limit_high u k first v ne = absurd (ne refl)
    limit_high u k second v ne = u.2
    limit_high u k (neither p o) v ne = let d = (w.others k p o).x_same in let y = beside k v ne in omega arith

    pub limit_met : Quiet s n g m
    limit_met = ⊎_elim
        (λ u. record {
          beside = λ k v ne. let y = limit_low u k (which m j k) v ne in (λ z. y, λ z. omega arith);
          full = λ k v ne z o. absurd (omega arith);
        })
        (λ u. record {
          beside = λ k v ne. let y = limit_high u k (which m j k) v ne in (λ z. omega arith, λ z. y);
          full = λ k v ne z o. absurd (omega arith);
        })
        limit

-- one turn of the advice, from loads on to the list of their states
module _ (s b : ℕ) (some : 0 < s) (next : List ℕ → Advice) (meet : ℕ → ℕ → ℕ × ℕ) (load : List ℕ → Load)
    (view : (qs : List ℕ) → View s b (length qs) (load qs) (next qs))
    (meets : (qs : List ℕ) (i j : ℕ) → Apart (length qs) i j → Met s b (load qs) (load (meeting meet qs i j)) i j) (n t : ℕ) where
  view_at : (qs : List ℕ) (a : Advice) → next qs ≡ a → length qs ≡ n → View s b n (load qs) a
  view_at qs a e len = subst (λ k. View s b k (load qs) a) len (subst (λ a. View s b (length qs) (load qs) a) e (view qs))

  meets_at : (qs : List ℕ) (i j : ℕ) → length qs ≡ n → Apart n i j → Met s b (load qs) (load (meeting meet qs i j)) i j
  meets_at qs i j len apart = meets qs i j (subst (λ k. Apart k i j) (sym len) apart)

  apart_of : {f : Load} {m j : ℕ} → Leader n f m → j < n → (j ≡ m → ⊥) → Apart n m j
  apart_of l u ne = record { first_within = l.within; second_within = u; differ = λ e. ne (sym e) }

  -- by rule 3
  abbrev Spreads : ℕ → Type 0
  Spreads d = (qs : List ℕ) → length qs ≡ n → Sound s b n t (load qs) → (m : ℕ) → Leader n (load qs) m → Quiet s n (load qs) m
      → tally (deaf b (load qs) m) n < d → Settles next meet n qs (tally (deaf b (load qs) m) n)

  spread_by : (d : ℕ) → Spreads d → (qs : List ℕ) → length qs ≡ n → Sound s b n t (load qs) → (m : ℕ) → Leader n (load qs) m → Quiet s n (load qs) m
      → tally (deaf b (load qs) m) n < suc d → (a : Advice) → next qs ≡ a → Turn s b n (load qs) m a → Settles next meet n qs (tally (deaf b (load qs) m) n)
  spread_by d again qs len h m l q less a e (opposed j u ne o) = absurd (opposed_not s ((load qs).x m) ((load qs).x j) o (q.beside j u ne))
  spread_by d again qs len h m l q less a e (hungry j u ne z low high o) = absurd (o (q.full j u ne low high))
  spread_by d again qs len h m l q less a e (unheard j u ne z o) =
      let apart = apart_of l u ne in
      let w = meets_at qs m j len apart in
      let rs = meeting meet qs m j in
      let fewer = deaf_falls apart w l h q o in
      let rest = again rs (length-meeting meet qs m j ∙ len) (sound_met apart w h) m (leader_met apart w l h) (quiet_met apart w l h q) (omega arith) in
      settles_more (step m j e apart rest) (tally (deaf b (load qs) m) n) (omega arith)
  spread_by d again qs len h m l q less a e (settled z o) = done e

  spread : (d : ℕ) → Spreads d
  spread zero qs len h m l q less = absurd (omega arith)
  spread (suc d) qs len h m l q less =
      spread_by d (spread d) qs len h m l q less (next qs) refl (turn l (view_at qs (next qs) refl len))

  spread_all : (qs : List ℕ) → length qs ≡ n → Sound s b n t (load qs) → (m : ℕ) → Leader n (load qs) m → Quiet s n (load qs) m
      → Settles next meet n qs (n - 1)
  spread_all qs len h m l q =
      settles_more (spread (suc (tally (deaf b (load qs) m) n)) qs len h m l q (omega arith)) (n - 1)
      (tally_but (deaf b (load qs) m) n m l.within (deaf_here b (load qs) m))

  -- by rules 1 and 2
  abbrev Gathers : ℕ → Type 0
  Gathers d = (qs : List ℕ) → length qs ≡ n → Sound s b n t (load qs) → (m : ℕ) → Leader n (load qs) m
      → tally (astray s (load qs) m) n < d → Settles next meet n qs (tally (astray s (load qs) m) n + (n - 1))

  module _ (d : ℕ) (again : Gathers d) (qs : List ℕ) (len : length qs ≡ n) (h : Sound s b n t (load qs)) (m : ℕ) (l : Leader n (load qs) m)
      (less : tally (astray s (load qs) m) n < suc d) where
    gather_on : (j : ℕ) (apart : Apart n m j) → next qs ≡ Meet m j → ((load qs).x j ≡ s → ⊥) → (load (meeting meet qs m j)).x j ≡ s
        → Settles next meet n qs (tally (astray s (load qs) m) n + (n - 1))
    gather_on j apart e ne z =
        let w = meets_at qs m j len apart in
        let rs = meeting meet qs m j in
        let fewer = astray_falls apart w l h ne z in
        let rest = again rs (length-meeting meet qs m j ∙ len) (sound_met apart w h) m (leader_met apart w l h) (omega arith) in
        settles_more (step m j e apart rest) (tally (astray s (load qs) m) n + (n - 1)) (omega arith)

    gather_last : (j : ℕ) (apart : Apart n m j) → next qs ≡ Meet m j → ((load qs).x j ≡ s → ⊥) → Quiet s n (load (meeting meet qs m j)) m
        → Settles next meet n qs (tally (astray s (load qs) m) n + (n - 1))
    gather_last j apart e ne q =
        let w = meets_at qs m j len apart in
        let rs = meeting meet qs m j in
        let rest = spread_all rs (length-meeting meet qs m j ∙ len) (sound_met apart w h) m (leader_met apart w l h) q in
        let y : astray s (load qs) m j ≡ true = let dj = apart.differ in grind (arith, nat_tests) in
        let more = tally_falls (λ _. false) (astray s (load qs) m) n j apart.second_within refl y (λ k z o. absurd (false≢true o)) in
        settles_more (step m j e apart rest) (tally (astray s (load qs) m) n + (n - 1)) (omega arith)

    gather_by : (a : Advice) → next qs ≡ a → Turn s b n (load qs) m a → Settles next meet n qs (tally (astray s (load qs) m) n + (n - 1))
    gather_by a e (opposed j u ne o) =
        let apart = apart_of l u ne in
        gather_on j apart e (λ z. omega arith) (opposed_met apart (meets_at qs m j len apart) l h o)
    gather_by a e (hungry j u ne beside low high o) =
        let apart = apart_of l u ne in
        let w = meets_at qs m j len apart in
        ⊎_elim (λ z. gather_on j apart e o z) (λ z. gather_last j apart e o (limit_met apart w l h some beside z))
        (cases_eq ((load (meeting meet qs m j)).x j) s)
    gather_by a e (unheard j u ne q o) =
        settles_more (spread_all qs len h m l q) (tally (astray s (load qs) m) n + (n - 1)) (omega arith)
    gather_by a e (settled q o) = done e

  gather : (d : ℕ) → Gathers d
  gather zero qs len h m l less = absurd (omega arith)
  gather (suc d) qs len h m l less =
      gather_by d (gather d) qs len h m l less (next qs) refl (turn l (view_at qs (next qs) refl len))

  settles_view : (qs : List ℕ) → length qs ≡ n → Sound s b n t (load qs) → {a : Advice} → View s b n (load qs) a → Settles next meet n qs (2 * (n - 1))
  settles_view qs len h (lost none) = absurd (let z = none h.head h.head_within in omega arith)
  settles_view qs len h (led_by m l o) =
      let few = tally_but (astray s (load qs) m) n m l.within (astray_here s (load qs) m) in
      settles_more (gather (suc (tally (astray s (load qs) m) n)) qs len h m l (omega arith)) (2 * (n - 1)) (omega arith)

  pub settles_all : (qs : List ℕ) → length qs ≡ n → Sound s b n t (load qs) → Settles next meet n qs (2 * (n - 1))
  settles_all qs len h = settles_view qs len h (view_at qs (next qs) refl len)

  still_turn : {f : Load} {m : ℕ} {a : Advice} → Leader n f m → Turn s b n f m a → a ≡ Settled → Still s b n f
  still_turn l (opposed j u ne o) e = let z : ◌≡◌ {A = ℕ} 0 1 = cc in absurd (omega arith)
  still_turn l (hungry j u ne z low high o) e = let z : ◌≡◌ {A = ℕ} 0 1 = cc in absurd (omega arith)
  still_turn l (unheard j u ne z o) e = let z : ◌≡◌ {A = ℕ} 0 1 = cc in absurd (omega arith)
  still_turn {f} {m} l (settled q o) e = record { chief = m; chief_within = l.within; chief_leads = l.leads; quiet = q; heard = o }

  still_view : {f : Load} {a : Advice} → View s b n f a → a ≡ Settled → Still s b n f
  still_view (lost none) e = let z : ◌≡◌ {A = ℕ} 0 1 = cc in absurd (omega arith)
  still_view (led_by m l o) e = still_turn l o e

  -- a settled load is still
  pub still_settled : (qs : List ℕ) → length qs ≡ n → next qs ≡ Settled → Still s b n (load qs)
  still_settled qs len e = still_view (view_at qs (next qs) refl len) e

  settled_turn : {f : Load} {m : ℕ} {a : Advice} → Quiet s n f m → ((k : ℕ) → k < n → (k ≡ m → ⊥) → Heard b f m k) → Turn s b n f m a → a ≡ Settled
  settled_turn {f} {m} q heard (opposed j u ne o) = absurd (opposed_not s (f.x m) (f.x j) o (q.beside j u ne))
  settled_turn q heard (hungry j u ne z low high o) = absurd (o (q.full j u ne low high))
  settled_turn q heard (unheard j u ne z o) = absurd (o (heard j u ne))
  settled_turn q heard (settled z o) = refl

  chief_is : {f : Load} → (c : ℕ) → ((k : ℕ) → k < n → (k ≡ c → ⊥) → Heard b f c k) → (m : ℕ) → Leader n f m → c ≡ m
  chief_is c heard m l = ⊎_elim (λ e. sym e) (λ ne. absurd (let z = heard m l.within ne in omega (arith, l.leads))) (cases_eq m c)

  settled_view : {f : Load} {a : Advice} → Still s b n f → View s b n f a → a ≡ Settled
  settled_view z (lost none) = absurd (let y = none z.chief z.chief_within in omega arith)
  settled_view {f} {a} z (led_by m l o) =
      let P : ℕ → Type 0 = λ c. Quiet s n f c × ((k : ℕ) → k < n → (k ≡ c → ⊥) → Heard b f c k) in
      let y = subst P (chief_is z.chief z.heard m l) (z.quiet, z.heard) in
      settled_turn y.0 y.1 o

  -- a still load is settled
  pub settled_still : (qs : List ℕ) → length qs ≡ n → Still s b n (load qs) → next qs ≡ Settled
  settled_still qs len z = settled_view z (view_at qs (next qs) refl len)

  pub stays_settled : (qs : List ℕ) → length qs ≡ n → Sound s b n t (load qs) → next qs ≡ Settled → (i j : ℕ) → Apart n i j → next (meeting meet qs i j) ≡ Settled
  stays_settled qs len h e i j apart =
      let w = meets_at qs i j len apart in
      settled_still (meeting meet qs i j) (length-meeting meet qs i j ∙ len) (still_met apart w h (still_settled qs len e))
