-- The loads of a threshold by their places, in natural numbers: each value is an offset from -s, from 0 to 2 s, and the bound is the offset b. Assumes nothing.
use Rattle.std.proofs.Common.{◌≡◌, ℕ, ◌+◌, ◌-◌, ◌<◌, ◌≤◌, min, ◌⊎◌, sym, refl, ap, ◌∙◌, subst, inl, inr, ⊎_elim, arith}
use Rattle.std.proofs.lemmas.Bool.{cases_lt, cases_eq}
use Rattle.protocol.specs.Places.{Apart}
use Rattle.protocol.proofs.Places.{total, total_two}

-- the tags of a load: an offset, and a lead and a bit that are 0 or 1
pub record Load : Type 0 where
  pub x : ℕ → ℕ
  pub lead : ℕ → ℕ
  pub bit : ℕ → ℕ

-- the bit of a leader with this offset
abbrev pub sign : ℕ → ℕ → ℕ
sign b x = min 1 (b - x)

-- what the first and the second keep: offset, lead and bit of each, before and after
pub record Joined (s b x y lx ly x' y' lx' ly' bx' by' : ℕ) : Type 0 where
  pub leads : 1 ≤ lx + ly
  pub kept : x' ≡ min (x + y - s) (s + s)
  pub rest : x' + y' ≡ x + y
  pub first_leads : lx' ≡ 1
  pub second_follows : ly' ≡ 0
  pub first_bit : bx' ≡ sign b x'
  pub second_bit : by' ≡ sign b x'

pub record Same (f g : Load) (k : ℕ) : Type 0 where
  pub x_same : g.x k ≡ f.x k
  pub lead_same : g.lead k ≡ f.lead k
  pub bit_same : g.bit k ≡ f.bit k

-- g is f after a meeting of i and j
pub data Change (s b : ℕ) (f g : Load) (i j : ℕ) : Type 0 where
  joins : Joined s b (f.x i) (f.x j) (f.lead i) (f.lead j) (g.x i) (g.x j) (g.lead i) (g.lead j) (g.bit i) (g.bit j) → Change s b f g i j
  keeps : f.lead i ≡ 0 → f.lead j ≡ 0 → Same f g i → Same f g j → Change s b f g i j

pub record Met (s b : ℕ) (f g : Load) (i j : ℕ) : Type 0 where
  pub change : Change s b f g i j
  pub others : (k : ℕ) → (k ≡ i → ⊥) → (k ≡ j → ⊥) → Same f g k

-- what holds of every load that is reached: n tags whose offsets sum to t
pub record Sound (s b n t : ℕ) (f : Load) : Type 0 where
  pub known : (k : ℕ) → k < n → f.x k ≤ s + s
  pub head : ℕ
  pub head_within : head < n
  pub head_leads : f.lead head ≡ 1
  pub right : (k : ℕ) → k < n → f.lead k ≡ 1 → f.bit k ≡ sign b (f.x k)
  pub flag : (k : ℕ) → f.lead k ≤ 1
  pub sum : total f.x n ≡ t

-- one of the three: i, j or another
pub data Which (i j : ℕ) : ℕ → Type 0 where
  first : Which i j i
  second : Which i j j
  neither : {k : ℕ} → (k ≡ i → ⊥) → (k ≡ j → ⊥) → Which i j k

pub which : (i j k : ℕ) → Which i j k
which i j k =
    let P : ℕ → Type 0 = λ k. Which i j k in
    ⊎_elim (λ e. subst P (sym e) first) (λ a. ⊎_elim (λ e. subst P (sym e) second) (λ c. neither a c) (cases_eq k j)) (cases_eq k i)

sum_change : {s b : ℕ} {f g : Load} {i j : ℕ} → Change s b f g i j → g.x i + g.x j ≡ f.x i + f.x j
sum_change (joins h) = omega arith
sum_change (keeps a c h k) = omega arith

pub sum_met : {s b n : ℕ} {f g : Load} {i j : ℕ} → Apart n i j → Met s b f g i j → total g.x n ≡ total f.x n
sum_met {s} {b} {n} {f} {g} {i} {j} apart m =
    let e = total_two f.x g.x n i j apart (λ k p q. (m.others k p q).x_same) in
    let h = sum_change m.change in
    omega arith

known_change : {s b : ℕ} {f g : Load} {i j : ℕ} → Change s b f g i j → f.x i ≤ s + s → f.x j ≤ s + s → (g.x i ≤ s + s) × (g.x j ≤ s + s)
known_change (joins h) p q = (omega arith, omega arith)
known_change (keeps a c h k) p q = (omega arith, omega arith)

-- the advice's leader: the lowest place that leads
pub record Leader (n : ℕ) (f : Load) (m : ℕ) : Type 0 where
  pub within : m < n
  pub leads : f.lead m ≡ 1
  pub lowest : (k : ℕ) → k < m → f.lead k ≡ 0

-- no value is on the other side of 0 than m's
abbrev pub Beside : ℕ → ℕ → ℕ → Type 0
Beside s x y = (x ≤ s → y ≤ s) × (s ≤ x → s ≤ y)

-- m can take no more
pub record Quiet (s n : ℕ) (f : Load) (m : ℕ) : Type 0 where
  pub beside : (k : ℕ) → k < n → (k ≡ m → ⊥) → Beside s (f.x m) (f.x k)
  pub full : (k : ℕ) → k < n → (k ≡ m → ⊥) → 0 < f.x m → f.x m < s + s → f.x k ≡ s

-- k has heard from m
pub record Heard (b : ℕ) (f : Load) (m k : ℕ) : Type 0 where
  pub follows : f.lead k ≡ 0
  pub hears : f.bit k ≡ sign b (f.x m)

-- a load that is settled
pub record Still (s b n : ℕ) (f : Load) : Type 0 where
  pub chief : ℕ
  pub chief_within : chief < n
  pub chief_leads : f.lead chief ≡ 1
  pub quiet : Quiet s n f chief
  pub heard : (k : ℕ) → k < n → (k ≡ chief → ⊥) → Heard b f chief k

module _ {s b n t : ℕ} {f g : Load} {i j : ℕ} (apart : Apart n i j) (m : Met s b f g i j) (h : Sound s b n t f) where
  known_each : (k : ℕ) → Which i j k → k < n → g.x k ≤ s + s
  known_each k first l = (known_change m.change (h.known i apart.first_within) (h.known j apart.second_within)).0
  known_each k second l = (known_change m.change (h.known i apart.first_within) (h.known j apart.second_within)).1
  known_each k (neither p q) l = omega (arith, (m.others k p q).x_same, h.known k l)

  flag_change : Change s b f g i j → (g.lead i ≤ 1) × (g.lead j ≤ 1)
  flag_change (joins a) = (omega arith, omega arith)
  flag_change (keeps a c p q) = (omega arith, omega arith)

  flag_each : (k : ℕ) → Which i j k → g.lead k ≤ 1
  flag_each k first = (flag_change m.change).0
  flag_each k second = (flag_change m.change).1
  flag_each k (neither p q) = omega (arith, (m.others k p q).lead_same, h.flag k)

  right_change : Change s b f g i j → (g.lead i ≡ 1 → g.bit i ≡ sign b (g.x i)) × (g.lead j ≡ 1 → g.bit j ≡ sign b (g.x j))
  right_change (joins a) = (λ e. omega arith, λ e. omega arith)
  right_change (keeps a c p q) = (λ e. omega arith, λ e. omega arith)

  right_each : (k : ℕ) → Which i j k → k < n → g.lead k ≡ 1 → g.bit k ≡ sign b (g.x k)
  right_each k first l e = (right_change m.change).0 e
  right_each k second l e = (right_change m.change).1 e
  right_each k (neither p q) l e =
      let o = m.others k p q in
      let r = h.right k l (omega arith) in
      omega arith

  heads : Change s b f g i j → (k : ℕ) × (k < n) × (g.lead k ≡ 1)
  heads (joins a) = (i, apart.first_within, a.first_leads)
  heads (keeps a c p q) =
      let k = h.head in
      let o = m.others k (λ e. let z = ap f.lead e in omega arith) (λ e. let z = ap f.lead e in omega arith) in
      (k, h.head_within, omega arith)

  pub sound_met : Sound s b n t g
  sound_met =
      let top = heads m.change in
      record {
        known = λ k l. known_each k (which i j k) l;
        head = top.0;
        head_within = top.1;
        head_leads = top.2;
        right = λ k l e. right_each k (which i j k) l e;
        flag = λ k. flag_each k (which i j k);
        sum = sum_met apart m ∙ h.sum;
      }

-- a leader that can take no more takes no more, and gives nothing away
pub quiet_take : (s x y x' y' : ℕ) → x ≤ s + s → Beside s x y → (0 < x → x < s + s → y ≡ s) → x' ≡ min (x + y - s) (s + s) → x' + y' ≡ x + y → (x' ≡ x) × (y' ≡ y)
quiet_take s x y x' y' known beside full kept rest =
    let e : x' ≡ x = ⊎_elim
    (λ low. omega arith)
    (λ high. ⊎_elim (λ in_span. let z = full high in_span in omega arith) (λ top. omega arith) (cases_lt x (s + s)))
    (zero_or x) in
    (e, omega arith)
  where
    zero_or : (a : ℕ) → (a ≡ 0) ⊎ (0 < a)
    zero_or a = ⊎_elim (λ l. inr l) (λ l. inl (omega arith)) (cases_lt 0 a)

module _ {s b n t : ℕ} {f g : Load} {i j : ℕ} (apart : Apart n i j) (m : Met s b f g i j) (h : Sound s b n t f) where
  -- what the second place and the others have after a meeting of the chief: each what one had that was not the chief
  record Taken (c : ℕ) : Type 0 where
    pub chief_x : g.x i ≡ f.x c
    pub source : ℕ
    pub source_within : source < n
    pub source_other : source ≡ c → ⊥
    pub source_x : g.x j ≡ f.x source
    pub chief_met : (k : ℕ) → (k ≡ i → ⊥) → (k ≡ j → ⊥) → k ≡ c → ⊥

  taken : (c : ℕ) → Which i j c → Joined s b (f.x i) (f.x j) (f.lead i) (f.lead j) (g.x i) (g.x j) (g.lead i) (g.lead j) (g.bit i) (g.bit j)
      → Quiet s n f c → ((k : ℕ) → k < n → (k ≡ c → ⊥) → Heard b f c k) → Taken c
  taken c first a q heard =
      let ne : j ≡ i → ⊥ = λ e. apart.differ (sym e) in
      let e = quiet_take s (f.x i) (f.x j) (g.x i) (g.x j) (h.known i apart.first_within)
      (q.beside j apart.second_within ne) (q.full j apart.second_within ne) a.kept a.rest in
      record { chief_x = e.0; source = j; source_within = apart.second_within; source_other = ne; source_x = e.1; chief_met = λ k p o. p }
  taken c second a q heard =
      let e = quiet_take s (f.x j) (f.x i) (g.x i) (g.x j) (h.known j apart.second_within)
      (q.beside i apart.first_within apart.differ) (q.full i apart.first_within apart.differ) (omega (arith, a.kept)) (omega (arith, a.rest)) in
      record { chief_x = e.0; source = i; source_within = apart.first_within; source_other = apart.differ; source_x = e.1; chief_met = λ k p o. o }
  taken c (neither p q) a r heard =
      let x = heard i apart.first_within (λ e. p (sym e)) in
      let y = heard j apart.second_within (λ e. q (sym e)) in
      absurd (omega arith)

  still_beside : {c : ℕ} → Taken c → Quiet s n f c → (k : ℕ) → Which i j k → k < n → (k ≡ i → ⊥) → Beside s (g.x i) (g.x k)
  still_beside w q k first l ne = absurd (ne refl)
  still_beside w q k second l ne =
      let z = q.beside w.source w.source_within w.source_other in
      (λ u. omega arith, λ u. omega arith)
  still_beside w q k (neither p o) l ne =
      let z = q.beside k l (w.chief_met k p o) in
      let e = m.others k p o in
      (λ u. omega arith, λ u. omega arith)

  still_full : {c : ℕ} → Taken c → Quiet s n f c → (k : ℕ) → Which i j k → k < n → (k ≡ i → ⊥) → 0 < g.x i → g.x i < s + s → g.x k ≡ s
  still_full w q k first l ne u v = absurd (ne refl)
  still_full w q k second l ne u v =
      let z = q.full w.source w.source_within w.source_other (omega arith) (omega arith) in
      omega arith
  still_full w q k (neither p o) l ne u v =
      let z = q.full k l (w.chief_met k p o) (omega arith) (omega arith) in
      let e = m.others k p o in
      omega arith

  still_heard : {c : ℕ} → Taken c → Joined s b (f.x i) (f.x j) (f.lead i) (f.lead j) (g.x i) (g.x j) (g.lead i) (g.lead j) (g.bit i) (g.bit j)
      → ((k : ℕ) → k < n → (k ≡ c → ⊥) → Heard b f c k) → (k : ℕ) → Which i j k → k < n → (k ≡ i → ⊥) → Heard b g i k
  still_heard w a heard k first l ne = absurd (ne refl)
  still_heard w a heard k second l ne = record { follows = a.second_follows; hears = a.second_bit }
  still_heard w a heard k (neither p o) l ne =
      let z = heard k l (w.chief_met k p o) in
      let e = m.others k p o in
      record { follows = omega arith; hears = omega arith }

  same_each : f.lead i ≡ 0 → f.lead j ≡ 0 → Same f g i → Same f g j → (k : ℕ) → Which i j k → Same f g k
  same_each a c p q k first = p
  same_each a c p q k second = q
  same_each a c p q k (neither u v) = m.others k u v

  still_change : Change s b f g i j → Still s b n f → Still s b n g
  still_change (joins a) z =
      let c = z.chief in
      let w = taken c (which i j c) a z.quiet z.heard in
      record {
        chief = i;
        chief_within = apart.first_within;
        chief_leads = a.first_leads;
        quiet = record {
          beside = λ k l ne. still_beside w z.quiet k (which i j k) l ne;
          full = λ k l ne. still_full w z.quiet k (which i j k) l ne;
        };
        heard = λ k l ne. still_heard w a z.heard k (which i j k) l ne;
      }
  still_change (keeps a c p q) z =
      let o = z.chief in
      let e = same_each a c p q o (which i j o) in
      record {
        chief = o;
        chief_within = z.chief_within;
        chief_leads = omega arith;
        quiet = record {
          beside = λ k l ne. let d = same_each a c p q k (which i j k) in let y = z.quiet.beside k l ne in (λ u. omega arith, λ u. omega arith);
          full = λ k l ne u v. let d = same_each a c p q k (which i j k) in let y = z.quiet.full k l ne (omega arith) (omega arith) in omega arith;
        };
        heard = λ k l ne.
            let d = same_each a c p q k (which i j k) in
            let y = z.heard k l ne in
            record { follows = omega arith; hears = omega arith };
      }

  pub still_met : Still s b n f → Still s b n g
  still_met z = still_change m.change z
