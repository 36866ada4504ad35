-- The replies of two questions in one number, by the replies of each. Assumes nothing.
use Rattle.std.proofs.Common.{◌≡◌, ℕ, ◌*◌, ◌/◌, ◌%◌, ◌^◌, ◌<◌, ◌≤◌, Bool, true, false, cond, eqb, ltb, List, [], ◌∷◌, map, length, Some, unwrap_or, sym, refl, ap, ◌∙◌, subst, mod-lt, mul_assoc, mul_comm, mul-le-mul_left, zero-mul, le-mul_of_pos_right, arith}
use native.Mathlib.Nat.{div-div-eq-div-mul}
use lib.Arith.{digits_div, digits_mod, mod-mul}
use lib.ListN.{length-map}
use Rattle.std.proofs.lemmas.Bool.{cond-true, and_from, lt-ltb, le-leb, ltb-true, and_parts, eqb-false}
use Rattle.std.proofs.lemmas.Bool.Decides.{nat_tests}
use Rattle.std.proofs.lemmas.Option.{cond_some}
use Rattle.protocol.specs.declared.Advice.{Advice}
use Rattle.protocol.specs.declared.Advice.TheVariants.{Lost}
use Rattle.protocol.specs.Protocols.{Protocol, Tables, start_reply, answer_reply, meet_reply, advice_reply, state_read, allowed_unit}
use Rattle.protocol.specs.Joining.{answered, pair, bounded, left_of, right_of, unless_settled}
use Rattle.protocol.specs.Laws.{Lawful, Settles, done, step, LawfulOnWords}
use Rattle.protocol.specs.Places.{Advised}
use Rattle.protocol.proofs.Places.{reached_length}
use Rattle.protocol.proofs.Joining.{bounded_is, factors, pairs}
use Rattle.question.specs.Halves.{halves_reply, number_reply, meet_of_halves, advice_of_halves}
use Rattle.question.proofs.Halves.{halves_facts, number_is}
use Rattle.question.proofs.Units.{allowed_facts}

map_maps : (g f h : ℕ → ℕ) → ((x : ℕ) → g (f x) ≡ h x) → (xs : List ℕ) → map g (map f xs) ≡ map h xs
map_maps g f h same [] = refl
map_maps g f h same (x ∷ xs) = ap (λ y. y ∷ map g (map f xs)) (same x) ∙ ap (λ ys. h x ∷ ys) (map_maps g f h same xs)

grows : (a b : ℕ) → 0 < a → b ≤ a * b
grows a b h = omega (arith, le-mul_of_pos_right b h, mul_comm a b)

-- the two digits of a digit
left_digit : (unit lefts rights w : ℕ) → 0 < lefts → 0 < rights → left_of rights (state_read unit (lefts * rights) w) ≡ state_read (unit * rights) lefts w
left_digit unit lefts rights w hl hr =
    ap (λ x. x / rights) (mod-mul (w / unit) hl hr)
    ∙ digits_div _ (mod-lt (w / unit) hr)
    ∙ ap (λ x. x % lefts) (div-div-eq-div-mul w unit rights)

right_digit : (unit lefts rights w : ℕ) → 0 < lefts → 0 < rights → right_of rights (state_read unit (lefts * rights) w) ≡ state_read unit rights w
right_digit unit lefts rights w hl hr =
    ap (λ x. x % rights) (mod-mul (w / unit) hl hr)
    ∙ digits_mod (w / unit / rights % lefts) (mod-lt (w / unit) hr)

-- units for the halves of what a unit reads
pub half_units : (unit lefts rights : ℕ) → allowed_unit unit (bounded (lefts * rights)) ≡ true
    → (bounded (lefts * rights) ≡ lefts * rights) × (0 < lefts) × (0 < rights)
    × (allowed_unit (unit * rights) lefts ≡ true) × (allowed_unit unit rights ≡ true) × (unit * rights ≤ 2 ^ 32)
half_units unit lefts rights e =
    let it = allowed_facts unit (bounded (lefts * rights)) e in
    let same = bounded_is (lefts * rights) it.1 in
    let parts = factors lefts rights (omega arith) in
    let all : unit * (lefts * rights) ≤ 2 ^ 32 = subst (λ n. unit * n ≤ 2 ^ 32) same.0 it.2 in
    let regroup : unit * rights * lefts ≡ unit * (lefts * rights) = mul_assoc unit rights lefts ∙ ap (λ n. unit * n) (mul_comm rights lefts) in
    let less : unit * rights ≤ unit * (lefts * rights) = mul-le-mul_left unit (grows lefts rights parts.0) in
    let some : 0 < unit * rights = positive unit rights it.0 parts.1 in (
      same.0,
      parts.0,
      parts.1,
      and_from _ _ (lt-ltb 0 (unit * rights) some) (and_from _ _ (lt-ltb 0 lefts parts.0) (le-leb (unit * rights * lefts) (2 ^ 32) (omega arith))),
      and_from _ _ (lt-ltb 0 unit it.0) (and_from _ _ (lt-ltb 0 rights parts.1) (le-leb (unit * rights) (2 ^ 32) (omega arith))),
      omega arith,
    )
  where
    positive : (a b : ℕ) → 0 < a → 0 < b → 0 < a * b
    positive a b ha hb = omega (arith, grows a b ha)

-- two choices by one test, of which only what is taken at yes differs
same_test : {A : Type 0} (b : Bool) (x y z : A) → (b ≡ true → x ≡ y) → cond b x z ≡ cond b y z
same_test true x y z h = h refl
same_test false x y z h = refl

-- the advice on two questions in one number, by the advice on each
pub advice_joined : {A B : Type 0} (l : Protocol A) (r : Protocol B) (words : List ℕ) (unit : ℕ)
    → advice_of_halves l.tables.size r.tables.size (advice_reply l words) (advice_reply r words) words unit ≡ advice_reply (pair l r) words unit
advice_joined l r words unit =
    same_test _ _ _ Lost
    (λ asked.
    let two = and_parts (ltb 0 (length words)) (allowed_unit unit (pair l r).tables.size) asked in
    let it = half_units unit l.tables.size r.tables.size two.1 in
    let lefts = map_maps (left_of r.tables.size) (state_read unit (pair l r).tables.size) (state_read (unit * r.tables.size) l.tables.size)
    (λ w. ap (λ n. left_of r.tables.size (state_read unit n w)) it.0 ∙ left_digit unit _ _ w it.1 it.2) words in
    let rights = map_maps (right_of r.tables.size) (state_read unit (pair l r).tables.size) (state_read unit r.tables.size)
    (λ w. ap (λ n. right_of r.tables.size (state_read unit n w)) it.0 ∙ right_digit unit _ _ w it.1 it.2) words in
    ap (λ a. unless_settled a (advice_reply r words unit)) (cond-true _ _ _ (and_from _ _ two.0 it.3))
    ∙ ap (unless_settled (l.next (map (state_read (unit * r.tables.size) l.tables.size) words))) (cond-true _ _ _ (and_from _ _ two.0 it.4))
    ∙ ap (λ qs. unless_settled (l.next qs) (r.next (map (state_read unit r.tables.size) words))) (sym lefts)
    ∙ ap (λ qs. unless_settled (l.next (map (left_of r.tables.size) (map (state_read unit (pair l r).tables.size) words))) (r.next qs)) (sym rights))

-- what the halves of a number are
pub halves_some : (lefts rights state x y : ℕ) → halves_reply lefts rights state ≡ Some (x, y)
    → (state < bounded (lefts * rights)) × (x ≡ state / rights) × (y ≡ state % rights)
halves_some lefts rights state x y e =
    let it = cond_some (ltb state (bounded (lefts * rights))) (left_of rights state, right_of rights state) (x, y) e in
    (ltb-true state (bounded (lefts * rights)) it.0, sym (ap (λ p. p.0) it.1), sym (ap (λ p. p.1) it.1))

pub answer_joined : (f : Bool × Bool → Bool) (l r : Protocol Bool) (state x y : ℕ)
    → halves_reply l.tables.size r.tables.size state ≡ Some (x, y)
    → answer_reply (answered f (pair l r)).tables state ≡ f (answer_reply l.tables x, answer_reply r.tables y)
answer_joined f l r state x y e =
    let it = halves_some l.tables.size r.tables.size state x y e in
    let facts = halves_facts l.tables.size r.tables.size state it.0 in
    grind (arith, nat_tests)

-- known numbers meet by the table
pub meet_known_is : {A : Type 0} (t : Tables A) (a b : ℕ) → a < t.size → b < t.size → meet_reply t a b ≡ t.meet a b
meet_known_is t a b ha hb = cond-true _ _ (a, b) (and_from _ _ (lt-ltb a t.size ha) (lt-ltb b t.size hb))

-- a meeting of two questions in one number, by the meetings of each
pub meet_joined : {A B : Type 0} (l : Protocol A) (r : Protocol B) → Lawful l → Lawful r → (first second : ℕ)
    → meet_of_halves l.tables.size r.tables.size (meet_reply l.tables) (meet_reply r.tables) first second ≡ meet_reply (pair l r).tables first second
meet_joined l r ll lr first second =
    same_test _ _ _ (first, second)
    (λ known.
    let lefts = l.tables.size in
    let rights = r.tables.size in
    let two = and_parts (ltb first (pair l r).tables.size) (ltb second (pair l r).tables.size) known in
    let fs = halves_facts lefts rights first (ltb-true first _ two.0) in
    let gs = halves_facts lefts rights second (ltb-true second _ two.1) in
    let left = meet_known_is l.tables _ _ fs.2 gs.2 in
    let right = meet_known_is r.tables _ _ fs.3 gs.3 in
    let lk = ll.meet_known _ _ fs.2 gs.2 in
    let rk = lr.meet_known _ _ fs.3 gs.3 in
    pairs
    (ap (λ x. unwrap_or (number_reply lefts rights x.0 (meet_reply r.tables (right_of rights first) (right_of rights second)).0) first) left
    ∙ ap (λ x. unwrap_or (number_reply lefts rights (l.tables.meet (left_of rights first) (left_of rights second)).0 x.0) first) right
    ∙ ap (λ o. unwrap_or o first) (number_is lefts rights _ _ fs.5 lk.0 rk.0))
    (ap (λ x. unwrap_or (number_reply lefts rights x.1 (meet_reply r.tables (right_of rights first) (right_of rights second)).1) second) left
    ∙ ap (λ x. unwrap_or (number_reply lefts rights (l.tables.meet (left_of rights first) (left_of rights second)).1 x.1) second) right
    ∙ ap (λ o. unwrap_or o second) (number_is lefts rights _ _ fs.5 lk.1 rk.1)))

-- words that are not empty
pub nonempty : (words : List ℕ) → false ≡ eqb (length words) 0 → ltb 0 (length words) ≡ true
nonempty words e = lt-ltb 0 (length words) (let ne = eqb-false (length words) 0 (sym e) in omega arith)

-- where there are words and the unit is allowed, the advice is that on the states that the digit reads
pub advice_read : {A : Type 0} (p : Protocol A) (words : List ℕ) (unit size u s : ℕ) → size ≡ p.tables.size → true ≡ allowed_unit unit size
    → u ≡ unit → s ≡ size → ltb 0 (length words) ≡ true → advice_reply p words unit ≡ p.next (map (state_read u s) words)
advice_read p words unit size u s e ok f g some =
    cond-true _ _ _ (and_from _ _ some (ap (allowed_unit unit) (sym e) ∙ sym ok))
    ∙ ap (λ n. p.next (map (state_read unit n) words)) (sym e ∙ sym g)
    ∙ ap (λ n. p.next (map (state_read n s) words)) (sym f)

-- a symbol starts both halves
pub start_joined : {A B : Type 0} (l : Protocol A) (r : Protocol B) → Lawful l → Lawful r → (symbol : ℕ)
    → unwrap_or (number_reply l.tables.size r.tables.size (start_reply l.tables symbol) (start_reply r.tables symbol)) 0
    ≡ start_reply (pair l r).tables symbol
start_joined l r ll lr symbol =
    let left = ll.start_known symbol in
    let right = lr.start_known symbol in
    grind (arith, nat_tests, factors l.tables.size r.tables.size, zero-mul r.tables.size)

-- the advice of a load that settles
advised : {next : List ℕ → Advice} {meet : ℕ → ℕ → ℕ × ℕ} {n : ℕ} {states : List ℕ} {k : ℕ} → Settles next meet n states k → Advised n (next states)
advised {next} {meet} {n} {states} (done e) = subst (Advised n) (sym e) tt
advised {next} {meet} {n} {states} (step i j e apart rest) = subst (Advised n) (sym e) apart

-- the laws over words follow from those over states
pub words_lawful : {A : Type 0} (p : Protocol A) → Lawful p → LawfulOnWords p
words_lawful p law symbols words unit ok readings reached =
    let size = p.tables.size in
    let states : List ℕ = map (state_read unit size) words in
    let it = law.stable symbols states (allowed_facts unit size ok).1 readings reached in
    let long : length words ≡ length symbols = sym (length-map words (state_read unit size)) ∙ reached_length reached in
    let some = readings.some in
    let read : advice_reply p words unit ≡ p.next states = cond-true _ _ _ (and_from _ _ (lt-ltb 0 (length words) (omega arith)) ok) in
    record {
      read = read;
      advised = subst (Advised (length symbols)) (sym read) (advised it.settles);
      stable = it;
    }
