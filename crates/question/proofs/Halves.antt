-- Two numbers in one, each way: each undoes the other. Assumes nothing.
use Rattle.std.proofs.Common.{◌≡◌, ℕ, ◌*◌, ◌/◌, ◌%◌, ◌^◌, ◌<◌, ◌≤◌, leb, Some, None, Option, ap, ◌∙◌, mod-lt, div-lt_iff_lt-mul, arith}
use lib.Arith.{digits_div, digits_mod, digits_lt}
use Rattle.std.proofs.lemmas.Bool.{cond-true, and_from, lt-ltb, le-leb}
use Rattle.protocol.specs.Joining.{bounded, joined}
use Rattle.protocol.proofs.Joining.{bounded_is, factors}
use Rattle.question.specs.Halves.{halves_reply, number_reply}

-- equal pairs have equal parts
pub some_parts : {a b x y : ℕ} → ◌≡◌ {A = Option (ℕ × ℕ)} (Some (a, b)) (Some (x, y)) → (a ≡ x) × (b ≡ y)
some_parts {a} {b} {x} {y} e =
    let same : ◌≡◌ {A = ℕ × ℕ} (a, b) (x, y) = cc in
    (ap (λ p. p.0) same, ap (λ p. p.1) same)

-- what a known number of two halves fulfils
pub halves_facts : (lefts rights state : ℕ) → state < bounded (lefts * rights)
    → (0 < lefts) × (0 < rights) × (state / rights < lefts) × (state % rights < rights) × (state < lefts * rights) × (lefts * rights ≤ 2 ^ 32)
halves_facts lefts rights state h =
    let same = bounded_is (lefts * rights) (omega arith) in
    let parts = factors lefts rights (omega arith) in
    let below : state < lefts * rights = omega arith in
    (parts.0, parts.1, (div-lt_iff_lt-mul parts.1).1 below, mod-lt state parts.1, below, same.1)

-- what two known halves of not too many fulfil
pub number_facts : (lefts rights left right : ℕ) → lefts * rights ≤ 2 ^ 32 → left < lefts → right < rights
    → (bounded (lefts * rights) ≡ lefts * rights) × (joined rights left right < lefts * rights)
number_facts lefts rights left right h l r =
    (cond-true (leb (lefts * rights) (2 ^ 32)) (lefts * rights) 0 (le-leb (lefts * rights) (2 ^ 32) h), digits_lt l r)

pub number_undone : (lefts rights left right : ℕ) → lefts * rights ≤ 2 ^ 32 → left < lefts → right < rights
    → halves_reply lefts rights (joined rights left right) ≡ Some (left, right)
number_undone lefts rights left right h l r =
    let it = number_facts lefts rights left right h l r in
    cond-true _ _ None (lt-ltb (joined rights left right) (bounded (lefts * rights)) (omega arith))
    ∙ two (digits_div left r) (digits_mod left r)
  where
    two : {a b c d : ℕ} → a ≡ c → b ≡ d → ◌≡◌ {A = Option (ℕ × ℕ)} (Some (a, b)) (Some (c, d))
    two e f = cc

-- the halves of the number of two halves are they
pub number_given : (lefts rights left right state : ℕ) → number_reply lefts rights left right ≡ Some state → halves_reply lefts rights state ≡ Some (left, right)
number_given lefts rights left right state e = grind (arith, number_undone lefts rights left right, e)

-- a number of known halves is known, and is theirs
pub number_is : (lefts rights left right : ℕ) → lefts * rights ≤ 2 ^ 32 → left < lefts → right < rights
    → number_reply lefts rights left right ≡ Some (joined rights left right)
number_is lefts rights left right h l r =
    let it = number_facts lefts rights left right h l r in
    cond-true _ _ None
    (and_from _ _ (lt-ltb 0 (bounded (lefts * rights)) (omega arith)) (and_from _ _ (lt-ltb left lefts l) (lt-ltb right rights r)))
