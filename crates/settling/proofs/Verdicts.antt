-- What a granted call says of its input, and what grants a call. Assumes nothing.
use Rattle.std.proofs.Common.{◌≡◌, ℕ, zero, suc, ◌<◌, ◌≤◌, Bool, List, [], ◌∷◌, length, get_or, Ok, Err, sym, refl, subst, le_of_suc-le-suc, not-suc-le-zero, arith}
use Rattle.std.proofs.lemmas.Bool.Decides.{nat_tests}
use Rattle.std.specs.List.{AllByRecursion}
use Rattle.reading.specs.declared.Symbol.{Symbol}
use Rattle.refusal.specs.declared.Fault.{Fault}
use Rattle.refusal.specs.Checks.{Check, verdict}
use Rattle.protocol.specs.Laws.{Readings}
use Rattle.protocol.specs.Places.{Apart, state_at}
use Rattle.protocol.specs.Protocols.{Tables}
use Rattle.load.specs.Asked.{each_from, symbol_known, word_known, start_verdict, open_verdict, finish_verdict, advise_verdict, read_verdict, granted}

-- a granted answer was granted, and is what is given then
pub granted_ok : (v : Check) {X : Type 0} (x y : X) → Ok x ≡ granted v y → (v ≡ Ok tt) × (x ≡ y)
granted_ok (Ok u) x y e = (refl, (cc))
granted_ok (Err f) x y e = cc

-- a refused one was refused
pub granted_err : (v : Check) {X : Type 0} (f : Fault) (y : X) → Err f ≡ granted v y → v ≡ Err f
granted_err (Ok u) f y e = cc
granted_err (Err g) f y e = cc

symbols_known : (symbols : List Symbol) (k : ℕ) → verdict (each_from symbol_known k symbols) ≡ Ok tt → AllByRecursion (λ s. s.0 < 8) symbols
symbols_known [] k e = tt
symbols_known (s ∷ ss) k e =
    let it : (s.0 < 8) × (verdict (each_from symbol_known (suc k) ss) ≡ Ok tt) = grind (arith, nat_tests) in
    (it.0, symbols_known ss (suc k) it.1)

-- a granted start has a question with states, and readings
pub start_facts : (t : Tables Bool) (symbols : List Symbol) (words : List ℕ) → start_verdict t symbols words ≡ Ok tt
    → (0 < t.size) × Readings symbols
start_facts t symbols words e =
    let it : (0 < t.size) × (0 < length symbols) × (length symbols ≤ 1024) × (verdict (each_from symbol_known 0 symbols) ≡ Ok tt) = grind (arith, nat_tests) in
    (it.0, record { some = it.1; few = it.2; each = symbols_known symbols 0 it.3 })

words_grant : (size : ℕ) (words : List ℕ) (k : ℕ) → ((place : ℕ) → place < length words → get_or words place 0 < size)
    → verdict (each_from (word_known size) k words) ≡ Ok tt
words_grant size [] k known = refl
words_grant size (w ∷ ws) k known =
    let first = known 0 (omega arith) in
    let rest = words_grant size ws (suc k) (λ place h. known (suc place) (omega arith)) in
    grind (arith, nat_tests)

words_known : (size : ℕ) (words : List ℕ) (k : ℕ) → verdict (each_from (word_known size) k words) ≡ Ok tt
    → (place : ℕ) → place < length words → get_or words place 0 < size
words_known size [] k e place h = absurd (not-suc-le-zero h)
words_known size (w ∷ ws) k e zero h = grind (arith, nat_tests)
words_known size (w ∷ ws) k e (suc place) h = words_known size ws (suc k) (grind (arith, nat_tests)) place (le_of_suc-le-suc h)

module _ (t : Tables Bool) (tags : ℕ) (words : List ℕ) where
  -- the words are as many as the tags, and each is a known state
  pub record Fit : Type 0 where
    pub long : length words ≡ tags
    pub known : (place : ℕ) → place < tags → state_at words place < t.size

  -- a granted open has two different places of the load, and knows both words
  pub open_facts : (first second : ℕ) → open_verdict t tags first second words ≡ Ok tt
      → (length words ≡ tags) × Apart tags first second × (state_at words first < t.size) × (state_at words second < t.size)
  open_facts first second e = grind (arith, nat_tests)

  -- a finish is granted where there are as many words as tags and it knows both
  pub finish_grants : (first second : ℕ) → length words ≡ tags → state_at words first < t.size → state_at words second < t.size
      → finish_verdict t tags first second words ≡ Ok tt
  finish_grants first second long one two = grind (arith, nat_tests)

  -- what it has opened is not refused when it is finished
  pub open_finishes : (first second : ℕ) → open_verdict t tags first second words ≡ Ok tt → finish_verdict t tags first second words ≡ Ok tt
  open_finishes first second e = grind (arith, nat_tests)

  -- a granted read has a place of the load
  pub read_facts : (place : ℕ) → read_verdict t tags place words ≡ Ok tt → place < tags
  read_facts place e = grind (arith, nat_tests)

  -- advise is granted exactly where the words fit
  pub advise_facts : advise_verdict t tags words ≡ Ok tt → Fit
  advise_facts e =
      let it : (length words ≡ tags) × (verdict (each_from (word_known t.size) 0 words) ≡ Ok tt) = grind (arith, nat_tests) in
      record { long = it.0; known = λ place h. words_known t.size words 0 it.1 place (subst (λ n. place < n) (sym it.0) h) }

  module _ (fit : Fit) where
    pub advise_grants : advise_verdict t tags words ≡ Ok tt
    advise_grants =
        let each = words_grant t.size words 0 (λ place h. fit.known place (subst (λ n. place < n) fit.long h)) in
        grind (arith, nat_tests)

    pub open_grants : (first second : ℕ) → Apart tags first second → open_verdict t tags first second words ≡ Ok tt
    open_grants first second apart = grind (arith, nat_tests)

    pub read_grants : (place : ℕ) → place < tags → read_verdict t tags place words ≡ Ok tt
    read_grants place h = grind (arith, nat_tests)
