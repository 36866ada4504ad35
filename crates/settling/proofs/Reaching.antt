-- Words that a load can come to: each is known, the advice reads it as it stands, and it meets by the tables. Assumes nothing.
use Rattle.std.proofs.Common.{◌≡◌, ℕ, zero, suc, ◌<◌, Bool, List, [], ◌∷◌, map, length, get_or, sym, refl, ◌∙◌, subst, le_of_suc-le-suc, not-suc-le-zero, mod-eq_of_lt, div-one, arith}
use Rattle.std.proofs.lemmas.Bool.Decides.{nat_tests}
use Rattle.std.proofs.lemmas.Grind.{common_steps}
use Rattle.std.specs.List.{AllByRecursion}
use Rattle.reading.specs.declared.Symbol.{Symbol}
use Rattle.protocol.specs.Laws.{Lawful, Readings, Reached, started, met}
use Rattle.protocol.specs.Places.{Apart, meeting, state_at}
use Rattle.protocol.specs.Protocols.{Protocol, Tables, answer_reply, meet_reply, advice_reply, state_read}
use Rattle.protocol.proofs.Places.{length-meeting, reached_length}
use Rattle.load.specs.Asked.{start_words}
use Rattle.settling.proofs.Verdicts.{Fit}

-- known words meet by the tables
pub meets_known : (t : Tables Bool) (words : List ℕ) (i j : ℕ) → state_at words i < t.size → state_at words j < t.size
    → meeting (meet_reply t) words i j ≡ meeting t.meet words i j
meets_known t words i j hi hj = grind (arith, nat_tests)

-- and leave their meeting known
pub meeting_known : (p : Protocol Bool) → Lawful p → (tags : ℕ) (words : List ℕ) → Fit p.tables tags words → (i j : ℕ) → Apart tags i j
    → Fit p.tables tags (meeting p.tables.meet words i j)
meeting_known p law tags words fit i j apart =
    let t = p.tables in
    let left = law.meet_known (state_at words i) (state_at words j) (fit.known i apart.first_within) (fit.known j apart.second_within) in
    record {
      long = length-meeting t.meet words i j ∙ fit.long;
      known = λ place h. let known = fit.known place h in grind (arith, common_steps);
    }

starts_known : (start : ℕ → ℕ) (size : ℕ) → ((k : ℕ) → k < 8 → start k < size) → (symbols : List Symbol) → AllByRecursion (λ s. s.0 < 8) symbols
    → (place : ℕ) → place < length symbols → get_or (map (λ s. start s.0) symbols) place 0 < size
starts_known start size known [] each place h = absurd (not-suc-le-zero h)
starts_known start size known (s ∷ ss) each zero h = known s.0 each.0
starts_known start size known (s ∷ ss) each (suc place) h = starts_known start size known ss each.1 place (le_of_suc-le-suc h)

starts_by_table : (t : Tables Bool) → 0 < t.size → (symbols : List Symbol) → AllByRecursion (λ s. s.0 < 8) symbols
    → start_words t symbols ≡ map (λ s. t.start s.0) symbols
starts_by_table t big [] each = refl
starts_by_table t big (s ∷ ss) each =
    let rest = starts_by_table t big ss each.1 in grind (arith, nat_tests)

-- unit 1 reads a known word as itself
reads_itself : (size : ℕ) (words : List ℕ) → ((place : ℕ) → place < length words → get_or words place 0 < size) → map (state_read 1 size) words ≡ words
reads_itself size [] known = refl
reads_itself size (w ∷ ws) known =
    let here : state_read 1 size w ≡ w = rw div-one (mod-eq_of_lt (known 0 (omega arith))) in
    let rest = reads_itself size ws (λ place h. known (suc place) (omega arith)) in
    cc

-- the advice on known words is that on the states
pub advice_on_known : (p : Protocol Bool) → Lawful p → (tags : ℕ) (words : List ℕ) → 0 < tags → Fit p.tables tags words
    → advice_reply p words 1 ≡ p.next words
advice_on_known p law tags words some fit =
    let size = p.tables.size in
    let first = fit.known 0 some in
    let long = fit.long in
    let fits = law.size_fits in
    let reads = reads_itself size words (λ place h. fit.known place (subst (λ n. place < n) long h)) in
    grind (arith, nat_tests)

module _ (p : Protocol Bool) (law : Lawful p) (symbols : List Symbol) (readings : Readings symbols) (big : 0 < p.tables.size) where
  pub reached_fits : {words : List ℕ} → Reached p.tables.start p.tables.meet symbols words → Fit p.tables (length symbols) words
  reached_fits started =
      record {
        long = reached_length {start = p.tables.start} {meet = p.tables.meet} {symbols = symbols} started;
        known = starts_known p.tables.start p.tables.size (λ k h. law.start_known k h big) symbols readings.each;
      }
  reached_fits (met {states} before i j apart) = meeting_known p law (length symbols) states (reached_fits before) i j apart

  pub start_reached : Reached p.tables.start p.tables.meet symbols (start_words p.tables symbols)
  start_reached =
      subst (Reached p.tables.start p.tables.meet symbols) (sym (starts_by_table p.tables big symbols readings.each)) started

  pub advice_is : {words : List ℕ} → Reached p.tables.start p.tables.meet symbols words → advice_reply p words 1 ≡ p.next words
  advice_is {words} reached = advice_on_known p law (length symbols) words readings.some (reached_fits reached)

-- the answer of a known word is the table's
pub answers_known : (t : Tables Bool) (word : ℕ) → word < t.size → answer_reply t word ≡ t.answer word
answers_known t word h = grind (arith, nat_tests)
