-- What each call asks, in this order, and what it answers by the verdict. Assumes nothing.
use Rattle.std.specs.Prelude.{ℕ, suc, Bool, not, ◌&&◌, List, [], ◌∷◌, map, length, Ok, Err, Result, ◌==◌, nat_le, nat_lt}
use Rattle.reading.specs.declared.Symbol.{Symbol}
use Rattle.refusal.specs.declared.Fault.{Fault}
use Rattle.refusal.specs.declared.Refusal.TheVariants.{QuestionTooLarge, TagCount, LengthMismatch, UnknownSymbol, NoSuchPlace, SamePlace, UnknownState}
use Rattle.refusal.specs.Checks.{Check, check, verdict}
use Rattle.protocol.specs.Places.{state_at}
use Rattle.protocol.specs.Protocols.{Tables, start_reply}

-- are there as many words as tags?
abbrev pub as_many_words : ℕ → List ℕ → Check
as_many_words tags words = check LengthMismatch (length words == tags) 0

-- is the place one of the load's?
abbrev pub place_within : ℕ → ℕ → Check
place_within tags place = check NoSuchPlace (nat_lt place tags) place

-- is the word at this place the number of a state?
abbrev pub word_known : ℕ → ℕ → ℕ → Check
word_known size place word = check UnknownState (nat_lt word size) place

-- is the symbol of the tag at this place a reading, one of a to h?
abbrev pub symbol_known : ℕ → Symbol → Check
symbol_known place symbol = check UnknownSymbol (nat_lt symbol.0 8) place

-- a question that is put to each of a list in turn, by its place; the places count from k
abbrev pub each_from : {X : Type 0} → (ℕ → X → Check) → ℕ → List X → List Check
each_from asked k [] = []
each_from asked k (x ∷ xs) = asked k x ∷ each_from asked (suc k) xs

module _ (t : Tables Bool) where
  -- what start asks
  abbrev pub start_checks : List Symbol → List ℕ → List Check
  start_checks symbols words =
      check QuestionTooLarge (nat_lt 0 t.size) 0
      ∷ check TagCount (nat_lt 0 (length symbols) && nat_le (length symbols) 1024) 0
      ∷ as_many_words (length symbols) words
      ∷ each_from symbol_known 0 symbols

  -- and its verdict
  abbrev pub start_verdict : List Symbol → List ℕ → Check
  start_verdict symbols words = verdict (start_checks symbols words)

  -- what open asks of a load with so many tags, of a first and a second place, and of the words
  abbrev pub open_checks : ℕ → ℕ → ℕ → List ℕ → List Check
  open_checks tags first second words =
      as_many_words tags words
      ∷ place_within tags first
      ∷ place_within tags second
      ∷ check SamePlace (not (first == second)) first
      ∷ word_known t.size first (state_at words first)
      ∷ word_known t.size second (state_at words second)
      ∷ []

  -- and its verdict
  abbrev pub open_verdict : ℕ → ℕ → ℕ → List ℕ → Check
  open_verdict tags first second words = verdict (open_checks tags first second words)

  -- what finish asks: the words are lent anew, so it does not rest on what open was lent
  abbrev pub finish_checks : ℕ → ℕ → ℕ → List ℕ → List Check
  finish_checks tags first second words =
      as_many_words tags words
      ∷ word_known t.size first (state_at words first)
      ∷ word_known t.size second (state_at words second)
      ∷ []

  -- and its verdict
  abbrev pub finish_verdict : ℕ → ℕ → ℕ → List ℕ → Check
  finish_verdict tags first second words = verdict (finish_checks tags first second words)

  -- what advise asks
  abbrev pub advise_checks : ℕ → List ℕ → List Check
  advise_checks tags words = as_many_words tags words ∷ each_from (word_known t.size) 0 words

  -- and its verdict
  abbrev pub advise_verdict : ℕ → List ℕ → Check
  advise_verdict tags words = verdict (advise_checks tags words)

  -- what read asks
  abbrev pub read_checks : ℕ → ℕ → List ℕ → List Check
  read_checks tags place words =
      as_many_words tags words ∷ place_within tags place ∷ word_known t.size place (state_at words place) ∷ []

  -- and its verdict
  abbrev pub read_verdict : ℕ → ℕ → List ℕ → Check
  read_verdict tags place words = verdict (read_checks tags place words)

  -- the words with which a load starts
  abbrev pub start_words : List Symbol → List ℕ
  start_words symbols = map (λ s. start_reply t s.0) symbols

-- the answer of a call: this where it is granted, else the fault
abbrev pub granted : {X : Type 0} → Check → X → Result X Fault
granted (Ok u) x = Ok x
granted (Err f) x = Err f

-- the same of a call that takes a load: refused, it gives the load back beside the fault
abbrev pub granted_or_back : {X Y : Type 0} → Check → X → Y → Result X (Fault × Y)
granted_or_back (Ok u) new old = Ok new
granted_or_back (Err f) new old = Err (f, old)
