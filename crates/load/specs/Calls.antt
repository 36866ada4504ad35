-- The calls on a load: what one of them may do, and what a list of them is. Assumes nothing.
use Rattle.std.specs.Prelude.{◌≡◌, ℕ, Bool, List, [], ◌∷◌, length, Ok, Err, Result}
use Rattle.reading.specs.declared.Symbol.{Symbol}
use Rattle.refusal.specs.declared.Fault.{Fault}
use Rattle.refusal.specs.declared.Refusal.TheVariants.{LengthMismatch}
use Rattle.protocol.specs.declared.Advice.{Advice}
use Rattle.protocol.specs.Places.{meeting, state_at}
use Rattle.protocol.specs.Protocols.{Protocol, answer_reply, meet_reply, advice_reply}
use Rattle.load.specs.Asked.{start_verdict, open_verdict, finish_verdict, advise_verdict, read_verdict, start_words}
use Rattle.load.specs.Phases.{Phase, ready, opened}

-- what is asked of a load
pub data Request : Type 0 where
  -- to open a meeting of a first and a second place
  Open : ℕ → ℕ → Request
  -- to finish the open meeting, or to break it off
  Finish : Request
  BreakOff : Request
  -- which two should meet next
  Advise : Request
  -- what the tag at this place answers
  Read : ℕ → Request

-- what is replied
pub data Reply : Type 0 where
  refused : Fault → Reply
  done : Reply
  advised : Advice → Reply
  answered : Bool → Reply

-- one call: what is asked of a load in this phase, with these words lent, the reply, and the phase and the words after it.
-- Where no line fits, as for an open while a meeting is open, there is no such call: a program that makes it is refused by the compiler
pub data Call (p : Protocol Bool) : Request → Phase → List ℕ → Reply → Phase → List ℕ → Type 0 where
  open_granted : {tags first second : ℕ} {words : List ℕ} → open_verdict p.tables tags first second words ≡ Ok tt
      → Call p (Open first second) (ready tags) words done (opened tags first second) words
  open_refused : {tags first second : ℕ} {words : List ℕ} {f : Fault} → open_verdict p.tables tags first second words ≡ Err f
      → Call p (Open first second) (ready tags) words (refused f) (ready tags) words
  -- only this call writes: the two met numbers, at the two places
  finish_granted : {tags first second : ℕ} {words : List ℕ} → finish_verdict p.tables tags first second words ≡ Ok tt
      → Call p Finish (opened tags first second) words done (ready tags) (meeting (meet_reply p.tables) words first second)
  finish_refused : {tags first second : ℕ} {words : List ℕ} {f : Fault} → finish_verdict p.tables tags first second words ≡ Err f
      → Call p Finish (opened tags first second) words (refused f) (opened tags first second) words
  broken_off : {tags first second : ℕ} {words : List ℕ}
      → Call p BreakOff (opened tags first second) words done (ready tags) words
  advise_granted : {tags : ℕ} {words : List ℕ} → advise_verdict p.tables tags words ≡ Ok tt
      → Call p Advise (ready tags) words (advised (advice_reply p words 1)) (ready tags) words
  advise_refused : {tags : ℕ} {words : List ℕ} {f : Fault} → advise_verdict p.tables tags words ≡ Err f
      → Call p Advise (ready tags) words (refused f) (ready tags) words
  read_granted : {tags place : ℕ} {words : List ℕ} → read_verdict p.tables tags place words ≡ Ok tt
      → Call p (Read place) (ready tags) words (answered (answer_reply p.tables (state_at words place))) (ready tags) words
  read_refused : {tags place : ℕ} {words : List ℕ} {f : Fault} → read_verdict p.tables tags place words ≡ Err f
      → Call p (Read place) (ready tags) words (refused f) (ready tags) words

-- a list of calls, with the phase and the words that it begins and ends with. Each takes the load as the one before left it
pub data Calls (p : Protocol Bool) : Phase → List ℕ → List (Request × Reply) → Phase → List ℕ → Type 0 where
  -- the empty list
  none : {phase : Phase} {words : List ℕ} → Calls p phase words [] phase words
  -- a call with the words as the one before left them, and then the rest
  call : {request : Request} {reply : Reply} {rest : List (Request × Reply)} {before between after : Phase} {words left end : List ℕ}
      → Call p request before words reply between left
      → Calls p between left rest after end
      → Calls p before words ((request, reply) ∷ rest) after end
  -- a call that came with other words and was refused for their number: the load's own words are as they were
  other_words : {request : Request} {f : Fault} {rest : List (Request × Reply)} {before between after : Phase} {words lent same end : List ℕ}
      → f.refusal ≡ LengthMismatch
      → Call p request before lent (refused f) between same
      → Calls p between words rest after end
      → Calls p before words ((request, refused f) ∷ rest) after end

-- a granted start with these symbols: the ready load that it gives, and the words that it writes
pub data Start (p : Protocol Bool) (symbols : List Symbol) : Phase → List ℕ → Type 0 where
  started : (words : List ℕ) → start_verdict p.tables symbols words ≡ Ok tt
      → Start p symbols (ready (length symbols)) (start_words p.tables symbols)

-- the reply of a call that takes a load
abbrev pub reply_of : Result Phase (Fault × Phase) → Reply
reply_of (Ok load) = done
reply_of (Err back) = refused back.0

-- and where the load is after it
abbrev pub phase_of : Result Phase (Fault × Phase) → Phase
phase_of (Ok load) = load
phase_of (Err back) = back.1

-- the reply of a call that only looks, by what it gives where it is granted
abbrev pub look_reply : {X : Type 0} → (X → Reply) → Result X Fault → Reply
look_reply given (Ok x) = given x
look_reply given (Err f) = refused f
