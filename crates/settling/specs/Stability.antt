-- Stable computation: no list of calls strands a load. Assumes nothing.
use Rattle.std.specs.Prelude.{◌≡◌, ℕ, ◌-◌, ◌*◌, ◌<◌, Bool, List, length}
use Rattle.reading.specs.Counting.{counts_of}
use Rattle.reading.specs.declared.Symbol.{Symbol}
use Rattle.protocol.specs.declared.Advice.TheVariants.{Lost}
use Rattle.protocol.specs.Places.{state_at}
use Rattle.protocol.specs.Protocols.{Protocol, answer_reply, advice_reply}
use Rattle.load.specs.Calls.{Call, Calls, Start, Request, Reply, Read, answered}
use Rattle.load.specs.Phases.{Phase, ready}
use Rattle.settling.specs.Following.{IsSettled, SettlesWith}

-- a load that was started with these symbols, and since then touched by a list of calls and by nothing else: where it is, and its words
pub record TouchedByCalls (p : Protocol Bool) (symbols : List Symbol) (phase : Phase) (words : List ℕ) : Type 0 where
  pub at_start : Phase
  pub words_at_start : List ℕ
  pub calls : List (Request × Reply)
  pub started : Start p symbols at_start words_at_start
  pub called : Calls p at_start words_at_start calls phase words

-- the load can still be settled, and where it is settled it has the truth for good
pub record StillComputes (p : Protocol Bool) (symbols : List Symbol) (phase : Phase) (words : List ℕ) : Type 0 where
  -- there is a known word for every tag, so that no call is refused for the words
  pub long : length words ≡ length symbols
  pub known : (place : ℕ) → place < length symbols → state_at words place < p.tables.size
  -- the advice is never Lost. What follows the advice is a list of calls too, so this holds at every step of it
  pub not_lost : advice_reply p words 1 ≡ Lost → ⊥
  -- where no meeting is open, following the advice settles the load after at most weight × (tags - 1) meetings
  pub settles : (tags : ℕ) → phase ≡ ready tags → (end : List ℕ) × SettlesWith p tags words (p.weight * (tags - 1)) end
  -- where the load is settled, every tag's answer is the truth of the counts at the start
  pub right : IsSettled p words → (place : ℕ) → place < length symbols
      → answer_reply p.tables (state_at words place) ≡ p.truth (counts_of symbols)
  -- and so is each granted read
  pub reads_right : IsSettled p words → {place : ℕ} {answer : Bool} {after : Phase} {left : List ℕ}
      → Call p (Read place) phase words (answered answer) after left → answer ≡ p.truth (counts_of symbols)
  -- where the load is settled, it is settled after every further list of calls
  pub stays : IsSettled p words → {calls : List (Request × Reply)} {after : Phase} {end : List ℕ}
      → Calls p phase words calls after end → IsSettled p end

-- wherever any list of calls, the empty one included, leaves a load after a granted start, the load still computes
abbrev pub StablyComputes : Protocol Bool → Type 0
StablyComputes p =
    (symbols : List Symbol) (phase : Phase) (words : List ℕ) → TouchedByCalls p symbols phase words → StillComputes p symbols phase words
