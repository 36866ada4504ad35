-- What every question owes: from all that meetings can leave, its advice settles the load, and a settled load answers the truth. Assumes nothing.
use Rattle.std.specs.Prelude.{◌≡◌, ℕ, suc, ◌-◌, ◌*◌, ◌^◌, ◌<◌, ◌≤◌, true, List, map, length}
use Rattle.std.specs.List.{AllByRecursion}
use Rattle.reading.specs.Counting.{counts_of}
use Rattle.reading.specs.declared.Symbol.{Symbol}
use Rattle.protocol.specs.declared.Advice.{Advice}
use Rattle.protocol.specs.declared.Advice.TheVariants.{Meet, Settled}
use Rattle.protocol.specs.Protocols.{Tables, Protocol, state_read, allowed_unit, advice_reply}
use Rattle.protocol.specs.Places.{Apart, Advised, meeting, state_at}

-- the readings of a load: 1 to 1,024 tags, each with a symbol from 0 to 7
pub record Readings (symbols : List Symbol) : Type 0 where
  pub some : 0 < length symbols
  pub few : length symbols ≤ 1024
  pub each : AllByRecursion (λ s. s.0 < 8) symbols

-- the states that a load with these symbols can come to: those it starts in, and those that any meetings of two different places leave
pub data Reached (start : ℕ → ℕ) (meet : ℕ → ℕ → ℕ × ℕ) (symbols : List Symbol) : List ℕ → Type 0 where
  started : Reached start meet symbols (map (λ s. start s.0) symbols)
  met : {states : List ℕ} → Reached start meet symbols states
      → (first second : ℕ) → Apart (length symbols) first second
      → Reached start meet symbols (meeting meet states first second)

-- following the advice from these states settles a load of n tags after at most k meetings, each of two different places of the load
pub data Settles (next : List ℕ → Advice) (meet : ℕ → ℕ → ℕ × ℕ) (n : ℕ) : List ℕ → ℕ → Type 0 where
  done : {states : List ℕ} {k : ℕ} → next states ≡ Settled → Settles next meet n states k
  step : {states : List ℕ} {k : ℕ} (first second : ℕ) → next states ≡ Meet first second → Apart n first second
      → Settles next meet n (meeting meet states first second) k
      → Settles next meet n states (suc k)

-- what is owed wherever the meetings of a load with these symbols have left it
pub record Stable {A : Type 0} (p : Protocol A) (symbols : List Symbol) (states : List ℕ) : Type 0 where
  -- the advice settles the load
  pub settles : Settles p.next p.tables.meet (length symbols) states (p.weight * (length symbols - 1))
  -- where the load is settled, every tag's answer is the truth of the counts at the start
  pub right : p.next states ≡ Settled → (place : ℕ) → place < length symbols
      → p.tables.answer (state_at states place) ≡ p.truth (counts_of symbols)
  -- where the load is settled, it is settled after any one meeting
  pub stays : p.next states ≡ Settled → (first second : ℕ) → Apart (length symbols) first second
      → p.next (meeting p.tables.meet states first second) ≡ Settled

-- the laws of a protocol. They speak of states; what they say of words and a unit is stated last, and follows
pub record Lawful {A : Type 0} (p : Protocol A) : Type 0 where
  pub size_fits : p.tables.size ≤ 2 ^ 32
  pub weight_fits : p.weight ≤ 65536 * (p.tables.size - 1)
  -- a symbol starts in a known state
  pub start_known : (symbol : ℕ) → symbol < 8 → 0 < p.tables.size → p.tables.start symbol < p.tables.size
  -- known states leave a meeting as known states
  pub meet_known : (first second : ℕ) → first < p.tables.size → second < p.tables.size
      → ((p.tables.meet first second).0 < p.tables.size) × ((p.tables.meet first second).1 < p.tables.size)
  -- wherever the meetings of a load leave it
  pub stable : (symbols : List Symbol) (states : List ℕ) → 0 < p.tables.size → Readings symbols
      → Reached p.tables.start p.tables.meet symbols states → Stable p symbols states

-- the same of words in which a unit reads states that a load with these symbols can come to
pub record StableWords {A : Type 0} (p : Protocol A) (symbols : List Symbol) (words : List ℕ) (unit : ℕ) : Type 0 where
  -- the advice is that on the states read
  pub read : advice_reply p words unit ≡ p.next (map (state_read unit p.tables.size) words)
  -- it names two different places of the load, or is Settled
  pub advised : Advised (length symbols) (advice_reply p words unit)
  -- and the states read are settled by it, answer the truth where it is Settled, and stay so
  pub stable : Stable p symbols (map (state_read unit p.tables.size) words)

-- of all words that an allowed unit reads as states that a load can come to
abbrev pub LawfulOnWords : {A : Type 0} → Protocol A → Type 0
LawfulOnWords p =
    (symbols : List Symbol) (words : List ℕ) (unit : ℕ) → allowed_unit unit p.tables.size ≡ true → Readings symbols
    → Reached p.tables.start p.tables.meet symbols (map (state_read unit p.tables.size) words) → StableWords p symbols words unit
