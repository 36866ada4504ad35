-- What a question is: one value, from which each reply of the interface is read. Assumes nothing.
use Rattle.std.specs.Prelude.{ℕ, ◌*◌, ◌/◌, ◌%◌, ◌^◌, Bool, false, cond, ◌&&◌, List, map, length, nat_le, nat_lt}
use Rattle.protocol.specs.declared.Advice.{Advice}
use Rattle.protocol.specs.declared.Advice.TheVariants.{Lost}

-- the tables of a protocol whose tags answer in A; they apply to known numbers, those below the size, and to the symbols 0 to 7
pub record Tables (A : Type 0) : Type 0 where
  -- how many states there are
  pub size : ℕ
  -- the state in which a tag with this symbol starts
  pub start : ℕ → ℕ
  -- what a tag in this state answers
  pub answer : ℕ → A
  -- the states that a first and a second tag leave their meeting with
  pub meet : ℕ → ℕ → ℕ × ℕ

-- a protocol with advice and a truth
pub record Protocol (A : Type 0) : Type 0 where
  pub tables : Tables A
  -- the advised meetings that a load needs at most, for each tag but one
  pub weight : ℕ
  -- the advice for a load whose tags are in these states, in the order of their places
  pub next : List ℕ → Advice
  -- the answer that is owed, for the eight counts of the symbols at the start
  pub truth : List ℕ → A

-- the meaning of a question: its letter, and a protocol that answers yes or no
pub record Meaning : Type 0 where
  pub kind : ℕ
  pub protocol : Protocol Bool

-- The replies. Each is total: it says what is answered on all input.

-- the start of a symbol: 0 for a symbol above 7, and where there is no state
abbrev pub start_reply : {A : Type 0} → Tables A → ℕ → ℕ
start_reply t symbol = cond (nat_lt symbol 8 && nat_lt 0 t.size) (t.start symbol) 0

-- the answer of a number: no for an unknown one
abbrev pub answer_reply : Tables Bool → ℕ → Bool
answer_reply t state = cond (nat_lt state t.size) (t.answer state) false

-- a meeting: two numbers of which one is unknown come back unaltered
abbrev pub meet_reply : {A : Type 0} → Tables A → ℕ → ℕ → ℕ × ℕ
meet_reply t first second =
    cond (nat_lt first t.size && nat_lt second t.size) (t.meet first second) (first, second)

-- the state number that a unit reads in a word: a digit of the word
abbrev pub state_read : ℕ → ℕ → ℕ → ℕ
state_read unit size word = (word / unit) % size

-- the units with which states of this many can be read in words of 32 bits
abbrev pub allowed_unit : ℕ → ℕ → Bool
allowed_unit unit size = nat_lt 0 unit && (nat_lt 0 size && nat_le (unit * size) (2 ^ 32))

-- the advice on words with a unit: it depends on the state numbers read, and on nothing else
abbrev pub advice_reply : {A : Type 0} → Protocol A → List ℕ → ℕ → Advice
advice_reply p words unit =
    cond (nat_lt 0 (length words) && allowed_unit unit p.tables.size)
    (p.next (map (state_read unit p.tables.size) words))
    Lost
