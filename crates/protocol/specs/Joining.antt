-- Protocols made of protocols: several in one number, and an answer computed from answers. Assumes nothing.
use Rattle.std.specs.Prelude.{ℕ, ◌+◌, ◌*◌, ◌/◌, ◌%◌, ◌^◌, Bool, true, false, cond, not, List, [], ◌∷◌, map, ◌==◌, nat_le}
use Rattle.protocol.specs.declared.Advice.{Advice}
use Rattle.protocol.specs.declared.Advice.TheVariants.{Meet, Settled, Lost}
use Rattle.protocol.specs.Protocols.{Tables, Protocol, Meaning}

-- the same protocol with another answer, computed from its own
abbrev pub answered : {A B : Type 0} → (A → B) → Protocol A → Protocol B
answered f p = record {
  tables = record {
    size = p.tables.size;
    start = p.tables.start;
    answer = λ state. f (p.tables.answer state);
    meet = p.tables.meet;
  };
  weight = p.weight;
  next = p.next;
  truth = λ counts. f (p.truth counts);
}

-- a number of states that fits words of 32 bits, else 0
abbrev pub bounded : ℕ → ℕ
bounded n = cond (nat_le n (2 ^ 32)) n 0

-- the first advice unless it is Settled, then the second
abbrev pub unless_settled : Advice → Advice → Advice
unless_settled (Meet first second) then = Meet first second
unless_settled Settled then = then
unless_settled Lost then = Lost

-- a left and a right number in one: left × base + right, the base being the size of the right
abbrev pub joined : ℕ → ℕ → ℕ → ℕ
joined base left right = left * base + right

-- the left number
abbrev pub left_of : ℕ → ℕ → ℕ
left_of base state = state / base

-- the right number
abbrev pub right_of : ℕ → ℕ → ℕ
right_of base state = state % base

-- two protocols in one number: every symbol starts both, every meeting meets both, and the left is settled first
abbrev pub pair : {A B : Type 0} → Protocol A → Protocol B → Protocol (A × B)
pair l r =
    let base : ℕ = r.tables.size in
    let size : ℕ = bounded (l.tables.size * base) in
    record {
      tables = record {
        size = size;
        start = λ symbol. joined base (l.tables.start symbol) (r.tables.start symbol);
        answer = λ state. (l.tables.answer (left_of base state), r.tables.answer (right_of base state));
        meet = λ a b.
            let left : ℕ × ℕ = l.tables.meet (left_of base a) (left_of base b) in
            let right : ℕ × ℕ = r.tables.meet (right_of base a) (right_of base b) in
            (joined base left.0 right.0, joined base left.1 right.1);
      };
      weight = cond (size == 0) 0 (l.weight + r.weight);
      next = λ states. unless_settled (l.next (map (left_of base) states)) (r.next (map (right_of base) states));
      truth = λ counts. (l.truth counts, r.truth counts);
    }

-- the protocol of one state, always settled: no lane at all
abbrev pub none : Protocol (List Bool)
none = record {
  tables = record { size = 1; start = λ _. 0; answer = λ _. []; meet = λ a b. (a, b) };
  weight = 0;
  next = λ _. Settled;
  truth = λ _. [];
}

-- lanes in one number, the first highest; the answer is the list of theirs
abbrev pub lanes : List (Protocol Bool) → Protocol (List Bool)
lanes [] = none
lanes (p ∷ ps) = answered (λ halves. halves.0 ∷ halves.1) (pair p (lanes ps))

-- 1 for yes, 0 for no
abbrev pub one_if : Bool → ℕ
one_if true = 1
one_if false = 0

-- bit k of a number
abbrev pub bit_at : ℕ → ℕ → Bool
bit_at number k = number / 2 ^ k % 2 == 1

-- the answers as a number: 2^k for each lane k that answers yes
abbrev pub answers_number : List Bool → ℕ
answers_number [] = 0
answers_number (b ∷ bs) = one_if b + 2 * answers_number bs

-- Not (N): the answer and the truth reversed
abbrev pub negated : Meaning → Meaning
negated m = record { kind = 78; protocol = answered not m.protocol }

-- Both (B): the answer is bit 2 × left + right of the rule
abbrev pub both : ℕ → Meaning → Meaning → Meaning
both rule l r = record {
  kind = 66;
  protocol = answered (λ b. bit_at rule (2 * one_if b.0 + one_if b.1)) (pair l.protocol r.protocol);
}

-- compiled (C): lanes and a truth table
abbrev pub compiled : List (Protocol Bool) → ℕ → Meaning
compiled ps table = record { kind = 67; protocol = answered (λ bs. bit_at table (answers_number bs)) (lanes ps) }
