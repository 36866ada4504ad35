-- Presence: does any tag have a symbol of a mask? Assumes nothing.
use Rattle.std.specs.Prelude.{ℕ, ◌+◌, max, Bool, true, false, ◌&&◌, ◌||◌, List, [], ◌∷◌, length, ◌==◌, nat_eq, nat_lt}
use Rattle.protocol.specs.declared.Advice.{Advice}
use Rattle.protocol.specs.Protocols.{Protocol, Meaning}
use Rattle.protocol.specs.Places.{state_at, lowest, paired}
use Rattle.protocol.specs.Joining.{one_if, bit_at}

-- some count, the first being that of the symbol k, is not 0 and in the mask
abbrev pub present_from : ℕ → ℕ → List ℕ → Bool
present_from mask k [] = false
present_from mask k (n ∷ ns) = (bit_at mask k && nat_lt 0 n) || present_from mask (k + 1) ns

-- where both states occur the lowest tag in state 1 meets the lowest in state 0
abbrev pub next_of : List ℕ → Advice
next_of states =
    let n : ℕ = length states in
    paired (lowest (λ place. nat_eq (state_at states place) 1) n) (lowest (λ place. nat_eq (state_at states place) 0) n)

-- the whole, by a mask with bit i for symbol i
abbrev pub presence_protocol : ℕ → Protocol Bool
presence_protocol mask = record {
  tables = record {
    size = 2;
    start = λ symbol. one_if (bit_at mask symbol);
    answer = λ state. (state == 1);
    meet = λ a b. (max a b, max a b);
  };
  weight = 1;
  next = next_of;
  truth = present_from mask 0;
}

-- the question (P)
abbrev pub presence : ℕ → Meaning
presence mask = record { kind = 80; protocol = presence_protocol mask }
