-- Worked facts: a table of small questions and loads, worked by hand from the rules. Assumes nothing.
use Rattle.std.specs.Prelude.{◌≡◌, ℕ, Bool, true, false, List, [], ◌∷◌, map, pos, negsuc}
use Rattle.std.specs.List.{AllByRecursion}
use Rattle.protocol.specs.declared.Advice.TheVariants.{Meet, Settled}
use Rattle.protocol.specs.Protocols.{Protocol, Meaning, start_reply, answer_reply, meet_reply, advice_reply}
use Rattle.protocol.specs.Places.{meeting}
use Rattle.protocol.specs.Joining.{compiled}
use Rattle.protocol.specs.Presence.{presence}
use Rattle.protocol.specs.Threshold.{threshold}

-- following the advice from these states makes these meetings, each with the states that it leaves, until the load is settled
pub data Follows (p : Protocol Bool) : List ℕ → List ((ℕ × ℕ) × List ℕ) → Type 0 where
  settled : {states : List ℕ} → advice_reply p states 1 ≡ Settled → Follows p states []
  meets : {states left : List ℕ} {rest : List ((ℕ × ℕ) × List ℕ)} (first second : ℕ) → advice_reply p states 1 ≡ Meet first second
      → meeting (meet_reply p.tables) states first second ≡ left → Follows p left rest → Follows p states (((first, second), left) ∷ rest)

-- what a row of the table says of a question
pub data Fact : Type 0 where
  -- it has so many states
  size_is : Meaning → ℕ → Fact
  -- a symbol starts in this state
  starts : Meaning → ℕ → ℕ → Fact
  -- two states leave their meeting as two others
  meet_into : Meaning → ℕ × ℕ → ℕ × ℕ → Fact
  -- a load with these symbols starts in these states, is advised these meetings, each with what it leaves, and is settled with this answer of every tag
  load : Meaning → List ℕ → List ℕ → List ((ℕ × ℕ) × List ℕ) → Bool → Fact

-- the states after the last meeting
abbrev pub end_of : List ℕ → List ((ℕ × ℕ) × List ℕ) → List ℕ
end_of states [] = states
end_of states (m ∷ ms) = end_of m.1 ms

-- what a row says
abbrev pub Holds : Fact → Type 0
Holds (size_is m n) = m.protocol.tables.size ≡ n
Holds (starts m symbol state) = start_reply m.protocol.tables symbol ≡ state
Holds (meet_into m before after) = meet_reply m.protocol.tables before.0 before.1 ≡ after
Holds (load m symbols states meetings answer) =
    (map (start_reply m.protocol.tables) symbols ≡ states)
    × Follows m.protocol states meetings
    × AllByRecursion (λ state. answer_reply m.protocol.tables state ≡ answer) (end_of states meetings)

-- 3a < 7
abbrev pub three_a : Meaning
three_a = threshold (pos 3 ∷ pos 0 ∷ pos 0 ∷ pos 0 ∷ pos 0 ∷ pos 0 ∷ pos 0 ∷ pos 0 ∷ []) (pos 7)

-- -a < -2: true of a load with at least three a
abbrev pub minus_a : Meaning
minus_a = threshold (negsuc 0 ∷ pos 0 ∷ pos 0 ∷ pos 0 ∷ pos 0 ∷ pos 0 ∷ pos 0 ∷ pos 0 ∷ []) (negsuc 1)

-- any a and not any b: yes where the first lane answers yes and the second no
abbrev pub only_a : Meaning
only_a = compiled ((presence 1).protocol ∷ (presence 2).protocol ∷ []) 2

-- the table; a and b are the symbols 0 and 1
abbrev pub facts : List Fact
facts =
    size_is three_a 68
    ∷ starts three_a 0 47
    ∷ meet_into three_a (47, 47) (59, 33)
    ∷ load three_a (0 ∷ 0 ∷ 0 ∷ []) (47 ∷ 47 ∷ 47 ∷ [])
    (((0, 1), 59 ∷ 33 ∷ 47 ∷ []) ∷ ((0, 2), 66 ∷ 33 ∷ 36 ∷ []) ∷ ((0, 1), 66 ∷ 32 ∷ 36 ∷ []) ∷ []) false
    ∷ load minus_a (0 ∷ 0 ∷ 0 ∷ []) (10 ∷ 10 ∷ 10 ∷ [])
    (((0, 1), 6 ∷ 12 ∷ 10 ∷ []) ∷ ((0, 2), 3 ∷ 12 ∷ 13 ∷ []) ∷ ((0, 1), 3 ∷ 13 ∷ 13 ∷ []) ∷ []) true
    ∷ size_is only_a 4
    ∷ load only_a (0 ∷ 1 ∷ []) (2 ∷ 1 ∷ []) (((0, 1), 3 ∷ 3 ∷ []) ∷ []) false
    ∷ []

-- every row of the table holds
abbrev pub WorkedFactsHold : Type 0
WorkedFactsHold = AllByRecursion Holds facts
