-- What a lane means, and several of them. Assumes nothing.
use Rattle.std.specs.Prelude.{ℕ, ◌+◌, ◌*◌, ◌^◌, Bool, true, false, cond, ◌&&◌, List, [], ◌∷◌, ◌++◌, map, length, Some, None, Option, nat_le, nat_lt, slice_index}
use Rattle.refusal.specs.Checks.{Check, check}
use Rattle.refusal.specs.declared.Refusal.TheVariants.{NumberRange, TooManyAtoms, TooManyStates, LengthMismatch}
use Rattle.protocol.specs.Protocols.{Meaning, Protocol}
use Rattle.protocol.specs.Joining.{lanes, joined, left_of, right_of}
use Rattle.protocol.specs.Presence.{presence}
use Rattle.protocol.specs.Remainder.{remainder}
use Rattle.protocol.specs.Threshold.{threshold}
use Rattle.compiled.specs.declared.lane.Lane.{Lane}
use Rattle.compiled.specs.declared.lane.Lane.TheVariants.{Threshold, Remainder, Presence}

-- a lane means what its question means
abbrev pub lane_meaning : Lane → Meaning
lane_meaning (Threshold q) = threshold q.coefficients q.bound
lane_meaning (Remainder q) = remainder q.coefficients q.modulus q.residue
lane_meaning (Presence q) = presence q.mask

-- the protocols of lanes
abbrev pub lane_protocols : List Lane → List (Protocol Bool)
lane_protocols ls = map (λ l. (lane_meaning l).protocol) ls

-- lanes in one number, the first highest
abbrev pub lanes_of : List Lane → Protocol (List Bool)
lanes_of ls = lanes (lane_protocols ls)

-- one number a lane, in the order of the lanes
abbrev pub split_number : List Lane → ℕ → List ℕ
split_number [] state = []
split_number (l ∷ ls) state = left_of (lanes_of ls).tables.size state ∷ split_number ls (right_of (lanes_of ls).tables.size state)

-- the number of one number a lane
abbrev pub join_numbers : List Lane → List ℕ → ℕ
join_numbers [] ns = 0
join_numbers (l ∷ ls) [] = 0
join_numbers (l ∷ ls) (n ∷ ns) = joined (lanes_of ls).tables.size n (join_numbers ls ns)

-- as many numbers as lanes, each known in its lane
abbrev pub each_known : List Lane → List ℕ → Bool
each_known [] [] = true
each_known [] (n ∷ ns) = false
each_known (l ∷ ls) [] = false
each_known (l ∷ ls) (n ∷ ns) = nat_lt n (lane_meaning l).protocol.tables.size && each_known ls ns

-- the number of a lane in a state: none for an unknown state or a lane that is not there
abbrev pub lane_state_reply : List Lane → ℕ → ℕ → Option ℕ
lane_state_reply ls lane state =
    cond (nat_lt lane (length ls) && nat_lt state (lanes_of ls).tables.size) (Some (slice_index (split_number ls state) lane)) None

-- the state of one number a lane, where there are not too many
abbrev pub number_reply : List Lane → List ℕ → Option ℕ
number_reply ls ns = cond (nat_lt 0 (lanes_of ls).tables.size && each_known ls ns) (Some (join_numbers ls ns)) None

-- with each lane, from place k on, the product of the sizes up to it, p being that of those before, still fits words of 32 bits
abbrev pub states_checks : ℕ → ℕ → List Lane → List Check
states_checks p k [] = []
states_checks p k (l ∷ ls) =
    check TooManyStates (nat_le (p * (lane_meaning l).protocol.tables.size) (2 ^ 32)) k
    ∷ states_checks (p * (lane_meaning l).protocol.tables.size) (k + 1) ls

-- what is asked of the lanes and the table of which a question is made
abbrev pub lanes_checks : List Lane → ℕ → List Check
lanes_checks ls table =
    check LengthMismatch (nat_lt 0 (length ls)) 0
    ∷ check TooManyAtoms (nat_le (length ls) 6) 6
    ∷ (states_checks 1 0 ls ++ (check NumberRange (nat_lt table (2 ^ (2 ^ length ls))) 0 ∷ []))
