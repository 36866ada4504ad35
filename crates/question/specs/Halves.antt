-- The state numbers of two questions in one number, each way, and the replies by those of the halves. Assumes nothing.
use Rattle.std.specs.Prelude.{◌≡◌, ℕ, ◌*◌, ◌^◌, ◌<◌, cond, ◌&&◌, List, length, Some, None, Option, unwrap_or, nat_lt}
use Rattle.protocol.specs.Joining.{bounded, joined, left_of, right_of, unless_settled}
use Rattle.protocol.specs.Protocols.{allowed_unit}
use Rattle.protocol.specs.declared.Advice.{Advice}
use Rattle.protocol.specs.declared.Advice.TheVariants.{Lost}

-- the left and the right number in a known number, by the two sizes
abbrev pub halves_reply : ℕ → ℕ → ℕ → Option (ℕ × ℕ)
halves_reply lefts rights state =
    cond (nat_lt state (bounded (lefts * rights))) (Some (left_of rights state, right_of rights state)) None

-- the number of a known left and a known right number, where there are not too many
abbrev pub number_reply : ℕ → ℕ → ℕ → ℕ → Option ℕ
number_reply lefts rights left right =
    cond (nat_lt 0 (bounded (lefts * rights)) && (nat_lt left lefts && nat_lt right rights)) (Some (joined rights left right)) None

-- whatever a call for two states may give is what they leave this meeting with
abbrev pub MeetsAs : (ℕ → ℕ → ℕ × ℕ → Type 0) → (ℕ → ℕ → ℕ × ℕ) → Type 0
MeetsAs post met = (a b : ℕ) (p : ℕ × ℕ) → a < 2 ^ 32 → b < 2 ^ 32 → post a b p → p ≡ met a b

-- a meeting, by that of the left and that of the right halves: two numbers of which one is unknown come back unaltered
abbrev pub meet_of_halves : ℕ → ℕ → (ℕ → ℕ → ℕ × ℕ) → (ℕ → ℕ → ℕ × ℕ) → ℕ → ℕ → ℕ × ℕ
meet_of_halves lefts rights left right first second =
    let size : ℕ = bounded (lefts * rights) in
    let l : ℕ × ℕ = left (left_of rights first) (left_of rights second) in
    let r : ℕ × ℕ = right (right_of rights first) (right_of rights second) in
    cond (nat_lt first size && nat_lt second size)
    (unwrap_or (number_reply lefts rights l.0 r.0) first, unwrap_or (number_reply lefts rights l.1 r.1) second)
    (first, second)

-- whatever a call for a unit may give is this advice
abbrev pub AdvisesAs : (ℕ → Advice → Type 0) → (ℕ → Advice) → Type 0
AdvisesAs post advised = (unit : ℕ) (a : Advice) → unit < 2 ^ 64 → post unit a → a ≡ advised unit

-- the advice on words, by that on the left halves and, where it is Settled, on the right halves, each with the unit that reads them
abbrev pub advice_of_halves : ℕ → ℕ → (ℕ → Advice) → (ℕ → Advice) → List ℕ → ℕ → Advice
advice_of_halves lefts rights left right words unit =
    cond (nat_lt 0 (length words) && allowed_unit unit (bounded (lefts * rights)))
    (unless_settled (left (unit * rights)) (right unit))
    Lost
