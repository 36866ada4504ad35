-- The leader of a load, by the states of its tags. Assumes nothing.
use Rattle.std.specs.Prelude.{ℕ, Bool, List, length, Option}
use Rattle.protocol.specs.Places.{state_at, lowest, other}
use Rattle.protocol.specs.Sums.{lead_part}

-- the lowest place that leads
abbrev pub leading : List ℕ → Option ℕ
leading states = lowest (λ place. lead_part (state_at states place)) (length states)

-- the lowest other place than the leader's that passes a test, by its state
abbrev pub partner_by : (ℕ → Bool) → List ℕ → ℕ → Option ℕ
partner_by test states leader = lowest (other leader (λ place. test (state_at states place))) (length states)
