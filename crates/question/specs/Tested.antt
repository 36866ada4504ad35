-- Tests of a tag by its place and the state that is read there. Assumes nothing.
use Rattle.std.specs.Prelude.{◌≡◌, ℕ, ◌^◌, ◌<◌, Bool, List, map, length, Option}
use Rattle.protocol.specs.Places.{lowest, state_at}
use Rattle.protocol.specs.Protocols.{state_read}

-- whatever a call for a place and a state may give is the test's answer
abbrev pub AnswersAs : (ℕ → ℕ → Bool → Type 0) → (ℕ → ℕ → Bool) → Type 0
AnswersAs post test = (place state : ℕ) (answer : Bool) → place < 2 ^ 64 → state < 2 ^ 32 → post place state answer → answer ≡ test place state

-- the lowest place that passes, where a unit reads the states in the words
abbrev pub lowest_read : (ℕ → ℕ → Bool) → ℕ → ℕ → List ℕ → Option ℕ
lowest_read passes unit size words =
    let states : List ℕ = map (state_read unit size) words in
    lowest (λ place. passes place (state_at states place)) (length states)
