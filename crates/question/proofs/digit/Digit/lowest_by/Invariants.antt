-- No place before this one passes. Assumes nothing.
use Rattle.std.proofs.Common.{◌≡◌, ℕ, ◌<◌, Bool, false, get_or}
use Rattle.protocol.specs.Protocols.{state_read}
use Rattle.question.specs.Tested.{AnswersAs}
use Rattle.question.proofs.digit.Digit.lowest_by.Given as goal

abbrev pub invariant-loop-place : goal.invariant-loop-place
invariant-loop-place g l =
    (test : ℕ → ℕ → Bool) → AnswersAs (goal.F-post g l.passes) test
    → (k : ℕ) → k < l.place → test k (state_read l.self.unit l.self.size (get_or l.words k 0)) ≡ false
