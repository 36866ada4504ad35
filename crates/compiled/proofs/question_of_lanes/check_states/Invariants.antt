-- What is asked of all lanes is what is asked of those to come. Assumes nothing.
use Rattle.std.proofs.Common.{◌≡◌, ◌<◌, drop}
use Rattle.refusal.specs.Checks.{verdict}
use Rattle.compiled.specs.Lanes.{states_checks}
use Rattle.compiled.proofs.question_of_lanes.check_states.Given as goal

abbrev pub invariant-loop-place : goal.invariant-loop-place
invariant-loop-place l =
    (0 < l.product) × (verdict (states_checks 1 0 l.lanes) ≡ verdict (states_checks l.product l.place (drop l.place l.lanes)))
