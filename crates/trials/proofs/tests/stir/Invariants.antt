-- The place is one of the load. Assumes nothing.
use Rattle.std.proofs.Common.{◌<◌}
use Rattle.trials.proofs.tests.stir.Given as goal

abbrev pub invariant-loop-step : goal.invariant-loop-step
invariant-loop-step g l = l.place < l.tags
