-- Fewer lanes are left at each call. Assumes nothing.
use Rattle.std.proofs.Common.{length}
use Rattle.compiled.proofs.joined.+answers_of.Given as goal

abbrev pub decreases-answers_of : goal.decreases-answers_of
decreases-answers_of l = length l.lanes.now
