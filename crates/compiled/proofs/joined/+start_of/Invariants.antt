-- Fewer lanes are left at each call. Assumes nothing.
use Rattle.std.proofs.Common.{length}
use Rattle.compiled.proofs.joined.+start_of.Given as goal

abbrev pub decreases-start_of : goal.decreases-start_of
decreases-start_of l = length l.lanes.now
