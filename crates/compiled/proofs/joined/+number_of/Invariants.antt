-- Fewer lanes are left at each call. Assumes nothing.
use Rattle.std.proofs.Common.{length}
use Rattle.compiled.proofs.joined.+number_of.Given as goal

abbrev pub decreases-number_of : goal.decreases-number_of
decreases-number_of l = length l.lanes.now
