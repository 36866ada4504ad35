-- Fewer lanes are left at each call. Assumes nothing.
use Rattle.std.proofs.Common.{length}
use Rattle.compiled.proofs.joined.+weight_of.Given as goal

abbrev pub decreases-weight_of : goal.decreases-weight_of
decreases-weight_of l = length l.lanes.now
