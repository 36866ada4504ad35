-- Fewer lanes are left at each call. Assumes nothing.
use Rattle.std.proofs.Common.{length}
use Rattle.compiled.proofs.joined.+lane_state_of.Given as goal

abbrev pub decreases-lane_state_of : goal.decreases-lane_state_of
decreases-lane_state_of l = length l.lanes.now
