-- Fewer lanes are left at each call. Assumes nothing.
use Rattle.std.proofs.Common.{◌+◌, ◌*◌, length}
use Rattle.compiled.proofs.joined.+fn-meet_of-meet+arg4+meet_of.Given as goal

abbrev pub decreases-meet_of : goal.decreases-meet_of
decreases-meet_of l = 2 * length l.lanes.now

abbrev pub decreases-meet+arg4 : goal.decreases-meet+arg4
decreases-meet+arg4 l = 2 * length l.rest.now + 1
