-- Fewer lanes are left at each call. Assumes nothing.
use Rattle.std.proofs.Common.{◌+◌, ◌*◌, length}
use Rattle.compiled.proofs.joined.+advice_of+fn-advice_of-advice+arg4.Given as goal

abbrev pub decreases-advice_of : goal.decreases-advice_of
decreases-advice_of l = 2 * length l.lanes.now

abbrev pub decreases-advice+arg4 : goal.decreases-advice+arg4
decreases-advice+arg4 l = 2 * length l.rest.now + 1
