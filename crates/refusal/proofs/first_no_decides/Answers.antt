-- The law of every list of checks. Assumes nothing.
use Rattle.refusal.proofs.Checks.{first_no_decides}
use Rattle.refusal.proofs.first_no_decides.Goals as goal

pub returns : goal.returns
returns c = first_no_decides
