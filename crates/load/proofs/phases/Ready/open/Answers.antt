-- Which line of the relation each end is. Assumes nothing.
use Rattle.std.proofs.Common.{rules}
use Rattle.load.specs.Calls.{open_granted, open_refused}
use Rattle.load.proofs.phases.Ready.open.Goals as goal

pub returns-in-Err-clause-call : goal.returns-in-Err-clause-call
returns-in-Err-clause-call g c = search (rules, open_refused)

pub returns-clause-call : goal.returns-clause-call
returns-clause-call g c = search (rules, open_granted)
