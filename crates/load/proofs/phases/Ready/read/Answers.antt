-- Which line of the relation each end is. Assumes nothing.
use Rattle.std.proofs.Common.{rules}
use Rattle.load.specs.Calls.{read_granted, read_refused}
use Rattle.load.proofs.phases.Ready.read.Goals as goal

pub returns-in_err-check_read-clause-call : goal.returns-in_err-check_read-clause-call
returns-in_err-check_read-clause-call g c = search (rules, read_refused)

pub returns-clause-call : goal.returns-clause-call
returns-clause-call g c = search (rules, read_granted)
