-- Which line of the relation each end is. Assumes nothing.
use Rattle.std.proofs.Common.{rules}
use Rattle.load.specs.Calls.{advise_granted, advise_refused}
use Rattle.load.proofs.phases.Ready.advise.Goals as goal

pub returns-in_err-check_advise-clause-call : goal.returns-in_err-check_advise-clause-call
returns-in_err-check_advise-clause-call g c = search (rules, advise_refused)

pub returns-clause-call : goal.returns-clause-call
returns-clause-call g c = search (rules, advise_granted)
