-- A granted start is one of the relation. Assumes nothing.
use Rattle.std.proofs.Common.{rules}
use Rattle.load.specs.Calls.{started}
use Rattle.load.proofs.phases.Ready.start.Goals as goal

pub returns-clause-call : goal.returns-clause-call
returns-clause-call g c = search (rules, started)
