-- Which line of the relation its end is. Assumes nothing.
use Rattle.std.proofs.Common.{rules}
use Rattle.load.specs.Calls.{broken_off}
use Rattle.load.proofs.phases.Meeting.break_off.Goals as goal

pub returns-clause-call : goal.returns-clause-call
returns-clause-call c = search (rules, broken_off)
