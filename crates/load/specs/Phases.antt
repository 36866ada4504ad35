-- Where a load is between two calls. Assumes nothing.
use Rattle.std.specs.Prelude.{ℕ, Ok, Err, Result}
use Rattle.refusal.specs.declared.Fault.{Fault}
use Rattle.load.specs.declared.phases.Refused.{Refused}
use Rattle.load.specs.declared.phases.Ready.{Ready}
use Rattle.load.specs.declared.phases.Meeting.{Meeting}

-- a load is ready, or has one meeting open, of a first and a second place; either way it keeps how many tags it has
pub data Phase : Type 0 where
  ready : ℕ → Phase
  opened : ℕ → ℕ → ℕ → Phase

-- the values of the code hold these numbers, and a meeting whether it is spent, which none is that a program has in its hands
abbrev pub of_ready : Ready → Phase
of_ready load = ready load.tags

abbrev pub of_meeting : Meeting → Phase
of_meeting load = opened load.tags load.first load.second

-- what a call came to that took a load: the load that it gave, or the fault and the load that it gave back
abbrev pub outcome : {X Y : Type 0} → (X → Phase) → (Y → Phase) → Result X (Refused Y) → Result Phase (Fault × Phase)
outcome given back (Ok load) = Ok (given load)
outcome given back (Err d) = Err (d.fault, back d.kept)

-- what a start came to
abbrev pub started_as : Result Ready Fault → Result Phase Fault
started_as (Ok load) = Ok (of_ready load)
started_as (Err f) = Err f
