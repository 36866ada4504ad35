-- So many advised meetings have been made, of those that may be. Assumes nothing.
use Rattle.std.proofs.Common.{◌≡◌, ◌-◌, ◌≤◌}
use Rattle.settling.specs.Following.{AdvisedMeetings}
use Rattle.settling.proofs.settle.Given as goal

abbrev pub invariant-loop-advice : goal.invariant-loop-advice
invariant-loop-advice g l =
    record {
      same_tags : l.load.tags ≡ l.initial.load.tags;
      few : l.meetings ≤ l.most;
      followed : AdvisedMeetings (g.Q.Question.meaning l.question).protocol l.initial.load.tags l.initial.words l.meetings l.words;
    }

abbrev pub decreases-loop-advice : goal.decreases-loop-advice
decreases-loop-advice g l = l.most - l.meetings
