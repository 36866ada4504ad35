-- The second half follows the first. Assumes nothing.
use Rattle.std.proofs.Common.{is_ok, ap, append_assoc}
use Rattle.std.proofs.Output.{has_written_append, has_written_of_eq}
use Rattle.reading.proofs.CountsDisplay.fmt.Goals as goal

pub returns-clause-writes : goal.returns-clause-writes
returns-clause-writes g c plain ok =
    let first = c.write.ensures.writes plain (ap is_ok c.in_ok-write.was) in
    has_written_of_eq _ _ _ _ _ (simp append_assoc) (has_written_append _ _ _ _ _ _ first (c.write-2.ensures.writes first.plain ok))
