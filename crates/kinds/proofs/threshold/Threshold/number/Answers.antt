-- A number has the fields that it was made of. Assumes nothing.
use Rattle.std.proofs.Common.{arith}
use Rattle.std.proofs.lemmas.Grind.{common_steps}
use Rattle.protocol.proofs.ThresholdFields.{fields_number, number_known}
use Rattle.kinds.proofs.threshold.Threshold.number.Goals as goal

pub returns-clause-undone : goal.returns-clause-undone
returns-clause-undone c state made = grind (arith, common_steps, fields_number, number_known)
