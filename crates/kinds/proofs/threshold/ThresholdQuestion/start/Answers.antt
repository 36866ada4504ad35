-- A coefficient is within the span. Assumes nothing.
use Rattle.std.proofs.Common.{arith}
use Rattle.std.proofs.lemmas.Int.{ints}
use Rattle.kinds.proofs.ThresholdSpan.{largest_most}
use Rattle.kinds.proofs.threshold.ThresholdQuestion.start.Goals as goal

pub packed-requires : goal.packed-requires
packed-requires c = omega (arith, ints, largest_most c.args.self.now.coefficients c.in-Some.index)
