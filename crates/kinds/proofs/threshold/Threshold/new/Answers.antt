-- The span of numbers in range. Assumes nothing.
use Rattle.std.proofs.Common.{rules}
use Rattle.kinds.proofs.ThresholdSpan.{span_small}
use Rattle.kinds.proofs.threshold.Threshold.new.Goals as goal

pub invariant_of-result-clause-small : goal.invariant_of-result-clause-small
invariant_of-result-clause-small c = span_small c.args.coefficients c.args.bound c.max-span.result (search rules) (search rules)
