-- The counts are those of the symbols so far. Assumes nothing.
use Rattle.reading.proofs.Counting.{Counted}
use Rattle.reading.proofs.Counts.of.Given as goal

abbrev pub invariant-loop-symbol : goal.invariant-loop-symbol
invariant-loop-symbol l = Counted l.symbols l.symbol-index l.counts.0
