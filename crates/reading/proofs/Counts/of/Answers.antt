-- Each turn counts one symbol, and the last leaves the counts of all. Assumes nothing.
use Rattle.std.proofs.Common.{get_or, sym, subst, arith}
use Rattle.reading.specs.declared.Symbol.{Symbol}
use Rattle.reading.proofs.Counting.{Counted, few, one_more, all_counted}
use Rattle.reading.proofs.Counts.of.Goals as goal

pub add-requires : goal.add-requires
add-requires c =
    let first : Symbol = record { 0 = 0 } in
    omega (arith, c.well_formed, few c.args.symbols.now c.loop-symbol.symbol-index c.loop-symbol.counts.0 first c.loop-symbol-test.true c.loop-symbol.invariant (get_or c.args.symbols.now c.loop-symbol.symbol-index first).0)

pub loop-symbol-preserved : goal.loop-symbol-preserved
loop-symbol-preserved c = subst (Counted _ _) (sym c.add.ensures) (one_more _ _ _ _ c.loop-symbol-test.true c.loop-symbol.invariant)

pub returns : goal.returns
returns c = all_counted _ _ _ c.loop-symbol-test.false c.loop-symbol.invariant
