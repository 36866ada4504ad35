-- The first place that passes is the lowest, and where none does there is none. Assumes nothing.
use Rattle.std.proofs.Common.{Some, None, below_more, arith}
use Rattle.std.proofs.lemmas.Grind.{common_steps}
use Rattle.question.proofs.Tested.{lowest_read_is}
use Rattle.question.proofs.digit.Digit.lowest_by.Goals as goal

pub returns-then-passes-clause-lowest : goal.returns-then-passes-clause-lowest
returns-then-passes-clause-lowest g c test answers =
    let before = c.loop-place.invariant test answers in
    lowest_read_is test c.args.self.now.unit c.args.self.now.size c.args.words.now (Some c.loop-place.place) (grind (arith, common_steps))

pub loop-place-preserved : goal.loop-place-preserved
loop-place-preserved g c test answers = below_more _ _ (c.loop-place.invariant test answers) (grind (arith, common_steps))

pub returns-clause-lowest : goal.returns-clause-lowest
returns-clause-lowest g c test answers =
    let before = c.loop-place.invariant test answers in
    lowest_read_is test c.args.self.now.unit c.args.self.now.size c.args.words.now None (grind (arith, common_steps))
