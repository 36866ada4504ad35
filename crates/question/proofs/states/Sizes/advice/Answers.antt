-- The unit for the left halves fits 64 bits. Assumes nothing.
use Rattle.std.proofs.Common.{◌*◌, arith}
use Rattle.std.proofs.lemmas.Grind.{common_steps}
use Rattle.question.proofs.Replies.{half_units}
use Rattle.question.proofs.states.Sizes.advice.Goals as goal

pub returns-in-Settled : goal.returns-in-Settled
returns-in-Settled g c = λ l r left right.
    grind (arith, common_steps, left (c.args.unit * c.args.self.right), half_units c.args.unit c.args.self.left c.args.self.right)

pub returns-in_default : goal.returns-in_default
returns-in_default g c = λ l r left right.
    grind (arith, common_steps, left (c.args.unit * c.args.self.right), half_units c.args.unit c.args.self.left c.args.self.right)
