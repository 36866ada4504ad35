-- The state of numbers has them again. Assumes nothing.
use Rattle.std.proofs.Common.{sym, ap, ◌∙◌}
use Rattle.compiled.specs.Compiled.{lanes_in}
use Rattle.compiled.specs.Lanes.{number_reply}
use Rattle.compiled.proofs.Numbers.{number_undone}
use Rattle.compiled.proofs.question_of_lanes.Compiled.number.Goals as goal

pub returns-clause-undone : goal.returns-clause-undone
returns-clause-undone c =
    let ns = c.args.numbers.now in
    let value = c.number_of.ensures ∙ ap (λ ls. number_reply ls ns) c.lanes.ensures in
    λ state k e. number_undone (lanes_in c.args.self.now) ns state k (sym value ∙ e)
