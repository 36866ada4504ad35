-- The answer is the rule's, for the answers of the halves. Assumes nothing.
use Rattle.std.proofs.Common.{◌+◌, ◌*◌, sym, ◌∙◌}
use Rattle.protocol.specs.Joining.{bit_at, one_if}
use Rattle.question.proofs.Replies.{answer_joined}
use Rattle.question.proofs.layers.BothQuestion.answer.Goals as goal

pub returns : goal.returns
returns g c =
    let b = c.args.self.now in
    let l = (g.L.Question.meaning b.left).protocol in
    let r = (g.R.Question.meaning b.right).protocol in
    let is = answer_joined (λ x. bit_at b.rule (2 * one_if x.0 + one_if x.1)) l r c.args.state c.in-Some.left c.in-Some.right
    (sym c.halves.ensures.value ∙ c.in-Some.is) in
    rw (c.bit_at.ensures, c.from.ensures, c.index_of-answers.ensures, c.answer.ensures, c.answer-2.ensures) (sym is)
