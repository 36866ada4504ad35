-- The halves are asked with the units that read them. Assumes nothing.
use Rattle.std.proofs.Common.{arith, rules}
use Rattle.protocol.specs.Protocols.{advice_reply}
use Rattle.question.proofs.Replies.{advice_joined}
use Rattle.question.proofs.layers.BothQuestion.advice.Goals as goal

pub returns : goal.returns
returns g c =
    let b = c.args.self.now in
    let words = c.args.words.now in
    let l = (g.L.Question.meaning b.left).protocol in
    let r = (g.R.Question.meaning b.right).protocol in
    let advised = c.advice.ensures (advice_reply l words) (advice_reply r words) (λ unit a _ given. search rules) (λ unit a _ given. search rules) in
    let joined = advice_joined l r words c.args.unit in
    grind arith
