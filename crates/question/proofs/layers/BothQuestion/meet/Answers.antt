-- Both halves meet. Assumes nothing.
use Rattle.std.proofs.Common.{arith, rules}
use Rattle.protocol.specs.Protocols.{meet_reply}
use Rattle.question.proofs.Replies.{meet_joined}
use Rattle.question.proofs.layers.BothQuestion.meet.Goals as goal

pub returns : goal.returns
returns g c =
    let b = c.args.self.now in
    let l = (g.L.Question.meaning b.left).protocol in
    let r = (g.R.Question.meaning b.right).protocol in
    let met = c.meet.ensures (meet_reply l.tables) (meet_reply r.tables) (λ x y p _ _ given. search rules) (λ x y p _ _ given. search rules) in
    let joined = meet_joined l r (g.met.L.Question.lawful b.left) (g.met.R.Question.lawful b.right) c.args.first c.args.second in
    grind arith
