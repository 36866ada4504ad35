-- The first lane is asked before the rest. Assumes nothing.
use Rattle.std.proofs.Common.{◌≡◌, ◌∷◌, arith, rules}
use Rattle.protocol.specs.Protocols.{advice_reply}
use Rattle.question.proofs.Replies.{advice_joined}
use Rattle.compiled.specs.Lanes.{lane_meaning, lanes_of}
use Rattle.compiled.proofs.Lanes.{tail, first_and_rest}
use Rattle.compiled.proofs.joined.+advice_of+fn-advice_of-advice+arg4.Goals as goal

pub returns-in-len1-up : goal.returns-in-len1-up
returns-in-len1-up t c =
    let ls = c.args.lanes.now in
    let words = c.args.words.now in
    let lane = c.lane-item.result in
    let l = (lane_meaning lane).protocol in
    let r = lanes_of (tail ls) in
    let shape : ls ≡ lane ∷ tail ls = first_and_rest ls lane (search rules) c.lane-item.is in
    let advised = c.advice.ensures (advice_reply l words) (advice_reply r words) (λ unit a _ given. search rules) (λ unit a _ given. search rules) in
    let joined = advice_joined l r words c.args.unit in
    rw shape (grind arith)
