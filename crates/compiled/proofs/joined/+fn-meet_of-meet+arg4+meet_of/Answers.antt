-- The first lane and the rest meet. Assumes nothing.
use Rattle.std.proofs.Common.{◌≡◌, ◌∷◌, arith, rules}
use Rattle.protocol.specs.Protocols.{meet_reply}
use Rattle.question.proofs.Replies.{meet_joined}
use Rattle.compiled.specs.Lanes.{lane_meaning, lanes_of}
use Rattle.compiled.specs.LanesLemmas.{lane_lawful, lanes_of_lawful}
use Rattle.compiled.proofs.Lanes.{tail, first_and_rest}
use Rattle.compiled.proofs.joined.+fn-meet_of-meet+arg4+meet_of.Goals as goal

pub returns-in-len1-up : goal.returns-in-len1-up
returns-in-len1-up t c =
    let ls = c.args.lanes.now in
    let lane = c.lane-item.result in
    let l = (lane_meaning lane).protocol in
    let r = lanes_of (tail ls) in
    let shape : ls ≡ lane ∷ tail ls = first_and_rest ls lane (search rules) c.lane-item.is in
    let met = c.meet.ensures (meet_reply l.tables) (meet_reply r.tables) (λ x y p _ _ given. search rules) (λ x y p _ _ given. search rules) in
    let joined = meet_joined l r (lane_lawful lane) (lanes_of_lawful (tail ls)) c.args.first c.args.second in
    rw shape (grind arith)
