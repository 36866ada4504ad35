-- A symbol starts the first lane and the rest. Assumes nothing.
use Rattle.std.proofs.Common.{◌≡◌, ◌∷◌, arith, rules}
use Rattle.question.proofs.Replies.{start_joined}
use Rattle.compiled.specs.Lanes.{lane_meaning, lanes_of}
use Rattle.compiled.specs.LanesLemmas.{lane_lawful, lanes_of_lawful}
use Rattle.compiled.proofs.Lanes.{tail, first_and_rest}
use Rattle.compiled.proofs.joined.+start_of.Goals as goal

pub returns-in-len1-up : goal.returns-in-len1-up
returns-in-len1-up t c =
    let ls = c.args.lanes.now in
    let lane = c.lane-item.result in
    let shape : ls ≡ lane ∷ tail ls = first_and_rest ls lane (search rules) c.lane-item.is in
    let joined = start_joined (lane_meaning lane).protocol (lanes_of (tail ls)) (lane_lawful lane) (lanes_of_lawful (tail ls)) c.args.symbol.0 in
    rw shape (grind arith)
