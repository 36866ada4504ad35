-- The answers of the first lane and of the rest. Assumes nothing.
use Rattle.std.proofs.Common.{◌≡◌, ◌∷◌, Some, sym, ◌∙◌, rules}
use Rattle.question.specs.Halves.{halves_reply}
use Rattle.compiled.specs.Lanes.{lane_meaning, lanes_of}
use Rattle.compiled.proofs.Lanes.{tail, first_and_rest, answers_joined}
use Rattle.compiled.proofs.joined.+answers_of.Goals as goal

pub returns-in_ok-answers-in-len1-up-clause-value : goal.returns-in_ok-answers-in-len1-up-clause-value
returns-in_ok-answers-in-len1-up-clause-value t c =
    let ls = c.args.lanes.now in
    let lane = c.lane-item.result in
    let state = c.args.state in
    let it = c.in_ok-first-in-len1-up in
    let shape : ls ≡ lane ∷ tail ls = first_and_rest ls lane (search rules) c.lane-item.is in
    let halved : halves_reply (lane_meaning lane).protocol.tables.size (lanes_of (tail ls)).tables.size state ≡ Some (it.first, it.others) =
    sym c.split.ensures ∙ it.was in
    rw shape (answers_joined lane (tail ls) state it.first it.others c.in_ok-answers-in-len1-up.answers c.from.result halved (search rules) (sym c.in_ok-answers-in-len1-up.was ∙ c.answers_of.ensures.value))
