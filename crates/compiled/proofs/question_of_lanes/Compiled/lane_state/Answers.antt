-- The numbers of the lanes of a state make it again. Assumes nothing.
use Rattle.std.proofs.Common.{length-take, arith}
use Rattle.compiled.specs.Compiled.{lanes_in}
use Rattle.compiled.proofs.Numbers.{lanes_undone}
use Rattle.compiled.proofs.question_of_lanes.Compiled.lane_state.Goals as goal

pub returns-clause-undone : goal.returns-clause-undone
returns-clause-undone c =
    let q = c.args.self.now in
    λ ns. lanes_undone (lanes_in q) c.args.state ns (omega (arith, length-take q.count q.kept, q.some, q.few, q.six))
