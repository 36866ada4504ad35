-- The weights stay below 2^49. Assumes nothing.
use Rattle.std.proofs.Common.{arith}
use Rattle.compiled.specs.LanesLemmas.{lane_lawful, lanes_of_lawful}
use Rattle.compiled.proofs.Lanes.{tail}
use Rattle.compiled.proofs.joined.+weight_of.Goals as goal

pub overflow_add-result : goal.overflow_add-result
overflow_add-result t c =
    let left = lane_lawful c.lane-item.result in
    let right = lanes_of_lawful (tail c.args.lanes.now) in
    record { fits = omega (arith, left.weight_fits, left.size_fits, right.weight_fits, right.size_fits, c.weight.ensures, c.weight_of.ensures) }
