-- A table that is 0 without its low 2^lanes bits is below 2^(2^lanes). Assumes nothing.
use Rattle.std.proofs.Common.{◌≤◌, ◌^◌, pow_mono, pow_pos, arith}
use Rattle.std.proofs.Math.Nat.{div-lt_iff_lt-mul}
use Rattle.std.proofs.lemmas.Grind.{common_steps}
use Rattle.compiled.proofs.question_of_lanes.table_fits.Goals as goal

pub returns : goal.returns
returns c =
    let bits = 2 ^ c.args.lanes in
    let few : bits ≤ 2 ^ 6 = pow_mono c.requires in
    let below = div-lt_iff_lt-mul {x = c.args.table} {y = 1} (pow_pos bits) in
    grind (arith, common_steps)
