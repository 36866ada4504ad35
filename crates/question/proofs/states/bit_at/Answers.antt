-- A number of 64 bits has no bit from 64 up. Assumes nothing.
use Rattle.std.proofs.Common.{◌^◌, pow_mono, arith}
use Rattle.std.proofs.Math.Nat.{div-eq_of_lt}
use Rattle.std.proofs.lemmas.Grind.{common_steps}
use Rattle.question.proofs.states.bit_at.Goals as goal

pub returns : goal.returns
returns c = grind (arith, common_steps, pow_mono {i = 64} {j = c.args.k}, div-eq_of_lt {n = c.args.number} {m = 2 ^ c.args.k})
