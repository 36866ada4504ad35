-- The maximum of the chain is the largest. Assumes nothing.
use Rattle.std.proofs.Common.{◌≡◌, max, nat_abs, ◌∙◌, arith}
use Rattle.std.specs.Prelude.{fold}
use Rattle.std.proofs.lemmas.Grind.{common_steps}
use Rattle.kinds.proofs.ThresholdSpan.{largest_is}
use Rattle.kinds.proofs.threshold.largest_of.Goals as goal

pub returns : goal.returns
returns c =
    let ks = c.args.coefficients.now in
    let folded : c.fold.result ≡ fold (λ most k. max most (nat_abs k)) 0 ks = grind (arith, common_steps) in
    folded ∙ largest_is ks
