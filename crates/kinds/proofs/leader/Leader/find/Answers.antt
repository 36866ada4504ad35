-- What the search found is the lowest place that leads. Assumes nothing.
use Rattle.std.proofs.Common.{rules}
use Rattle.protocol.specs.Sums.{lead_part}
use Rattle.kinds.proofs.leader.Leader.find.Goals as goal

pub returns-in_err-place-clause-none : goal.returns-in_err-place-clause-none
returns-in_err-place-clause-none c =
    let found = c.lowest_by.ensures.lowest (λ _. lead_part) (λ place state answer p s given. search rules) in
    search rules

pub invariant_of-result-clause-lowest : goal.invariant_of-result-clause-lowest
invariant_of-result-clause-lowest c =
    let found = c.lowest_by.ensures.lowest (λ _. lead_part) (λ place state answer p s given. search rules) in
    search rules
