-- The lowest other place whose state fits, where nobody was found before. Assumes nothing.
use Rattle.std.proofs.Common.{rules}
use Rattle.protocol.specs.Places.{other}
use Rattle.kinds.proofs.leader.Leader.rule.Goals as goal
use Rattle.kinds.proofs.leader.Leader.rule.Goals.{then-is_none, else-is_none}

pub returns-clause-found : goal.returns-clause-found
returns-clause-found g c test answers =
    elim c.if-is_none.branch [
      | then-is_none w ↦
          let found = w.lowest_by-self.ensures.lowest (λ place state. other c.args.self.place (λ _. test state) place) (λ place state answer p s given. search rules) in
          search rules
      | else-is_none w ↦ search rules
    ]
