-- What passed the checks keeps the invariant. Assumes nothing.
use Rattle.std.proofs.Common.{◌<◌, sym, ◌∙◌, subst}
use Rattle.compiled.specs.Lanes.{lanes_of}
use Rattle.compiled.proofs.Making.{made_of}
use Rattle.compiled.proofs.question_of_lanes.Compiled.new.Goals as goal

pub invariant_of-result : goal.invariant_of-result
invariant_of-result c =
    let it = made_of c.args.lanes.now c.args.table c.in_ok-check_lanes.field-0 (sym c.check_lanes.ensures ∙ c.in_ok-check_lanes.was) in
    record {
      six = c.padded.ensures.six;
      some = it.0;
      few = it.1;
      sized = subst (λ ls. 0 < (lanes_of ls).tables.size) (sym c.padded.ensures.front) it.2;
      bits = it.3;
    }
