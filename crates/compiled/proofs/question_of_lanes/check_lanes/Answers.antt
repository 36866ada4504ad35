-- The first check that is answered no decides. Assumes nothing.
use Rattle.std.proofs.Common.{◌^◌, ltb, [], ◌∷◌, length, arith}
use Rattle.std.proofs.lemmas.Grind.{common_steps}
use Rattle.refusal.specs.declared.Refusal.TheVariants.{NumberRange}
use Rattle.refusal.specs.Checks.{check}
use Rattle.compiled.specs.Lanes.{states_checks}
use Rattle.compiled.proofs.Making.{verdict-append}
use Rattle.compiled.proofs.question_of_lanes.check_lanes.Goals as goal

pub returns-in_err-check_states : goal.returns-in_err-check_states
returns-in_err-check_states c =
    let ls = c.args.lanes.now in
    let last = check NumberRange (ltb c.args.table (2 ^ (2 ^ length ls))) 0 in
    let both = verdict-append (states_checks 1 0 ls) (last ∷ []) in
    grind (arith, common_steps)

pub returns : goal.returns
returns c =
    let ls = c.args.lanes.now in
    let last = check NumberRange (ltb c.args.table (2 ^ (2 ^ length ls))) 0 in
    let both = verdict-append (states_checks 1 0 ls) (last ∷ []) in
    grind (arith, common_steps)
