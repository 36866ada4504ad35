-- The first number and those of the rest. Assumes nothing.
use Rattle.std.proofs.Common.{◌≡◌, ◌≤◌, ◌∷◌, length, get_or, sym, ◌∙◌, arith, rules}
use Rattle.compiled.proofs.Lanes.{tail, first_and_rest}
use Rattle.compiled.proofs.Numbers.{lacking, number_joined}
use Rattle.compiled.proofs.joined.+number_of.Goals as goal

pub returns-in_ok-number_of-in-len1-up-len1-up : goal.returns-in_ok-number_of-in-len1-up-len1-up
returns-in_ok-number_of-in-len1-up-len1-up t c =
    let ls = c.args.lanes.now in
    let ns = c.args.numbers.now in
    let lane = c.lane-item.result in
    let low = c.in_ok-number_of-in-len1-up-len1-up in
    let lanes : ls ≡ lane ∷ tail ls = first_and_rest ls lane (search rules) c.lane-item.is in
    let numbers : ns ≡ get_or ns 0 0 ∷ tail ns = first_and_rest ns (get_or ns 0 0) (search rules) (search rules) in
    let joined = number_joined lane (tail ls) (get_or ns 0 0) (tail ns) low.field-0 (sym c.number_of.ensures ∙ low.was) in
    rw (lanes, numbers) (grind arith)

-- lanes, and no number
pub returns-in_default-2 : goal.returns-in_default-2
returns-in_default-2 t c =
    let lanes : 1 ≤ length c.args.lanes.now = search rules in
    let numbers : length c.args.numbers.now ≡ 0 = search rules in
    lacking c.args.lanes.now c.args.numbers.now (omega arith)
