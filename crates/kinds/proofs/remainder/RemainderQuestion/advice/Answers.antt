-- What the two rules find is what the definition's rules name. Assumes nothing.
use Rattle.std.proofs.Common.{ℕ, ◌/◌, eqb, refl, ◌∙◌, rules}
use Rattle.protocol.specs.Places.{state_at}
use Rattle.protocol.specs.Remainder.{fields_of, partner_rules, remainder_protocol}
use Rattle.protocol.specs.Sums.{lead_part, bit_part, differs}
use Rattle.kinds.specs.LeaderStates.{states_of}
use Rattle.kinds.proofs.Led.{no_rule, one_more, led_reply}
use Rattle.kinds.proofs.remainder.RemainderQuestion.advice.Goals as goal

pub returns : goal.returns
returns c =
    let q = c.args.self.now in
    let l = c.in-Some.leader in
    let found = c.in-Some.ensures.some in
    let merge = lead_part in
    let correct = λ (state : ℕ). differs (eqb (state_at (states_of l) l.place / 4) q.residue) (bit_part state) in
    let one = one_more l c.rule.result merge (no_rule l found.2) c.rule.ensures.same (c.rule.ensures.found merge (λ _ state answer p r given. search rules)) in
    let two = one_more l c.rule-2.result correct one c.rule-2.ensures.same (c.rule-2.ensures.found correct (λ _ state answer p r given. search rules)) in
    c.advice.ensures
    ∙ led_reply l (remainder_protocol q.coefficients q.modulus q.residue) (partner_rules q.residue (λ place. fields_of (state_at (states_of l) place)))
    c.args.words.now c.args.unit c.size.result c.rule-2.result refl refl c.size.ensures found.0 found.1 two
