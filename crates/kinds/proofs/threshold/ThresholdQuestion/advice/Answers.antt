-- What the three rules find is what the definition's rules name. Assumes nothing.
use Rattle.std.proofs.Common.{◌≡◌, ℕ, ℤ, refl, ◌∙◌, int_lt, to_z, of_z, w32, rules}
use Rattle.protocol.specs.Places.{state_at}
use Rattle.protocol.specs.Threshold.{span_of, fields_of, opposes, unjoined, unheard, partner_rules, threshold_protocol}
use Rattle.kinds.specs.LeaderStates.{states_of}
use Rattle.kinds.proofs.Led.{no_rule, one_more, led_reply}
use Rattle.kinds.proofs.threshold.ThresholdQuestion.advice.Goals as goal

pub returns : goal.returns
returns c =
    let q = c.args.self.now in
    let s = span_of q.coefficients q.bound in
    let l = c.in-Some.leader in
    let found = c.in-Some.ensures.some in
    let u : ℤ = (fields_of s (state_at (states_of l) l.place)).value in
    let bound : to_z w32 (of_z w32 q.bound) ≡ q.bound = search rules in
    let opposed = λ (state : ℕ). opposes u (fields_of s state).value in
    let joinable = λ (state : ℕ). unjoined s u (fields_of s state).value in
    let unheard_by = λ (state : ℕ). unheard (int_lt u q.bound) (fields_of s state) in
    let one = one_more l c.rule.result opposed (no_rule l found.2) c.rule.ensures.same (c.rule.ensures.found opposed (λ _ state answer p r given. search rules)) in
    let two = one_more l c.rule-2.result joinable one c.rule-2.ensures.same (c.rule-2.ensures.found joinable (λ _ state answer p r given. search rules)) in
    let three = one_more l c.rule-3.result unheard_by two c.rule-3.ensures.same (c.rule-3.ensures.found unheard_by (λ _ state answer p r given. search rules)) in
    c.advice.ensures
    ∙ led_reply l (threshold_protocol q.coefficients q.bound) (partner_rules s q.bound (λ place. fields_of s (state_at (states_of l) place)))
    c.args.words.now c.args.unit c.size.result c.rule-3.result refl refl c.size.ensures found.0 found.1 three
