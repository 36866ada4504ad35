-- The lowest tag in state 1 and the lowest in state 0, where there are both. Assumes nothing.
use Rattle.std.proofs.Common.{◌≡◌, ℕ, Bool, true, false, eqb, List, length, Option, sym, refl, ap, ◌∙◌, rules}
use Rattle.protocol.specs.Places.{paired}
use Rattle.protocol.specs.Presence.{presence_protocol}
use Rattle.protocol.specs.Protocols.{allowed_unit, advice_reply}
use Rattle.question.specs.Tested.{lowest_read}
use Rattle.question.specs.declared.digit.Digit.{Digit}
use Rattle.question.proofs.Replies.{advice_read, nonempty}
use Rattle.kinds.proofs.presence.PresenceQuestion.advice.Goals as goal

-- the tags in a state
abbrev holds : ℕ → ℕ → ℕ → Bool
holds held place state = eqb state held

-- the advice, by the two searches
by_two : (mask : ℕ) (words : List ℕ) (unit : ℕ) (d : Digit) (a b : Option ℕ) → true ≡ allowed_unit unit 2 → (d.unit ≡ unit) × (d.size ≡ 2) → false ≡ eqb (length words) 0
    → a ≡ lowest_read (holds 1) d.unit d.size words → b ≡ lowest_read (holds 0) d.unit d.size words
    → paired a b ≡ advice_reply (presence_protocol mask) words unit
by_two mask words unit d a b ok same some e f =
    ap (λ o. paired o b) e
    ∙ ap (paired (lowest_read (holds 1) d.unit d.size words)) f
    ∙ sym (advice_read (presence_protocol mask) words unit 2 d.unit d.size refl ok same.0 same.1 (nonempty words some))

pub returns-in_default-lowest_by : goal.returns-in_default-lowest_by
returns-in_default-lowest_by c =
    by_two c.args.self.now.mask c.args.words.now c.args.unit c.in-Some.digit _ _ c.in-Some.ensures.test c.in-Some.ensures.some c.if-is_empty.ensures
    (c.in_default-lowest_by.ensures.lowest (holds 1) (λ place state answer p s given. search rules)) refl

pub returns-in-Some-lowest_by-2 : goal.returns-in-Some-lowest_by-2
returns-in-Some-lowest_by-2 c =
    by_two c.args.self.now.mask c.args.words.now c.args.unit c.in-Some.digit _ _ c.in-Some.ensures.test c.in-Some.ensures.some c.if-is_empty.ensures
    (c.in-Some-lowest_by.ensures.lowest (holds 1) (λ place state answer p s given. search rules))
    (c.in-Some-lowest_by-2.ensures.lowest (holds 0) (λ place state answer p s given. search rules))

pub returns-in-None : goal.returns-in-None
returns-in-None c =
    by_two c.args.self.now.mask c.args.words.now c.args.unit c.in-Some.digit _ _ c.in-Some.ensures.test c.in-Some.ensures.some c.if-is_empty.ensures
    (c.in-Some-lowest_by.ensures.lowest (holds 1) (λ place state answer p s given. search rules))
    (c.in-None.ensures.lowest (holds 0) (λ place state answer p s given. search rules))
