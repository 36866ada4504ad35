-- The meetings so far, and what they come to at the end. Assumes nothing.
use Rattle.std.proofs.Common.{◌≡◌, Err, sym, subst, add-one, rules, arith}
use Rattle.protocol.specs.Places.{meeting}
use Rattle.protocol.specs.Protocols.{meet_reply}
use Rattle.load.specs.Asked.{open_verdict}
use Rattle.settling.specs.Following.{AdvisedMeetings, none}
use Rattle.settling.proofs.Following.{ends_refused, ends_granted, goes_on}
use Rattle.settling.proofs.settle.Goals as goal

pub loop-advice-init : goal.loop-advice-init
loop-advice-init g c = search (rules, none)

pub returns-in-Err : goal.returns-in-Err
returns-in-Err g c =
    let law = g.met.Q.Question.lawful c.args.question.now in
    let seen = c.loop-advice in
    ends_refused law c.args.load seen.load seen.invariant.same_tags seen.invariant.followed c.in-Err.ensures.result

pub returns-in_default : goal.returns-in_default
returns-in_default g c =
    let law = g.met.Q.Question.lawful c.args.question.now in
    let seen = c.loop-advice in
    ends_granted law c.args.load seen.load seen.invariant.same_tags seen.invariant.followed c.in-Ok.ensures.result (omega arith)
    (λ i j e o. absurd (c.in_default.not-Meet i j e))

pub returns-then-meetings-most : goal.returns-then-meetings-most
returns-then-meetings-most g c =
    let law = g.met.Q.Question.lawful c.args.question.now in
    let seen = c.loop-advice in
    ends_granted law c.args.load seen.load seen.invariant.same_tags seen.invariant.followed (search rules) (omega arith) (λ i j e o. omega arith)

pub returns-in-Err-meet : goal.returns-in-Err-meet
returns-in-Err-meet g c =
    let p = (g.Q.Question.meaning c.args.question.now).protocol in
    let law = g.met.Q.Question.lawful c.args.question.now in
    let seen = c.loop-advice in
    let shut : open_verdict p.tables seen.load.tags c.in-Meet.first c.in-Meet.second seen.words ≡ Err c.in-Err-meet.refused.fault = search rules in
    let same : c.meet.new.words ≡ seen.words = search rules in
    let followed = subst (AdvisedMeetings p c.args.load.tags c.args.words.now seen.meetings) (sym same) seen.invariant.followed in
    ends_granted law c.args.load c.in-Err-meet.refused.kept (search rules) followed (search rules) (omega arith) (λ i j e o. (cc))

pub loop-advice-preserved : goal.loop-advice-preserved
loop-advice-preserved g c =
    let p = (g.Q.Question.meaning c.args.question.now).protocol in
    let law = g.met.Q.Question.lawful c.args.question.now in
    let seen = c.loop-advice in
    let met : c.meet.new.words ≡ meeting (meet_reply p.tables) seen.words c.in-Meet.first c.in-Meet.second = search rules in
    let on = goes_on law c.args.load seen.load seen.invariant.same_tags seen.invariant.followed c.in-Ok.ensures.result
    c.in-Meet.first c.in-Meet.second (search rules) (search rules) in
    record { same_tags = search rules; few = omega arith; followed = rw (met, add-one) on }
