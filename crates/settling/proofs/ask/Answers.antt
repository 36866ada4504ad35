-- The promise, used on the calls that were made: start, what settle did, and a read. Assumes nothing.
use Rattle.std.proofs.Common.{rules}
use Rattle.settling.proofs.Asking.{not_refused, answers_truth}
use Rattle.settling.proofs.Stability.{stably_computes}
use Rattle.settling.proofs.ask.Goals as goal

pub returns-in_err-load-clause-stable : goal.returns-in_err-load-clause-stable
returns-in_err-load-clause-stable g c = stably_computes (g.Q.Question.meaning c.args.question.now).protocol (g.met.Q.Question.lawful c.args.question.now)

pub returns-in_err-followed : goal.returns-in_err-followed
returns-in_err-followed g c =
    let p = (g.Q.Question.meaning c.args.question.now).protocol in
    let law = g.met.Q.Question.lawful c.args.question.now in
    absurd (not_refused p law c.args.symbols.now c.args.words.now c.in_ok-load.load c.start.new.words (search rules) (search rules) (search rules)
    c.in_ok-load.ensures.call c.in_err-followed.field-0.0 c.settle.new.words c.in_err-followed.ensures.result)

pub returns : goal.returns
returns g c =
    let p = (g.Q.Question.meaning c.args.question.now).protocol in
    let law = g.met.Q.Question.lawful c.args.question.now in
    let settle = c.in_ok-followed.ensures in
    let truth = answers_truth p law c.args.symbols.now c.args.words.now c.in_ok-load.load c.start.new.words (search rules) (search rules) (search rules)
    c.in_ok-load.ensures.call c.in_ok-followed.followed c.settle.new.words settle.result settle.calls.0 settle.calls.1 _ c.first_answer.ensures in
    record { result = search rules; written = rw truth.0 truth.1; stable = search rules }
