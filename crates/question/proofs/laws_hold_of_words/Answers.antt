-- What the question owes of states it owes of words. Assumes nothing.
use Rattle.question.proofs.Replies.{words_lawful}
use Rattle.question.proofs.laws_hold_of_words.Goals as goal

pub returns : goal.returns
returns g c =
    let q = c.args.question.now in
    words_lawful (g.Q.Question.meaning q).protocol (g.met.Q.Question.lawful q)
