-- The words so far are the starts of their symbols. Assumes nothing.
use Rattle.std.proofs.Common.{◌≡◌, take}
use Rattle.load.specs.Asked.{start_words}
use Rattle.load.proofs.write_starts.Given as goal

abbrev pub invariant-loop-place : goal.invariant-loop-place
invariant-loop-place g l = take l.place l.words ≡ start_words (g.Q.Question.meaning l.question).protocol.tables (take l.place l.symbols)
