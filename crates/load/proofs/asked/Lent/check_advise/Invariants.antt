-- All words before the place are known. Assumes nothing.
use Rattle.std.proofs.Common.{◌≡◌, drop}
use Rattle.refusal.specs.Checks.{verdict}
use Rattle.load.specs.Asked.{each_from, word_known}
use Rattle.load.proofs.asked.Lent.check_advise.Given as goal

abbrev pub invariant-loop-place : goal.invariant-loop-place
invariant-loop-place g l =
    verdict (each_from (word_known l.size) 0 l.self.words.now) ≡ verdict (each_from (word_known l.size) l.place (drop l.place l.self.words.now))
