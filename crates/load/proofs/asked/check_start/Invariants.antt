-- All symbols before the place are readings. Assumes nothing.
use Rattle.std.proofs.Common.{◌≡◌, drop}
use Rattle.refusal.specs.Checks.{verdict}
use Rattle.load.specs.Asked.{each_from, symbol_known}
use Rattle.load.proofs.asked.check_start.Given as goal

abbrev pub invariant-loop-place : goal.invariant-loop-place
invariant-loop-place g l = verdict (each_from symbol_known 0 l.symbols) ≡ verdict (each_from symbol_known l.place (drop l.place l.symbols))
