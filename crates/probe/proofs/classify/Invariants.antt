-- The places so far hold the symbols of their bytes. Assumes nothing.
use Rattle.std.proofs.Common.{◌≡◌, map, take}
use Rattle.probe.specs.Classes.{symbol_of}
use Rattle.probe.proofs.classify.Given as goal

abbrev pub invariant-loop-place : goal.invariant-loop-place
invariant-loop-place l = take l.place l.symbols ≡ map symbol_of (take l.place l.bytes)
