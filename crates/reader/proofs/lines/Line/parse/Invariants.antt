-- The words before those to come are parted. Assumes nothing.
use Rattle.std.proofs.Common.{map, vec_items}
use Rattle.std.specs.Str.Iter.{split_whitespace_rest}
use Rattle.reader.proofs.Parsing.{Sofar}
use Rattle.reader.proofs.lines.Line.parse.Given as goal

abbrev pub invariant-loop-word : goal.invariant-loop-word
invariant-loop-word l = Sofar l.text (split_whitespace_rest l.word-iterator) (vec_items l.bytes) (map (λ x. x.now) (vec_items l.others))
