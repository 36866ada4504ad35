-- The entry that is read is the class of its place. Assumes nothing.
use Rattle.std.proofs.Common.{ap, ◌∙◌, get_or, arith}
use Rattle.std.proofs.lemmas.List.FromFn.{get_or-map-range_with_len}
use Rattle.std.proofs.lemmas.Slice.Eq.{bytes_eq-Decides}
use Rattle.probe.specs.Classes.{class_of}
use Rattle.probe.proofs.entry.Goals as goal

pub returns : goal.returns
returns c =
    ap (λ table. get_or table c.from.result 0) ((bytes_eq-Decides _ _).0 c.requires)
    ∙ get_or-map-range_with_len class_of 0 256 c.from.result c.args.byte 0 (omega arith) (omega arith)
