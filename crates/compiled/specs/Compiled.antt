-- What a compiled question shows of its array. Assumes nothing.
use Rattle.std.specs.Prelude.{List, take}
use Rattle.compiled.specs.declared.lane.Lane.{Lane}
use Rattle.compiled.specs.declared.question_of_lanes.Compiled.{Compiled}

-- the lanes of a question, in their order
abbrev pub lanes_in : Compiled → List Lane
lanes_in q = take q.count q.kept
