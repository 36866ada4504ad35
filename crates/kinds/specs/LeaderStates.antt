-- The states of the tags that a leader was found among. Assumes nothing.
use Rattle.std.specs.Prelude.{ℕ, List, map}
use Rattle.protocol.specs.Protocols.{state_read}
use Rattle.kinds.specs.declared.leader.Leader.{Leader}

-- what its digit reads in its words
abbrev pub states_of : Leader → List ℕ
states_of l = map (state_read l.digit.unit l.digit.size) l.words.now
