-- Lanes keep the laws. Assumes nothing.
use Rattle.std.specs.Prelude.{List, [], ◌∷◌, map}
use Rattle.protocol.specs.Laws.{Lawful}
use Rattle.protocol.proofs.Joining.{lanes_lawful}
use Rattle.protocol.proofs.Presence.{presence_lawful}
use Rattle.std.specs.List.{AllByRecursion}
use Rattle.kinds.specs.RangesLemmas.{threshold_in_range, remainder_in_range}
use Rattle.compiled.specs.declared.lane.Lane.{Lane}
use Rattle.compiled.specs.declared.lane.Lane.TheVariants.{Threshold, Remainder, Presence}
use Rattle.compiled.specs.Lanes.{lane_meaning, lanes_of}

pub lane_lawful : (l : Lane) → Lawful (lane_meaning l).protocol
lane_lawful (Threshold q) = threshold_in_range q.coefficients q.bound q.eight q.fits
lane_lawful (Remainder q) = remainder_in_range q.coefficients q.modulus q.residue q.eight q.fits
lane_lawful (Presence q) = presence_lawful q.mask

each_lawful : (ls : List Lane) → AllByRecursion Lawful (map (λ l. (lane_meaning l).protocol) ls)
each_lawful [] = tt
each_lawful (l ∷ ls) = (lane_lawful l, each_lawful ls)

pub lanes_of_lawful : (ls : List Lane) → Lawful (lanes_of ls)
lanes_of_lawful ls = lanes_lawful (map (λ l. (lane_meaning l).protocol) ls) (each_lawful ls)
