-- The law of a list of checks. Assumes nothing.
use Rattle.std.proofs.Common.{List, [], ◌∷◌, Ok, Err, refl}
use Rattle.refusal.specs.Checks.{Check, FirstNo, all_yes, refused, FirstNoDecides}

-- one yes more in front
further : {cs : List Check} {v : Check} → FirstNo cs v → FirstNo (Ok tt ∷ cs) v
further (all_yes h) = all_yes (refl, h)
further (refused before rest f h) = refused (Ok tt ∷ before) rest f (refl, h)

pub first_no_decides : FirstNoDecides
first_no_decides [] = all_yes tt
first_no_decides (Ok tt ∷ cs) = further (first_no_decides cs)
first_no_decides (Err f ∷ cs) = refused [] cs f tt
