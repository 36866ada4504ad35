-- What the checks of lanes and a table say. Assumes nothing.
use Rattle.std.proofs.Common.{◌≡◌, ℕ, ◌+◌, ◌*◌, ◌^◌, ◌<◌, ◌≤◌, ltb, List, [], ◌∷◌, ◌++◌, length, Ok, Err, sym, refl, subst, mul_assoc, mul_comm, mul-one, le-mul_of_pos_right, arith}
use Rattle.std.proofs.lemmas.Bool.Decides.{nat_tests}
use Rattle.std.proofs.lemmas.Bool.{cond-true, le-leb}
use Rattle.refusal.specs.declared.Refusal.TheVariants.{NumberRange}
use Rattle.refusal.specs.Checks.{Check, check, verdict}
use Rattle.protocol.specs.Joining.{bounded}
use Rattle.kinds.specs.RangesLemmas.{modulus_some}
use Rattle.compiled.specs.declared.lane.Lane.{Lane}
use Rattle.compiled.specs.declared.lane.Lane.TheVariants.{Threshold, Remainder, Presence}
use Rattle.compiled.specs.Lanes.{lane_meaning, lanes_of, states_checks, lanes_checks}

lane_some : (l : Lane) → 0 < (lane_meaning l).protocol.tables.size
lane_some (Threshold q) = omega arith
lane_some (Remainder q) = omega (arith, modulus_some q.coefficients q.modulus q.residue q.fits)
lane_some (Presence q) = omega arith

positive : (a b : ℕ) → 0 < a → 0 < b → 0 < a * b
positive a b ha hb = omega (arith, le-mul_of_pos_right a hb)

-- the second check decides unless the first is answered no
abbrev pub and_then : Check → Check → Check
and_then (Ok u) d = d
and_then (Err f) d = Err f

pub verdict-append : (cs ds : List Check) → verdict (cs ++ ds) ≡ and_then (verdict cs) (verdict ds)
verdict-append [] ds = refl
verdict-append (Ok u ∷ cs) ds = verdict-append cs ds
verdict-append (Err f ∷ cs) ds = refl

-- lanes that pass have a state
passed : (p k : ℕ) (ls : List Lane) → 0 < p → p ≤ 2 ^ 32 → verdict (states_checks p k ls) ≡ Ok tt → (0 < (lanes_of ls).tables.size) × (p * (lanes_of ls).tables.size ≤ 2 ^ 32)
passed p k [] some small e = (omega arith, omega (arith, mul-one p))
passed p k (l ∷ ls) some small e =
    let s = (lane_meaning l).protocol.tables.size in
    let r = (lanes_of ls).tables.size in
    let fits : p * s ≤ 2 ^ 32 = grind (arith, nat_tests) in
    let others : verdict (states_checks (p * s) (k + 1) ls) ≡ Ok tt = grind (arith, nat_tests) in
    let rest = passed (p * s) (k + 1) ls (positive p s some (lane_some l)) fits others in
    let whole : p * (s * r) ≤ 2 ^ 32 = omega (arith, mul_assoc p s r, rest.1) in
    let below : s * r ≤ p * (s * r) = omega (arith, le-mul_of_pos_right (s * r) some, mul_comm p (s * r)) in
    let is : bounded (s * r) ≡ s * r = cond-true _ _ 0 (le-leb (s * r) (2 ^ 32) (omega arith)) in
    (omega (arith, is, positive s r (lane_some l) rest.0), subst (λ n. p * n ≤ 2 ^ 32) (sym is) whole)

-- what a granted making fulfils
pub made_of : (ls : List Lane) (table : ℕ) (u : Unit {0}) → verdict (lanes_checks ls table) ≡ Ok u
    → (0 < length ls) × (length ls ≤ 6) × (0 < (lanes_of ls).tables.size) × (table < 2 ^ (2 ^ length ls))
made_of ls table u e =
    let both = verdict-append (states_checks 1 0 ls) (check NumberRange (ltb table (2 ^ (2 ^ length ls))) 0 ∷ []) in
    let states : verdict (states_checks 1 0 ls) ≡ Ok tt = grind (arith, nat_tests) in
    let some : 0 < length ls = grind (arith, nat_tests) in
    let few : length ls ≤ 6 = grind (arith, nat_tests) in
    let bits : table < 2 ^ (2 ^ length ls) = grind (arith, nat_tests) in
    (some, few, (passed 1 0 ls (omega arith) (omega arith) states).0, bits)
