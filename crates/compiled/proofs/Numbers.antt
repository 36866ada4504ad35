-- One number a lane, each way: each undoes the other. Assumes nothing.
use Rattle.std.proofs.Common.{◌≡◌, ℕ, suc, ◌*◌, ◌<◌, ◌≢◌, true, ltb, List, [], ◌∷◌, length, get_or, Some, None, sym, refl, ap, ◌∙◌, subst, div-add-mod', arith}
use Rattle.std.proofs.lemmas.Bool.Decides.{nat_tests}
use Rattle.std.proofs.lemmas.Grind.{common_steps, same_number_lists}
use lib.Arith.{digits_lt, digits_div, digits_mod}
use Rattle.std.proofs.lemmas.Bool.{and_from, and_parts, lt-ltb, ltb-true, both_ways}
use Rattle.protocol.specs.Joining.{joined, left_of, right_of}
use Rattle.protocol.proofs.Joining.{bounded_is, factors}
use Rattle.question.specs.Halves.{halves_reply}
use Rattle.question.specs.Halves as halves
use Rattle.question.proofs.Halves.{halves_facts}
use Rattle.compiled.specs.declared.lane.Lane.{Lane}
use Rattle.compiled.specs.Lanes.{lane_meaning, lanes_of, split_number, join_numbers, each_known, lane_state_reply, number_reply}

abbrev size_of : List Lane → ℕ
size_of ls = (lanes_of ls).tables.size

abbrev lane_size : Lane → ℕ
lane_size l = (lane_meaning l).protocol.tables.size

-- the sizes of the first lane and the rest, where together they are not too large
parts : (l : Lane) (ls : List Lane) → 0 < size_of (l ∷ ls) → (size_of (l ∷ ls) ≡ lane_size l * size_of ls) × (0 < lane_size l) × (0 < size_of ls)
parts l ls h =
    let same = bounded_is (lane_size l * size_of ls) h in
    let two = factors (lane_size l) (size_of ls) (omega arith) in
    (same.0, two.0, two.1)

pub split_known : (ls : List Lane) (state : ℕ) → state < size_of ls → (each_known ls (split_number ls state) ≡ true) × (join_numbers ls (split_number ls state) ≡ state)
split_known [] state h = (refl, omega arith)
split_known (l ∷ ls) state h =
    let it = halves_facts (lane_size l) (size_of ls) state h in
    let rest = split_known ls (right_of (size_of ls) state) it.3 in (
      and_from _ _ (lt-ltb (left_of (size_of ls) state) (lane_size l) it.2) rest.0,
      ap (joined (size_of ls) (left_of (size_of ls) state)) rest.1 ∙ div-add-mod' state (size_of ls),
    )

pub join_known : (ls : List Lane) (ns : List ℕ) → 0 < size_of ls → each_known ls ns ≡ true → (join_numbers ls ns < size_of ls) × (split_number ls (join_numbers ls ns) ≡ ns)
join_known [] [] h e = (omega arith, refl)
join_known [] (n ∷ ns) h e = absurd (both_ways true (sym e) refl)
join_known (l ∷ ls) [] h e = absurd (both_ways true (sym e) refl)
join_known (l ∷ ls) (n ∷ ns) h e =
    let size = parts l ls h in
    let known = and_parts (ltb n (lane_size l)) (each_known ls ns) e in
    let first = ltb-true n (lane_size l) known.0 in
    let rest = join_known ls ns size.2 known.1 in
    let low = join_numbers ls ns in (
      subst (λ m. joined (size_of ls) n low < m) (sym size.0) (digits_lt first rest.0),
      ap (λ x. x ∷ split_number ls (right_of (size_of ls) (joined (size_of ls) n low))) (digits_div n rest.0)
          ∙ ap (λ x. n ∷ split_number ls x) (digits_mod n rest.0)
          ∙ ap (λ xs. n ∷ xs) rest.1,
    )

pub split_undone : (ls : List Lane) (state : ℕ) → state < size_of ls → number_reply ls (split_number ls state) ≡ Some state
split_undone ls state h =
    let it = split_known ls state h in
    grind (arith, nat_tests)

-- what a number that was given fulfils
given : (ls : List Lane) (ns : List ℕ) (state : ℕ) → number_reply ls ns ≡ Some state → (0 < size_of ls) × (each_known ls ns ≡ true) × (join_numbers ls ns ≡ state)
given ls ns state e =
    let some : 0 < size_of ls = grind (arith, nat_tests) in
    let known : each_known ls ns ≡ true = grind (arith, nat_tests) in
    (some, known, grind (arith, nat_tests))

-- as many numbers as lanes
known_length : (ls : List Lane) (ns : List ℕ) → each_known ls ns ≡ true → length ns ≡ length ls
known_length [] [] e = refl
known_length [] (n ∷ ns) e = grind arith
known_length (l ∷ ls) [] e = grind arith
known_length (l ∷ ls) (n ∷ ns) e = grind (arith, known_length ls ns)

-- another number of numbers than of lanes
pub lacking : (ls : List Lane) (ns : List ℕ) → length ns ≢ length ls → None ≡ number_reply ls ns
lacking ls ns differ = grind (arith, nat_tests, known_length ls ns)

-- the state of numbers has each of them in its lane
pub number_undone : (ls : List Lane) (ns : List ℕ) (state k : ℕ) → number_reply ls ns ≡ Some state → k < length ns → lane_state_reply ls k state ≡ Some (get_or ns k 0)
number_undone ls ns state k e h =
    let it = given ls ns state e in
    let known = join_known ls ns it.0 it.1 in
    let long = known_length ls ns it.1 in
    grind (arith, nat_tests)

split_length : (ls : List Lane) (state : ℕ) → length (split_number ls state) ≡ length ls
split_length [] state = refl
split_length (l ∷ ls) state = ap suc (split_length ls (right_of (size_of ls) state))

-- what a lane's number that was given fulfils
lane_given : (ls : List Lane) (k state n : ℕ) → lane_state_reply ls k state ≡ Some n → (state < size_of ls) × (get_or (split_number ls state) k 0 ≡ n)
lane_given ls k state n e =
    let known : state < size_of ls = grind (arith, nat_tests) in
    (known, grind (arith, nat_tests))

-- the numbers that the lanes of a state have make it again
pub lanes_undone : (ls : List Lane) (state : ℕ) (ns : List ℕ) → 0 < length ls → length ns ≡ length ls
    → ((k : ℕ) → k < length ns → lane_state_reply ls k state ≡ Some (get_or ns k 0)) → number_reply ls ns ≡ Some state
lanes_undone ls state ns some long each =
    let first = lane_given ls 0 state (get_or ns 0 0) (each 0 (omega arith)) in
    let same : ns ≡ split_number ls state =
    same_number_lists ns (split_number ls state) (long ∙ sym (split_length ls state))
    (λ k h. sym (lane_given ls k state (get_or ns k 0) (each k h)).1) in
    ap (number_reply ls) same ∙ split_undone ls state first.0

-- the first number before that of the rest
pub number_joined : (l : Lane) (rest : List Lane) (n : ℕ) (ns : List ℕ) (low : ℕ)
    → number_reply rest ns ≡ Some low → halves.number_reply (lane_size l) (size_of rest) n low ≡ number_reply (l ∷ rest) (n ∷ ns)
number_joined l rest n ns low e =
    let it = given rest ns low e in
    let known = join_known rest ns it.0 it.1 in
    grind (arith, common_steps)
