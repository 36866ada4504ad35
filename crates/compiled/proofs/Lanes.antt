-- What the code computes of lanes is what the first and the rest reply. Assumes nothing.
use Rattle.std.specs.Prelude.{◌≡◌, ℕ, cond, Some, None, ◌+◌, suc, ◌-◌, ◌*◌, ◌<◌, List, [], ◌∷◌, length, take, drop, reverse, slice_index_or, refl}
use Rattle.std.proofs.Common.{ltb, sym, ap, ◌∙◌, arith}
use Rattle.std.proofs.lemmas.Bool.Decides.{nat_tests}
use Rattle.std.proofs.lemmas.List.{take_all}
use Rattle.std.proofs.lemmas.Grind.{common_steps}
use Rattle.std.specs.List.{fold}
use Rattle.protocol.specs.Joining.{bounded, one_if, answers_number}
use Rattle.protocol.specs.Protocols.{answer_reply}
use Rattle.question.specs.Halves.{halves_reply}
use Rattle.question.proofs.Halves.{halves_facts}
use Rattle.question.proofs.Replies.{halves_some}
use Rattle.compiled.specs.declared.lane.Lane.{Lane}
use Rattle.compiled.specs.Lanes.{lane_meaning, lanes_of}

-- a slice by its first item and the rest
abbrev pub tail : {X : Type 0} → List X → List X
tail xs = take (length xs - 1) (drop 1 xs)

pub first_and_rest : {X : Type 0} (xs : List X) (x : X) → 0 < length xs → x ≡ slice_index_or xs 0 x → xs ≡ x ∷ tail xs
first_and_rest [] x h e = absurd (omega arith)
first_and_rest (y ∷ ys) x h e = ap (λ z. z ∷ ys) (sym e) ∙ ap (λ zs. x ∷ zs) (sym (take_all (suc (length ys) - 1) ys (omega arith)))

-- the sizes from the last lane to the first
pub size_folded : (ls : List Lane) → fold (λ right l. bounded ((lane_meaning l).protocol.tables.size * right)) 1 (reverse ls) ≡ (lanes_of ls).tables.size
size_folded [] = refl
size_folded (l ∷ ls) = grind (arith, common_steps, size_folded ls)

-- the answers of a known state, by that of the first lane and those of the rest
pub answers_joined : (l : Lane) (rest : List Lane) (state first others answers one : ℕ)
    → halves_reply (lane_meaning l).protocol.tables.size (lanes_of rest).tables.size state ≡ Some (first, others)
    → one ≡ one_if (answer_reply (lane_meaning l).protocol.tables first)
    → Some answers ≡ cond (ltb others (lanes_of rest).tables.size) (Some (answers_number ((lanes_of rest).tables.answer others))) None
    → Some (one + 2 * answers) ≡ cond (ltb state (lanes_of (l ∷ rest)).tables.size) (Some (answers_number ((lanes_of (l ∷ rest)).tables.answer state))) None
answers_joined l rest state first others answers one e here more =
    let it = halves_some (lane_meaning l).protocol.tables.size (lanes_of rest).tables.size state first others e in
    let facts = halves_facts (lane_meaning l).protocol.tables.size (lanes_of rest).tables.size state it.0 in
    grind (arith, nat_tests)
