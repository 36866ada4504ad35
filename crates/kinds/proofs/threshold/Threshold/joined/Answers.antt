-- The sum, what is kept of it and what is left do not pass 32 bits. Assumes nothing.
use Rattle.std.proofs.Common.{arith, rules, to_z, of_z, w32}
use Rattle.std.proofs.lemmas.Int.{ints}
use Rattle.kinds.proofs.ThresholdNumbers.{kept_is, rest_within, met_numbers}
use Rattle.kinds.proofs.threshold.Threshold.joined.Goals as goal

pub packed-requires-2 : goal.packed-requires-2
packed-requires-2 c =
    let s = c.args.self.now.span in
    let a = c.args.a.value in
    let b = c.args.b.value in
    let kept = kept_is s a b c.clamp-kept.result (omega arith) c.requires.first c.requires.second c.clamp-kept.ensures.value in
    omega (arith, ints, kept, rest_within s a b c.requires.first c.requires.second)

pub returns : goal.returns
returns c =
    let q = c.args.self.now in
    let s = q.span in
    let a = c.args.a in
    let b = c.args.b in
    let k = c.clamp-kept.result in
    let kept = kept_is s a.value b.value k (omega arith) c.requires.first c.requires.second c.clamp-kept.ensures.value in
    rw (c.packed.ensures, c.packed-2.ensures)
    (met_numbers s q.bound a b (to_z w32 (of_z w32 k)) _ (to_z w32 (of_z w32 q.bound)) c.requires.leads (omega (arith, ints, kept)) (omega (arith, ints, kept)) (search rules))
