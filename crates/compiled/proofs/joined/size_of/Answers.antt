-- The sizes from the last lane to the first. Assumes nothing.
use Rattle.std.proofs.Common.{◌≡◌, ◌*◌, reverse, ◌∙◌, rules}
use Rattle.std.specs.List.{fold}
use Rattle.protocol.specs.Joining.{bounded}
use Rattle.compiled.specs.Lanes.{lane_meaning}
use Rattle.compiled.proofs.Lanes.{size_folded}
use Rattle.compiled.proofs.joined.size_of.Goals as goal

pub returns : goal.returns
returns c =
    let folded : c.fold.result ≡ fold (λ right l. bounded ((lane_meaning l).protocol.tables.size * right)) 1 (reverse c.args.lanes.now) = search rules in
    folded ∙ size_folded c.args.lanes.now
