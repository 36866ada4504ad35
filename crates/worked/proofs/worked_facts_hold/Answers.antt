-- The table is computed. Assumes nothing.
use Rattle.std.proofs.Common.{refl}
use Rattle.protocol.specs.Places.{lowest}
use Rattle.worked.specs.Facts.{settled, meets}
use Rattle.worked.proofs.worked_facts_hold.Goals as goal

pub returns : goal.returns
unfolding lowest
returns c = (
  refl,
  (
    refl,
    (
      refl,
      (
        (refl, meets 0 1 refl refl (meets 0 2 refl refl (meets 0 1 refl refl (settled refl))), (refl, (refl, (refl, tt)))),
        (
          (refl, meets 0 1 refl refl (meets 0 2 refl refl (meets 0 1 refl refl (settled refl))), (refl, (refl, (refl, tt)))),
          (
            refl,
            ((refl, meets 0 1 refl refl (settled refl), (refl, (refl, tt))), tt),
          ),
        ),
      ),
    ),
  ),
)
