-- The tags of a load by their places. Assumes nothing.
use Rattle.std.specs.Prelude.{◌≡◌, ℕ, zero, suc, ◌<◌, Bool, true, false, cond, not, ◌&&◌, List, [], ◌∷◌, Some, None, Option, ◌==◌, slice_index, slice_set}
use Rattle.protocol.specs.declared.Advice.{Advice}
use Rattle.protocol.specs.declared.Advice.TheVariants.{Meet, Settled, Lost}

-- the state at a place
abbrev pub state_at : List ℕ → ℕ → ℕ
state_at states place = slice_index states place

-- the states after a meeting of the first and the second place
abbrev pub meeting : (ℕ → ℕ → ℕ × ℕ) → List ℕ → ℕ → ℕ → List ℕ
meeting meet states first second =
    let left : ℕ × ℕ = meet (state_at states first) (state_at states second) in
    slice_set (slice_set states first left.0) second left.1

-- two different places of a load of n tags
pub record Apart (n first second : ℕ) : Type 0 where
  pub first_within : first < n
  pub second_within : second < n
  pub differ : first ≡ second → ⊥

-- what advice has to be for a load of n tags that meetings have left: it names two of its places, or nobody has to meet, and it is never Lost
abbrev pub Advised : ℕ → Advice → Type 0
Advised n (Meet first second) = Apart n first second
Advised n Settled = Unit {0}
Advised n Lost = ⊥

-- the lowest of the n places 0 to n - 1 that passes a test, if one does
unfoldable pub lowest : (ℕ → Bool) → ℕ → Option ℕ
lowest test zero = None
lowest test (suc n) = elim (lowest test n) [ Some place ↦ Some place | None ↦ cond (test n) (Some n) None ]

-- the same test, passed only by places other than this one
abbrev pub other : ℕ → (ℕ → Bool) → ℕ → Bool
other here test place = not (place == here) && test place

-- the lowest place that passes the first test that any of the n places passes
abbrev pub first_fit : List (ℕ → Bool) → ℕ → Option ℕ
first_fit [] n = None
first_fit (test ∷ tests) n = elim (lowest test n) [ Some place ↦ Some place | None ↦ first_fit tests n ]

-- the first meets the partner where there are both, and else nobody has to meet
abbrev pub paired : Option ℕ → Option ℕ → Advice
paired None partner = Settled
paired (Some first) None = Settled
paired (Some first) (Some partner) = Meet first partner

-- the advice where one tag leads: it meets the partner that the rules name for it, in their order; without a leader the load is lost
abbrev pub led : Option ℕ → (ℕ → List (ℕ → Bool)) → ℕ → Advice
led None rules n = Lost
led (Some leader) rules n = paired (Some leader) (first_fit (rules leader) n)
