-- The lowest place that passes, by what is known of the places before it. Assumes nothing.
use Rattle.std.proofs.Common.{◌≡◌, ℕ, ◌<◌, Bool, true, false, List, map, length, get_or, Some, None, Option, sym, ap, ◌∙◌, arith}
use Rattle.std.specs.Prelude.{MatchOption}
use Rattle.std.proofs.lemmas.List.{length-map, get_or-map}
use Rattle.protocol.specs.Places.{state_at}
use Rattle.protocol.specs.Protocols.{state_read}
use Rattle.protocol.proofs.Places.{lowest_is, lowest_fails}
use Rattle.question.specs.Tested.{lowest_read}

module _ (test : ℕ → ℕ → Bool) (unit size : ℕ) (words : List ℕ) where
  -- whether the word at a place passes
  abbrev passes : ℕ → Bool
  passes place = test place (state_read unit size (get_or words place 0))

  abbrev states : List ℕ
  states = map (state_read unit size) words

  same : (place : ℕ) → place < length words → test place (state_at states place) ≡ passes place
  same place h = ap (test place) (get_or-map (state_read unit size) words place 0 0 h)

  long : length states ≡ length words
  long = length-map words (state_read unit size)

  pub lowest_read_is : (found : Option ℕ)
      → MatchOption found
      ((k : ℕ) → k < length words → passes k ≡ false)
      (λ place. (place < length words) × (passes place ≡ true) × ((k : ℕ) → k < place → passes k ≡ false))
      → found ≡ lowest_read test unit size words
  lowest_read_is (Some place) (within, here, before) =
      sym (lowest_is _ (length states) place (omega (arith, long)) (same place within ∙ here) (λ k h. same k (omega arith) ∙ before k h))
  lowest_read_is None none =
      sym (lowest_fails _ (length states) (λ k h. let h' : k < length words = omega (arith, long) in same k h' ∙ none k h'))
