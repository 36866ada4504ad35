-- The advice of a leader, by the rules that it was given. Assumes nothing.
use Rattle.std.proofs.Common.{◌≡◌, ℕ, Bool, true, List, [], ◌∷◌, ◌++◌, map, length, Some, None, Option, sym, refl, ap, ◌∙◌, arith}
use Rattle.std.specs.Option.{option_or}
use Rattle.std.proofs.lemmas.List.{length-map, map-append}
use Rattle.std.proofs.lemmas.Bool.{lt-ltb}
use Rattle.protocol.specs.Places.{lowest, other, first_fit, paired, led, state_at}
use Rattle.protocol.specs.Protocols.{Protocol, state_read, allowed_unit, advice_reply}
use Rattle.protocol.proofs.Places.{lowest_some}
use Rattle.question.proofs.Replies.{advice_read}
use Rattle.kinds.specs.Leaders.{leading, partner_by}
use Rattle.kinds.specs.LeaderStates.{states_of}
use Rattle.kinds.specs.declared.leader.Leader.{Leader}

-- one rule more, where those before found nobody
last_or : (o : Option ℕ) → o ≡ elim o [ Some k ↦ Some k | None ↦ None ]
last_or (Some k) = refl
last_or None = refl

first_or : (o a b c : Option ℕ) → option_or a b ≡ c → option_or (elim o [ Some k ↦ Some k | None ↦ a ]) b ≡ elim o [ Some k ↦ Some k | None ↦ c ]
first_or (Some k) a b c e = refl
first_or None a b c e = e

fit_or : (tests : List (ℕ → Bool)) (test : ℕ → Bool) (n : ℕ) → option_or (first_fit tests n) (lowest test n) ≡ first_fit (tests ++ test ∷ []) n
fit_or [] test n = last_or (lowest test n)
fit_or (t ∷ tests) test n = first_or (lowest t n) _ _ _ (fit_or tests test n)

module _ (leader : Leader) where
  abbrev states : List ℕ
  states = states_of leader

  -- a test of a state, as one of the other places
  abbrev beside : (ℕ → Bool) → ℕ → Bool
  beside test = other leader.place (λ place. test (state_at states place))

  -- the leader after these rules
  pub record Ruled (tests : List (ℕ → Bool)) (after : Leader) : Type 0 where
    pub same : (after.place ≡ leader.place) × (states_of after ≡ states)
    pub found : after.partner ≡ first_fit (map beside tests) (length states)

  pub no_rule : leader.partner ≡ None → Ruled [] leader
  no_rule e = record { same = (refl, refl); found = e }

  pub one_more : {tests : List (ℕ → Bool)} {before : Leader} (after : Leader) (test : ℕ → Bool) → Ruled tests before
      → (after.place ≡ before.place) × (states_of after ≡ states_of before)
      → after.partner ≡ option_or before.partner (partner_by test (states_of before) before.place)
      → Ruled (tests ++ test ∷ []) after
  one_more {tests} {before} after test ruled same found = record {
    same = (same.0 ∙ ruled.same.0, same.1 ∙ ruled.same.1);
    found = rw (found, ruled.found, ruled.same.0, ruled.same.1, map-append) (fit_or (map beside tests) (beside test) (length states));
  }

  -- the advice after all rules
  pub led_reply : {A : Type 0} (p : Protocol A) (rules : ℕ → List (ℕ → Bool)) (words : List ℕ) (unit size : ℕ) {tests : List (ℕ → Bool)} (after : Leader)
      → p.next states ≡ led (leading states) rules (length states) → rules leader.place ≡ map beside tests
      → size ≡ p.tables.size → allowed_unit unit size ≡ true → states ≡ map (state_read unit size) words
      → Ruled tests after → paired (Some after.place) after.partner ≡ advice_reply p words unit
  led_reply p rules words unit size after next named sized ok read ruled =
      let within = (lowest_some _ (length states) leader.place leader.lowest).0 in
      let long = ap length read ∙ length-map words (state_read unit size) in
      ap (λ k. paired (Some k) after.partner) ruled.same.0
      ∙ ap (paired (Some leader.place)) (ruled.found ∙ ap (λ ts. first_fit ts (length states)) (sym named))
      ∙ sym (advice_read p words unit size unit size sized (sym ok) refl refl (lt-ltb 0 (length words) (omega arith))
      ∙ ap p.next (sym read)
      ∙ next
      ∙ ap (λ o. led o rules (length states)) leader.lowest)
