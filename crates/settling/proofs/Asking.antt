-- A load that was started and settled answers the truth: the promise, used on the calls that were made. Assumes nothing.
use Rattle.std.proofs.Common.{◌≡◌, ℕ, ◌-◌, ◌*◌, ◌<◌, Bool, List, length, Ok, Err, Result, sym, ap, ◌∙◌, subst}
use Rattle.reading.specs.Counting.{counts_of}
use Rattle.reading.specs.declared.Symbol.{Symbol}
use Rattle.refusal.specs.declared.Fault.{Fault}
use Rattle.refusal.specs.Checks.{Check}
use Rattle.protocol.specs.Laws.{Lawful}
use Rattle.protocol.specs.Places.{state_at}
use Rattle.protocol.specs.Protocols.{Protocol, answer_reply}
use Rattle.load.specs.Asked.{start_verdict, read_verdict, start_words, granted}
use Rattle.load.specs.declared.phases.Ready.{Ready}
use Rattle.load.specs.declared.phases.Refused.{Refused}
use Rattle.load.specs.Calls.{Calls, none, Start, Request, Reply}
use Rattle.load.specs.Phases.{Phase, of_ready}
use Rattle.settling.specs.declared.Followed.{Followed}
use Rattle.settling.specs.Following.{IsSettled, SettlesWith}
use Rattle.settling.specs.Settle.{AnswersSettle}
use Rattle.settling.specs.Stability.{TouchedByCalls, StillComputes}
use Rattle.settling.proofs.Following.{same_tags}
use Rattle.settling.proofs.Stability.{stably_computes}
use Rattle.settling.proofs.Verdicts.{Fit, start_facts, advise_grants, read_grants}

-- a granted start, as its contract has it
module _ (p : Protocol Bool) (law : Lawful p) (symbols : List Symbol) (words : List ℕ) (load : Ready) (begun : List ℕ)
    (ok : start_verdict p.tables symbols words ≡ Ok tt) (tags : load.tags ≡ length symbols) (starts : begun ≡ start_words p.tables symbols)
    (start : Start p symbols (of_ready load) begun) where
  -- touched by these calls only
  touched : {calls : List (Request × Reply)} {phase : Phase} {end : List ℕ} → Calls p (of_ready load) begun calls phase end → TouchedByCalls p symbols phase end
  touched {calls} called = record { at_start = of_ready load; words_at_start = begun; calls = calls; started = start; called = called }

  fits : {phase : Phase} {end : List ℕ} → StillComputes p symbols phase end → (n : ℕ) → n ≡ length symbols → Fit p.tables n end
  fits {end = end} still n e = subst (λ n. Fit p.tables n end) (sym e) (record { long = still.long; known = still.known })

  -- so settle is not refused
  pub not_refused : (r : Refused Ready) (end : List ℕ) → AnswersSettle p load begun (Err r) end → ⊥
  not_refused r end answer =
      let still = stably_computes p law symbols (of_ready load) begun (touched none) in
      let no : ◌≡◌ {A = Check} (Err r.fault) (Ok tt) = sym answer.0 ∙ advise_grants p.tables load.tags begun (fits still load.tags tags) in
      cc

  module _ (f : Followed) (end : List ℕ) (answer : AnswersSettle p load begun (Ok f) end) (calls : List (Request × Reply))
      (called : Calls p (of_ready load) begun calls (of_ready f.load) end) where
    settled : IsSettled p end
    settled = sym answer.2.last ∙ answer.2.settles (touched none)

    -- and the read of the first tag is granted, and answers the truth
    pub answers_truth : (r : Result Bool Fault)
        → r ≡ granted (read_verdict p.tables f.load.tags 0 end) (answer_reply p.tables (state_at end 0))
        → (r ≡ Ok (p.truth (counts_of symbols))) × SettlesWith p (length symbols) (start_words p.tables symbols) (p.weight * (length symbols - 1)) end
    answers_truth r e =
        let still = stably_computes p law symbols (of_ready f.load) end (touched called) in
        let n : f.load.tags ≡ length symbols = same_tags f.load load answer.1 ∙ tags in
        let some = (start_facts p.tables symbols words ok).1.some in
        let reads = read_grants p.tables f.load.tags end (fits still f.load.tags n) 0 (subst (λ n. 0 < n) (sym n) some) in (
          e ∙ ap (λ v. granted v (answer_reply p.tables (state_at end 0))) reads ∙ ap (λ b. Ok b) (still.right settled 0 some),
          subst (λ ws. SettlesWith p (length symbols) ws (p.weight * (length symbols - 1)) end) starts
              (subst (λ n. SettlesWith p n begun (p.weight * (n - 1)) end) tags
              (record { meetings = f.meetings; few = answer.2.few; followed = answer.2.followed; settled = settled })),
        )
