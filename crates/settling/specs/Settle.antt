-- What `settle` and `ask` answer and leave. Assumes nothing.
use Rattle.std.specs.Prelude.{◌≡◌, ℕ, ◌-◌, ◌*◌, ◌≤◌, Bool, List, length, Ok, Err, Result}
use Rattle.reading.specs.declared.Symbol.{Symbol}
use Rattle.refusal.specs.declared.Fault.{Fault}
use Rattle.protocol.specs.declared.Advice.{Advice}
use Rattle.protocol.specs.declared.Advice.TheVariants.{Settled}
use Rattle.protocol.specs.Protocols.{Protocol, advice_reply}
use Rattle.load.specs.Asked.{advise_verdict, start_words}
use Rattle.load.specs.declared.phases.Ready.{Ready}
use Rattle.load.specs.declared.phases.Refused.{Refused}
use Rattle.load.specs.Phases.{Phase, ready, of_ready}
use Rattle.settling.specs.declared.Followed.{Followed}
use Rattle.settling.specs.Following.{AdvisedMeeting, AdvisedMeetings, SettlesWith}
use Rattle.settling.specs.Stability.{TouchedByCalls}

-- what `settle` has done with a ready load of so many tags: so many advised meetings, and the advice that it ended with
pub record Settling (p : Protocol Bool) (tags : ℕ) (words : List ℕ) (meetings : ℕ) (advice : Advice) (end : List ℕ) : Type 0 where
  pub followed : AdvisedMeetings p tags words meetings end
  pub few : meetings ≤ p.weight * (tags - 1)
  -- the advice is that on the words at the end
  pub last : advice ≡ advice_reply p end 1
  -- it did not end sooner than it had to: where one more advised meeting could be made, it has made all that it may
  pub no_sooner : {left : List ℕ} → AdvisedMeeting p tags end left → meetings ≡ p.weight * (tags - 1)
  -- and it settles every load that was touched by calls only
  pub settles : {symbols : List Symbol} → TouchedByCalls p symbols (ready tags) words → advice ≡ Settled

-- what it answers: refused as advise is, and then nothing has changed; else the same load, the meetings made and the advice at the end
abbrev pub AnswersSettle : Protocol Bool → Ready → List ℕ → Result Followed (Refused Ready) → List ℕ → Type 0
AnswersSettle p load words (Ok f) end =
    (advise_verdict p.tables load.tags words ≡ Ok tt)
    × (of_ready f.load ≡ of_ready load)
    × Settling p load.tags words f.meetings f.advice end
AnswersSettle p load words (Err r) end =
    (advise_verdict p.tables load.tags words ≡ Err r.fault) × (of_ready r.kept ≡ of_ready load) × (end ≡ words)

-- the load that it gives, or gives back
abbrev pub load_after : Result Followed (Refused Ready) → Phase
load_after (Ok f) = of_ready f.load
load_after (Err r) = of_ready r.kept

-- what `ask` leaves in the words: as they were where it is refused; else those of the load that was started and then settled by the advice
abbrev pub AskLeaves : Protocol Bool → List Symbol → List ℕ → Result Bool Fault → List ℕ → Type 0
AskLeaves p symbols words (Ok answer) end =
    SettlesWith p (length symbols) (start_words p.tables symbols) (p.weight * (length symbols - 1)) end
AskLeaves p symbols words (Err f) end = end ≡ words
