-- Following the advice: advised meetings, one after the other, until the load is settled. Assumes nothing.
use Rattle.std.specs.Prelude.{◌≡◌, ℕ, suc, ◌≤◌, Bool, List}
use Rattle.protocol.specs.declared.Advice.TheVariants.{Meet, Settled}
use Rattle.protocol.specs.Protocols.{Protocol, advice_reply}
use Rattle.load.specs.Calls.{Call, Open, Finish, Advise, done, advised}
use Rattle.load.specs.Phases.{ready, opened}

-- the load is settled: the advice on its words is Settled, whether a meeting is open or not
abbrev pub IsSettled : Protocol Bool → List ℕ → Type 0
IsSettled p words = advice_reply p words 1 ≡ Settled

-- an advised meeting of a ready load: an advise, an open of the two places that it names, and a finish, all granted
pub record AdvisedMeeting (p : Protocol Bool) (tags : ℕ) (words left : List ℕ) : Type 0 where
  pub first : ℕ
  pub second : ℕ
  pub advice : Call p Advise (ready tags) words (advised (Meet first second)) (ready tags) words
  pub opening : Call p (Open first second) (ready tags) words done (opened tags first second) words
  pub finishing : Call p Finish (opened tags first second) words done (ready tags) left

-- so many advised meetings, one after the other, from these words to those
pub data AdvisedMeetings (p : Protocol Bool) (tags : ℕ) : List ℕ → ℕ → List ℕ → Type 0 where
  none : {words : List ℕ} → AdvisedMeetings p tags words 0 words
  meets : {words left end : List ℕ} {k : ℕ} → AdvisedMeeting p tags words left → AdvisedMeetings p tags left k end
      → AdvisedMeetings p tags words (suc k) end

-- following the advice settles the load after at most so many meetings, with these words at the end
pub record SettlesWith (p : Protocol Bool) (tags : ℕ) (words : List ℕ) (most : ℕ) (end : List ℕ) : Type 0 where
  pub meetings : ℕ
  pub few : meetings ≤ most
  pub followed : AdvisedMeetings p tags words meetings end
  pub settled : IsSettled p end
