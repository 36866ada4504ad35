-- Following the advice leaves no choice, and settles every load that was touched by calls only. Assumes nothing.
use Rattle.std.proofs.Common.{◌≡◌, ℕ, suc, ◌+◌, ◌-◌, ◌*◌, ◌≤◌, Bool, ◌⊎◌, List, [], Ok, Err, Result, sym, refl, ap, ◌∙◌, subst, inl, inr, ⊎_elim, arith}
use Rattle.reading.specs.declared.Symbol.{Symbol}
use Rattle.refusal.specs.declared.Fault.{Fault}
use Rattle.refusal.specs.Checks.{Check}
use Rattle.protocol.specs.declared.Advice.{Advice}
use Rattle.protocol.specs.declared.Advice.TheVariants.{Meet, Settled}
use Rattle.protocol.specs.Laws.{Lawful}
use Rattle.protocol.specs.Places.{meeting}
use Rattle.protocol.specs.Protocols.{Protocol, meet_reply, advice_reply}
use Rattle.load.specs.Asked.{open_verdict, advise_verdict, granted}
use Rattle.load.specs.declared.phases.Ready.{Ready}
use Rattle.load.specs.declared.phases.Refused.{Refused}
use Rattle.load.specs.Calls.{Call, open_granted, finish_granted, advise_granted, Calls, call, Request, Reply, Open, Finish, Advise, done, advised}
use Rattle.load.specs.Calls as calls
use Rattle.load.specs.Phases.{Phase, ready, opened, of_ready}
use Rattle.settling.specs.declared.Followed.{Followed}
use Rattle.settling.specs.Following.{IsSettled, AdvisedMeeting, AdvisedMeetings, none, meets}
use Rattle.settling.specs.Settle.{AnswersSettle, load_after}
use Rattle.settling.specs.Stability.{TouchedByCalls, StablyComputes}
use Rattle.settling.proofs.Reaching.{meets_known, meeting_known}
use Rattle.settling.proofs.Stability.{advice_told, meeting_advised, stably_computes}
use Rattle.settling.proofs.Verdicts.{Fit, granted_ok, granted_err, open_facts, advise_facts, advise_grants}

-- what granted calls say
pub advise_told : {p : Protocol Bool} {tags : ℕ} {words : List ℕ} {a : Advice} {after : Phase} {left : List ℕ}
    → Call p Advise (ready tags) words (advised a) after left → advise_verdict p.tables tags words ≡ Ok tt
advise_told (advise_granted e) = e

pub open_told : {p : Protocol Bool} {tags first second : ℕ} {words : List ℕ} {after : Phase} {left : List ℕ}
    → Call p (Open first second) (ready tags) words done after left → open_verdict p.tables tags first second words ≡ Ok tt
open_told (open_granted e) = e

finish_told : {p : Protocol Bool} {tags first second : ℕ} {words : List ℕ} {after : Phase} {left : List ℕ}
    → Call p Finish (opened tags first second) words done after left → left ≡ meeting (meet_reply p.tables) words first second
finish_told (finish_granted e) = refl

module _ {p : Protocol Bool} {tags : ℕ} where
  -- the advised meeting is one and the same
  same_meeting : {words left other : List ℕ} → AdvisedMeeting p tags words left → AdvisedMeeting p tags words other → left ≡ other
  same_meeting one two =
      let same : ◌≡◌ {A = Advice} (Meet one.first one.second) (Meet two.first two.second) = advice_told one.advice ∙ sym (advice_told two.advice) in
      cc (finish_told one.finishing, finish_told two.finishing)

  -- where a meeting is advised the load is not settled
  unsettled : {words left : List ℕ} → AdvisedMeeting p tags words left → IsSettled p words → ⊥
  unsettled one s =
      let same : ◌≡◌ {A = Advice} (Meet one.first one.second) Settled = advice_told one.advice ∙ s in
      cc

  -- who follows the advice is on the way to where it settles
  on_the_way : {words here end : List ℕ} {k m : ℕ} → AdvisedMeetings p tags words k here → AdvisedMeetings p tags words m end → IsSettled p end
      → (d : ℕ) × (k + d ≡ m) × AdvisedMeetings p tags here d end
  on_the_way {m = m} none whole s = (m, omega arith, whole)
  on_the_way (meets one rest) none s = absurd (unsettled one s)
  on_the_way {here = here} {end = end} (meets {k = k} one rest) (meets {left = left} {k = m} two more) s =
      let it = on_the_way rest (subst (λ ws. AdvisedMeetings p tags ws m end) (sym (same_meeting one two)) more) s in
      (it.0, (let e = it.1 in omega arith), it.2)

  -- advised meetings are calls
  pub meetings_calls : {words end : List ℕ} {k : ℕ} → AdvisedMeetings p tags words k end → (list : List (Request × Reply)) × Calls p (ready tags) words list (ready tags) end
  meetings_calls none = ([], calls.none)
  meetings_calls (meets one rest) =
      let more = meetings_calls rest in
      (_, call one.advice (call one.opening (call one.finishing more.1)))

  -- one meeting more, at the end
  pub one_more : {words here left : List ℕ} {k : ℕ} → AdvisedMeetings p tags words k here → AdvisedMeeting p tags here left → AdvisedMeetings p tags words (suc k) left
  one_more none one = meets one none
  one_more (meets first rest) one = meets first (one_more rest one)

module _ (p : Protocol Bool) (law : Lawful p) (tags : ℕ) where
  -- an advised meeting has known words before and after it
  meeting_fits : {words left : List ℕ} → AdvisedMeeting p tags words left → Fit p.tables tags left
  meeting_fits {words} one =
      let t = p.tables in
      let fit = advise_facts t tags words (advise_told one.advice) in
      let facts = open_facts t tags words one.first one.second (open_told one.opening) in
      subst (Fit t tags) (sym (finish_told one.finishing ∙ meets_known t words one.first one.second facts.2 facts.3))
      (meeting_known p law tags words fit one.first one.second facts.1)

  -- advised meetings leave known words, if any was made
  meetings_fit : {words here : List ℕ} {k : ℕ} → AdvisedMeetings p tags words k here
      → (here ≡ words) ⊎ ((advise_verdict p.tables tags words ≡ Ok tt) × (advise_verdict p.tables tags here ≡ Ok tt))
  meetings_fit none = inl refl
  meetings_fit {here = here} (meets {left = left} one rest) =
      ⊎_elim
      (λ same. inr (advise_told one.advice, ap (λ ws. advise_verdict p.tables tags ws) same ∙ advise_grants p.tables tags left (meeting_fits one)))
      (λ both. inr (advise_told one.advice, both.1))
      (meetings_fit rest)

  -- settled at the end, where the load was touched by calls only
  pub ends_settled : {words here : List ℕ} {k : ℕ} → AdvisedMeetings p tags words k here
      → ((left : List ℕ) → AdvisedMeeting p tags here left → k ≡ p.weight * (tags - 1))
      → {symbols : List Symbol} → TouchedByCalls p symbols (ready tags) words → IsSettled p here
  ends_settled {words} {here} {k} followed stop {symbols} touched =
      let it = (stably_computes p law symbols (ready tags) words touched).settles tags refl in
      let rest = on_the_way followed it.1.followed it.1.settled in
      by rest.2 it.1.settled rest.1 it.1.few
    where
      by : {d m : ℕ} {end : List ℕ} → AdvisedMeetings p tags here d end → IsSettled p end → k + d ≡ m → m ≤ p.weight * (tags - 1) → IsSettled p here
      by none s e few = s
      by (meets {left = left} one more) s e few = let all = stop left one in absurd (omega arith)

-- all that settle promises of an answer and of the words that it leaves
abbrev pub Promised : Protocol Bool → Ready → List ℕ → Result Followed (Refused Ready) → List ℕ → Type 0
Promised p load words r end =
    record {
      result : AnswersSettle p load words r end;
      calls : (calls : List (Request × Reply)) × Calls p (of_ready load) words calls (load_after r) end;
      stable : StablyComputes p;
    }

-- where settle comes to this load and these words, after so many advised meetings
module _ {p : Protocol Bool} (law : Lawful p) (load here : Ready) {words : List ℕ} {k : ℕ} {now : List ℕ} (same : here.tags ≡ load.tags)
    (followed : AdvisedMeetings p load.tags words k now) where
  called : (list : List (Request × Reply)) × Calls p (of_ready load) words list (of_ready here) now
  called =
      let it = meetings_calls followed in
      (it.0, subst (λ n. Calls p (of_ready load) words it.0 (ready n) now) (sym same) it.1)

  -- the advice is refused: no meeting was made
  pub ends_refused : {f : Fault} → Err f ≡ granted (advise_verdict p.tables here.tags now) (advice_reply p now 1)
      → Promised p load words (Err (record { fault = f; kept = here })) now
  ends_refused {f} told =
      let refused : advise_verdict p.tables load.tags now ≡ Err f =
      subst (λ n. advise_verdict p.tables n now ≡ Err f) same (granted_err (advise_verdict p.tables here.tags now) f _ told) in
      record {
        result =
            ⊎_elim (λ back. (ap (advise_verdict p.tables load.tags) (sym back) ∙ refused, ap ready same, back))
            (λ both. let no : ◌≡◌ {A = Check} (Err f) (Ok tt) = sym refused ∙ both.1 in (cc))
            (meetings_fit p law load.tags followed);
        calls = called;
        stable = stably_computes p law;
      }

  module _ {advice : Advice} (told : Ok advice ≡ granted (advise_verdict p.tables here.tags now) (advice_reply p now 1)) where
    -- where the advice names two that can meet, all meetings were made that may be
    pub ends_granted : k ≤ p.weight * (load.tags - 1)
        → ((first second : ℕ) → advice ≡ Meet first second → open_verdict p.tables load.tags first second now ≡ Ok tt → k ≡ p.weight * (load.tags - 1))
        → Promised p load words (Ok (record { load = here; meetings = k; advice = advice })) now
    ends_granted few all =
        let it = granted_ok (advise_verdict p.tables here.tags now) advice _ told in
        let asked : advise_verdict p.tables load.tags now ≡ Ok tt = subst (λ n. advise_verdict p.tables n now ≡ Ok tt) same it.0 in
        let stop : (left : List ℕ) → AdvisedMeeting p load.tags now left → k ≡ p.weight * (load.tags - 1) =
        λ left one. all one.first one.second (it.1 ∙ sym (advice_told one.advice)) (open_told one.opening) in
        record {
          result = (
            ⊎_elim (λ back. ap (advise_verdict p.tables load.tags) (sym back) ∙ asked) (λ both. both.0) (meetings_fit p law load.tags followed),
            ap ready same,
            record {
              followed = followed;
              few = few;
              last = it.1;
              no_sooner = λ one. stop _ one;
              settles = λ touched. it.1 ∙ ends_settled p law load.tags followed stop touched;
            },
          );
          calls = called;
          stable = stably_computes p law;
        }

    -- the two that the advice names meet
    pub goes_on : (first second : ℕ) → advice ≡ Meet first second → open_verdict p.tables here.tags first second now ≡ Ok tt
        → AdvisedMeetings p load.tags words (suc k) (meeting (meet_reply p.tables) now first second)
    goes_on first second named opens =
        let it = granted_ok (advise_verdict p.tables here.tags now) advice _ told in
        one_more followed
        (subst (λ n. AdvisedMeeting p n now (meeting (meet_reply p.tables) now first second)) same
        (meeting_advised p here.tags now first second it.0 (sym it.1 ∙ named) opens))

-- ready loads are told by their tags
pub same_tags : (one two : Ready) → of_ready one ≡ of_ready two → one.tags ≡ two.tags
same_tags one two e = let same : ◌≡◌ {A = Phase} (ready one.tags) (ready two.tags) = e in cc
