-- Every question that keeps the laws computes stably: wherever a list of calls leaves a load, it still computes. Assumes nothing.
use Rattle.std.proofs.Common.{◌≡◌, ℕ, suc, ◌-◌, ◌*◌, ◌<◌, Bool, List, length, Ok, sym, refl, ap, ◌∙◌, subst, arith}
use Rattle.reading.specs.Counting.{counts_of}
use Rattle.reading.specs.declared.Symbol.{Symbol}
use Rattle.refusal.specs.declared.Fault.{Fault}
use Rattle.protocol.specs.declared.Advice.{Advice}
use Rattle.protocol.specs.declared.Advice.TheVariants.{Meet, Settled, Lost}
use Rattle.protocol.specs.Laws as laws
use Rattle.protocol.specs.Laws.{Lawful, Readings, Reached, met, Settles, step, Stable}
use Rattle.protocol.specs.Places.{Apart, meeting, state_at}
use Rattle.protocol.specs.Protocols.{Protocol, answer_reply, meet_reply, advice_reply}
use Rattle.load.specs.Asked.{open_verdict, advise_verdict}
use Rattle.load.specs.Calls.{Call, open_granted, open_refused, finish_granted, finish_refused, broken_off, advise_granted, advise_refused, read_granted, read_refused, Calls, none, call, other_words, Start, started, Request, Reply, Advise, Read, refused, advised, answered}
use Rattle.load.specs.Phases.{Phase, ready, opened}
use Rattle.settling.specs.Following as following
use Rattle.settling.specs.Following.{IsSettled, AdvisedMeeting, AdvisedMeetings, meets, SettlesWith}
use Rattle.settling.specs.Stability.{TouchedByCalls, StillComputes, StablyComputes}
use Rattle.settling.proofs.Reaching.{reached_fits, start_reached, advice_is, answers_known, meets_known}
use Rattle.settling.proofs.Verdicts.{start_facts, open_facts, open_finishes, read_facts, open_grants, advise_grants}

-- a granted advise tells the question's advice
pub advice_told : {p : Protocol Bool} {before : Phase} {words : List ℕ} {a : Advice} {after : Phase} {left : List ℕ} → Call p Advise before words (advised a) after left → a ≡ advice_reply p words 1
advice_told (advise_granted e) = refl

-- a granted read tells the tag's answer, at a place of the load
pub answer_told : {p : Protocol Bool} {place : ℕ} {before after : Phase} {words left : List ℕ} {b : Bool} → Call p (Read place) before words (answered b) after left → b ≡ answer_reply p.tables (state_at words place)
answer_told (read_granted e) = refl

-- an advised meeting, by what its three calls ask
pub meeting_advised : (p : Protocol Bool) (tags : ℕ) (words : List ℕ) (first second : ℕ) → advise_verdict p.tables tags words ≡ Ok tt
    → advice_reply p words 1 ≡ Meet first second → open_verdict p.tables tags first second words ≡ Ok tt
    → AdvisedMeeting p tags words (meeting (meet_reply p.tables) words first second)
meeting_advised p tags words first second asked named opens =
    record {
      first = first;
      second = second;
      advice = subst (λ a. Call p Advise (ready tags) words (advised a) (ready tags) words) named (advise_granted asked);
      opening = open_granted opens;
      finishing = finish_granted (open_finishes p.tables tags words first second opens);
    }

-- a refused call leaves the load as it was
refused_stays : {p : Protocol Bool} {request : Request} {before after : Phase} {words left : List ℕ} {f : Fault} → Call p request before words (refused f) after left → before ≡ after
refused_stays (open_refused e) = refl
refused_stays (finish_refused e) = refl
refused_stays (advise_refused e) = refl
refused_stays (read_refused e) = refl

module _ (p : Protocol Bool) (symbols : List Symbol) where
  -- the words are some that meetings can leave
  abbrev Reaches : List ℕ → Type 0
  Reaches words = Reached p.tables.start p.tables.meet symbols words

  -- what every call keeps: the number of tags, two different places of an open meeting, and words that meetings can leave
  abbrev pub Kept : Phase → List ℕ → Type 0
  Kept (ready tags) words = (tags ≡ length symbols) × Reaches words
  Kept (opened tags first second) words = (tags ≡ length symbols) × Reaches words × Apart tags first second

  kept_reaches : (phase : Phase) {words : List ℕ} → Kept phase words → Reaches words
  kept_reaches (ready tags) k = k.1
  kept_reaches (opened tags first second) k = k.1

not_lost_from : {next : List ℕ → Advice} {meet : ℕ → ℕ → ℕ × ℕ} {n : ℕ} {words : List ℕ} {k : ℕ} → Settles next meet n words k → next words ≡ Lost → ⊥
not_lost_from (laws.done e) lost = cc
not_lost_from (step first second e apart rest) lost = cc

module _ (p : Protocol Bool) (law : Lawful p) (symbols : List Symbol) (readings : Readings symbols) (big : 0 < p.tables.size) where
  stable_at : {words : List ℕ} → Reaches p symbols words → Stable p symbols words
  stable_at {words} reached = law.stable symbols words big readings reached

  -- what a finish leaves is what a meeting leaves
  finish_meets : {tags first second : ℕ} {words : List ℕ} → Kept p symbols (opened tags first second) words
      → meeting (meet_reply p.tables) words first second ≡ meeting p.tables.meet words first second
  finish_meets {tags = tags} {first = first} {second = second} {words = words} k =
      let fit = reached_fits p law symbols readings big k.1 in
      let apart = subst (λ n. Apart n first second) k.0 k.2 in
      meets_known p.tables words first second (fit.known first apart.first_within) (fit.known second apart.second_within)

  finish_reaches : {tags first second : ℕ} {words : List ℕ} → Kept p symbols (opened tags first second) words
      → Reaches p symbols (meeting (meet_reply p.tables) words first second)
  finish_reaches {tags = tags} {first = first} {second = second} {words = words} k =
      subst (Reaches p symbols) (sym (finish_meets k)) (met k.1 first second (subst (λ n. Apart n first second) k.0 k.2))

  call_keeps : {request : Request} {before : Phase} {words : List ℕ} {reply : Reply} {after : Phase} {left : List ℕ}
      → Call p request before words reply after left → Kept p symbols before words → Kept p symbols after left
  call_keeps (open_granted {tags} {first} {second} {words} e) k = (k.0, k.1, (open_facts p.tables tags words first second e).1)
  call_keeps (open_refused e) k = k
  call_keeps (finish_granted {tags} {first} {second} {words} e) k = (k.0, finish_reaches {tags = tags} {first = first} {second = second} {words = words} k)
  call_keeps (finish_refused e) k = k
  call_keeps broken_off k = (k.0, k.1)
  call_keeps (advise_granted e) k = k
  call_keeps (advise_refused e) k = k
  call_keeps (read_granted e) k = k
  call_keeps (read_refused e) k = k

  pub calls_keep : {calls : List (Request × Reply)} {before after : Phase} {words end : List ℕ} → Calls p before words calls after end → Kept p symbols before words → Kept p symbols after end
  calls_keep none k = k
  calls_keep (call one rest) k = calls_keep rest (call_keeps one k)
  calls_keep {words = words} (other_words e one rest) k = calls_keep rest (subst (λ phase. Kept p symbols phase words) (refused_stays one) k)

  -- no call unsettles
  call_stays : {request : Request} {before : Phase} {words : List ℕ} {reply : Reply} {after : Phase} {left : List ℕ}
      → Call p request before words reply after left → Kept p symbols before words → IsSettled p words → IsSettled p left
  call_stays (open_granted e) k s = s
  call_stays (open_refused e) k s = s
  call_stays (finish_granted {tags} {first} {second} {words} e) k s =
      let now_settled : p.next words ≡ Settled = sym (advice_is p law symbols readings big k.1) ∙ s in
      advice_is p law symbols readings big (finish_reaches {tags = tags} {first = first} {second = second} {words = words} k)
      ∙ ap p.next (finish_meets {tags = tags} {first = first} {second = second} {words = words} k)
      ∙ (stable_at k.1).stays now_settled first second (subst (λ n. Apart n first second) k.0 k.2)
  call_stays (finish_refused e) k s = s
  call_stays broken_off k s = s
  call_stays (advise_granted e) k s = s
  call_stays (advise_refused e) k s = s
  call_stays (read_granted e) k s = s
  call_stays (read_refused e) k s = s

  calls_stay : {calls : List (Request × Reply)} {before after : Phase} {words end : List ℕ} → Calls p before words calls after end → Kept p symbols before words → IsSettled p words → IsSettled p end
  calls_stay none k s = s
  calls_stay (call one rest) k s = calls_stay rest (call_keeps one k) (call_stays one k s)
  calls_stay {words = words} (other_words e one rest) k s = calls_stay rest (subst (λ phase. Kept p symbols phase words) (refused_stays one) k) s

  -- a meeting that the question advises is an advised meeting of the load
  advised_meeting : {words : List ℕ} → Reaches p symbols words → (first second : ℕ) → p.next words ≡ Meet first second → Apart (length symbols) first second
      → AdvisedMeeting p (length symbols) words (meeting p.tables.meet words first second)
  advised_meeting {words} reached first second e apart =
      let n = length symbols in
      let fit = reached_fits p law symbols readings big reached in
      subst (AdvisedMeeting p n words) (meets_known p.tables words first second (fit.known first apart.first_within) (fit.known second apart.second_within))
      (meeting_advised p n words first second (advise_grants p.tables n words fit) (advice_is p law symbols readings big reached ∙ e)
      (open_grants p.tables n words fit first second apart))

  -- following the advice by calls goes where the question's law leads
  follows : {words : List ℕ} {k : ℕ} → Reaches p symbols words → Settles p.next p.tables.meet (length symbols) words k
      → (end : List ℕ) × SettlesWith p (length symbols) words k end
  follows {words} reached (laws.done e) = (
    words,
    record { meetings = 0; few = omega arith; followed = following.none; settled = advice_is p law symbols readings big reached ∙ e },
  )
  follows {words} reached (step {k = k} first second e apart rest) =
      let it = follows (met reached first second apart) rest in (
        it.0,
        record {
          meetings = suc it.1.meetings;
          few = let h = it.1.few in omega arith;
          followed = meets (advised_meeting reached first second e apart) it.1.followed;
          settled = it.1.settled;
        },
      )

  right_from : {words : List ℕ} → Reaches p symbols words → IsSettled p words → (place : ℕ) → place < length symbols
      → answer_reply p.tables (state_at words place) ≡ p.truth (counts_of symbols)
  right_from {words} reached s place h =
      answers_known p.tables (state_at words place) ((reached_fits p law symbols readings big reached).known place h)
      ∙ (stable_at reached).right (sym (advice_is p law symbols readings big reached) ∙ s) place h

  read_right : {place : ℕ} {phase after : Phase} {words left : List ℕ} {b : Bool} → Kept p symbols phase words → IsSettled p words
      → Call p (Read place) phase words (answered b) after left → b ≡ p.truth (counts_of symbols)
  read_right k s (read_granted {tags} {place} {words} e) = right_from k.1 s place (subst (λ n. place < n) k.0 (read_facts p.tables tags words place e))

  pub kept_computes : (phase : Phase) (words : List ℕ) → Kept p symbols phase words → StillComputes p symbols phase words
  kept_computes phase words k =
      let reached = kept_reaches p symbols phase k in
      let fit = reached_fits p law symbols readings big reached in
      record {
        long = fit.long;
        known = fit.known;
        not_lost = λ lost. not_lost_from (stable_at reached).settles (sym (advice_is p law symbols readings big reached) ∙ lost);
        settles = λ tags e. settles_from tags (subst (λ h. Kept p symbols h words) e k);
        right = right_from reached;
        reads_right = λ s c. read_right k s c;
        stays = λ s cs. calls_stay cs k s;
      }
    where
      settles_from : (tags : ℕ) → Kept p symbols (ready tags) words → (end : List ℕ) × SettlesWith p tags words (p.weight * (tags - 1)) end
      settles_from tags k = subst (λ n. (end : List ℕ) × SettlesWith p n words (p.weight * (n - 1)) end) (sym k.0) (follows k.1 (stable_at k.1).settles)

-- a granted start is kept by every list of calls
pub touched_kept : (p : Protocol Bool) (law : Lawful p) (symbols : List Symbol) (phase : Phase) (words : List ℕ) → TouchedByCalls p symbols phase words
    → (readings : Readings symbols) × (big : 0 < p.tables.size) × Kept p symbols phase words
touched_kept p law symbols phase words it = from it.started it.called
  where
    from : {h : Phase} {w : List ℕ} {calls : List (Request × Reply)} → Start p symbols h w → Calls p h w calls phase words
        → (readings : Readings symbols) × (big : 0 < p.tables.size) × Kept p symbols phase words
    from (started lent e) called =
        let facts = start_facts p.tables symbols lent e in
        (facts.1, facts.0, calls_keep p law symbols facts.1 facts.0 called (refl, start_reached p law symbols facts.1 facts.0))

pub stably_computes : (p : Protocol Bool) → Lawful p → StablyComputes p
stably_computes p law symbols phase words it =
    let kept = touched_kept p law symbols phase words it in
    kept_computes p law symbols kept.0 kept.1 phase words kept.2
