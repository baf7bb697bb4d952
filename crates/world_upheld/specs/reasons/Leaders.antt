-- What a leader hears of attempts that it leads is known: who waits is the attempt's client; a refusal, or the news that a member holds
-- nothing, shows why; and who asks what became of an attempt has a stop, or a target that was given up, to be told of.
use Rattle.std.specs.Prelude.{ℕ, ◌≡◌, ◌≤◌, ◌/◌, true, false, slice_get, Contains, Option, Some}
use Rattle.std.proofs.Common.{sym, ◌∙◌, ap, subst}
use Rattle.base_types.specs.declared.entry.Entry.{Entry}
use Rattle.base_types.specs.declared.entry.EntryState.{EntryState}
use Rattle.base_types.specs.declared.entry.EntryState.TheVariants as state
use Rattle.base_types.specs.declared.epoch.Epoch.{Epoch}
use Rattle.base_types.specs.declared.id.AttemptId.{AttemptId}
use Rattle.base_types.specs.declared.outcome.Cause.TheVariants as cause
use Rattle.base_types.specs.declared.outcome.Outcome.{Outcome}
use Rattle.base_types.specs.declared.outcome.Outcome.TheVariants as outcome
use Rattle.base_types.specs.declared.report.Line.TheVariants as line
use Rattle.base_types.specs.Placement.{writes_members}
use Rattle.base_messages.specs.declared.actor.ActorId.{ActorId}
use Rattle.base_messages.specs.declared.message.Message.{Message, more_of-Message}
use Rattle.base_messages.specs.declared.message.Message.TheVariants as message
use Rattle.daos_model.specs.Accesses.{attempt_targets}
use Rattle.daos_model.specs.EntryLaws.{same_attempt-itself}
use Rattle.daos_model.specs.Opening.{Opening, top}
use Rattle.daos_model.specs.Order.{told_by}
use Rattle.dtx_base.specs.declared.leading.Undecided.{Undecided}
use Rattle.dtx_base.specs.Leading.{LeaderOf, entry_led, first_down, undecided_of}
use Rattle.dtx_base.specs.Members.{has_target}
use Rattle.model_laws.specs.Members.{Has, contains-from_has}
use Rattle.world_legal.specs.world_contents.posts.Members.{bit-of}
use Rattle.world_legal.specs.world_commit.attempts.Attempts.{IsOther, entry_in, row_in}
use Rattle.world_legal.specs.world_commit.attempts.Asked.{IsCommitNew}
use Rattle.world_legal.specs.world_commit.attempts.History.{History}
use Rattle.world_legal.specs.world_commit.attempts.Stored.{led-found}
use Rattle.world_base.specs.declared.letter.Letter.{Letter}
use Rattle.world_base.specs.declared.request.CommitRequest.{CommitRequest}
use Rattle.world_base.specs.declared.target.TargetState.{TargetState}
use Rattle.world_base.specs.declared.world.World.{World}
use Rattle.world_base.specs.Commits.{led_entry}
use Rattle.world_base.specs.Events.{Rules, target_plan}
use Rattle.world_base.specs.Letters.{client, target}
use Rattle.world_base.specs.Roles.{leader_at}
use Rattle.world_base.specs.Statuses.{down_of, status_refusal}
use Rattle.world_upheld.specs.reasons.Counting.{CountAsDates}
use Rattle.world_legal.specs.world_causes.causes.Causes.{Dated, Stored, epochs_told}
use Rattle.world_legal.specs.world_causes.causes.Lasting.{refusal-shows}
use Rattle.world_legal.specs.world_causes.causes.MemberTurns.{IsAck}
use Rattle.world_legal.specs.world_causes.causes.ReadTurns.{none-told}
use Rattle.world_upheld.specs.reasons.Asked.{found-row}
use Rattle.world_legal.specs.world_causes.causes.Shown.{Causes, MeetsUnresolved, MessageStands, OutcomeStands, limit_over}
use Rattle.world_letters.specs.epochs.Epochs.{IsPresent}
use Rattle.world_legal.specs.world_commit.fates.Facts.{IsAskedSo, IsSaidSo}
use Rattle.world_legal.specs.world_causes.handing.Dates.{epochs-of_commits}
use Rattle.world_legal.specs.world_causes.handing.Handing.{asked-right, hands-over}
use Rattle.world_legal.specs.world_causes.handing.Places.{snapshots-read}
use Rattle.world_legal.specs.world_causes.handing.Targets.{member-is_target, other-is_target}
use Rattle.world_legal.specs.world_causes.losses.Losses.{tells_stop}
use Rattle.world_legal.specs.world_causes.outcomes.Premises.{hands}
use Rattle.world_legal.specs.world_causes.showing.Further.{AsksAfter, IsAskKnown, IsGone, TellsReset}
use Rattle.world_upheld.specs.upheld.Heard.{HeardGrounds}
use Rattle.world_legal.specs.world_commit.statuses.Senders.{IsSentRightly}
use Rattle.world_letters.specs.talks.Asked.{commit_of}
use Rattle.world_upheld.specs.upheld.Begins.{AreRulesInForm}
use Rattle.world_upheld.specs.reasons.Accounted.{AccountedFor}
use Rattle.world_legal.specs.reasons.Downs.{TellsDown}
use Rattle.world_legal.specs.reasons.Leaders.{down-so}
use Rattle.world_legal.specs.reasons.Waiting.{waiter-present}

-- ---- the statements

-- a leader that is asked what became of an attempt
abbrev pub AllAsksAreKnown : Type 0
AllAsksAreKnown =
    (r : Rules) (o : Opening) (h : History) (stored : Stored) (w : World) → AccountedFor r o h stored w → (dated : Dated) → CountAsDates r w dated → Causes r o stored (record w { issued = dated })
    → (t : ℕ) (s : TargetState) → slice_get w.targets t ≡ Some s → (l : Letter) (x : AttemptId) → Has l w.messages → l.message ≡ message.Ask x
    → IsAskKnown r o (record w { issued = dated }) l.from x (leader_at (target_plan r t) s.memory s.durable)

-- one that is answered by a member
abbrev pub AllAcksAreKnown : Type 0
AllAcksAreKnown =
    (r : Rules) (o : Opening) (h : History) (stored : Stored) (w : World) → AccountedFor r o h stored w → (dated : Dated) → CountAsDates r w dated → Causes r o stored (record w { issued = dated })
    → (t : ℕ) (s : TargetState) → slice_get w.targets t ≡ Some s → (l : Letter) (x : AttemptId) (inc : ℕ) (refusal : Option Outcome) → Has l w.messages
    → l.message ≡ message.Ack x inc refusal
    → IsAck r o stored dated w.lines x refusal (leader_at (target_plan r t) s.memory s.durable)

-- or is told what a member holds
abbrev pub AllStatesAreKnown : Type 0
AllStatesAreKnown =
    (r : Rules) (o : Opening) (h : History) (stored : Stored) (w : World) → AccountedFor r o h stored w → (dated : Dated) → CountAsDates r w dated → Causes r o stored (record w { issued = dated })
    → (t : ℕ) (s : TargetState) → slice_get w.targets t ≡ Some s → (l : Letter) (x : AttemptId) (inc : ℕ) (how : EntryState) → Has l w.messages
    → l.message ≡ message.StatusIs x inc how
    → IsAck r o stored dated w.lines x (status_refusal x how) (leader_at (target_plan r t) s.memory s.durable)

-- A leader to which a client hands an attempt over, of which it knows a member to be down: that is a target of the attempt, and was given up.
abbrev pub AllCommitsMeetGivenUp : Type 0
AllCommitsMeetGivenUp =
    (r : Rules) (o : Opening) (h : History) (stored : Stored) (w : World) → AreRulesInForm r → AccountedFor r o h stored w
    → (t : ℕ) (s : TargetState) → slice_get w.targets t ≡ Some s → (l : Letter) (q : CommitRequest) (e : Epoch) (down : ℕ) → Has l w.messages → l.message ≡ commit_of q
    → down_of (target_plan r t) s.memory q e ≡ Some down → IsGone r w.lines q.attempt down

-- Or is told that its question to a target that is down got no answer: who waits for the attempt that it asked about is the attempt's client,
-- and that target is one of the attempt's, and was given up.
abbrev pub AllLostQuestionsAreKnown : Type 0
AllLostQuestionsAreKnown =
    (r : Rules) (o : Opening) (h : History) (stored : Stored) (w : World) → AccountedFor r o h stored w → (dated : Dated) → CountAsDates r w dated → Causes r o stored (record w { issued = dated })
    → (t : ℕ) (s : TargetState) → slice_get w.targets t ≡ Some s → (l : Letter) (by : ℕ) (q : Message) → Has l w.messages → TellsReset by true q l.message
    → (x : AttemptId) (e : Entry) (u : Undecided) (c : ActorId) → AsksAfter q x → entry_led x (leader_at (target_plan r t) s.memory s.durable) ≡ Some e
    → undecided_of x (leader_at (target_plan r t) s.memory s.durable) ≡ Some u → u.client ≡ Some c
    → (c ≡ client x.client) × IsGone r w.lines x by × (e.epoch.0 / 256 ≤ limit_over o w.lines dated)

-- ---- what is found

module _ (r : Rules) (o : Opening) (h : History) (stored : Stored) (w : World) (k : AccountedFor r o h stored w) (dated : Dated) (D : CountAsDates r w dated) (C : Causes r o stored (record w { issued = dated })) (t : ℕ)
    (s : TargetState) (here : slice_get w.targets t ≡ Some s) where
  abbrev leader : LeaderOf
  leader = leader_at (target_plan r t) s.memory s.durable

  module _ (x : AttemptId) where
    -- an entry that is led here has its epoch, and the attempt's members
    within : (e : Entry) → entry_led x leader ≡ Some e → e.epoch.0 / 256 ≤ limit_over o w.lines dated
    within e f =
        let found = (led-found (target_plan r t) s.memory s.durable x e (k.grounds.heard.attempts.on.ordered t s here).entries f).0 in
        let its = (k.grounds.heard.attempts.on.each x).entries.one t e (ap (λ y. entry_in y x) here ∙ found) in
        C.bounded.issued x e.epoch (D.issued x e.epoch (contains-from_has w.issued (x, e.epoch) its.issued))

    gone : (e : Entry) (down : ℕ) → entry_led x leader ≡ Some e → first_down e.members s.memory.leader.down ≡ Some down → IsGone r w.lines x down
    gone e down f first =
        let found = (led-found (target_plan r t) s.memory s.durable x e (k.grounds.heard.attempts.on.ordered t s here).entries f).0 in
        let its = (k.grounds.heard.attempts.on.each x).entries.one t e (ap (λ y. entry_in y x) here ∙ found) in
        let is = down-so e.members s.memory.leader.down down first in (
          contains-from_has (attempt_targets r.script x) down (member-is_target r x down (bit-of _ down (ap (λ n. has_target n down) (sym its.members) ∙ is.0))),
          contains-from_has w.lines (line.Down down) (k.knows t down s here is.1),
        )

    -- who waits is the attempt's client, which is at it
    waits : (u : Undecided) (c : ActorId) → undecided_of x leader ≡ Some u → u.client ≡ Some c → c ≡ client x.client
    waits u c row told = ((k.grounds.heard.attempts.on.each x).rows.undecided t u (ap (λ y. row_in y x) here ∙ row)).client c told

    waiter : (u : Undecided) (c : ActorId) → undecided_of x leader ≡ Some u → u.client ≡ Some c → IsPresent r w x
    waiter u c row told =
        let f = found-row x s.memory.leader.undecided u row in
        subst (IsPresent r w) f.1 (waiter-present r w k.grounds.heard.talk t s here u f.0 x.client (told ∙ ap (λ y. Some y) (waits u c row told)))

  ask-known : (l : Letter) (x : AttemptId) → Has l w.messages → l.message ≡ message.Ask x → IsAskKnown r o (record w { issued = dated }) l.from x leader
  ask-known l x i is = record {
    own = subst (IsSentRightly l.from) is (k.grounds.senders l i);
    within = λ e f. within x e f;
    lost = λ none. k.losses.letters l x i (ap (tells_stop x) is ∙ same_attempt-itself x) present;
    gone = λ e down f first. gone x e down f first;
  }
    where
      present : IsPresent r w x
      present =
          let z = (hands-over r w k.grounds.heard.talk k.grounds.heard.requests).waits l x i (ap (hands x) is ∙ same_attempt-itself x) in
          record { c = z.c; a = z.waits.a; here = z.here; at = z.waits.present; own = z.waits.own }

  ack-known : (l : Letter) (x : AttemptId) (inc : ℕ) (refusal : Option Outcome) → Has l w.messages → l.message ≡ message.Ack x inc refusal
      → IsAck r o stored dated w.lines x refusal leader
  ack-known l x inc refusal i is = record {
    waiting = λ u c row told. waits x u c row told;
    within = λ e f. within x e f;
    shows =
        λ how u c so row told. refusal-shows r o stored dated w.lines x how
        (subst (MessageStands r o stored dated w.lines) (is ∙ ap (message.Ack x inc) so) (C.flight l (contains-from_has w.messages l i)));
    told = λ how n so j. C.bounded.told l n (contains-from_has w.messages l i) (subst (λ m. Contains (epochs_told m) n) (sym (is ∙ ap (message.Ack x inc) so)) j);
  }

  state-known : (l : Letter) (x : AttemptId) (inc : ℕ) (how : EntryState) → Has l w.messages → l.message ≡ message.StatusIs x inc how
      → IsAck r o stored dated w.lines x (status_refusal x how) leader
  state-known l x inc how i is = record {
    waiting = λ u c row told. waits x u c row told;
    within = λ e f. within x e f;
    shows = λ end u c so row told. shows how end u c so row told;
    told = λ end n so j. absurd (telling how end n so j);
  }
    where
      shows : (how : EntryState) (end : Outcome) (u : Undecided) (c : ActorId) → status_refusal x how ≡ Some end → undecided_of x leader ≡ Some u → u.client ≡ Some c
          → OutcomeStands r o stored dated w.lines x end
      shows state.Prepared end u c so row told = let no : ⊥ = cc (so) in absurd no
      shows state.Committed end u c so row told = let no : ⊥ = cc (so) in absurd no
      shows state.Absent end u c so row told =
          let same : outcome.Restart (cause.Unresolved x) ≡ end = cc in
          subst (OutcomeStands r o stored dated w.lines x) same
          (subst (λ b. MeetsUnresolved b r dated w.lines x x) (sym (same_attempt-itself x))
          (k.losses.letters l x i (ap (tells_stop x) is ∙ same_attempt-itself x) (waiter x u c row told)))

      telling : (how : EntryState) (end : Outcome) (n : ℕ) → status_refusal x how ≡ Some end → Contains (told_by end) n → ⊥
      telling state.Prepared end n so j = let no : ⊥ = cc (so) in no
      telling state.Committed end n so j = let no : ⊥ = cc (so) in no
      telling state.Absent end n so j = let same : outcome.Restart (cause.Unresolved x) ≡ end = cc in none-told n (subst (λ y. Contains (told_by y) n) (sym same) j)

  -- a target that didn't answer a leader's question about an attempt is one of its members
  asked-member : (l : Letter) (by : ℕ) (x : AttemptId) (q : Message) → Has l w.messages → TellsReset by true q l.message → AsksAfter q x → Contains (attempt_targets r.script x) by
  asked-member l by x q i tells asks = of l.message tells (k.grounds.heard.attempts.on.letters l i) (k.grounds.senders l i)
    where
      member : (m : ℕ) → IsOther r x m → l.from ≡ target m → l.from ≡ target by → Contains (attempt_targets r.script x) by
      member m other receiver from = subst (Contains (attempt_targets r.script x)) (ap (λ a. a.number) (sym receiver ∙ from)) (other-is_target r x m other)

      about : (q : Message) → AsksAfter q x → IsAskedSo r h w l.to l.from q → l.from ≡ target by → Contains (attempt_targets r.script x) by
      about (message.Prepare e first ws inc) same so from = member so.way.member (subst (λ y. IsOther r y so.way.member) same so.way.other) so.way.receiver from
      about (message.Status y inc) same so from = member so.way.member (subst (λ z. IsOther r z so.way.member) same so.way.other) so.way.receiver from
      about q none so from = absurd none

      of : (m : Message) → TellsReset by true q m → IsSaidSo r h w l.from l.to m → IsSentRightly l.from m → Contains (attempt_targets r.script x) by
      of (message.Reset' t d place (more_of-Message y more)) is so from = about y (subst (λ z. AsksAfter z x) (sym is.2) asks) so (from ∙ ap target is.0)
      of m is so from = absurd is

  lost-known : (l : Letter) (by : ℕ) (q : Message) → Has l w.messages → TellsReset by true q l.message → (x : AttemptId) (e : Entry) (u : Undecided) (c : ActorId) → AsksAfter q x
      → entry_led x leader ≡ Some e → undecided_of x leader ≡ Some u → u.client ≡ Some c
      → (c ≡ client x.client) × IsGone r w.lines x by × (e.epoch.0 / 256 ≤ limit_over o w.lines dated)
  lost-known l by q i tells x e u c asks found row told =
      (waits x u c row told, (asked-member l by x q i tells asks, contains-from_has w.lines (line.Down by) (k.downs l by i (downs l.message tells))), within x e found)
    where
      downs : (m : Message) → TellsReset by true q m → TellsDown by m
      downs (message.Reset' t true place (more_of-Message y more)) is = is.0
      downs (message.Reset' t false place (more_of-Message y more)) is = let no : ⊥ = cc (is.1) in absurd no
      downs m is = absurd is

pub all-commits_meet : AllCommitsMeetGivenUp
all-commits_meet r o h stored w A k t s here l q e down i says first = (
  contains-from_has (attempt_targets r.script q.attempt) down
      (member-is_target r q.attempt down (subst (λ ws. Has down (writes_members ws r.script.targets)) new.writes (bit-of (writes_members q.writes r.script.targets) down is.0))),
  contains-from_has w.lines (line.Down down) (k.knows t down s here is.1),
)
  where
    z : HeardGrounds r o h w
    z = k.grounds.heard

    new : IsCommitNew r h w l.to q.attempt q.ep q.writes
    new =
        (asked-right r h w z.talk z.requests z.stand k.grounds.outcomes
        (epochs-of_commits r (top o) w z.talk z.requests z.stand (snapshots-read r r.script.targets A.form) z.epochs)).commits l q.attempt q.ep q.first q.tracker q.writes i says

    is : (has_target (led_entry (target_plan r t) q e).members down ≡ true) × (has_target s.memory.leader.down down ≡ true)
    is = down-so (led_entry (target_plan r t) q e).members s.memory.leader.down down first

pub all-lost-questions_known : AllLostQuestionsAreKnown
all-lost-questions_known r o h stored w k dated D C t s here l by q i tells x e u c asks found row told =
    lost-known r o h stored w k dated D C t s here l by q i tells x e u c asks found row told

pub all-asks_known : AllAsksAreKnown
all-asks_known r o h stored w k dated D C t s here l x i is = ask-known r o h stored w k dated D C t s here l x i is

pub all-acks_known : AllAcksAreKnown
all-acks_known r o h stored w k dated D C t s here l x inc refusal i is = ack-known r o h stored w k dated D C t s here l x inc refusal i is

pub all-states_known : AllStatesAreKnown
all-states_known r o h stored w k dated D C t s here l x inc how i is = state-known r o h stored w k dated D C t s here l x inc how i is
