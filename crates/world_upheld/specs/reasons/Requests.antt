-- What a target hears of clients' attempts is known: a Fetch and a Commit are what their clients ask, and a Prepare is what the leader of
-- an attempt asks of a member.
use Rattle.std.specs.Prelude.{ℕ, ◌≡◌, ◌≢◌, ◌≤◌, ◌<◌, ◌/◌, true, false, List, [], length, slice_get, Contains, Option, Some, None, is_some, refl}
use Rattle.std.proofs.Common.{sym, ◌∙◌, ap, subst, arith}
use Rattle.std.proofs.lemmas.Option.{slice_get_within}
use Rattle.base_types.specs.declared.epoch.Epoch.{Epoch}
use Rattle.base_types.specs.declared.id.AttemptId.{AttemptId}
use Rattle.base_types.specs.Operations.{read_path}
use Rattle.base_types.specs.Placement.{writes_leader}
use Rattle.base_messages.specs.declared.message.Message.TheVariants as message
use Rattle.daos_model.specs.Accesses.{access_paths, attempt_targets, op_path}
use Rattle.daos_model.specs.Attempts.{snapshot_of}
use Rattle.daos_model.specs.Blocks.{blocks}
use Rattle.daos_model.specs.BoolLaws.{clash}
use Rattle.daos_model.specs.Opening.{Opening, top}
use Rattle.daos_model.specs.Transactions.{attempt_ops, ops_or_none}
use Rattle.dtx_base.specs.Members as members
use Rattle.model_laws.specs.Lists.{has-at}
use Rattle.model_laws.specs.Members.{Has, contains-from_has, has-from_filter, has-map}
use Rattle.world_legal.specs.world_commit.attempts.Asked.{IsCommitNew}
use Rattle.world_legal.specs.world_commit.attempts.Attempts.{IsOther, entry_at, entry_in, leader_of, writes_of}
use Rattle.world_legal.specs.world_commit.attempts.History.{History}
use Rattle.world_base.specs.declared.letter.Letter.{Letter}
use Rattle.world_base.specs.declared.request.CommitRequest.{CommitRequest}
use Rattle.world_base.specs.declared.request.FetchRequest.{FetchRequest}
use Rattle.world_base.specs.declared.request.PrepareRequest.{PrepareRequest}
use Rattle.world_base.specs.declared.target.TargetState.{TargetState}
use Rattle.world_base.specs.declared.world.World.{World}
use Rattle.world_base.specs.ClientTurns.{attempt_id, request_of}
use Rattle.world_base.specs.Commits as commit
use Rattle.world_base.specs.Events.{Rules, client_plan, kept, target_plan}
use Rattle.world_base.specs.Letters.{Takes, client, target}
use Rattle.world_base.specs.Requests.{fetch_message}
use Rattle.world_legal.specs.world_causes.causes.AtFloors.{HasTarget}
use Rattle.world_legal.specs.world_causes.causes.Causes.{Dated, Stored}
use Rattle.world_legal.specs.world_causes.causes.CommitTurns.{IsCommit}
use Rattle.world_legal.specs.world_causes.causes.Growth.{question-asks}
use Rattle.world_legal.specs.world_causes.causes.Premises.{IsRequest}
use Rattle.world_legal.specs.world_causes.causes.PrepareTurns.{IsPrepare}
use Rattle.world_legal.specs.world_causes.causes.ReadTurns.{IsFetch}
use Rattle.world_upheld.specs.reasons.Asked.{leader-holds, prepared-blocks}
use Rattle.world_legal.specs.world_commit.attempts.Turning.{prepare-to}
use Rattle.world_legal.specs.world_causes.causes.Shown.{Causes, IsFirstOf, limit_over}
use Rattle.world_letters.specs.clients.Snapshots.{is_at_snapshot}
use Rattle.world_letters.specs.epochs.Asking.{ops-at}
use Rattle.world_letters.specs.epochs.Epochs.{AsksEpoch, Epochs, GoesWith, IsEpochOf, IsIssued, IsOwn, IsReadOf, IsSeen, IsPresent}
use Rattle.world_legal.specs.world_commit.fates.Facts.{IsPrepareRight, IsSaidSo}
use Rattle.world_legal.specs.world_causes.firsts.Firsts.{MessageTells}
use Rattle.world_owners.specs.world_making.freezings.Fetching.{AsksOp}
use Rattle.world_owners.specs.world_making.freezings.Seeing.{SeesFrozen, fetches-ask}
use Rattle.world_legal.specs.world_causes.handing.Dates.{epochs-of_commits}
use Rattle.world_legal.specs.world_causes.handing.Handing as handing
use Rattle.world_legal.specs.world_causes.handing.Handing.{EpochsOfCommits, IsAskedBy, IsCommitAsked, asked-right}
use Rattle.world_legal.specs.world_causes.handing.Places.{snapshots-read}
use Rattle.world_legal.specs.world_causes.handing.Targets.{other-is_target, question-target}
use Rattle.world_upheld.specs.reasons.Counting.{CountAsDates, first-counts}
use Rattle.world_legal.specs.reasons.Requests.{request-asked}
use Rattle.world_letters.specs.talks.AskLaws.{asked-commit, asked-read}
use Rattle.world_letters.specs.talks.Asked.{AsksCommit, AsksRead, commit_of}
use Rattle.world_letters.specs.talks.Conversation.{HearsRequest}
use Rattle.world_letters.specs.talks.TalkLaws.{taken-from}
use Rattle.world_upheld.specs.upheld.Begins.{AreRulesInForm}
use Rattle.world_upheld.specs.upheld.Heard.{HeardGrounds}
use Rattle.world_letters.specs.waits.ClientLaws.{question-about}
use Rattle.world_letters.specs.waits.Requests.{is_request}
use Rattle.world_upheld.specs.reasons.Accounted.{AccountedFor}
use Rattle.world_upheld.specs.reasons.Events.{places-of_rules}

-- ---- the statements, where these count as the epochs of attempts

-- A Fetch in flight to a target that is asked at no snapshot reads what its attempt accesses, with the attempt's epoch, where it has one, and its
-- command's first; its client sends it. A target of whose floor a line tells is one of the attempt's.
abbrev pub AllFetchesAreKnown : Type 0
AllFetchesAreKnown =
    (r : Rules) (o : Opening) (h : History) (stored : Stored) (w : World) → AreRulesInForm r → AccountedFor r o h stored w → (dated : Dated) → CountAsDates r w dated → Causes r o stored (record w { issued = dated })
    → (t : ℕ) (s : TargetState) → slice_get w.targets t ≡ Some s → (l : Letter) (q : FetchRequest) → Has l w.messages → l.to ≡ target t → l.message ≡ fetch_message q
    → q.snapshot ≡ false → IsFetch r o dated w.lines (target_plan r t) q × (l.from ≡ client q.attempt.client)

-- what is known of a Fetch at a snapshot: it bears the snapshot's epoch, which is frozen at every target; its client is at its attempt
pub record IsSnapshotFetch (r : Rules) (o : Opening) (w : World) (t : ℕ) (q : FetchRequest) : Type 0 where
  pub few : t < 256
  pub at : is_at_snapshot r q.attempt ≡ true
  pub epoch : Epoch
  pub bears : q.ep ≡ Some epoch
  pub sees : SeesFrozen r o w q.attempt epoch
  pub access : Has (read_path q.read) (access_paths (attempt_ops r.script q.attempt))
  pub asks : AsksOp r q.attempt q.op q.read
  pub present : IsPresent r w q.attempt
  pub target : HasTarget r w.lines q.attempt t

-- So it is of one that is in flight; it reads what its attempt accesses, and its client sends it.
abbrev pub SnapshotFetchesAreKnown : Type 0
SnapshotFetchesAreKnown =
    (r : Rules) (o : Opening) (h : History) (stored : Stored) (w : World) → AreRulesInForm r → AccountedFor r o h stored w
    → (t : ℕ) (s : TargetState) → slice_get w.targets t ≡ Some s → (l : Letter) (q : FetchRequest) → Has l w.messages → l.to ≡ target t → l.message ≡ fetch_message q
    → q.snapshot ≡ true → IsSnapshotFetch r o w t q × (l.from ≡ client q.attempt.client)

-- A Commit in flight to a target brings all writes of its attempt, some of which that target is to hold, with such epochs; the target has
-- no entry of the attempt; its client sends it. A target of whose floor a line tells is one of the attempt's.
abbrev pub AllCommitsAreKnown : Type 0
AllCommitsAreKnown =
    (r : Rules) (o : Opening) (h : History) (stored : Stored) (w : World) → AreRulesInForm r → AccountedFor r o h stored w → (dated : Dated) → CountAsDates r w dated → Causes r o stored (record w { issued = dated })
    → (t : ℕ) (s : TargetState) → slice_get w.targets t ≡ Some s → (l : Letter) (q : CommitRequest) → Has l w.messages → l.to ≡ target t → l.message ≡ commit_of q
    → IsCommit r o dated w.lines t (kept s) q × (l.from ≡ client q.attempt.client)

-- A Prepare in flight to a target brings writes of its attempt, which take the blocks that this needs there, with the epoch that was issued
-- to it and its command's first; the target has no entry of the attempt. A target of whose floor a line tells is one of the attempt's.
abbrev pub AllPreparesAreKnown : Type 0
AllPreparesAreKnown =
    (r : Rules) (o : Opening) (h : History) (stored : Stored) (w : World) → AreRulesInForm r → AccountedFor r o h stored w → (dated : Dated) → CountAsDates r w dated
    → (t : ℕ) (s : TargetState) → slice_get w.targets t ≡ Some s → (l : Letter) (q : PrepareRequest) → Has l w.messages → l.to ≡ target t
    → l.message ≡ message.Prepare q.entry q.first q.writes q.inc → IsPrepare r o dated w.lines t (kept s) q

-- ---- what is found

-- what writes reads at no snapshot
writers-read_now : (r : Rules) (x : AttemptId) → AreRulesInForm r → writes_of r x ≢ [] → is_at_snapshot r x ≡ false
writers-read_now r x A some = by (snapshot_of r.script x) refl
  where
    by : (o : Option (List ℕ)) → snapshot_of r.script x ≡ o → is_at_snapshot r x ≡ false
    by None none = ap is_some none
    by (Some name) reads = absurd (some (snapshots-read r r.script.targets A.form x name reads))

-- the epoch of what reads at no snapshot was issued to it
own-epoch : (r : Rules) (w : World) (x : AttemptId) (e : Epoch) → is_at_snapshot r x ≡ false → IsEpochOf r w x e → IsIssued w x e
own-epoch r w x e off (IsOwn i) = i
own-epoch r w x e off (IsSeen named) = clash (is_at_snapshot r x) (ap is_some named.reads) off

module _ (r : Rules) (o : Opening) (h : History) (stored : Stored) (w : World) (A : AreRulesInForm r) (k : AccountedFor r o h stored w) (t : ℕ)
    (s : TargetState)
    (here : slice_get w.targets t ≡ Some s) (l : Letter) (i : Has l w.messages) (to : l.to ≡ target t) where
  heard : HeardGrounds r o h w
  heard = k.grounds.heard

  epochs : Epochs r (top o) w
  epochs = heard.epochs

  few : t < 256
  few = let p : t < length w.targets = slice_get_within w.targets t s here in let q : length w.targets ≤ 256 = epochs.few in omega (arith, p, q)

  among : Contains w.messages l
  among = contains-from_has w.messages l i

  left : (rest : List Letter) × Takes w.messages l rest
  left = taken-from w.messages l among

  -- the first epoch that goes with an attempt is its command's, unless it reads at a snapshot
  told : MessageTells r w.issued w.lines l.message
  told = k.grounds.firsts.flight l among

  dates : EpochsOfCommits w
  dates = epochs-of_commits r (top o) w heard.talk heard.requests heard.stand (snapshots-read r r.script.targets A.form) epochs

  -- who is asked by a client is one of its attempt's targets
  asked : is_request l.message ≡ true → IsAskedBy r w l left.0
  asked is = handing.asked-by r w heard.talk heard.requests l left.0 left.1 is

  of-client : (is : is_request l.message ≡ true) (x : AttemptId) → request_of l.message ≡ Some x → Contains (attempt_targets r.script x) t
  of-client is x about =
      let z = asked is in
      let p = question-about (client_plan r z.n) z.c z.a z.q z.at z.question in
      let same : Some (attempt_id (client_plan r z.n) z.c z.a) ≡ Some x = sym p.of_attempt ∙ ap (λ y. request_of y.message) (sym z.is) ∙ about in
      let own : attempt_id (client_plan r z.n) z.c z.a ≡ x = cc in
      let number : z.q.to.number ≡ t = ap (λ y. y.to.number) (sym z.is) ∙ ap (λ y. y.number) to in
      subst (λ u. Contains (attempt_targets r.script x) u) number
      (subst (λ y. Contains (attempt_targets r.script y) z.q.to.number) own (question-target r w heard.stand (places-of_rules r A) k.grounds.heard.within z.n z.c z.here z.a z.at z.q z.question))

  -- what is known of a request's epochs
  request-known : (dated : Dated) → CountAsDates r w dated → Causes r o stored (record w { issued = dated }) → (x : AttemptId) (ep first : Option Epoch) (tracker : Epoch) → (ep ≡ None → AsksEpoch l.message x tracker)
      → ((e : Epoch) → ep ≡ Some e → IsIssued w x e)
      → IsFirstOf w.issued w.lines x first → tracker.0 / 256 ≤ limit_over o w.lines dated
      → IsRequest o dated w.lines x ep first tracker
  request-known dated D C x ep first tracker asks bears low tracked = record {
    tracked = tracked;
    own = λ e is. (let issued = bears e is in (D.issued x e issued, epochs.above x e issued, C.bounded.issued x e (D.issued x e issued)));
    fresh = λ none. (let f = epochs.fresh l x tracker among (asks none) in (λ e i. f.1 e (D.own x e f.4 i), f.2));
    known = first-counts w.issued dated w.lines x first D.issued low;
  }

  -- a client's tracker is within the limit
  tracker-known : (dated : Dated) → Causes r o stored (record w { issued = dated }) → (a : HearsRequest r w l left.0) (tracker : Epoch) → tracker ≡ a.k → tracker.0 / 256 ≤ limit_over o w.lines dated
  tracker-known dated C a tracker same =
      let low : tracker.0 ≤ a.c.tracker.0 = subst (λ e. e.0 ≤ a.c.tracker.0) (sym same) a.low in
      let up : a.c.tracker.0 / 256 ≤ limit_over o w.lines dated = C.bounded.trackers a.n a.c a.here in
      omega (arith, low, up)

  -- ---- a Fetch

  module _ (q : FetchRequest) (is : l.message ≡ fetch_message q) where
    fetching : HearsRequest r w l left.0
    fetching = request-asked r w l left.0 (λ x asks. let no : ⊥ = cc (is, asks) in no) (asked (ap is_request is))

    reads : AsksRead (client_plan r fetching.n) fetching.k fetching.c fetching.a q
    reads = asked-read (client_plan r fetching.n) fetching.k fetching.c fetching.a fetching.q q fetching.asked (sym (ap (λ z. z.message) fetching.it) ∙ is)

    reads-ops : attempt_ops r.script q.attempt ≡ reads.ops
    reads-ops =
        let z = heard.stand fetching.n fetching.c fetching.here in
        ap (attempt_ops r.script) reads.attempt ∙ (ops-at r fetching.n fetching.c fetching.a z.0 fetching.present z.1 ∙ ap ops_or_none reads.at)

    accesses : Has (read_path q.read) (access_paths (attempt_ops r.script q.attempt))
    accesses =
        subst (λ os. Has (read_path q.read) (access_paths os)) (sym reads-ops)
        (subst (λ p. Has p (access_paths reads.ops)) (question-asks fetching.a.stage reads.o q.read reads.asked).1
        (has-map op_path reads.ops reads.o (has-at reads.ops fetching.a.op reads.o reads.here)))

    at-it : q.snapshot ≡ is_at_snapshot r q.attempt
    at-it = (subst (IsReadOf r) is (epochs.reads l among)).0

    reads-from : l.from ≡ client q.attempt.client
    reads-from = ap (λ z. z.from) fetching.it ∙ ap (λ x. client x.client) (sym reads.attempt)

    fetch-known : (dated : Dated) → CountAsDates r w dated → Causes r o stored (record w { issued = dated }) → q.snapshot ≡ false → IsFetch r o dated w.lines (target_plan r t) q × (l.from ≡ client q.attempt.client)
    fetch-known dated D C plain = (
      record {
        few = few;
        epsilon = refl;
        plain = plain;
        request = request-known dated D C q.attempt q.ep q.first q.tracker
            (λ none. subst (λ m. AsksEpoch m q.attempt q.tracker) (sym (is ∙ ap (λ ep. message.Fetch q.attempt q.op q.group ep q.first q.tracker q.read q.snapshot) none))
            (refl, refl))
            (λ e some. own-epoch r w q.attempt e off
            (epochs.borne l q.attempt e among
            (subst (λ m. GoesWith m q.attempt e) (sym (is ∙ ap (λ ep. message.Fetch q.attempt q.op q.group ep q.first q.tracker q.read q.snapshot) some)) (refl, refl))))
            (subst (MessageTells r w.issued w.lines) is told off)
            (tracker-known dated C fetching q.tracker reads.tracker);
        access = accesses;
        target = λ floor cont reason shown. of-client (ap is_request is) q.attempt (ap request_of is);
      },
      reads-from,
    )
      where
        off : is_at_snapshot r q.attempt ≡ false
        off = sym at-it ∙ plain

    snapshot-known : q.snapshot ≡ true → IsSnapshotFetch r o w t q × (l.from ≡ client q.attempt.client)
    snapshot-known on = (by q.ep refl, reads-from)
      where
        by : (ep : Option Epoch) → q.ep ≡ ep → IsSnapshotFetch r o w t q
        by None none =
            clash (is_at_snapshot r q.attempt) (sym at-it ∙ on)
            (epochs.fresh l q.attempt q.tracker among
            (subst (λ m. AsksEpoch m q.attempt q.tracker) (sym (is ∙ ap (λ y. message.Fetch q.attempt q.op q.group y q.first q.tracker q.read q.snapshot) none)) (refl, refl))).4
        by (Some e) some = record {
          few = few;
          at = sym at-it ∙ on;
          epoch = e;
          bears = some;
          sees = fetches-ask r o w heard.freezings heard.makings epochs l q.attempt q.op q.group e q.first q.tracker q.read i
              (is ∙ ap (λ y. message.Fetch q.attempt q.op q.group y q.first q.tracker q.read q.snapshot) some
              ∙ ap (message.Fetch q.attempt q.op q.group (Some e) q.first q.tracker q.read) on);
          access = accesses;
          asks = record { op = reads.o; at = subst (λ os. slice_get os q.op ≡ Some reads.o) (sym reads-ops) (subst (λ n. slice_get reads.ops n ≡ Some reads.o) (sym reads.op) reads.here); stage = fetching.a.stage; asks = reads.asked };
          present = subst (IsPresent r w) (sym reads.attempt) (record { c = fetching.c; a = fetching.a; here = fetching.here; at = fetching.present; own = refl });
          target = λ floor cont reason shown. of-client (ap is_request is) q.attempt (ap request_of is);
        }

  -- ---- a Commit

  commit-known : (dated : Dated) → CountAsDates r w dated → Causes r o stored (record w { issued = dated }) → (q : CommitRequest) → l.message ≡ commit_of q → IsCommit r o dated w.lines t (kept s) q × (l.from ≡ client q.attempt.client)
  commit-known dated D C q is = (
    record {
      few = few;
      request = request-known dated D C q.attempt q.ep q.first q.tracker
          (λ none. subst (λ m. AsksEpoch m q.attempt q.tracker) (sym (is ∙ ap (λ ep. message.Commit q.attempt ep q.first q.tracker q.writes) none)) (refl, refl))
          (λ e some. contains-from_has w.issued (q.attempt, e)
          (dates.own l q.attempt e q.first q.tracker q.writes i (is ∙ ap (λ ep. message.Commit q.attempt ep q.first q.tracker q.writes) some)))
          (subst (MessageTells r w.issued w.lines) is told (writers-read_now r q.attempt A (subst (λ ws. ws ≢ []) new.writes brings.some)))
          (tracker-known dated C handing-over q.tracker its.tracker);
      its = new.writes;
      some = holds;
      unstored = ap (λ y. entry_in y q.attempt) (sym here) ∙ ap (λ u. entry_at w u q.attempt) leads ∙ new.unstored;
      target = λ floor cont reason shown. of-client (ap is_request is) q.attempt (ap request_of is);
    },
    ap (λ z. z.from) handing-over.it ∙ ap (λ x. client x.client) (sym its.attempt),
  )
    where
      handing-over : HearsRequest r w l left.0
      handing-over = request-asked r w l left.0 (λ x asks. let no : ⊥ = cc (is, asks) in no) (asked (ap is_request is))

      its : AsksCommit (client_plan r handing-over.n) handing-over.k handing-over.c handing-over.a q
      its =
          asked-commit (client_plan r handing-over.n) handing-over.k handing-over.c handing-over.a handing-over.q q handing-over.asked
          (sym (ap (λ z. z.message) handing-over.it) ∙ is)

      new : IsCommitNew r h w l.to q.attempt q.ep q.writes
      new = (asked-right r h w heard.talk heard.requests heard.stand k.grounds.outcomes dates).commits l q.attempt q.ep q.first q.tracker q.writes i is

      leads : t ≡ leader_of r q.attempt
      leads = ap (λ y. y.number) (sym to ∙ new.receiver)

      brings : IsCommitAsked r w heard.talk heard.requests heard.stand l q.attempt q.writes
      brings = handing.commit-asked r w heard.talk heard.requests heard.stand l q.attempt q.ep q.first q.tracker q.writes i is

      holds : commit.own_writes (target_plan r t) q.writes ≢ []
      holds =
          subst (λ u. commit.own_writes (target_plan r u) q.writes ≢ []) (sym (leads ∙ ap (λ ws. writes_leader ws r.script.targets) (sym new.writes)))
          (leader-holds r q.writes (λ m j. (places-of_rules r A).led q.attempt m (contains-from_has (writes_of r q.attempt) m (subst (Has m) new.writes j))) brings.some)

  -- ---- a Prepare

  prepare-known : (dated : Dated) → CountAsDates r w dated → (q : PrepareRequest) → l.message ≡ message.Prepare q.entry q.first q.writes q.inc → IsPrepare r o dated w.lines t (kept s) q
  prepare-known dated D q is = record {
    issued_to = D.issued q.entry.attempt q.entry.epoch issued;
    above = epochs.above q.entry.attempt q.entry.epoch issued;
    first = first-counts w.issued dated w.lines q.entry.attempt q.first D.issued (subst (MessageTells r w.issued w.lines) is told (epochs.own q.entry.attempt q.entry.epoch issued));
    its = λ m j. (has-from_filter (members.is_written_at r.script.targets so.way.member) (writes_of r q.entry.attempt) m (subst (Has m) so.writes j)).0;
    need = ap blocks so.writes ∙ ap (λ u. blocks (members.writes_at r.script.targets u (writes_of r q.entry.attempt))) member-is ∙ prepared-blocks r q.entry.attempt t other;
    unstored =
        ap (λ y. entry_in y q.entry.attempt) (sym here) ∙ (heard.attempts.on.each q.entry.attempt).awaited.before t l i (prepare-to l t q.entry q.first q.writes q.inc is to);
    target = λ floor cont reason shown. other-is_target r q.entry.attempt t other;
  }
    where
      so : IsPrepareRight r h w l.from l.to q.entry q.writes q.inc
      so = subst (IsSaidSo r h w l.from l.to) is (heard.attempts.on.letters l i)

      issued : Contains w.issued (q.entry.attempt, q.entry.epoch)
      issued = contains-from_has w.issued (q.entry.attempt, q.entry.epoch) so.issued

      member-is : so.way.member ≡ t
      member-is = ap (λ y. y.number) (sym so.way.receiver ∙ to)

      other : IsOther r q.entry.attempt t
      other = subst (IsOther r q.entry.attempt) member-is so.way.other

-- ---- the laws

pub all-fetches_known : AllFetchesAreKnown
all-fetches_known r o h stored w A k dated D C t s here l q i to is plain = fetch-known r o h stored w A k t s here l i to q is dated D C plain

pub snapshot-fetches_known : SnapshotFetchesAreKnown
snapshot-fetches_known r o h stored w A k t s here l q i to is on = snapshot-known r o h stored w A k t s here l i to q is on

pub all-commits_known : AllCommitsAreKnown
all-commits_known r o h stored w A k dated D C t s here l q i to is = commit-known r o h stored w A k t s here l i to dated D C q is

pub all-prepares_known : AllPreparesAreKnown
all-prepares_known r o h stored w A k dated D t s here l q i to is = prepare-known r o h stored w A k t s here l i to dated D q is
