-- A target hears a message: what it then says, keeps and issues, as far as epochs go.
use Rattle.std.specs.Prelude.{ℕ, ◌≡◌, ◌≤◌, Bool, true, false, List, [], Option, Some, None, refl}
use Rattle.std.proofs.Common.{sym, ◌∙◌, ap, subst, arith}
use Rattle.base_types.specs.declared.epoch.Epoch.{Epoch}
use Rattle.base_types.specs.declared.id.AttemptId.{AttemptId}
use Rattle.base_types.specs.declared.operation.MinorWrite.{MinorWrite}
use Rattle.base_types.specs.declared.operation.Read.{Read}
use Rattle.base_types.specs.declared.outcome.Cause.TheVariants.{Unresolved}
use Rattle.base_types.specs.declared.outcome.FloorWhy.{FloorWhy}
use Rattle.base_types.specs.declared.outcome.Outcome.TheVariants as outcome
use Rattle.base_types.specs.declared.report.Attempt.{Attempt}
use Rattle.base_types.specs.declared.report.Line.{Line}
use Rattle.base_types.specs.declared.report.Line.TheVariants as line
use Rattle.base_messages.specs.declared.actor.ActorId.{ActorId}
use Rattle.base_messages.specs.declared.message.Message.{Message, more_of-Message}
use Rattle.base_messages.specs.declared.message.Message.TheVariants as message
use Rattle.base_messages.specs.declared.message.Reply.TheVariants as reply
use Rattle.daos_model.specs.Attempts.{is_lost}
use Rattle.daos_model.specs.EntryLaws.{same_attempt-itself}
use Rattle.model_laws.specs.Members.{Has, contains-from_has}
use Rattle.world_base.specs.declared.did.Did.{Did}
use Rattle.world_base.specs.declared.request.CommitRequest.{CommitRequest}
use Rattle.world_base.specs.declared.request.FetchRequest.{FetchRequest}
use Rattle.world_base.specs.declared.target.TargetMemory.{TargetMemory}
use Rattle.world_base.specs.declared.target.TargetPlan.{TargetPlan}
use Rattle.world_base.specs.declared.world.World.{World}
use Rattle.world_base.specs.Acks as ack
use Rattle.world_base.specs.Changes.{Kept}
use Rattle.world_base.specs.Commits as commit
use Rattle.world_base.specs.Events.{Rules}
use Rattle.world_base.specs.Further as further
use Rattle.world_base.specs.Further.{HearsFurther, collection_left}
use Rattle.world_base.specs.MemoryLaws as memory
use Rattle.world_base.specs.MemoryLaws.{Follows, ack-leaves, heard-up, hears-follows, hears-issues-none, idles-follows, idles-issue-none}
use Rattle.world_base.specs.Requests.{request_epoch}
use Rattle.world_base.specs.RightTurns.{HearsRightly}
use Rattle.world_base.specs.Roles.{is_in_doubt}
use Rattle.world_base.specs.Snapshots as snap
use Rattle.world_base.specs.Statuses.{status_refusal}
use Rattle.world_base.specs.TargetTurns.{Hears, IdlesWhole, commit_request, fetch_request, prepare_request}
use Rattle.world_base.specs.Turns.{Whole}
use Rattle.world_letters.specs.clients.Snapshots.{is_at_snapshot}
use Rattle.world_letters.specs.epochs.CommitTurns.{CommitSoFar, CommitStands, commit-path}
use Rattle.world_letters.specs.epochs.Epochs.{AsksEpoch, GoesWith, IsEpochOf, IsIssued, IsOwn, IsReadOf}
use Rattle.world_letters.specs.epochs.FetchTurns.{Dates, fetch-path}
use Rattle.world_letters.specs.epochs.Sayings.{AreKnown, Known, Spent, Stays, known-all, known-each}
use Rattle.world_letters.specs.epochs.TargetEvents.{Issuing, Nothing}
use Rattle.world_causes.specs.hearing.Listening.{Listens, listens}
use Rattle.world_causes.specs.hearing.Saying.{AsksState, EndsHeld, EndsLost, MarksAgain, MetUnresolved, SaysFurther, TellsState}
use Rattle.world_causes.specs.hearing.Storing.{KeptSo, further-kept, hears-kept, idle-kept}
use Rattle.world_letters.specs.lives.TurnLines.{further-lines}
use Rattle.world_causes.specs.world_commit.statuses.Turns.{Looked, looked}
use Rattle.world_letters.specs.waits.Requests.{is_lost_request}
use Rattle.world_making.specs.dates.Issuing.{commit-dates, dates-issue, dates-know, dates-spent, down-dates, fetch-dates}
use Rattle.world_making.specs.dates.Keeping.{freeze-reached, held-stays, prune-reached}
use Rattle.world_making.specs.dates.Making.{AllCollect, IssuesNone, aggregate-dates, aggregate-leaves, freeze-issues, freeze-leaves, held-issues, held-leaves, prune-issues, prune-leaves, reset-issues, reset-leaves, snap-dates, snap-leaves}
use Rattle.world_making.specs.dates.Reading.{IsDatedFetch, fetch-leaves, snapshot-issues-none, verdict-leaves, waited}
use Rattle.world_making.specs.dates.Telling as telling
use Rattle.world_making.specs.dates.Telling.{AllTellDated, AllWaitDated, IssuedIn, LeavesDated, TellsDated, WaitsDated, commit-tells, down-tells}

-- ---- the statement

-- a message bears the epoch with which its attempt's entry is stored
abbrev pub BringsEpoch : Message → AttemptId → Epoch → Type 0
BringsEpoch (message.Commit x (Some own) first tracker ws) y e = (x ≡ y) × (own ≡ e)
BringsEpoch (message.Prepare k first ws inc) y e = (k.attempt ≡ y) × (k.epoch ≡ e)
BringsEpoch m y e = ⊥

-- at any epoch
abbrev anything : Known
anything x e = Unit {0}

anything-stays : (k : Kept) → Stays anything 0 k
anything-stays k = record { lease = omega arith; entries = known-all anything k.durable.entries (λ e i. tt) }

module _ (r : Rules) (u : World) (L : Spent) where
  -- what is known when a target hears a message
  pub record KnowsDated (from : ActorId) (said : Message) (old : Kept) (m : TargetMemory) (left : TargetMemory × Did) : Type 0 where
    pub heard : (x : AttemptId) (e : Epoch) → GoesWith said x e → IsEpochOf r u x e
    pub brought : (x : AttemptId) (e : Epoch) → BringsEpoch said x e → IsIssued u x e
    pub read : IsReadOf r said
    pub fresh : (x : AttemptId) (k : Epoch) → AsksEpoch said x k → is_at_snapshot r x ≡ false
    pub issued : (x : AttemptId) (e : Epoch) → left.1.issued ≡ Some (x, e) → IsIssued u x e
    pub spent : (x : AttemptId) (k : Epoch) → AsksEpoch said x k → left.1.issued ≡ None → L x from
    pub lost : is_lost_request said ≡ false
    pub entries : AreKnown (IssuedIn r u L) old.durable.entries
    pub parked : AllWaitDated r u L m.member.parked
    pub collecting : AllCollect r u L m

  -- what its turn does with epochs
  pub record TurnsDated (t : TargetPlan) (m : TargetMemory) (reading : ℕ) (said : Message) (old new : Kept) (left : TargetMemory × Did) : Type 0 where
    pub leaves : LeavesDated r u L left
    pub ticks : m.ticks ≤ left.0.ticks
    pub lease : old.durable.lease ≤ new.durable.lease
    pub entries : AreKnown (IssuedIn r u L) new.durable.entries
    pub issuing : Issuing t m reading said new.durable.lease left
    pub silent : (a : Attempt) → Has (line.Try a) left.1.lines → ⊥

  none-silent : (ls : List Line) → ls ≡ [] → (a : Attempt) → Has (line.Try a) ls → ⊥
  none-silent ls none a i = subst (Has (line.Try a)) none i

  module _ (t : TargetPlan) (opening : Epoch × FloorWhy) (m : TargetMemory) (reading : ℕ) (from : ActorId) (old new : Kept) (left : TargetMemory × Did) where
    -- one that issues none
    quiet-turn : (said : Message) → LeavesDated r u L left → KeptSo (IssuedIn r u L) old.durable new.durable → Follows m left → left.1.issued ≡ None → TurnsDated t m reading said old new left
    quiet-turn said leaves kept follows none =
        record { leaves = leaves; ticks = follows.more.ticks; lease = kept.lease; entries = kept.entries; issuing = Nothing none; silent = none-silent left.1.lines follows.lines }

    -- ---- a Fetch

    fetch-bears : (x : AttemptId) (op group : ℕ) (ep first : Option Epoch) (tracker : Epoch) (rd : Read) (snapshot : Bool) (e : Epoch) → ep ≡ Some e → GoesWith (message.Fetch x op group ep first tracker rd snapshot) x e
    fetch-bears x op group None first tracker rd snapshot e is = let no : ⊥ = cc in absurd no
    fetch-bears x op group (Some own) first tracker rd snapshot e is = (refl, cc)

    fetch-asks : (x : AttemptId) (op group : ℕ) (ep first : Option Epoch) (tracker : Epoch) (rd : Read) (snapshot : Bool) → ep ≡ None → AsksEpoch (message.Fetch x op group ep first tracker rd snapshot) x tracker
    fetch-asks x op group None first tracker rd snapshot is = (refl, refl)
    fetch-asks x op group (Some own) first tracker rd snapshot is = let no : ⊥ = cc in absurd no

    module _ (x : AttemptId) (op group : ℕ) (ep first : Option Epoch) (tracker : Epoch) (rd : Read) (snapshot : Bool) (K : KnowsDated from (message.Fetch x op group ep first tracker rd snapshot) old m left)
        (h : Hears t opening m reading from (message.Fetch x op group ep first tracker rd snapshot) old new left) where
      abbrev FetchSaid : Message
      FetchSaid = message.Fetch x op group ep first tracker rd snapshot

      abbrev FetchOf : FetchRequest
      FetchOf = fetch_request x op group ep first tracker rd snapshot

      kept : KeptSo (IssuedIn r u L) old.durable new.durable
      kept = hears-kept (IssuedIn r u L) t opening m reading from old K.entries FetchSaid new left tt h

      follows : Follows m left
      follows = hears-follows t opening m reading from FetchSaid old new left h

      -- it reads at no snapshot
      plain-fetch : snapshot ≡ false → TurnsDated t m reading FetchSaid old new left
      plain-fetch off = record {
        leaves = fetch-leaves r u L t m reading FetchOf from known old new left h;
        ticks = follows.more.ticks;
        lease = kept.lease;
        entries = kept.entries;
        issuing = dates-issue t m reading FetchSaid x ep tracker new.durable.lease left (fetch-asks x op group ep first tracker rd snapshot) dates;
        silent = none-silent left.1.lines follows.lines;
      }
        where
          dates : Dates t m reading x ep tracker new.durable.lease left
          dates = fetch-dates t m reading FetchOf from off h.last new left h.ends (fetch-path anything 0 t m reading FetchOf off old h.reached.did h.last new h.reached.path (anything-stays old)).0

          known : IsDatedFetch r u L t m reading FetchOf from
          known = record {
            epoch = dates-know t m reading FetchSaid x ep tracker new.durable.lease left (fetch-asks x op group ep first tracker rd snapshot) dates (IsEpochOf r u) (λ e is. K.heard x e (fetch-bears x op group ep first tracker rd snapshot e is)) (λ e is. IsOwn (K.issued x e is));
            spent = λ none. (let s = dates-spent t m reading FetchSaid x ep tracker new.durable.lease left (fetch-asks x op group ep first tracker rd snapshot) dates none in K.spent x tracker (fetch-asks x op group ep first tracker rd snapshot s.0) s.1);
            at = K.read.0;
            other = K.read.1;
            parked = K.parked;
          }

      -- it has the epoch of its snapshot
      seen-fetch : snapshot ≡ true → (o : Option Epoch) → ep ≡ o → TurnsDated t m reading FetchSaid old new left
      seen-fetch on None none = let off : is_at_snapshot r x ≡ false = K.fresh x tracker (fetch-asks x op group ep first tracker rd snapshot none) in let at : snapshot ≡ is_at_snapshot r x = K.read.0 in let no : ⊥ = cc (on, off, at) in absurd no
      seen-fetch on (Some own) is = quiet-turn FetchSaid (fetch-leaves r u L t m reading FetchOf from known old new left h) kept follows (snapshot-issues-none t m reading FetchOf from old new left on h)
        where
          known : IsDatedFetch r u L t m reading FetchOf from
          known = record {
            epoch = λ e found. K.heard x e (fetch-bears x op group ep first tracker rd snapshot e (is ∙ sym (ap (request_epoch t m reading tracker) is) ∙ found));
            spent = λ none. (let no : Some own ≡ None = sym (ap (request_epoch t m reading tracker) is) ∙ none in let bad : ⊥ = cc in absurd bad);
            at = K.read.0;
            other = K.read.1;
            parked = K.parked;
          }

      pub fetch-turns : TurnsDated t m reading FetchSaid old new left
      fetch-turns = by snapshot refl
        where
          by : (b : Bool) → snapshot ≡ b → TurnsDated t m reading FetchSaid old new left
          by false off = plain-fetch off
          by true on = seen-fetch on ep refl

    -- ---- a Commit

    commit-asks : (x : AttemptId) (ep first : Option Epoch) (tracker : Epoch) (ws : List MinorWrite) → ep ≡ None → AsksEpoch (message.Commit x ep first tracker ws) x tracker
    commit-asks x None first tracker ws is = (refl, refl)
    commit-asks x (Some own) first tracker ws is = let no : ⊥ = cc in absurd no

    commit-brings : (x : AttemptId) (ep first : Option Epoch) (tracker : Epoch) (ws : List MinorWrite) (e : Epoch) → ep ≡ Some e → BringsEpoch (message.Commit x ep first tracker ws) x e
    commit-brings x None first tracker ws e is = let no : ⊥ = cc in absurd no
    commit-brings x (Some own) first tracker ws e is = (refl, cc)

    module _ (x : AttemptId) (ep first : Option Epoch) (tracker : Epoch) (ws : List MinorWrite) (K : KnowsDated from (message.Commit x ep first tracker ws) old m left) where
      abbrev CommitSaid : Message
      CommitSaid = message.Commit x ep first tracker ws

      abbrev CommitOf : CommitRequest
      CommitOf = commit_request x ep first tracker ws

      -- whatever it ends with
      commit-turn : (Ends : commit.CommitStage → Kept → TargetMemory × Did → Type 0) → Whole (commit.CommitNext t opening m reading CommitOf) Ends commit.Asked old new left
          → ((s : commit.CommitStage) (k : Kept) → Ends s k left → CommitStands t m reading CommitOf s k → Dates t m reading x ep tracker k.durable.lease left)
          → (((e : Epoch) → request_epoch t m reading tracker ep ≡ Some e → IsEpochOf r u x e) → (request_epoch t m reading tracker ep ≡ None → L x from) → (s : commit.CommitStage) (k : Kept) → Ends s k left → CommitStands t m reading CommitOf s k → AllTellDated r u L left.1.posts)
          → left.0.member.parked ≡ m.member.parked → m.ticks ≤ left.0.ticks → left.1.lines ≡ [] → TurnsDated t m reading CommitSaid old new left
      commit-turn Ends h dated tells parked ticks lines = record {
        leaves = record { posts = tells (λ e found. IsOwn (known e found)) spent h.last new h.ends so.0; parked = subst (AllWaitDated r u L) (sym parked) K.parked };
        ticks = ticks;
        lease = kept.lease;
        entries = kept.entries;
        issuing = dates-issue t m reading CommitSaid x ep tracker new.durable.lease left (commit-asks x ep first tracker ws) dates;
        silent = none-silent left.1.lines lines;
      }
        where
          so : CommitSoFar anything 0 t opening m reading CommitOf (λ e found. tt) h.last new
          so = commit-path anything 0 t opening m reading CommitOf (λ e found. tt) old h.reached.did h.last new h.reached.path (anything-stays old)

          dates : Dates t m reading x ep tracker new.durable.lease left
          dates = dated h.last new h.ends so.0

          known : (e : Epoch) → request_epoch t m reading tracker ep ≡ Some e → IsIssued u x e
          known = dates-know t m reading CommitSaid x ep tracker new.durable.lease left (commit-asks x ep first tracker ws) dates (IssuedIn r u L) (λ e is. K.brought x e (commit-brings x ep first tracker ws e is)) (λ e is. K.issued x e is)

          spent : request_epoch t m reading tracker ep ≡ None → L x from
          spent none = let s = dates-spent t m reading CommitSaid x ep tracker new.durable.lease left (commit-asks x ep first tracker ws) dates none in K.spent x tracker (commit-asks x ep first tracker ws s.0) s.1

          kept : Stays (IssuedIn r u L) old.durable.lease new
          kept = (commit-path (IssuedIn r u L) old.durable.lease t opening m reading CommitOf known old h.reached.did h.last new h.reached.path (record { lease = omega arith; entries = K.entries })).1

    -- ---- every turn without stops

    pub hears-turns : (said : Message) → KnowsDated from said old m left → Hears t opening m reading from said old new left → HearsRightly t opening m reading from said old new left → TurnsDated t m reading said old new left
    hears-turns (message.Fetch x op group ep first tracker rd snapshot) K h right = fetch-turns x op group ep first tracker rd snapshot K h
    hears-turns (message.Commit x ep first tracker ws) K h right =
        let f = hears-follows t opening m reading from (message.Commit x ep first tracker ws) old new left right in
        commit-turn x ep first tracker ws K _ h (λ s k ends stands. commit-dates t opening m reading (commit_request x ep first tracker ws) from s k left ends stands)
        (λ epoch spent s k ends stands. commit-tells r u L t m reading (commit_request x ep first tracker ws) from epoch spent opening s k left ends stands)
        (ap (λ z. z.parked) (memory.commit-leaves t opening m reading (commit_request x ep first tracker ws) from h.last new left h.ends).member) f.more.ticks f.lines
    hears-turns (message.Prepare e first ws inc) K h right =
        quiet-turn (message.Prepare e first ws inc) (telling.prepare-leaves r u L t opening m (prepare_request e first ws inc) h.last new left K.parked h.ends)
        (hears-kept (IssuedIn r u L) t opening m reading from old K.entries (message.Prepare e first ws inc) new left (K.brought e.attempt e.epoch (refl, refl)) h)
        (hears-follows t opening m reading from (message.Prepare e first ws inc) old new left right) (hears-issues-none t opening m reading from (message.Prepare e first ws inc) old new left right refl)
    hears-turns (message.Ack x inc refusal) K h right =
        quiet-turn (message.Ack x inc refusal) (telling.ack-leaves r u L t m from.number x inc refusal old new left K.entries K.parked h)
        (hears-kept (IssuedIn r u L) t opening m reading from old K.entries (message.Ack x inc refusal) new left tt h)
        (hears-follows t opening m reading from (message.Ack x inc refusal) old new left right) (hears-issues-none t opening m reading from (message.Ack x inc refusal) old new left right refl)
    hears-turns (message.Mark inc marks) K h right =
        quiet-turn (message.Mark inc marks) (telling.mark-leaves r u L m from inc marks right.last new left K.parked right.ends)
        (hears-kept (IssuedIn r u L) t opening m reading from old K.entries (message.Mark inc marks) new left tt h)
        (hears-follows t opening m reading from (message.Mark inc marks) old new left right) (hears-issues-none t opening m reading from (message.Mark inc marks) old new left right refl)
    hears-turns (message.Marked inc ids) K h right =
        quiet-turn (message.Marked inc ids) (telling.marked-leaves r u L t m from.number inc ids h.last new left K.parked h.ends)
        (hears-kept (IssuedIn r u L) t opening m reading from old K.entries (message.Marked inc ids) new left tt h)
        (hears-follows t opening m reading from (message.Marked inc ids) old new left right) (hears-issues-none t opening m reading from (message.Marked inc ids) old new left right refl)
    hears-turns (message.Query x ask) K h right =
        quiet-turn (message.Query x ask) (telling.query-leaves r u L t m from x ask h.last new left K.parked h.ends)
        (hears-kept (IssuedIn r u L) t opening m reading from old K.entries (message.Query x ask) new left tt h)
        (hears-follows t opening m reading from (message.Query x ask) old new left right) (hears-issues-none t opening m reading from (message.Query x ask) old new left right refl)
    hears-turns (message.Verdict x ask inc v) K h right =
        quiet-turn (message.Verdict x ask inc v) (verdict-leaves r u L (is_in_doubt t.me) t m reading x ask v old new left K.parked right)
        (hears-kept (IssuedIn r u L) t opening m reading from old K.entries (message.Verdict x ask inc v) new left tt h)
        (hears-follows t opening m reading from (message.Verdict x ask inc v) old new left right) (hears-issues-none t opening m reading from (message.Verdict x ask inc v) old new left right refl)
    hears-turns other K h right = absurd h

    -- ---- further messages

    line-silent : (number : ℕ) (said : Message) → HearsFurther number t opening m reading from said old new left → (a : Attempt) → Has (line.Try a) left.1.lines → ⊥
    line-silent number said h a i = (further-lines number t opening m reading from said old new left h).own (line.Try a) i

    -- one that issues none, and makes a snapshot or aggregates
    making-turn : (number : ℕ) (said : Message) → HearsFurther number t opening m reading from said old new left → LeavesDated r u L left → Stays (IssuedIn r u L) old.durable.lease new → IssuesNone m left → TurnsDated t m reading said old new left
    making-turn number said h leaves kept none =
        record { leaves = leaves; ticks = none.ticks; lease = kept.lease; entries = kept.entries; issuing = Nothing none.issued; silent = line-silent number said h }

    old-stays : AreKnown (IssuedIn r u L) old.durable.entries → Stays (IssuedIn r u L) old.durable.lease old
    old-stays known = record { lease = omega arith; entries = known }

    -- one that changes nothing
    said-dated : (said : Message) → KnowsDated from said old m left → (n : Message) (to : ActorId) → SaysFurther old.durable m.member.parked n → TellsDated r u L n to
    said-dated said K n to (EndsHeld e how i is) = subst (λ z. TellsDated r u L z to) (sym is) (IsOwn (known-each (IssuedIn r u L) old.durable.entries e K.entries (contains-from_has old.durable.entries e i)))
    said-dated said K n to (EndsLost x is) = subst (λ z. TellsDated r u L z to) (sym is) (λ off. let on : is_lost x (outcome.Restart (Unresolved x)) ≡ true = same_attempt-itself x in let no : ⊥ = cc (on, off) in absurd no)
    said-dated said K n to (TellsState x inc how is) = subst (λ z. TellsDated r u L z to) (sym is) tt
    said-dated said K n to (AsksState x inc is) = subst (λ z. TellsDated r u L z to) (sym is) tt
    said-dated said K n to (MarksAgain inc marks is) = subst (λ z. TellsDated r u L z to) (sym is) tt
    said-dated said K n to (MetUnresolved p x op group ep first tracker rd snapshot a i asked is) =
        let w = waited r u L x op group ep first tracker rd snapshot (subst (WaitsDated r u) asked (K.parked p i)) in
        subst (λ z. TellsDated r u L z to) (sym is) (subst (λ o. TellsDated r u L (message.Fetched x op group o (reply.Outcome (outcome.Restart (Unresolved a)))) to) (sym w.has) (w.known, w.other))

    listening-turn : (said : Message) → KnowsDated from said old m left → Listens old m new left → TurnsDated t m reading said old new left
    listening-turn said K k = record {
      leaves = record { posts = λ p i. said-dated said K p.message p.to (k.says p i); parked = λ p i. K.parked p (k.parked p i) };
      ticks = let same : left.0.ticks ≡ m.ticks = k.ticks in omega (arith, same);
      lease = let same : new.durable.lease ≡ old.durable.lease = ap (λ z. z.durable.lease) k.same in omega (arith, same);
      entries = subst (λ z. AreKnown (IssuedIn r u L) z.durable.entries) (sym k.same) K.entries;
      issuing = Nothing k.issued;
      silent = none-silent left.1.lines k.lines;
    }

    -- a Reset of what is asked of the others
    collection-turn : (number by : ℕ) (down : Bool) (asked said : Message) → KnowsDated from said old m left → TellsDated r u L asked (record { client = false; number = by }) → HearsFurther number t opening m reading from said old new left
        → Looked (λ k. collection_left m by down asked) old new left → TurnsDated t m reading said old new left
    collection-turn number by down asked said K tells h k =
        making-turn number said h (subst (LeavesDated r u L) (sym k.follows) (reset-leaves r u L m by down asked tells K.collecting K.parked)) (subst (Stays (IssuedIn r u L) old.durable.lease) (sym k.same) (old-stays K.entries))
        (subst (IssuesNone m) (sym k.follows) (reset-issues m by down asked))

    pub further-turns : (number : ℕ) (said : Message) → KnowsDated from said old m left → HearsFurther number t opening m reading from said old new left → TurnsDated t m reading said old new left
    further-turns number (message.Commit x ep first tracker ws) K h =
        commit-turn x ep first tracker ws K _ h (λ s k ends stands. (down-dates t m reading (commit_request x ep first tracker ws) from s k left ends stands).0)
        (λ epoch spent s k ends stands. down-tells r u L t m reading (commit_request x ep first tracker ws) from epoch spent s k left ends stands)
        (down-parked h.last new h.ends) (down-ticks h.last new h.ends) (down-lines h.last new h.ends)
      where
        down-parked : (s : commit.CommitStage) (k : Kept) → further.CommitDown t m reading (commit_request x ep first tracker ws) from s k left → left.0.member.parked ≡ m.member.parked
        down-parked s k (further.IsSpent j e down i none known is) = ap (λ z. z.0.member.parked) is
        down-parked s k (further.IsUnknown j e down i known is) = ap (λ z. z.0.member.parked) is

        down-ticks : (s : commit.CommitStage) (k : Kept) → further.CommitDown t m reading (commit_request x ep first tracker ws) from s k left → m.ticks ≤ left.0.ticks
        down-ticks s k (further.IsSpent j e down i none known is) = subst (λ z. m.ticks ≤ z.0.ticks) (sym is) (omega arith)
        down-ticks s k (further.IsUnknown j e down i known is) = subst (λ z. m.ticks ≤ z.0.ticks) (sym is) (heard-up m.ticks e.0).0

        down-lines : (s : commit.CommitStage) (k : Kept) → further.CommitDown t m reading (commit_request x ep first tracker ws) from s k left → left.1.lines ≡ []
        down-lines s k (further.IsSpent j e down i none known is) = ap (λ z. z.1.lines) is
        down-lines s k (further.IsUnknown j e down i known is) = ap (λ z. z.1.lines) is
    further-turns number (message.Ask x) K h = listening-turn (message.Ask x) K (listens number t opening m reading from (message.Ask x) old new left refl h)
    further-turns number (message.Status x inc) K h = listening-turn (message.Status x inc) K (listens number t opening m reading from (message.Status x inc) old new left refl h)
    further-turns number (message.StatusIs x inc how) K h =
        let a = ack-leaves m h.last new left h.ends in
        let kept = further-kept (IssuedIn r u L) t opening m reading from old K.entries number (message.StatusIs x inc how) new left refl tt h in
        record {
          leaves = telling.ack-leaves r u L t m from.number x inc (status_refusal x how) old new left K.entries K.parked h;
          ticks = let same : left.0.ticks ≡ m.ticks = a.ticks in omega (arith, same);
          lease = kept.lease;
          entries = kept.entries;
          issuing = Nothing (none-issued h.last new h.ends);
          silent = line-silent number (message.StatusIs x inc how) h;
        }
      where
        none-issued : (s : ack.AckStage) (k : Kept) → ack.AckEnds m s k left → left.1.issued ≡ None
        none-issued s k (ack.IsFollowed j step i is) = ap (λ z. z.1.issued) is
    further-turns number (message.Snap x c name tracker) K h =
        let so = freeze-reached (IssuedIn r u L) old.durable.lease t m reading tracker None c (snap.is_held_by_all t 0) old h.last new h.reached (old-stays K.entries) in
        let d = snap-dates (IssuedIn r u L) old.durable.lease t m reading tracker x c name from h.last new left h.ends so.0 in
        record {
          leaves = snap-leaves r u L t m reading tracker x c from
              (λ e found. IsOwn (dates-know t m reading (message.Snap x c name tracker) x None tracker new.durable.lease left (λ none. (refl, refl)) d.0 (IssuedIn r u L) (λ f is. let no : ⊥ = cc in absurd no) (λ f is. K.issued x f is) e found))
              (λ none. K.spent x tracker (refl, refl) (dates-spent t m reading (message.Snap x c name tracker) x None tracker new.durable.lease left (λ none. (refl, refl)) d.0 none).1) K.parked
              (IssuedIn r u L) old.durable.lease new.durable.lease name h.last new left h.ends so.0;
          ticks = d.1;
          lease = so.1.lease;
          entries = so.1.entries;
          issuing = dates-issue t m reading (message.Snap x c name tracker) x None tracker new.durable.lease left (λ none. (refl, refl)) d.0;
          silent = line-silent number (message.Snap x c name tracker) h;
        }
    further-turns number (message.Freeze x c s) K h =
        making-turn number (message.Freeze x c s) h (freeze-leaves r u L t m x c from h.last new left K.parked h.ends)
        (freeze-reached (IssuedIn r u L) old.durable.lease t m reading s (Some s) c false old h.last new h.reached (old-stays K.entries)).1 (freeze-issues t m x c from h.last new left h.ends)
    further-turns number (message.Held x refusal) K h =
        making-turn number (message.Held x refusal) h (held-leaves r u L t m from.number x refusal old new left K.collecting K.parked h)
        (held-stays (IssuedIn r u L) old.durable.lease t m from.number x refusal old h.last new h.reached (old-stays K.entries)) (held-issues t m from.number x refusal h.last new left h.ends)
    further-turns number (message.Prune x c (Some tracker) None) K h =
        let so = prune-reached (IssuedIn r u L) old.durable.lease t m reading tracker None c number old h.last new h.reached (old-stays K.entries) in
        let d = aggregate-dates (IssuedIn r u L) old.durable.lease t m reading tracker x c from h.last new left h.ends so.0 in
        record {
          leaves = aggregate-leaves r u L t m reading tracker x c from
              (λ e found. IsOwn (dates-know t m reading (message.Prune x c (Some tracker) None) x None tracker new.durable.lease left (λ none. (refl, refl)) d.0 (IssuedIn r u L) (λ f is. let no : ⊥ = cc in absurd no) (λ f is. K.issued x f is) e found))
              (λ none. K.spent x tracker (refl, refl) (dates-spent t m reading (message.Prune x c (Some tracker) None) x None tracker new.durable.lease left (λ none. (refl, refl)) d.0 none).1) K.parked
              (IssuedIn r u L) old.durable.lease new.durable.lease h.last new left h.ends so.0;
          ticks = d.1;
          lease = so.1.lease;
          entries = so.1.entries;
          issuing = dates-issue t m reading (message.Prune x c (Some tracker) None) x None tracker new.durable.lease left (λ none. (refl, refl)) d.0;
          silent = line-silent number (message.Prune x c (Some tracker) None) h;
        }
    further-turns number (message.Prune x c None (Some g)) K h =
        making-turn number (message.Prune x c None (Some g)) h (prune-leaves r u L m x from h.last new left K.parked h.ends)
        (prune-reached (IssuedIn r u L) old.durable.lease t m reading g (Some g) c number old h.last new h.reached (old-stays K.entries)).1 (prune-issues m x from h.last new left h.ends)
    further-turns number (message.Reset' by down place (more_of-Message (message.Freeze x c s) rest)) K h =
        collection-turn number by down (message.Freeze x c s) _ K tt h (looked _ old new left h)
    further-turns number (message.Reset' by down place (more_of-Message (message.Prune x c None e) rest)) K h =
        collection-turn number by down (message.Prune x c None e) _ K tt h (looked _ old new left h)
    further-turns number (message.Reset' by down place (more_of-Message (message.Prune x c (Some tracker) e) rest)) K h = let off : true ≡ false = K.lost in let no : ⊥ = cc in absurd no
    further-turns number (message.Reset' by down place (more_of-Message q rest)) K h =
        listening-turn (message.Reset' by down place (more_of-Message q rest)) K (listens number t opening m reading from (message.Reset' by down place (more_of-Message q rest)) old new left refl h)
    further-turns number other K h = absurd h

    -- ---- idle work

    pub idle-turns : (settling : Bool) → AreKnown (IssuedIn r u L) old.durable.entries → AllWaitDated r u L m.member.parked → IdlesWhole settling t m old new left → KeptSo (IssuedIn r u L) old.durable new.durable × LeavesDated r u L left × Follows m left × (left.1.issued ≡ None)
    idle-turns settling known parked h = (
      idle-kept (IssuedIn r u L) t opening m reading from old known settling new left h,
      telling.idle-leaves r u L settling t m h.last new left parked h.ends,
      idles-follows settling t m old new left h,
      idles-issue-none settling t m old new left h,
    )
