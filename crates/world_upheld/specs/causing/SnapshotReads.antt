-- A read at a snapshot bears the epoch of the snapshot, which was issued to another attempt: counted as dated so, it shows its cause.
use Rattle.std.specs.Prelude.{ℕ, ◌≡◌, ◌≤◌, ◌<◌, ◌/◌, ◌&&◌, ◌⊎◌, Any, Bool, true, false, not, nat_le, List, [], ◌∷◌, Contains, Option, Some, None, Err, refl, if◌then◌else◌}
use Rattle.std.proofs.Common.{inl, inr, sym, ◌∙◌, ap, subst, arith}
use Rattle.base_types.specs.declared.entry.Settle.TheVariants.{Commit}
use Rattle.base_types.specs.declared.epoch.Epoch.{Epoch}
use Rattle.base_types.specs.declared.id.AttemptId.{AttemptId}
use Rattle.base_types.specs.declared.outcome.Cause.TheVariants as cause
use Rattle.base_types.specs.declared.outcome.FloorWhy.{FloorWhy}
use Rattle.base_types.specs.declared.outcome.Outcome.TheVariants as outcome
use Rattle.base_types.specs.declared.report.Line.{Line}
use Rattle.base_types.specs.Operations.{read_path, write_path}
use Rattle.base_types.specs.Paths.{overlaps}
use Rattle.base_messages.specs.declared.actor.ActorId.{ActorId}
use Rattle.base_messages.specs.declared.message.Message.TheVariants as message
use Rattle.base_messages.specs.declared.message.Reply.{Reply}
use Rattle.base_messages.specs.declared.message.Reply.TheVariants as reply
use Rattle.model_laws.specs.Lists.{any-of}
use Rattle.model_laws.specs.Members.{Has, contains-from_has, has-cases, has-from_contains}
use Rattle.daos_model.specs.Accesses.{access_paths, minor_writes}
use Rattle.daos_model.specs.Durables.{is_frozen, row_of}
use Rattle.daos_model.specs.Opening.{Opening, top}
use Rattle.daos_model.specs.Transactions.{attempt_ops}
use Rattle.daos_model.specs.Versions.{version_path}
use Rattle.daos_model.specs.declared.durable.Durable.{Durable}
use Rattle.daos_model.specs.Durables.{same_attempt}
use Rattle.dtx_base.specs.declared.member.Parked.{Parked}
use Rattle.world_base.specs.vos_stamp.Stamps.{read_cause}
use Rattle.vos_store.specs.Answers.{fetched, is_past}
use Rattle.vos_store.specs.declared.refusal.FetchNo.TheVariants.{Unsettled}
use Rattle.world_base.specs.declared.did.Did.{Did}
use Rattle.world_base.specs.declared.letter.Letter.{Letter}
use Rattle.world_base.specs.declared.request.FetchRequest.{FetchRequest}
use Rattle.world_base.specs.declared.target.TargetMemory.{TargetMemory}
use Rattle.world_base.specs.declared.target.TargetPlan.{TargetPlan}
use Rattle.world_base.specs.declared.world.World.{World}
use Rattle.world_base.specs.ChangeLaws.{snaps-made}
use Rattle.world_base.specs.Changes.{Change, Kept, Settles, Steps}
use Rattle.world_base.specs.ClientTurns.{told_by_reply}
use Rattle.world_base.specs.Events.{Rules}
use Rattle.world_base.specs.Letters.{client}
use Rattle.world_base.specs.PathLaws.{path-keeps}
use Rattle.world_base.specs.Reads as read
use Rattle.world_base.specs.Requests.{issued_for, with_ticks}
use Rattle.world_base.specs.Roles.{other_leader}
use Rattle.world_base.specs.Turns.{Path, Whole}
use Rattle.world_legal.specs.world_causes.causes.AtFloors.{IsTarget}
use Rattle.world_legal.specs.world_causes.causes.Causes.{Dated, IsAskedFor, MeetsOther, Stored}
use Rattle.world_legal.specs.world_causes.causes.Floors.{IsInTheWay, meets-open}
use Rattle.world_legal.specs.world_causes.causes.Leases.{ExtendsTo}
use Rattle.world_legal.specs.world_causes.causes.Writes.{written-stays}
use Rattle.world_legal.specs.world_causes.causes.Paths.{AreOpen, IsKnown, IsMet, IsOpenStill, IsOthers, Lasts, lasts-committed, lasts-here, lasts-rests}
use Rattle.world_legal.specs.world_causes.causes.ReadTurns.{none-told, told-one, unresolved-stands}
use Rattle.world_legal.specs.world_causes.causes.Shown.{Causes, IsOpenToAll, MeetsUnresolved, MessageStands, ReplyStands, limit_over}
use Rattle.world_legal.specs.world_causes.causes.Turns.{PostShows}
use Rattle.world_upheld.specs.causing.Posts.{EachShows, one-shows}
use Rattle.world_letters.specs.clients.Snapshots.{is_at_snapshot}
use Rattle.world_letters.specs.epochs.Epochs.{Epochs}
use Rattle.daos_model.specs.BoolLaws.{clash}

-- ---- what is known of such a read

-- It is at a snapshot; what counts as its attempt's epoch is that of the snapshot, or later; the snapshot's is within the limit; its attempt accesses
-- what it reads; it comes of the attempt's client; and the snapshot is frozen here.
pub record IsDatedRead (r : Rules) (o : Opening) (dated : Dated) (lines : List Line) (q : FetchRequest) (from : ActorId) (e : Epoch) (old : Kept) : Type 0 where
  pub snapshot : q.snapshot ≡ true
  pub own : q.ep ≡ Some e
  pub date : Epoch
  pub its : Contains dated (q.attempt, date)
  pub up : e.0 ≤ date.0
  pub within : e.0 / 256 ≤ limit_over o lines dated
  pub access : Contains (access_paths (attempt_ops r.script q.attempt)) (read_path q.read)
  pub from_client : from ≡ client q.attempt.client
  pub frozen : is_frozen old.durable (read_path q.read).cont e ≡ true

-- what waits then waited before, or it is this read, and what it waits for is in its way
abbrev pub WaitsThen : Rules → Dated → FetchRequest → Epoch → List Parked → Parked → Type 0
WaitsThen r dated q e parked p = Has p parked ⊎ ((p.ask ≡ read.fetch_at q e) × MeetsOther r dated q.attempt p.on)

-- what such a read leaves: each message that it sends shows its cause; nothing is issued or told; ticks stay
pub record SnapshotReadLeaves (r : Rules) (o : Opening) (stored : Stored) (dated : Dated) (lines : List Line) (m : TargetMemory) (q : FetchRequest) (e : Epoch) (old new : Kept) (left : TargetMemory × Did) : Type 0 where
  pub posts : EachShows r o stored dated lines left.1.posts
  pub issued : left.1.issued ≡ None
  pub silent : left.1.lines ≡ []
  pub ticks : left.0.ticks ≡ m.ticks
  pub free : old.free ≤ new.free
  pub parked : (p : Parked) → Has p left.0.member.parked → WaitsThen r dated q e m.member.parked p

abbrev pub SnapshotReadsShow : Type 0
SnapshotReadsShow =
    (r : Rules) (o : Opening) (stored : Stored) (dated : Dated) (lines : List Line) (t : TargetPlan) (opening : Epoch × FloorWhy) (m : TargetMemory) (reading : ℕ) (q : FetchRequest) (from : ActorId) (e : Epoch) (old new : Kept) (left : TargetMemory × Did)
    → IsTarget r o dated lines t.me opening old → AreOpen r.script t lines (top o) old.durable m.leader.decided → IsDatedRead r o dated lines q from e old
    → Whole (read.FetchNext t m reading q) (read.FetchEnds t m reading q from) read.Asked old new left → SnapshotReadLeaves r o stored dated lines m q e old new left

-- ---- the path

module _ (r : Rules) (o : Opening) (lines : List Line) (t : TargetPlan) (m : TargetMemory) (reading : ℕ) (q : FetchRequest) (e : Epoch) (old : Kept) (snap : q.snapshot ≡ true) (own : q.ep ≡ Some e) where
  -- it begins where a turn came to by then
  unfoldable pub ReadsSo : read.FetchStage → Kept → Type 0
  ReadsSo read.Asked k = Lasts r.script t lines (top o) old m.leader.decided k × (k.durable.snaps ≡ old.durable.snaps)
  ReadsSo (read.Known f) k = ⊥
  ReadsSo (read.Reading f decided) k = (f ≡ e) × Lasts r.script t lines (top o) old decided k × (k.durable.snaps ≡ old.durable.snaps)

  pub reads-step : (s : read.FetchStage) (k : Kept) (y : Option Change) (u : read.FetchStage) (l : Kept) → read.FetchNext t m reading q s k y u → Steps y k l → ReadsSo s k → ReadsSo u l
  unfolding ReadsSo
  reads-step s k y u l (read.AtSnapshot j f is ep) st h =
      let same : f ≡ e = cc in
      (same, lasts-rests r.script t lines (top o) old m.leader.decided k l st h.0, ap (λ z. z.durable.snaps) st ∙ h.1)
  reads-step s k y u l (read.HasEpoch j f plain is) st h = let no : ⊥ = cc in absurd no
  reads-step s k y u l (read.ExtendsLease j f lease low is) st h = absurd h
  reads-step s k y u l (read.IsCovered j f low) st h = absurd h
  reads-step s k y u l (read.SettlesOwn j f decided a none unsettled among) st h =
      (h.0, lasts-committed r.script t lines (top o) old decided a k l st h.1, ap (λ d. d.snaps) st.0 ∙ snaps-made (Settles a Commit) k.durable refl ∙ h.2)

  reads-path : AreOpen r.script t lines (top o) old.durable m.leader.decided → (did : List Change) (s : read.FetchStage) (k : Kept) → Path (read.FetchNext t m reading q) read.Asked old did s k → ReadsSo s k
  unfolding ReadsSo
  reads-path opens did s k path = path-keeps (read.FetchNext t m reading q) ReadsSo reads-step read.Asked old did s k path (lasts-here r.script t lines (top o) old m.leader.decided opens, refl)

-- what is frozen isn't past
pub frozen-there : (d x : Durable) (q : FetchRequest) (e : Epoch) → x.snaps ≡ d.snaps → is_frozen d (read_path q.read).cont e ≡ true → is_frozen x (read_path q.read).cont e ≡ true
unfolding is_frozen
frozen-there d x q e same is = ap (λ ss. is_frozen (record d { snaps = ss }) (read_path q.read).cont e) same ∙ is

-- so it isn't refused
pub none-refuses : (t : TargetPlan) (q : FetchRequest) (e : Epoch) (d : Durable) → q.snapshot ≡ true → is_frozen d (read_path q.read).cont e ≡ true → read.fetch_cause t q e d ≡ None
unfolding is_past
none-refuses t q e d snap frozen = by q.snapshot snap (nat_le e.0 (row_of d (read_path q.read).cont).aggregated.0) (is_frozen d (read_path q.read).cont e) frozen
  where
    by : (s : Bool) → s ≡ true → (a b : Bool) → b ≡ true
        → read_cause t.me e.0 (read.aggregated_unless (a && not b) (row_of d (read_path q.read).cont)) (read.later_unless s (read.later_of t q.first e (read_path q.read) d)) ≡ None
    by true on true true is = refl
    by true on false true is = refl
    by true on a false is = let no : ⊥ = cc in absurd no
    by false on a b is = let no : ⊥ = cc in absurd no

-- it extends no lease
abbrev pub IsAtSnapshot : read.FetchStage → Type 0
IsAtSnapshot read.Asked = Unit {0}
IsAtSnapshot (read.Known e) = ⊥
IsAtSnapshot (read.Reading e decided) = Unit {0}

pub extends-none : (b : ℕ) (t : TargetPlan) (m : TargetMemory) (reading : ℕ) (q : FetchRequest) → q.snapshot ≡ true → (s : read.FetchStage) (k : Kept) (c : Option Change) (u : read.FetchStage) → read.FetchNext t m reading q s k c u → IsAtSnapshot s → IsAtSnapshot u × ExtendsTo b c
extends-none b t m reading q at s k c u (read.AtSnapshot j e snap is) p = (tt, tt)
extends-none b t m reading q at s k c u (read.HasEpoch j e plain is) p = let no : ⊥ = cc in absurd no
extends-none b t m reading q at s k c u (read.ExtendsLease j e lease less is) p = absurd p
extends-none b t m reading q at s k c u (read.IsCovered j e less) p = absurd p
extends-none b t m reading q at s k c u (read.SettlesOwn j e decided a none unsettled among) p = (tt, tt)

-- ---- its end

module _ (r : Rules) (o : Opening) (stored : Stored) (dated : Dated) (lines : List Line) (t : TargetPlan) (opening : Epoch × FloorWhy) (m : TargetMemory) (reading : ℕ) (q : FetchRequest) (from : ActorId) (e : Epoch) (old : Kept) (T : IsTarget r o dated lines t.me opening old)
    (K : IsDatedRead r o dated lines q from e old) where
  -- nothing is issued
  none-issued : issued_for q.attempt q.ep e ≡ None
  none-issued = ap (λ ep. issued_for q.attempt ep e) K.own

  same-ticks : (decided : List AttemptId) → (read.memory_then q e decided m).ticks ≡ m.ticks
  same-ticks decided = ap (λ b. (if b then m else with_ticks e m).ticks) K.snapshot

  same-member : (decided : List AttemptId) → (read.memory_then q e decided m).member ≡ m.member
  same-member decided = ap (λ b. (if b then m else with_ticks e m).member) K.snapshot

  told-shows : (b : Reply) → ReplyStands r o stored dated lines q.attempt b → told_by_reply b ≡ [] → PostShows r o stored dated lines (record { to = from; message = read.fetched_message q (Some e) b })
  told-shows b shows none = record {
    shows = shows;
    told = λ n i. subst (λ f. f / 256 ≤ limit_over o lines dated) (told-one e n (subst (λ ks. Contains (e.0 ∷ ks) n) none i)) K.within;
    undecided = λ x y u. absurd u;
    asked = λ x u. absurd u;
    own = λ x same. K.from_client ∙ ap (λ y. client y.client) same;
  }

  -- the client is told how its read went
  tells-left : (k : Kept) (decided : List AttemptId) → Lasts r.script t lines (top o) old decided k → (b : Reply) (memory : TargetMemory) (left : TargetMemory × Did) → memory.ticks ≡ (read.memory_then q e decided m).ticks → memory.member ≡ (read.memory_then q e decided m).member → left ≡ (memory, read.tells q from e b)
      → ReplyStands r o stored dated lines q.attempt b → told_by_reply b ≡ [] → SnapshotReadLeaves r o stored dated lines m q e old k left
  tells-left k decided w b memory left ticks member is shows none = subst (SnapshotReadLeaves r o stored dated lines m q e old k) (sym is) (record {
    posts = one-shows r o stored dated lines _ (told-shows b shows none);
    issued = none-issued;
    silent = refl;
    ticks = ticks ∙ same-ticks decided;
    free = w.free;
    parked = λ p i. inl (subst (λ z. Has p z.parked) (member ∙ same-member decided) i);
  })

  -- an attempt is in its way
  meets : (k : Kept) (decided : List AttemptId) (a : AttemptId) → Lasts r.script t lines (top o) old decided k → IsInTheWay q.read e k.durable a → MeetsOther r dated q.attempt a
  meets k decided a w v = record {
    own = K.date;
    its = K.its;
    other = v.v.epoch;
    others = subst (λ x. Contains dated (x, v.v.epoch)) v.its wrote.0;
    below = (let low : v.v.epoch.0 < e.0 = v.below in let up : e.0 ≤ K.date.0 = K.up in omega (arith, low, up));
    overlap = subst (λ x. Any (λ w. Any (λ p. overlaps p (write_path w.write) ≡ true) (access_paths (attempt_ops r.script q.attempt))) (minor_writes 0 (attempt_ops r.script x))) v.its (
      wrote.1.0,
      wrote.1.1,
      wrote.1.2,
      wrote.1.3,
      any-of (λ p. overlaps p (write_path wrote.1.1.write) ≡ true) (access_paths (attempt_ops r.script q.attempt)) (read_path q.read) (has-from_contains (access_paths (attempt_ops r.script q.attempt)) (read_path q.read) K.access)
          (subst (λ p. overlaps (read_path q.read) p ≡ true) (sym wrote.1.4) v.overlap),
    );
  }
    where
      wrote : Contains dated (v.v.by, v.v.epoch) × Any (λ w. write_path w.write ≡ version_path v.v) (minor_writes 0 (attempt_ops r.script v.v.by))
      wrote = written-stays r dated (top o) old.durable.versions k.durable.versions T.written w.olds v.v v.among (w.opens v.v v.among v.unsettled).above

  -- it is open to any other
  still-open : (k : Kept) (decided : List AttemptId) (a : AttemptId) → Lasts r.script t lines (top o) old decided k → IsInTheWay q.read e k.durable a → (Contains decided a → ⊥) → other_leader t a k.durable ≡ None → IsOpenToAll r.script lines a
  still-open k decided a w v unknown alone = by (subst (IsMet r.script t lines k.durable decided) v.its (w.opens v.v v.among v.unsettled).met)
    where
      by : IsMet r.script t lines k.durable decided a → IsOpenToAll r.script lines a
      by (IsKnown i) = absurd (unknown (contains-from_has decided a i))
      by (IsOthers leader is) = let no : ⊥ = cc in absurd no
      by (IsOpenStill open') = open'

  pub ends-show : (s : read.FetchStage) (k : Kept) (left : TargetMemory × Did) → ReadsSo r o lines t m reading q e old K.snapshot K.own s k → read.FetchEnds t m reading q from s k left → SnapshotReadLeaves r o stored dated lines m q e old k left
  unfolding ReadsSo
  ends-show s k left h (read.IsSpent j z plain none is) = let on = K.snapshot in let no : ⊥ = cc in absurd no
  ends-show s k left h (read.IsRefused j f decided c z because is) =
      let none = none-refuses t q e k.durable K.snapshot (frozen-there old.durable k.durable q e h.2 K.frozen) in
      let why : read.fetch_cause t q e k.durable ≡ Some c = subst (λ g. read.fetch_cause t q g k.durable ≡ Some c) h.0 because in
      let no : ⊥ = cc (none, why) in absurd no
  ends-show s k left h (read.MeetsUnresolved j f decided a z free unsettled unknown alone is) =
      let v = meets-open q.read e k.durable a (subst (λ g. fetched q.read g k.durable ≡ Err (Unsettled a)) h.0 unsettled) in
      tells-left k decided h.1 (reply.Outcome (outcome.Restart (cause.Unresolved a))) (read.memory_then q e decided m) left refl refl (is ∙ ap (λ g. (read.memory_then q g decided m, read.tells q from g (reply.Outcome (outcome.Restart (cause.Unresolved a))))) h.0)
      (unresolved-stands r lines dated q.attempt a (meets k decided a h.1 v) (still-open k decided a h.1 v unknown alone q.attempt) (T.once q.attempt)) refl
  ends-show s k left h (read.IsParked j f decided a leader z free unsettled other is) =
      let v = meets-open q.read e k.durable a (subst (λ g. fetched q.read g k.durable ≡ Err (Unsettled a)) h.0 unsettled) in
      subst (SnapshotReadLeaves r o stored dated lines m q e old k) (sym (is ∙ ap (λ g. (read.memory_parked t q g decided a leader m, read.asks_leader q g a leader)) h.0)) (record {
        posts = one-shows r o stored dated lines _ (record { shows = tt; told = λ n i. absurd (none-told n i); undecided = λ x y u. absurd u; asked = λ x same. (K.date, subst (λ y. Contains dated (y, K.date)) same K.its); own = λ x u. absurd u });
        issued = none-issued;
        silent = refl;
        ticks = same-ticks decided;
        free = h.1.free;
        parked = λ p i. placed p a leader (meets k decided a h.1 v) (has-cases m.member.parked (record { on = a; leader = leader; ask = read.fetch_at q e } ∷ []) p i);
      })
    where
      placed : (p : Parked) (a : AttemptId) (leader : ℕ) → MeetsOther r dated q.attempt a → Has p m.member.parked ⊎ ((p ≡ record { on = a; leader = leader; ask = read.fetch_at q e }) ⊎ ⊥) → WaitsThen r dated q e m.member.parked p
      placed p a leader met (inl i) = inl i
      placed p a leader met (inr (inl same)) = inr (ap (λ z. z.ask) same, subst (λ z. MeetsOther r dated q.attempt z) (sym (ap (λ z. z.on) same)) met)
      placed p a leader met (inr (inr bad)) = absurd bad
  ends-show s k left h (read.IsServed j f decided b z free served is) =
      tells-left k decided h.1 (reply.Answer b) (record (read.memory_then q e decided m) { stamps = read.stamps_with q e m.stamps }) left refl refl
      (is ∙ ap (λ g. (record (read.memory_then q g decided m) { stamps = read.stamps_with q g m.stamps }, read.tells q from g (reply.Answer b))) h.0) tt refl

pub snapshot-reads_show : SnapshotReadsShow
snapshot-reads_show r o stored dated lines t opening m reading q from e old new left T opens K w =
    ends-show r o stored dated lines t opening m reading q from e old T K w.last new left (reads-path r o lines t m reading q e old K.snapshot K.own opens w.reached.did w.last new w.reached.path) w.ends

-- ---- what causes don't say

-- Where outcomes show their causes by epochs that were issued, no read at a snapshot was told that another attempt is unresolved, and no leader
-- is asked for one: its epoch is the snapshot's, which was issued to another attempt.
abbrev pub SnapshotReadsMeetNone : Type 0
SnapshotReadsMeetNone =
    (r : Rules) (o : Opening) (stored : Stored) (w : World) → Epochs r (top o) w → Causes r o stored w → (x : AttemptId) → is_at_snapshot r x ≡ true
    → ((l : Letter) (op group : ℕ) (e : Option Epoch) (by : AttemptId) → Contains w.messages l → l.message ≡ message.Fetched x op group e (reply.Outcome (outcome.Restart (cause.Unresolved by))) → same_attempt by x ≡ false → ⊥)
    × ((l : Letter) (a : AttemptId) → Contains w.messages l → l.message ≡ message.Query a (Some x) → ⊥)

pub snapshot-reads_meet_none : SnapshotReadsMeetNone
snapshot-reads_meet_none r o stored w E C x at = (told, asked)
  where
    never : (e : Epoch) → Contains w.issued (x, e) → ⊥
    never e i = clash (is_at_snapshot r x) at (E.own x e i)

    told : (l : Letter) (op group : ℕ) (e : Option Epoch) (by : AttemptId) → Contains w.messages l → l.message ≡ message.Fetched x op group e (reply.Outcome (outcome.Restart (cause.Unresolved by))) → same_attempt by x ≡ false → ⊥
    told l op group e by i says apart = let k : MeetsUnresolved false r w.issued w.lines x by = subst (λ b. MeetsUnresolved b r w.issued w.lines x by) apart (subst (MessageStands r o stored w.issued w.lines) says (C.flight l i)) in never k.0.own k.0.its

    asked : (l : Letter) (a : AttemptId) → Contains w.messages l → l.message ≡ message.Query a (Some x) → ⊥
    asked l a i says = let k = C.waiting.asked l x i (subst (λ m. IsAskedFor m x) (sym says) refl) in never k.0 k.1
