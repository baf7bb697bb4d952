-- A turn in which a target answers a Fetch leaves what it keeps and serves sound.
use Rattle.std.specs.Prelude.{ℕ, ◌≡◌, ◌<◌, ◌≤◌, ◌/◌, ◌++◌, Bool, true, false, List, [], ◌∷◌, filter, Contains, Option, Some, refl, if◌then◌else◌}
use Rattle.std.proofs.Common.{sym, ◌∙◌, ap, subst, inl, inr, arith}
use Rattle.base_types.specs.declared.answer.Answer.{Answer}
use Rattle.base_types.specs.declared.epoch.Epoch.{Epoch}
use Rattle.base_types.specs.declared.id.AttemptId.{AttemptId}
use Rattle.base_types.specs.declared.outcome.FloorWhy.{FloorWhy}
use Rattle.base_types.specs.declared.shown.Shown.{Shown}
use Rattle.base_types.specs.Operations.{read_path}
use Rattle.model_laws.specs.Decided.{AreDecided}
use Rattle.model_laws.specs.Members.{Has, contains-from_has, has-from_contains, has-from_filter}
use Rattle.base_messages.specs.declared.actor.ActorId.{ActorId}
use Rattle.base_messages.specs.declared.message.Message.TheVariants.{Fetched}
use Rattle.base_messages.specs.declared.message.Post.{Post}
use Rattle.base_messages.specs.declared.message.Reply.TheVariants as reply
use Rattle.daos_model.specs.declared.durable.Durable.{Durable}
use Rattle.daos_model.specs.declared.durable.Version.{Version}
use Rattle.daos_model.specs.BoolLaws.{clash}
use Rattle.daos_model.specs.Opening.{Opening, top}
use Rattle.base_types.specs.declared.entry.Settle.TheVariants.{Commit}
use Rattle.world_commit.specs.attempts.History.{History, Served}
use Rattle.world_commit.specs.world_base.declared.did.Did.{Did}
use Rattle.world_commit.specs.world_base.declared.request.FetchRequest.{FetchRequest}
use Rattle.world_commit.specs.world_base.declared.target.TargetMemory.{TargetMemory}
use Rattle.world_commit.specs.world_base.Events.{Rules, target_plan}
use Rattle.world_contents.specs.reads.Adds.{NoneIs, is_answer, is_end, served_at}
use Rattle.world_contents.specs.reads.ChangeLaws.{WasDecided}
use Rattle.world_contents.specs.reads.Given.{IsFetchRight, IsItsSnapshot}
use Rattle.world_contents.specs.reads.Midway.{Sound}
use Rattle.world_contents.specs.reads.Reads.{IsAnsweredRight}
use Rattle.world_contents.specs.reads.ServedLaws.{IsFree, answers-right, free-read, serves-shows, IsShownBy, SeesMap, sees-own, sees-snapshot, shown-by_floor, shown-by_stamp, stamp_of}
use Rattle.world_contents.specs.reads.StepLaws.{commits-sound, extends-sound}
use Rattle.world_contents.specs.reads.Transactions.{transactions}
use Rattle.world_commit.specs.world_base.ChangeLaws.{lease-settled, snaps-made}
use Rattle.world_commit.specs.world_base.Changes.{Change, Kept, Steps, Extends, Settles}
use Rattle.world_commit.specs.world_base.PathLaws.{reached-keeps}
use Rattle.world_commit.specs.world_base.Reads as read
use Rattle.world_commit.specs.world_base.Requests.{is_other_attempt, issued_for, request_epoch, with_ticks}
use Rattle.world_commit.specs.world_base.Turns.{Whole}
use Rattle.std.specs.List.{list_any}
use Rattle.base_types.specs.declared.id.ContId.{ContId}
use Rattle.base_types.specs.declared.snapshot.Snap.{Snap}
use Rattle.daos_model.specs.Durables.{is_frozen, is_snap_at, row_of}
use Rattle.vos_store.specs.Answers.{floor_of}
use Rattle.world_contents.specs.reads.ShowLaws.{floor-stored}
use Rattle.world_contents.specs.reads.SnapLaws.{frozen-among}
use Rattle.world_commit.specs.world_letters.clients.Snapshots.{is_at_snapshot}

-- these attempts were decided
abbrev pub AreKnown : History → List AttemptId → Type 0
AreKnown h xs = (a : AttemptId) → Contains xs a → WasDecided h a

-- a read that a Fetch's turn serves: at the epoch of the request, which is issued then where the request had none
pub record IsServedTo (r : Rules) (o : Opening) (h : History) (t : ℕ) (m : TargetMemory) (reading : ℕ) (q : FetchRequest) (did : Did) (z : Served) : Type 0 where
  pub epoch : Epoch
  pub answer : Answer
  pub same : z ≡ served_at t q epoch answer
  pub its : request_epoch (target_plan r t) m reading q.tracker q.ep ≡ Some epoch
  pub issued : did.issued ≡ issued_for q.attempt q.ep epoch
  pub right : IsAnsweredRight r o h z

-- an answer that is sent is that of a served read, at the epoch of the request where that has one
pub record IsTold (t : ℕ) (q : FetchRequest) (more : List Served) (p : Post) : Type 0 where
  pub epoch : Epoch
  pub answer : Answer
  pub says : p.message ≡ Fetched q.attempt q.op q.group (Some epoch) (reply.Answer answer)
  pub own : (f : Epoch) → q.ep ≡ Some f → f ≡ epoch
  pub among : Has (served_at t q epoch answer) more

-- what a Fetch's turn leaves, where these reads were served and these snapshots frozen before it
pub record FetchLeaves (r : Rules) (o : Opening) (held : List Version) (h : History) (served : List Served) (snaps : List Snap) (opening : Epoch × FloorWhy) (t : ℕ) (m : TargetMemory) (reading : ℕ) (q : FetchRequest) (new : Kept) (left : TargetMemory × Did) : Type 0 where
  pub more : List Served
  pub each : (z : Served) → Has z more → IsServedTo r o h t m reading q left.1 z
  pub sound : Sound r o held h (more ++ served) opening t new.durable left.0.stamps
  pub same_snaps : new.durable.snaps ≡ snaps
  pub known : AreKnown h left.0.leader.decided
  pub told : (p : Post) → Has p left.1.posts → is_answer p.message ≡ true → IsTold t q more p
  pub endless : NoneIs is_end left.1.posts

-- the epoch of a Fetch: of a read at a snapshot that of one which is frozen among these; of any other it is above the opening
abbrev pub IsFetchAt : Rules → Opening → List Snap → FetchRequest → Bool → Epoch → Type 0
IsFetchAt r o snaps q true e = IsItsSnapshot r o q.attempt (read_path q.read).cont e × (list_any (is_snap_at (read_path q.read).cont e) snaps ≡ true)
IsFetchAt r o snaps q false e = top o < e.0

module _ (r : Rules) (o : Opening) (held : List Version) (h : History) (served : List Served) (snaps : List Snap) (opening : Epoch × FloorWhy) (t : ℕ) (m : TargetMemory) (reading : ℕ) (q : FetchRequest) where
  abbrev pub SoundAt : Durable → List Shown → Type 0
  SoundAt d stamps = Sound r o held h served opening t d stamps × (d.snaps ≡ snaps)

  abbrev pub HasEpochs : Type 0
  HasEpochs = (e : Epoch) → request_epoch (target_plan r t) m reading q.tracker q.ep ≡ Some e → IsFetchAt r o snaps q q.snapshot e

  -- what holds at a stage
  abbrev pub Mid : read.FetchStage → Kept → Type 0
  Mid read.Asked k = SoundAt k.durable m.stamps
  Mid (read.Known e) k = SoundAt k.durable m.stamps × (request_epoch (target_plan r t) m reading q.tracker q.ep ≡ Some e)
  Mid (read.Reading e decided) k = SoundAt k.durable m.stamps × (request_epoch (target_plan r t) m reading q.tracker q.ep ≡ Some e) × (e.0 / 256 ≤ k.durable.lease) × AreKnown h decided

  frozen-then : (d : Durable) (cont : ContId) (e : Epoch) → d.snaps ≡ snaps → list_any (is_snap_at cont e) snaps ≡ true → is_frozen d cont e ≡ true
  unfolding is_frozen
  frozen-then d cont e same is = ap (list_any (is_snap_at cont e)) same ∙ is

  -- the lease covers the epoch of a snapshot
  covers-snapshot : (k : Kept) (e : Epoch) → SoundAt k.durable m.stamps → IsFetchAt r o snaps q true e → e.0 / 256 ≤ k.durable.lease
  covers-snapshot k e p its =
      let z = frozen-among k.durable (read_path q.read).cont e (frozen-then k.durable (read_path q.read).cont e p.1 its.1) in
      subst (λ f. f.0 / 256 ≤ k.durable.lease) z.3 (p.0.stand.snapshots.leased z.0 z.1)

  pub fetch-step : HasEpochs → AreKnown h m.leader.decided → (s : read.FetchStage) (k : Kept) (c : Option Change) (u : read.FetchStage) (l : Kept) → read.FetchNext (target_plan r t) m reading q s k c u → Steps c k l → Mid s k → Mid u l
  fetch-step has known s k c u l (read.AtSnapshot k' e at its) steps p =
      let own : request_epoch (target_plan r t) m reading q.tracker q.ep ≡ Some e = ap (λ ep. request_epoch (target_plan r t) m reading q.tracker ep) its in (
        subst (λ n. SoundAt n.durable m.stamps) (sym steps) p,
        own,
        subst (λ n. e.0 / 256 ≤ n.durable.lease) (sym steps) (covers-snapshot k e p (subst (λ b. IsFetchAt r o snaps q b e) at (has e own))),
        known,
      )
  fetch-step has known s k c u l (read.HasEpoch k' e at its) steps p = (subst (λ n. SoundAt n.durable m.stamps) (sym steps) p, its)
  fetch-step has known s k c u l (read.ExtendsLease k' e lease low is) steps p =
      (subst (λ d. SoundAt d m.stamps) (sym steps.0) (extends-sound r o held h served opening t m.stamps k.durable (e.0 / 256) lease low is p.0.0, snaps-made (Extends lease) k.durable refl ∙ p.0.1), p.1)
  fetch-step has known s k c u l (read.IsCovered k' e le) steps p =
      (subst (λ n. SoundAt n.durable m.stamps) (sym steps) p.0, p.1, subst (λ n. e.0 / 256 ≤ n.durable.lease) (sym steps) le, known)
  fetch-step has known s k c u l (read.SettlesOwn k' e decided a none is among) steps p = (
    subst (λ d. SoundAt d m.stamps) (sym steps.0) (commits-sound r o held h served opening t m.stamps k.durable a (p.3 a among) p.0.0, snaps-made (Settles a Commit) k.durable refl ∙ p.0.1),
    p.1,
    subst (λ n. e.0 / 256 ≤ n) (sym (ap (λ d. d.lease) steps.0 ∙ lease-settled a Commit k.durable)) p.2,
    λ b i. p.3 b (contains-from_has decided b (has-from_filter (is_other_attempt a) decided b (has-from_contains (filter (is_other_attempt a) decided) b i)).0),
  )

  stamps-then : (e : Epoch) (decided : List AttemptId) → (read.memory_then q e decided m).stamps ≡ m.stamps
  stamps-then e decided = by q.snapshot
    where
      by : (b : Bool) → (if b then m else with_ticks e m).stamps ≡ m.stamps
      by true = refl
      by false = refl

  -- nothing is served
  leaves-none : (k : Kept) (n : TargetMemory) (did : Did) (p : Post) → did.posts ≡ p ∷ [] → is_answer p.message ≡ false → is_end p.message ≡ false → AreKnown h n.leader.decided → SoundAt k.durable n.stamps
      → FetchLeaves r o held h served snaps opening t m reading q k (n, did)
  leaves-none k n did p one quiet endless known sound = record {
    more = [];
    each = λ z i. absurd i;
    sound = sound.0;
    same_snaps = sound.1;
    known = known;
    told = λ z i is. clash (is_answer z.message) is (only (λ y. is_answer y.message ≡ false) quiet z i);
    endless = only (λ y. is_end y.message ≡ false) endless;
  }
    where
      only : (P : Post → Type 0) → P p → (z : Post) → Has z did.posts → P z
      only P is z i = elim (subst (Has z) one i) [ inl same ↦ subst P (sym same) is | inr j ↦ absurd j ]

  -- what a read sees
  sees-at : (k : Kept) (e : Epoch) (b : Answer) → q.snapshot ≡ is_at_snapshot r q.attempt → HasEpochs → AreDecided (transactions r.script h) → (d : List AttemptId) → Mid (read.Reading e d) k → IsFree q.read e k.durable b
      → SeesMap r o h t k.durable q.attempt (read_path q.read).cont e
  sees-at k e b at has apart d p free = by q.snapshot refl (has e p.1)
    where
      by : (c : Bool) → q.snapshot ≡ c → IsFetchAt r o snaps q c e → SeesMap r o h t k.durable q.attempt (read_path q.read).cont e
      by true is its = sees-snapshot r o held h t k.durable q.attempt (read_path q.read).cont e its.0 (frozen-then k.durable (read_path q.read).cont e p.0.1 its.1) p.0.0.stand
      by false is above = sees-own r o held h t k.durable q.attempt (read_path q.read).cont e (sym at ∙ is) above free.there apart p.0.0.stand

  -- it is guarded then
  shown-at : (k : Kept) (e : Epoch) (b : Answer) → q.snapshot ≡ is_at_snapshot r q.attempt → HasEpochs → (d : List AttemptId) → Mid (read.Reading e d) k → IsShownBy r opening k.durable m.stamps (read.stamps_with q e m.stamps) (served_at t q e b)
  shown-at k e b at has d p = by q.snapshot refl (has e p.1)
    where
      Then : List Shown → Type 0
      Then later = IsShownBy r opening k.durable m.stamps later (served_at t q e b)

      low : (s : Snap) → Contains k.durable.snaps s → s.cont ≡ (read_path q.read).cont → s.epoch ≡ e → e.0 ≤ (floor_of opening k.durable (read_path q.read).cont).0.0
      low s i at when =
          let one : s.epoch.0 ≤ (row_of k.durable s.cont).floor.0 = p.0.0.stand.snapshots.floored s i in
          let two : e.0 ≤ (row_of k.durable (read_path q.read).cont).floor.0 = subst (λ c. e.0 ≤ (row_of k.durable c).floor.0) at (subst (λ f. f.0 ≤ (row_of k.durable s.cont).floor.0) when one) in
          let three = floor-stored opening k.durable (read_path q.read).cont in
          omega (arith, two, three)

      by : (c : Bool) → q.snapshot ≡ c → IsFetchAt r o snaps q c e → Then (if q.snapshot then m.stamps else m.stamps ++ stamp_of (served_at t q e b) ∷ [])
      by true is its =
          let z = frozen-among k.durable (read_path q.read).cont e (frozen-then k.durable (read_path q.read).cont e p.0.1 its.1) in
          subst (λ c. Then (if c then m.stamps else m.stamps ++ stamp_of (served_at t q e b) ∷ [])) (sym is) (shown-by_floor r opening k.durable m.stamps (served_at t q e b) (low z.0 z.1 z.2 z.3))
      by false is above = subst (λ c. Then (if c then m.stamps else m.stamps ++ stamp_of (served_at t q e b) ∷ [])) (sym is) (shown-by_stamp r opening k.durable m.stamps (served_at t q e b) (sym at ∙ is))

  -- a read is served at its epoch
  leaves-one : IsFetchRight r t q.attempt q.op q.group q.read q.snapshot → HasEpochs → AreDecided (transactions r.script h) → (k : Kept) (e : Epoch) (decided : List AttemptId) (b : Answer) (from : ActorId) (left : TargetMemory × Did)
      → Mid (read.Reading e decided) k → IsFree q.read e k.durable b → left ≡ (record (read.memory_then q e decided m) { stamps = read.stamps_with q e m.stamps }, read.tells q from e (reply.Answer b))
      → FetchLeaves r o held h served snaps opening t m reading q k left
  leaves-one asks has apart k e decided b from left p free is = subst (FetchLeaves r o held h served snaps opening t m reading q k) (sym is) (record {
    more = served_at t q e b ∷ [];
    each = λ z i. each z i;
    sound = record { stand = p.0.0.stand; shows = serves-shows r served opening t k.durable m.stamps (read.stamps_with q e m.stamps) q e b p.2 free (shown-at k e b asks.at has decided p) p.0.0.shows };
    same_snaps = p.0.1;
    known = p.3;
    told = λ z i is. told z i;
    endless = λ z i. ended z i;
  })
    where
      each : (z : Served) → Has z (served_at t q e b ∷ []) → IsServedTo r o h t m reading q (read.tells q from e (reply.Answer b)) z
      each z (inl same) = record {
        epoch = e;
        answer = b;
        same = same;
        its = p.1;
        issued = refl;
        right = subst (IsAnsweredRight r o h) (sym same) (answers-right r o held h t k.durable q e b asks (sees-at k e b asks.at has apart decided p free) free p.0.0.stand);
      }
      each z (inr i) = absurd i

      own : (f : Epoch) → q.ep ≡ Some f → f ≡ e
      own f has = let same : Some f ≡ Some e = sym (ap (λ ep. request_epoch (target_plan r t) m reading q.tracker ep) has) ∙ p.1 in cc

      told : (z : Post) → Has z (record { to = from; message = read.fetched_message q (Some e) (reply.Answer b) } ∷ []) → IsTold t q (served_at t q e b ∷ []) z
      told z (inl same) = record { epoch = e; answer = b; says = ap (λ y. y.message) same; own = own; among = inl refl }
      told z (inr i) = absurd i

      ended : (z : Post) → Has z (record { to = from; message = read.fetched_message q (Some e) (reply.Answer b) } ∷ []) → is_end z.message ≡ false
      ended z (inl same) = ap (λ y. is_end y.message) same
      ended z (inr i) = absurd i

  fetch-ends : IsFetchRight r t q.attempt q.op q.group q.read q.snapshot → AreDecided (transactions r.script h) → HasEpochs
      → AreKnown h m.leader.decided → (from : ActorId) (s : read.FetchStage) (k : Kept) (left : TargetMemory × Did) → read.FetchEnds (target_plan r t) m reading q from s k left → Mid s k → FetchLeaves r o held h served snaps opening t m reading q k left
  fetch-ends asks apart has known from s k left (read.IsSpent k' left' at none is) p =
      subst (FetchLeaves r o held h served snaps opening t m reading q k) (sym is) (leaves-none k _ _ _ refl refl refl known p)
  fetch-ends asks apart has known from s k left (read.IsRefused k' e decided c left' why is) p =
      subst (FetchLeaves r o held h served snaps opening t m reading q k) (sym is) (leaves-none k _ _ _ refl refl refl p.3 (subst (SoundAt k.durable) (sym (stamps-then e decided)) p.0))
  fetch-ends asks apart has known from s k left (read.MeetsUnresolved k' e decided a left' none at other own is) p =
      subst (FetchLeaves r o held h served snaps opening t m reading q k) (sym is) (leaves-none k _ _ _ refl refl refl p.3 (subst (SoundAt k.durable) (sym (stamps-then e decided)) p.0))
  fetch-ends asks apart has known from s k left (read.IsParked k' e decided a leader left' none at other is) p =
      subst (FetchLeaves r o held h served snaps opening t m reading q k) (sym is) (leaves-none k _ _ _ refl refl refl p.3 (subst (SoundAt k.durable) (sym (stamps-then e decided)) p.0))
  fetch-ends asks apart has known from s k left (read.IsServed k' e decided b left' none is-read is) p =
      leaves-one asks has apart k e decided b from left p (free-read q.read e k.durable b is-read) is

  -- the whole turn
  pub fetch-leaves : IsFetchRight r t q.attempt q.op q.group q.read q.snapshot → AreDecided (transactions r.script h) → HasEpochs
      → AreKnown h m.leader.decided → (from : ActorId) (old new : Kept) (left : TargetMemory × Did) → old.durable.snaps ≡ snaps
      → Whole (read.FetchNext (target_plan r t) m reading q) (read.FetchEnds (target_plan r t) m reading q from) read.Asked old new left → Sound r o held h served opening t old.durable m.stamps
      → FetchLeaves r o held h served snaps opening t m reading q new left
  fetch-leaves asks apart has known from old new left same turn k =
      fetch-ends asks apart has known from turn.last new left turn.ends
      (reached-keeps (read.FetchNext (target_plan r t) m reading q) Mid (fetch-step has known) read.Asked old turn.last new turn.reached (k, same))
