-- What a target says of epochs: that of the attempt that it speaks of, or that none is left. It asks for none.
use Rattle.std.specs.Prelude.{ℕ, ◌≡◌, ◌++◌, ◌==◌, Bool, true, false, List, [], ◌∷◌, map, Option, Some, None, refl, if◌then◌else◌}
use Rattle.std.proofs.Common.{sym, ap, subst, inl, inr}
use Rattle.base_types.specs.declared.entry.Entry.{Entry}
use Rattle.base_types.specs.declared.epoch.Epoch.{Epoch}
use Rattle.base_types.specs.declared.id.AttemptId.{AttemptId}
use Rattle.base_types.specs.declared.operation.MinorWrite.{MinorWrite}
use Rattle.base_types.specs.declared.outcome.FloorWhy.{FloorWhy}
use Rattle.base_types.specs.declared.outcome.Outcome.{Outcome}
use Rattle.base_types.specs.declared.outcome.Outcome.TheVariants as outcome
use Rattle.base_messages.specs.declared.actor.ActorId.{ActorId}
use Rattle.base_messages.specs.declared.message.Message.{Message}
use Rattle.base_messages.specs.declared.message.Message.TheVariants as message
use Rattle.base_messages.specs.declared.message.Post.{Post}
use Rattle.base_messages.specs.declared.message.Reply.TheVariants as reply
use Rattle.daos_model.specs.declared.durable.Durable.{Durable}
use Rattle.daos_model.specs.Attempts.{is_lost}
use Rattle.dtx_base.specs.declared.leading.Naming.{Naming}
use Rattle.dtx_base.specs.declared.leading.Undecided.{Undecided}
use Rattle.dtx_base.specs.declared.member.Parked.{Parked}
use Rattle.dtx_base.specs.Joining.{inquired, inquiry_for, to_inquire}
use Rattle.dtx_base.specs.Leading.{LeaderOf, abort_to, ack_heard, answer_heard, answer_if_awaited, batched, begun, begun_alone, begun_with_others, commit_mark, counted_at, decided, ended, entry_led, is_led, mark_with, marks_for, ok_heard, owed, prepare_to, quietly, to_target, undecided_of, with_undecided}
use Rattle.dtx_base.specs.Members.{all_targets, are_all_counted, is_other_member, other_members, with_target}
use Rattle.dtx_base.specs.Rows.{is_empty}
use Rattle.model_laws.specs.Members.{Has, has-cases, has-from_map}
use Rattle.world_base.specs.declared.did.Did.{Did}
use Rattle.world_base.specs.declared.request.CommitRequest.{CommitRequest}
use Rattle.world_base.specs.declared.request.PrepareRequest.{PrepareRequest}
use Rattle.world_base.specs.declared.target.TargetMemory.{TargetMemory}
use Rattle.world_base.specs.declared.target.TargetPlan.{TargetPlan}
use Rattle.world_base.specs.declared.world.World.{World}
use Rattle.world_base.specs.Acks as ack
use Rattle.world_base.specs.Changes.{Change, Kept, Steps}
use Rattle.world_base.specs.Commits as commit
use Rattle.world_base.specs.Events.{Rules}
use Rattle.world_base.specs.Further as further
use Rattle.world_base.specs.Idle.{AllSettled, IdleEnds, batch_of, inquiry_of}
use Rattle.world_base.specs.Marks as mark
use Rattle.world_base.specs.MemoryLaws as memory
use Rattle.world_base.specs.PathLaws.{path-keeps}
use Rattle.world_base.specs.Prepares as prepare
use Rattle.world_base.specs.Requests.{request_epoch}
use Rattle.world_base.specs.Roles.{leader_at, member_at, with_unsettled}
use Rattle.world_base.specs.Turns.{Whole}
use Rattle.world_base.specs.Verdicts as verdict
use Rattle.world_letters.specs.epochs.CommitTurns.{CommitStands}
use Rattle.world_letters.specs.epochs.Epochs.{AsksEpoch, GoesWith, HasItsEpoch, IsEpochOf, IsIssued, IsOwn, IsReadOf, LacksEpoch, answers_undated, is_making}
use Rattle.world_letters.specs.epochs.Sayings.{AreKnown, Known, Spent, known-led}

-- ---- the statement

-- It answers a read at the attempt's epoch, or where there is none left, without it; it ends an attempt likewise, or as lost; it asks to
-- prepare at the attempt's epoch. It asks for no epoch.
abbrev pub TellsDated : Rules → World → Spent → Message → ActorId → Type 0
TellsDated r u L (message.Fetch x op group ep first tracker q snapshot) to = ⊥
TellsDated r u L (message.Commit x ep first tracker ws) to = ⊥
TellsDated r u L (message.Snap x c name tracker) to = ⊥
TellsDated r u L (message.Prune x c (Some tracker) g) to = ⊥
TellsDated r u L (message.Fetched x op group None (reply.Answer b)) to = ⊥
TellsDated r u L (message.Fetched x op group None (reply.Outcome how)) to = L x to × (is_making r x ≡ false)
TellsDated r u L (message.Fetched x op group (Some e) b) to = IsEpochOf r u x e × (is_making r x ≡ false)
TellsDated r u L (message.Ended x None how) to = is_lost x how ≡ false → L x to
TellsDated r u L (message.Ended x (Some e) how) to = IsEpochOf r u x e
TellsDated r u L (message.Prepare e first ws inc) to = IsEpochOf r u e.attempt e.epoch
TellsDated r u L m to = Unit {0}

-- a Fetch that waits has its attempt's epoch
abbrev pub WaitsDated : Rules → World → Message → Type 0
WaitsDated r u m = HasItsEpoch r u m × IsReadOf r m

module _ (r : Rules) (u : World) (L : Spent) where
  -- ---- what it comes to

  pub told-bears : (m : Message) (to : ActorId) → TellsDated r u L m to → (x : AttemptId) (e : Epoch) → GoesWith m x e → IsEpochOf r u x e
  told-bears (message.Fetch y op group ep first tracker q snapshot) to h x e g = absurd h
  told-bears (message.Commit y ep first tracker ws) to h x e g = absurd h
  told-bears (message.Fetched y op group (Some own) b) to h x e g = subst (λ z. IsEpochOf r u z e) g.0 (subst (IsEpochOf r u y) g.1 h.0)
  told-bears (message.Ended y (Some own) how) to h x e g = subst (λ z. IsEpochOf r u z e) g.0 (subst (IsEpochOf r u y) g.1 h)
  told-bears (message.Prepare k first ws inc) to h x e g = subst (λ z. IsEpochOf r u z e) g.0 (subst (IsEpochOf r u k.attempt) g.1 h)
  told-bears m to h x e g = absurd g

  pub told-lacks : (m : Message) (to : ActorId) → TellsDated r u L m to → (x : AttemptId) → LacksEpoch m x → L x to
  told-lacks (message.Fetched y op group None (reply.Answer b)) to h x g = absurd h
  told-lacks (message.Fetched y op group None (reply.Outcome how)) to h x g = subst (λ z. L z to) g h.0
  told-lacks (message.Ended y None how) to h x g = subst (λ z. L z to) g.0 (h g.1)
  told-lacks m to h x g = absurd g

  pub told-asks : (m : Message) (to : ActorId) → TellsDated r u L m to → (x : AttemptId) (k : Epoch) → AsksEpoch m x k → ⊥
  told-asks (message.Fetch y op group ep first tracker q snapshot) to h x k g = h
  told-asks (message.Commit y ep first tracker ws) to h x k g = h
  told-asks (message.Snap y c name tracker) to h x k g = h
  told-asks (message.Prune y c (Some tracker) g) to h x k a = h
  told-asks m to h x k g = g

  pub told-reads : (m : Message) (to : ActorId) → TellsDated r u L m to → IsReadOf r m
  told-reads (message.Fetch y op group ep first tracker q snapshot) to h = absurd h
  told-reads (message.Fetched y op group None (reply.Answer b)) to h = absurd h
  told-reads (message.Fetched y op group None (reply.Outcome how)) to h = h.1
  told-reads (message.Fetched y op group (Some e) b) to h = h.1
  told-reads m to h = tt

  pub told-dated : (m : Message) (to : ActorId) → TellsDated r u L m to → answers_undated m ≡ false
  told-dated (message.Fetched y op group None (reply.Answer b)) to h = absurd h
  told-dated (message.Fetched y op group None (reply.Outcome how)) to h = refl
  told-dated (message.Fetched y op group (Some e) b) to h = refl
  told-dated m to h = refl

  -- ---- posts

  abbrev pub AllTellDated : List Post → Type 0
  AllTellDated posts = (q : Post) → Has q posts → TellsDated r u L q.message q.to

  abbrev pub AllWaitDated : List Parked → Type 0
  AllWaitDated ps = (p : Parked) → Has p ps → WaitsDated r u p.ask

  -- what is issued there
  abbrev pub IssuedIn : Known
  IssuedIn x e = IsIssued u x e

  pub none-tell : AllTellDated []
  none-tell q i = absurd i

  pub one-tells : (q : Post) → TellsDated r u L q.message q.to → AllTellDated (q ∷ [])
  one-tells q k s (inl same) = subst (λ x. TellsDated r u L x.message x.to) (sym same) k
  one-tells q k s (inr none) = absurd none

  pub both-tell : (ps qs : List Post) → AllTellDated ps → AllTellDated qs → AllTellDated (ps ++ qs)
  both-tell ps qs f g q i = elim (has-cases ps qs q i) [ inl j ↦ f q j | inr j ↦ g q j ]

  pub mapped-tell : {A : Type 0} (f : A → Post) (xs : List A) → ((a : A) → TellsDated r u L (f a).message (f a).to) → AllTellDated (map f xs)
  mapped-tell f xs each q i = let z = has-from_map f xs q i in subst (λ x. TellsDated r u L x.message x.to) z.2 (each z.0)

  -- what a turn leaves: what it says, and the Fetches that wait then
  pub record LeavesDated (left : TargetMemory × Did) : Type 0 where
    pub posts : AllTellDated left.1.posts
    pub parked : AllWaitDated left.0.member.parked

  pub same-leaves : (m : TargetMemory) (left : TargetMemory × Did) (posts : List Post) → left.0.member.parked ≡ m.member.parked → left.1.posts ≡ posts → AllWaitDated m.member.parked → AllTellDated posts → LeavesDated left
  same-leaves m left posts parked is wait tell = record { posts = subst AllTellDated (sym is) tell; parked = subst AllWaitDated (sym parked) wait }

  -- ---- a Commit

  pub ended-tells : (c : Option ActorId) (a : AttemptId) (e : Epoch) (how : Outcome) → IsEpochOf r u a e → AllTellDated (ended c a e how)
  ended-tells None a e how k = none-tell
  ended-tells (Some c) a e how k = one-tells _ k

  begun-tells : (e : Entry) (first : Option Epoch) (client : ActorId) (ws : List MinorWrite) (l : LeaderOf) → IsEpochOf r u e.attempt e.epoch → AllTellDated (begun e first client ws l).posts
  unfolding begun
  begun-tells e first client ws l own = by (is_empty (other_members e))
    where
      by : (b : Bool) → AllTellDated (if b then begun_alone e client l else begun_with_others e first client ws l).posts
      by true = ended-tells (Some client) e.attempt e.epoch outcome.Committed own
      by false = mapped-tell (prepare_to l.targets l.incarnation e first ws) (other_members e) (λ t. own)

  module _ (t : TargetPlan) (m : TargetMemory) (reading : ℕ) (q : CommitRequest) (from : ActorId) (epoch : (e : Epoch) → request_epoch t m reading q.tracker q.ep ≡ Some e → IsEpochOf r u q.attempt e)
      (spent : request_epoch t m reading q.tracker q.ep ≡ None → L q.attempt from) where
    pub commit-tells : (opening : Epoch × FloorWhy) (s : commit.CommitStage) (k : Kept) (left : TargetMemory × Did) → commit.CommitEnds t opening m reading q from s k left → CommitStands t m reading q s k → AllTellDated left.1.posts
    commit-tells opening s k left (commit.IsSpent j i none is) f = subst (λ z. AllTellDated z.1.posts) (sym is) (one-tells _ (λ sure. spent none))
    commit-tells opening s k left (commit.IsRefused j e c i why is) f = subst (λ z. AllTellDated z.1.posts) (sym is) (one-tells _ (epoch e f.found))
    commit-tells opening s k left (commit.HasNoSpace j e i allowed space is) f = subst (λ z. AllTellDated z.1.posts) (sym is) (one-tells _ (epoch e f.found))
    commit-tells opening s k left (commit.HasBegun j e i is) f =
        subst (λ z. AllTellDated z.1.posts) (sym is) (begun-tells (commit.led_entry t q e) q.first from q.writes (leader_at t m k.durable) (epoch e f.found))

    pub down-tells : (s : commit.CommitStage) (k : Kept) (left : TargetMemory × Did) → further.CommitDown t m reading q from s k left → CommitStands t m reading q s k → AllTellDated left.1.posts
    down-tells s k left (further.IsSpent j e down i none known is) f = subst (λ z. AllTellDated z.1.posts) (sym is) (one-tells _ (λ sure. spent none))
    down-tells s k left (further.IsUnknown j e down i known is) f = subst (λ z. AllTellDated z.1.posts) (sym is) (one-tells _ (epoch e f.found))

  -- ---- between targets

  pub prepare-leaves : (t : TargetPlan) (opening : Epoch × FloorWhy) (m : TargetMemory) (q : PrepareRequest) (s : prepare.PrepareStage) (k : Kept) (left : TargetMemory × Did) → AllWaitDated m.member.parked → prepare.PrepareEnds t opening m q s k left → LeavesDated left
  prepare-leaves t opening m q s k left wait (prepare.IsRefused j c i why is) = same-leaves m left _ (ap (λ z. z.0.member.parked) is) (ap (λ z. z.1.posts) is) wait (one-tells _ tt)
  prepare-leaves t opening m q s k left wait (prepare.HasNoSpace j i allowed full is) = same-leaves m left _ (ap (λ z. z.0.member.parked) is) (ap (λ z. z.1.posts) is) wait (one-tells _ tt)
  prepare-leaves t opening m q s k left wait (prepare.IsPrepared j i is) = same-leaves m left _ (ap (λ z. z.0.member.parked) is) (ap (λ z. z.1.posts) is) wait (one-tells _ tt)

  ok-tells : (member : ℕ) (a : AttemptId) (e : Entry) (row : Undecided) (l : LeaderOf) → IsEpochOf r u a e.epoch → AllTellDated (ok_heard member a e row l).posts
  ok-tells member a e row l own = by (are_all_counted e (with_target row.counted member))
    where
      by : (b : Bool) → AllTellDated (if b then record { leader = decided a l; posts = ended row.client a e.epoch outcome.Committed } else quietly (with_undecided (map (counted_at a member) l.memory.undecided) l)).posts
      by true = ended-tells row.client a e.epoch outcome.Committed own
      by false = none-tell

  answer-tells : (member : ℕ) (a : AttemptId) (refusal : Option Outcome) (e : Entry) (row : Undecided) (l : LeaderOf) → IsEpochOf r u a e.epoch → AllTellDated (answer_heard member a refusal e row l).posts
  answer-tells member a None e row l own = ok-tells member a e row l own
  answer-tells member a (Some how) e row l own =
      both-tell (ended row.client a e.epoch how) (map (abort_to l.incarnation a) (other_members e)) (ended-tells row.client a e.epoch how own) (mapped-tell (abort_to l.incarnation a) (other_members e) (λ t. tt))

  awaited-tells : (member : ℕ) (a : AttemptId) (refusal : Option Outcome) (e : Option Entry) (row : Option Undecided) (l : LeaderOf) → ((k : Entry) → e ≡ Some k → IsEpochOf r u a k.epoch) → AllTellDated (answer_if_awaited member a refusal e row l).posts
  awaited-tells member a refusal None row l own = none-tell
  awaited-tells member a refusal (Some e) None l own = none-tell
  awaited-tells member a refusal (Some e) (Some row) l own = by (is_other_member e member)
    where
      by : (b : Bool) → AllTellDated (if b then answer_heard member a refusal e row l else quietly l).posts
      by true = answer-tells member a refusal e row l (own e refl)
      by false = none-tell

  ack-said : (member : ℕ) (a : AttemptId) (inc : ℕ) (refusal : Option Outcome) (l : LeaderOf) → ((k : Entry) → entry_led a l ≡ Some k → IsEpochOf r u a k.epoch) → AllTellDated (ack_heard member a inc refusal l).posts
  unfolding ack_heard
  ack-said member a inc refusal l own = by (inc == l.incarnation)
    where
      by : (b : Bool) → AllTellDated (if b then answer_if_awaited member a refusal (entry_led a l) (undecided_of a l) l else quietly l).posts
      by true = awaited-tells member a refusal (entry_led a l) (undecided_of a l) l own
      by false = none-tell

  -- what is known at a stage of an Ack
  abbrev AckKnows : ack.AckStage → Kept → Type 0
  AckKnows ack.Heard k = AreKnown IssuedIn k.durable.entries
  AckKnows (ack.Followed s) k = AllTellDated s.posts

  ack-next : (t : TargetPlan) (m : TargetMemory) (member : ℕ) (a : AttemptId) (inc : ℕ) (refusal : Option Outcome) (s : ack.AckStage) (k : Kept) (o : Option Change) (n : ack.AckStage) (l : Kept) → ack.AckNext t m member a inc refusal s k o n → Steps o k l
      → AckKnows s k → AckKnows n l
  ack-next t m member a inc refusal s k o n l (ack.Aborts j is) steps h = ack-said member a inc refusal (leader_at t m k.durable) (λ e found. IsOwn (known-led IssuedIn (is_led t.me) a k.durable.entries e h found))
  ack-next t m member a inc refusal s k o n l (ack.Counts j is) steps h = ack-said member a inc refusal (leader_at t m k.durable) (λ e found. IsOwn (known-led IssuedIn (is_led t.me) a k.durable.entries e h found))

  ack-ends : (m : TargetMemory) (s : ack.AckStage) (k : Kept) (left : TargetMemory × Did) → AllWaitDated m.member.parked → ack.AckEnds m s k left → AckKnows s k → LeavesDated left
  ack-ends m s k left wait (ack.IsFollowed j step i is) h = same-leaves m left _ (ap (λ z. z.0.member.parked) is) (ap (λ z. z.1.posts) is) wait h

  pub ack-leaves : (t : TargetPlan) (m : TargetMemory) (member : ℕ) (a : AttemptId) (inc : ℕ) (refusal : Option Outcome) (old new : Kept) (left : TargetMemory × Did) → AreKnown IssuedIn old.durable.entries → AllWaitDated m.member.parked
      → Whole (ack.AckNext t m member a inc refusal) (ack.AckEnds m) ack.Heard old new left → LeavesDated left
  ack-leaves t m member a inc refusal old new left known wait w =
      ack-ends m w.last new left wait w.ends (path-keeps (ack.AckNext t m member a inc refusal) AckKnows (ack-next t m member a inc refusal) ack.Heard old w.reached.did w.last new w.reached.path known)

  pub mark-leaves : (m : TargetMemory) (from : ActorId) (inc : ℕ) (marks rest : List (AttemptId × Bool)) (k : Kept) (left : TargetMemory × Did) → AllWaitDated m.member.parked → mark.MarkEnds m from inc marks rest k left → LeavesDated left
  mark-leaves m from inc marks rest k left wait (mark.AllMarked j i is) = same-leaves m left _ (ap (λ z. z.0.member.parked) is) (ap (λ z. z.1.posts) is) wait (one-tells _ tt)

  pub marked-leaves : (t : TargetPlan) (m : TargetMemory) (member inc : ℕ) (ids rest : List AttemptId) (k : Kept) (left : TargetMemory × Did) → AllWaitDated m.member.parked → ack.MarkedEnds t m member inc ids rest k left → LeavesDated left
  marked-leaves t m member inc ids rest k left wait (ack.AllConfirmed j i is) = same-leaves m left _ (ap (λ z. z.0.member.parked) is) (ap (λ z. z.1.posts) is) wait none-tell

  pub query-leaves : (t : TargetPlan) (m : TargetMemory) (from : ActorId) (a : AttemptId) (ask : Option AttemptId) (s : verdict.QueryStage) (k : Kept) (left : TargetMemory × Did) → AllWaitDated m.member.parked → verdict.QueryEnds t m from a ask s k left → LeavesDated left
  query-leaves t m from a ask s k left wait (verdict.IsTold j i is) = same-leaves m left _ (ap (λ z. z.0.member.parked) is) (ap (λ z. z.1.posts) is) wait (one-tells _ tt)

  -- ---- idle work

  mark-with-tells : (inc t : ℕ) (ids : List AttemptId) → AllTellDated (mark_with inc t ids)
  mark-with-tells inc t ids = by (is_empty ids)
    where
      by : (b : Bool) → AllTellDated (if b then [] else to_target t (message.Mark inc (map commit_mark ids)) ∷ [])
      by true = none-tell
      by false = one-tells (to_target t (message.Mark inc (map commit_mark ids))) tt

  marks-tell : (inc down : ℕ) (named : List Naming) (es : List Entry) (ts : List ℕ) → AllTellDated (marks_for inc down named es ts)
  marks-tell inc down named es [] = none-tell
  marks-tell inc down named es (t ∷ ts) = both-tell (mark_with inc t (owed down named es t)) (marks_for inc down named es ts) (mark-with-tells inc t (owed down named es t)) (marks-tell inc down named es ts)

  batched-tells : (l : LeaderOf) → AllTellDated (batched l).posts
  unfolding batched
  batched-tells l = marks-tell l.incarnation l.memory.down l.memory.named l.entries all_targets

  inquired-tells : (settling : Bool) (t : TargetPlan) (m : TargetMemory) (d : Durable) → AllTellDated (inquiry_of settling t m d).freed.posts
  unfolding inquired
  inquired-tells false t m d = none-tell
  inquired-tells true t m d = mapped-tell inquiry_for (to_inquire d.entries (member_at t m)) (λ e. tt)

  pub idle-leaves : (settling : Bool) (t : TargetPlan) (m : TargetMemory) (rest : List AttemptId) (k : Kept) (left : TargetMemory × Did) → AllWaitDated m.member.parked → IdleEnds settling t m rest k left → LeavesDated left
  idle-leaves settling t m rest k left wait (AllSettled j i is) = record {
    posts = subst (λ z. AllTellDated z.1.posts) (sym is)
        (both-tell (batch_of t m k.durable).posts (inquiry_of settling t m k.durable).freed.posts (batched-tells (leader_at t (with_unsettled [] m) k.durable)) (inquired-tells settling t m k.durable));
    parked = subst AllWaitDated (sym (memory.idle-leaves settling t m rest k left (AllSettled j i is)).parked) wait;
  }
