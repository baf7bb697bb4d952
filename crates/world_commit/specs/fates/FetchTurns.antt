-- A Fetch keeps the facts of attempts, in each of its steps.
use Rattle.std.specs.Prelude.{ℕ, ◌≡◌, Bool, true, false, List, [], ◌∷◌, ◌++◌, find, slice_get, Option, Some, refl, if◌then◌else◌}
use Rattle.std.proofs.Common.{sym, ◌∙◌, ap, subst, inl, inr}
use Rattle.std.proofs.Math.ListN.{set}
use Rattle.base_types.specs.declared.entry.Entry.{Entry}
use Rattle.base_types.specs.declared.entry.Settle.TheVariants.{Commit}
use Rattle.base_types.specs.declared.epoch.Epoch.{Epoch}
use Rattle.base_types.specs.declared.id.AttemptId.{AttemptId}
use Rattle.model_laws.specs.Members.{Has, has-from_contains}
use Rattle.base_messages.specs.declared.actor.ActorId.{ActorId}
use Rattle.base_messages.specs.declared.message.Message.{Message}
use Rattle.base_messages.specs.declared.message.Message.TheVariants as message
use Rattle.base_messages.specs.declared.message.Post.{Post}
use Rattle.daos_model.specs.declared.durable.Durable.{Durable}
use Rattle.daos_model.specs.Changes.{leased, settled}
use Rattle.daos_model.specs.Durables.{entry_key, entry_of, is_entry_of}
use Rattle.daos_model.specs.Ordered.{is_rising}
use Rattle.dtx_base.specs.declared.leading.LeaderMemory.{LeaderMemory}
use Rattle.dtx_base.specs.Leading.{undecided_attempt}
use Rattle.dtx_base.specs.Rows.{is_among, itself, row_key, row_of, without_row}
use Rattle.world_commit.specs.attempts.Attempts.{IsItsEntry, IsOrdered, entry_in}
use Rattle.world_commit.specs.attempts.Turning.{fetch_memory, at_work}
use Rattle.world_commit.specs.attempts.History.{History}
use Rattle.world_commit.specs.attempts.Stored.{among-has, inc-leased, other-entry}
use Rattle.world_commit.specs.fates.Facts.{IsSaidSo, Ongoing}
use Rattle.world_commit.specs.fates.Small.{own-settles, small-quiet}
use Rattle.world_commit.specs.fates.Working.{AreMild, ArePlain, PostsSo, Step, is_mild, is_plain, work-mid, work-sends}
use Rattle.world_base.specs.declared.did.Did.{Did}
use Rattle.world_base.specs.declared.request.FetchRequest.{FetchRequest}
use Rattle.world_base.specs.declared.target.Life.TheVariants.{Running}
use Rattle.world_base.specs.declared.target.TargetMemory.{TargetMemory}
use Rattle.world_base.specs.declared.target.TargetState.{TargetState}
use Rattle.world_base.specs.declared.world.World.{World}
use Rattle.world_base.specs.Events.{Rules, target_after, target_plan}
use Rattle.world_base.specs.Letters.{target}
use Rattle.world_base.specs.StepLaws.{set-here}
use Rattle.world_base.specs.ChangeLaws.{incarnation-settled}
use Rattle.world_base.specs.Changes.{Change, Kept, Steps}
use Rattle.world_base.specs.Reads.{AtSnapshot, ExtendsLease, FetchEnds, FetchNext, FetchStage, HasEpoch, IsCovered, IsParked, IsRefused, IsServed, IsSpent, MeetsUnresolved, SettlesOwn, asks_leader, memory_parked, memory_then, ticks_known}
use Rattle.world_base.specs.Requests.{with_ticks}
use Rattle.world_base.specs.Roles.{with_unsettled}

-- a Fetch leaves what the target knows as a leader
keeps-leader : (q : FetchRequest) (e : Epoch) (m : TargetMemory) → (ticks_known q e m).leader ≡ m.leader
keeps-leader q e m = by q.snapshot
  where
    by : (b : Bool) → (if b then m else with_ticks e m).leader ≡ m.leader
    by true = refl
    by false = refl

abbrev knowing : List AttemptId → LeaderMemory → LeaderMemory
knowing decided l = record l { decided = decided }

then-leader : (q : FetchRequest) (e : Epoch) (decided : List AttemptId) (m : TargetMemory) → (memory_then q e decided m).leader ≡ (with_unsettled decided m).leader
then-leader q e decided m = ap (knowing decided) (keeps-leader q e m)

-- ---- steps that change no entry and no row

module _ (r : Rules) (h : History) (w : World) (t : ℕ) (s : TargetState) (here : slice_get w.targets t ≡ Some s) (runs : s.life ≡ Running) where
  pub work-keeps : (z1 z2 : TargetState) (posts : List Post) → Step z1 z2 → z2.durable.entries ≡ z1.durable.entries → z2.memory.leader.undecided ≡ z1.memory.leader.undecided
      → z2.memory.leader.decided ≡ z1.memory.leader.decided → Ongoing r h (at_work w t z1 posts) → Ongoing r h (at_work w t z2 posts)
  unfolding entry_of
  work-keeps z1 z2 posts step entries undecided decided k =
      small-quiet r h (at_work w t z1 posts) (at_work w t z2 posts) t z1 z2 (work-mid w t s z1 z2 posts here step)
      (λ x. record { entry = ap (find (is_entry_of x)) entries; row = ap (row_of undecided_attempt x) undecided; known = ap (is_among x) decided })
      (record {
        entries = subst (λ es. is_rising entry_key es ≡ true) (sym entries) own.entries;
        decided = subst (λ ids. is_rising (row_key itself) ids ≡ true) (sym decided) own.decided;
      }) k
    where
      own : IsOrdered z1
      own = k.ordered t z1 (set-here w.targets t s z1 here)

  leased-entries : (ticks : ℕ) (d : Durable) → (leased ticks d).entries ≡ d.entries
  unfolding leased
  leased-entries ticks d = refl

  -- the lease is extended
  pub work-leases : (ticks : ℕ) (k l : Kept) (m : TargetMemory) (posts : List Post) → l.durable ≡ leased ticks k.durable → Ongoing r h (at_work w t (target_after s k m) posts) → Ongoing r h (at_work w t (target_after s l m) posts)
  work-leases ticks k l m posts is =
      work-keeps (target_after s k m) (target_after s l m) posts (record { incarnation = ap (λ d. d.incarnation) is ∙ inc-leased ticks k.durable; runs = runs; life = refl; down = refl }) (ap (λ d. d.entries) is ∙ leased-entries ticks k.durable) refl refl

  -- an attempt that it has decided is settled
  pub work-settles : (a : AttemptId) (k l : Kept) (m : TargetMemory) (decided rest : List AttemptId) (posts : List Post) → l.durable ≡ settled a Commit k.durable → rest ≡ without_row itself a decided → Has a decided
      → Ongoing r h (at_work w t (target_after s k (with_unsettled decided m)) posts) → Ongoing r h (at_work w t (target_after s l (with_unsettled rest m)) posts)
  work-settles a k l m decided rest posts is left among p =
      own-settles r h (at_work w t z1 posts) (at_work w t z2 posts) t z1 z2 (work-mid w t s z1 z2 posts here (record { incarnation = ap (λ d. d.incarnation) is ∙ incarnation-settled a Commit k.durable; runs = runs; life = refl; down = refl })) a p is refl left (among-has a decided among)
    where
      z1 : TargetState
      z1 = target_after s k (with_unsettled decided m)

      z2 : TargetState
      z2 = target_after s l (with_unsettled rest m)

  -- ---- the steps of a Fetch

  abbrev pub AtFetch : TargetMemory → List Post → FetchStage → Kept → Type 0
  AtFetch n posts stage k = Ongoing r h (at_work w t (target_after s k (fetch_memory n stage)) posts)

  same-kept : (n : TargetMemory) (posts : List Post) (k l : Kept) → l ≡ k → Ongoing r h (at_work w t (target_after s k n) posts) → Ongoing r h (at_work w t (target_after s l n) posts)
  same-kept n posts k l same p = subst (λ i. Ongoing r h (at_work w t (target_after s i n) posts)) (sym same) p

  pub fetch-step : (n : TargetMemory) (reading : ℕ) (q : FetchRequest) (posts : List Post) (stage : FetchStage) (k : Kept) (o : Option Change) (next : FetchStage) (l : Kept)
      → FetchNext (target_plan r t) n reading q stage k o next → Steps o k l → AtFetch n posts stage k → AtFetch n posts next l
  fetch-step n reading q posts stage k o next l (AtSnapshot k2 e snap ep) steps p = same-kept n posts k2 l steps p
  fetch-step n reading q posts stage k o next l (HasEpoch k2 e snap ep) steps p = same-kept n posts k2 l steps p
  fetch-step n reading q posts stage k o next l (ExtendsLease k2 e lease lt is) steps p = work-leases lease k2 l n posts steps.0 p
  fetch-step n reading q posts stage k o next l (IsCovered k2 e le) steps p = same-kept n posts k2 l steps p
  fetch-step n reading q posts stage k o next l (SettlesOwn k2 e decided a free unsettled among) steps p =
      work-settles a k2 l n decided (without_row itself a decided) posts steps.0 refl (has-from_contains decided a among) p

  -- ---- what it ends with

  -- a Query for an attempt that has an entry here which another target leads
  pub query-right : (z : TargetState) (posts : List Post) (a : AttemptId) (ask : Option AttemptId) (e : Entry) → entry_of z.durable a ≡ Some e → (e.leader ≡ t → ⊥) → Ongoing r h (at_work w t z posts)
      → IsSaidSo r h (at_work w t z posts) (target t) (target e.leader) (message.Query a ask)
  query-right z posts a ask e found apart k = record {
    way = record {
      member = t;
      other = elim its.place [ inl same ↦ absurd (apart (its.leader ∙ sym same)) | inr other ↦ other ];
      sender = refl;
      receiver = ap target its.leader;
    };
    born = (k.each a).entries.born t e at;
  }
    where
      at : entry_in (slice_get (set w.targets t z) t) a ≡ Some e
      at = ap (λ i. entry_in i a) (set-here w.targets t s z here) ∙ found

      its : IsItsEntry r (at_work w t z posts) a t e
      its = (k.each a).entries.one t e at

  -- one message that is plain
  pub one-plain : (to : ActorId) (m : Message) → is_plain m ≡ true → ArePlain (record { to = to; message = m } ∷ [])
  one-plain to m is p (inl same) = ap (λ i. is_plain i.message) same ∙ is
  one-plain to m is p (inr none) = absurd none

  one-mild : (to : ActorId) (m : Message) → is_mild m ≡ true → AreMild (record { to = to; message = m } ∷ [])
  one-mild to m is p (inl same) = ap (λ i. is_mild i.message) same ∙ is
  one-mild to m is p (inr none) = absurd none

  pub one-true : (z : TargetState) (posts : List Post) (to : ActorId) (m : Message) → IsSaidSo r h (at_work w t z posts) (target t) to m → PostsSo r h (at_work w t z posts) t (record { to = to; message = m } ∷ [])
  one-true z posts to m is p (inl same) = subst (λ i. IsSaidSo r h (at_work w t z posts) (target t) i.to i.message) (sym same) is
  one-true z posts to m is p (inr none) = absurd none

  -- one message is sent, and what the target knows as a leader stays
  pub answered : (z1 z2 : TargetState) (posts : List Post) (to : ActorId) (m : Message) → z1.life ≡ Running → z2.life ≡ z1.life → is_mild m ≡ true → IsSaidSo r h (at_work w t z1 posts) (target t) to m → z2.durable ≡ z1.durable → z2.memory.leader ≡ z1.memory.leader
      → Ongoing r h (at_work w t z1 posts) → Ongoing r h (at_work w t z2 (posts ++ record { to = to; message = m } ∷ []))
  answered z1 z2 posts to m working life mild is durable leader k =
      work-keeps z1 z2 (posts ++ record { to = to; message = m } ∷ []) (record { incarnation = ap (λ d. d.incarnation) durable; runs = working; life = life; down = ap (λ l. l.down) leader }) (ap (λ d. d.entries) durable) (ap (λ l. l.undecided) leader) (ap (λ l. l.decided) leader)
      (work-sends r h w t z1 posts (record { to = to; message = m } ∷ []) (one-true z1 posts to m is) (one-mild to m mild) k)

  -- what a turn leaves, where these messages were sent before
  pub record TurnLeft (posts : List Post) (k : Kept) (left : TargetMemory × Did) : Type 0 where
    pub on : Ongoing r h (at_work w t (target_after s k left.0) (posts ++ left.1.posts))
    pub plain : ArePlain left.1.posts

  -- or it answers with one message
  pub record TurnAnswers (to : ActorId) (m : Message) (k : Kept) (left : TargetMemory × Did) : Type 0 where
    pub on : Ongoing r h (at_work w t (target_after s k left.0) left.1.posts)
    pub sent : left.1.posts ≡ record { to = to; message = m } ∷ []

  pub left-is : (posts : List Post) (k : Kept) (m : TargetMemory) (d : Did) (left : TargetMemory × Did) → left ≡ (m, d) → Ongoing r h (at_work w t (target_after s k m) (posts ++ d.posts)) → ArePlain d.posts → TurnLeft posts k left
  left-is posts k m d left is on plain = record {
    on = subst (λ i. Ongoing r h (at_work w t (target_after s k i.0) (posts ++ i.1.posts))) (sym is) on;
    plain = subst (λ i. ArePlain i.1.posts) (sym is) plain;
  }

  pub fetch-ends : (n : TargetMemory) (reading : ℕ) (q : FetchRequest) (from : ActorId) (posts : List Post) (stage : FetchStage) (k : Kept) (left : TargetMemory × Did)
      → FetchEnds (target_plan r t) n reading q from stage k left → AtFetch n posts stage k → TurnLeft posts k left
  fetch-ends n reading q from posts stage k left (IsSpent k2 left2 snap none is) p =
      left-is posts k2 n _ left2 is (answered (target_after s k2 n) (target_after s k2 n) posts from _ runs refl refl tt refl refl p) (one-plain from _ refl)
  fetch-ends n reading q from posts stage k left (IsRefused k2 e decided c left2 why is) p =
      left-is posts k2 (memory_then q e decided n) _ left2 is
      (answered (target_after s k2 (with_unsettled decided n)) (target_after s k2 (memory_then q e decided n)) posts from _ runs refl refl tt refl (then-leader q e decided n) p) (one-plain from _ refl)
  fetch-ends n reading q from posts stage k left (MeetsUnresolved k2 e decided a left2 free unsettled apart none is) p =
      left-is posts k2 (memory_then q e decided n) _ left2 is
      (answered (target_after s k2 (with_unsettled decided n)) (target_after s k2 (memory_then q e decided n)) posts from _ runs refl refl tt refl (then-leader q e decided n) p) (one-plain from _ refl)
  fetch-ends n reading q from posts stage k left (IsParked k2 e decided a leader left2 free unsettled led is) p =
      let o = other-entry (target_plan r t) a k2.durable leader led in
      left-is posts k2 (memory_parked (target_plan r t) q e decided a leader n) (asks_leader q e a leader) left2 is
      (answered (target_after s k2 (with_unsettled decided n)) (target_after s k2 (memory_parked (target_plan r t) q e decided a leader n)) posts (target leader) _ runs refl refl
      (subst (λ u. IsSaidSo r h (at_work w t (target_after s k2 (with_unsettled decided n)) posts) (target t) (target u) (message.Query a (Some q.attempt))) o.2 (query-right (target_after s k2 (with_unsettled decided n)) posts a (Some q.attempt) o.0 o.1 o.3 p))
      refl (then-leader q e decided n) p) (one-plain (target leader) _ refl)
  fetch-ends n reading q from posts stage k left (IsServed k2 e decided b left2 free served is) p =
      left-is posts k2 _ _ left2 is
      (answered (target_after s k2 (with_unsettled decided n)) (target_after s k2 (record (memory_then q e decided n) { stamps = _ })) posts from _ runs refl refl tt refl (then-leader q e decided n) p) (one-plain from _ refl)
