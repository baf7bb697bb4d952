-- What a target answers a read tells of no stop, where nothing that isn't settled there is of the attempt that reads.
use Rattle.std.specs.Prelude.{ℕ, ◌≡◌, ◌&&◌, Bool, true, false, List, [], ◌∷◌, map, filter, Option, Some, None, refl}
use Rattle.std.proofs.Common.{sym, ◌∙◌, ap, subst, inl, inr}
use Rattle.base_types.specs.declared.epoch.Epoch.{Epoch}
use Rattle.base_types.specs.declared.entry.Settle.{Settle}
use Rattle.base_types.specs.declared.entry.Settle.TheVariants.{Abort, Commit, Confirm, Forget}
use Rattle.base_types.specs.declared.entry.Verdict.{Verdict}
use Rattle.base_types.specs.declared.entry.Verdict.TheVariants as verdicts
use Rattle.base_types.specs.declared.id.AttemptId.{AttemptId}
use Rattle.base_types.specs.declared.outcome.Cause.{Cause}
use Rattle.base_types.specs.declared.shown.Shown.{Shown}
use Rattle.base_types.specs.Operations.{read_path}
use Rattle.base_messages.specs.declared.actor.ActorId.{ActorId}
use Rattle.base_messages.specs.declared.message.Message.{Message}
use Rattle.base_messages.specs.declared.message.Message.TheVariants as message
use Rattle.base_messages.specs.declared.message.Post.{Post}
use Rattle.daos_model.specs.declared.durable.Durable.{Durable}
use Rattle.daos_model.specs.declared.durable.Version.{Version}
use Rattle.daos_model.specs.BoolLaws.{and_left, and_right}
use Rattle.daos_model.specs.Changes.{leased, settled}
use Rattle.daos_model.specs.Durables.{same_attempt}
use Rattle.daos_model.specs.Versions.{done_by, is_not_pending}
use Rattle.dtx_base.specs.declared.member.Parked.{Parked}
use Rattle.dtx_base.specs.Joining as member
use Rattle.dtx_base.specs.LeaderLaws.{same-is}
use Rattle.daos_model.specs.EntryLaws.{same_attempt-itself}
use Rattle.model_laws.specs.Members.{Has, has-from_filter, has-from_map}
use Rattle.world_base.specs.vos_stamp.Stamps.{aggregated_cause, later_cause, or_later, write_later}
use Rattle.world_base.specs.declared.did.Did.{Did}
use Rattle.world_base.specs.declared.request.FetchRequest.{FetchRequest}
use Rattle.world_base.specs.declared.target.TargetMemory.{TargetMemory}
use Rattle.world_base.specs.declared.target.TargetPlan.{TargetPlan}
use Rattle.world_base.specs.Changes.{Change, Kept, Steps}
use Rattle.world_base.specs.ChangeLaws.{versions-leased}
use Rattle.world_base.specs.PathLaws.{reached-keeps}
use Rattle.world_base.specs.Reads as read
use Rattle.world_base.specs.Roles.{member_at}
use Rattle.world_base.specs.Turns.{Reached}
use Rattle.world_base.specs.Verdicts as verdict
use Rattle.world_causes.specs.causes.Floors.{IsInTheWay, meets-open}
use Rattle.world_causes.specs.losses.Resets.{NoneReads, unknown-quiet}
use Rattle.world_causes.specs.losses.Silent.{IsNoAttempt, TellNone, both-none, floor-none, none-tell, one-tells, restart-mute, some-cause, told-as}
use Rattle.world_contents.specs.reads.ChangeLaws.{still-open}

-- ---- what isn't settled

-- none of it is of this attempt
abbrev pub NoneOpen : AttemptId → Durable → Type 0
NoneOpen x d = (v : Version) → Has v d.versions → v.done ≡ false → v.by ≡ x → ⊥

leased-open : (ticks : ℕ) (d : Durable) (x : AttemptId) → NoneOpen x d → NoneOpen x (leased ticks d)
leased-open ticks d x none v i = none v (subst (Has v) (versions-leased ticks d) i)

own-done : (a : AttemptId) (v : Version) → (done_by a v).by ≡ v.by
unfolding done_by
own-done a v = refl

settled-open : (a : AttemptId) (s : Settle) (d : Durable) (x : AttemptId) → NoneOpen x d → NoneOpen x (settled a s d)
unfolding settled
settled-open a Commit d x none v i off own =
    let u = has-from_map (done_by a) d.versions v i in
    none u.0 u.1 (still-open a u.0 (ap (λ z. z.done) u.2 ∙ off)).0 (sym (own-done a u.0) ∙ ap (λ z. z.by) u.2 ∙ own)
settled-open a Abort d x none v i off own = none v (has-from_filter (is_not_pending a) d.versions v i).0 off own
settled-open a (Confirm t) d x none v i off own = none v i off own
settled-open a Forget d x none v i off own = none v i off own

-- ---- a read

other-later : (o : Option Shown) (c : Cause) → later_cause o ≡ Some c → IsNoAttempt c
other-later None c is = let no : ⊥ = cc in absurd no
other-later (Some z) c is = some-cause (write_later z) c (λ x. refl) is

refusal-none : (t : TargetPlan) (q : FetchRequest) (e : Epoch) (d : Durable) (c : Cause) → read.fetch_cause t q e d ≡ Some c → IsNoAttempt c
refusal-none t q e d c is = by (read.aggregated_above (read_path q.read) e d) is
  where
    past : (o : Option Cause) → ((f : Cause) → o ≡ Some f → IsNoAttempt f) → or_later o (read.later_unless q.snapshot (read.later_of t q.first e (read_path q.read) d)) ≡ Some c → IsNoAttempt c
    past None all same = other-later (read.later_unless q.snapshot (read.later_of t q.first e (read_path q.read) d)) c same
    past (Some f) all same = some-cause f c (all f refl) same

    by : (o : Option (Epoch × ℕ)) → or_later (aggregated_cause t.me e.0 o) (read.later_unless q.snapshot (read.later_of t q.first e (read_path q.read) d)) ≡ Some c → IsNoAttempt c
    by None same = past None (λ f bad. let no : ⊥ = cc in absurd no) same
    by (Some a) same = past (aggregated_cause t.me e.0 (Some a)) (λ f at. floor-none t.me e.0 _ f at) same

-- the attempt in the way of a read isn't its own
in-way-other : (q : FetchRequest) (e : Epoch) (d : Durable) (a : AttemptId) → NoneOpen q.attempt d → IsInTheWay q.read e d a → (x : AttemptId) → (same_attempt q.attempt x && same_attempt a x) ≡ true → ⊥
in-way-other q e d a none way x both =
    let own : q.attempt ≡ x = same-is q.attempt x (and_left (same_attempt q.attempt x) (same_attempt a x) both) in
    let its : a ≡ x = same-is a x (and_right (same_attempt q.attempt x) (same_attempt a x) both) in
    none way.v way.among way.unsettled (way.its ∙ its ∙ sym own)

false-of : (b : Bool) → (b ≡ true → ⊥) → b ≡ false
false-of true off = absurd (off refl)
false-of false off = refl

pub fetch-none : (t : TargetPlan) (m : TargetMemory) (reading : ℕ) (q : FetchRequest) (from : ActorId) (s : read.FetchStage) (k : Kept) (left : TargetMemory × Did) → NoneOpen q.attempt k.durable → read.FetchEnds t m reading q from s k left
    → TellNone left.1.posts × (left.1.lines ≡ [])
fetch-none t m reading q from s k left open' (read.IsSpent k2 left2 plain none says) = (told-as left2.1.posts _ (ap (λ i. i.1.posts) says) (one-tells _ (λ x. unknown-quiet q.attempt x)), ap (λ i. i.1.lines) says)
fetch-none t m reading q from s k left open' (read.IsRefused k2 e decided c left2 why says) =
    (told-as left2.1.posts _ (ap (λ i. i.1.posts) says) (one-tells _ (restart-mute q.attempt c (refusal-none t q e k2.durable c why))), ap (λ i. i.1.lines) says)
fetch-none t m reading q from s k left open' (read.MeetsUnresolved k2 e decided a left2 free unsettled unknown alone says) =
    (told-as left2.1.posts _ (ap (λ i. i.1.posts) says) (one-tells _ (λ x. false-of (same_attempt q.attempt x && same_attempt a x) (in-way-other q e k2.durable a open' (meets-open q.read e k2.durable a unsettled) x))), ap (λ i. i.1.lines) says)
fetch-none t m reading q from s k left open' (read.IsParked k2 e decided a leader left2 free unsettled other says) = (told-as left2.1.posts _ (ap (λ i. i.1.posts) says) (one-tells _ (λ x. refl)), ap (λ i. i.1.lines) says)
fetch-none t m reading q from s k left open' (read.IsServed k2 e decided b left2 free served says) = (told-as left2.1.posts _ (ap (λ i. i.1.posts) says) (one-tells _ (λ x. refl)), ap (λ i. i.1.lines) says)

fetch-step : (t : TargetPlan) (m : TargetMemory) (reading : ℕ) (q : FetchRequest) (x : AttemptId) (s : read.FetchStage) (k : Kept) (o : Option Change) (u : read.FetchStage) (l : Kept) → read.FetchNext t m reading q s k o u → Steps o k l → NoneOpen x k.durable → NoneOpen x l.durable
fetch-step t m reading q x s k o u l (read.AtSnapshot k2 e snap ep) st none = subst (λ z. NoneOpen x z.durable) (sym st) none
fetch-step t m reading q x s k o u l (read.HasEpoch k2 e plain is) st none = subst (λ z. NoneOpen x z.durable) (sym st) none
fetch-step t m reading q x s k o u l (read.ExtendsLease k2 e lease low is) st none = subst (NoneOpen x) (sym st.0) (leased-open lease k2.durable x none)
fetch-step t m reading q x s k o u l (read.IsCovered k2 e low) st none = subst (λ z. NoneOpen x z.durable) (sym st) none
fetch-step t m reading q x s k o u l (read.SettlesOwn k2 e decided a free unsettled among) st none = subst (NoneOpen x) (sym st.0) (settled-open a Commit k2.durable x none)

pub fetch-open : (t : TargetPlan) (m : TargetMemory) (reading : ℕ) (q : FetchRequest) (x : AttemptId) (old : Kept) (last : read.FetchStage) (new : Kept) → Reached (read.FetchNext t m reading q) read.Asked old last new → NoneOpen x old.durable → NoneOpen x new.durable
fetch-open t m reading q x old last new reached none = reached-keeps (read.FetchNext t m reading q) (λ s k. NoneOpen x k.durable) (fetch-step t m reading q x) read.Asked old last new reached none

-- ---- a Verdict

-- those that asked are told of another attempt
unresolved-none : (a : AttemptId) (m : Message) → ((x : AttemptId) → member.is_asker x m ≡ true → same_attempt a x ≡ true → ⊥) → TellNone (member.unresolved_told a m)
unresolved-none a (message.Fetch y op group ep first tracker r snapshot) off =
    one-tells _ (λ x. false-of (same_attempt y x && same_attempt a x) (λ both. off x (and_left (same_attempt y x) (same_attempt a x) both) (and_right (same_attempt y x) (same_attempt a x) both)))
unresolved-none a m off = none-tell

all-unresolved-none : (a : AttemptId) (ps : List Parked) → NoneReads a ps → TellNone (member.all_unresolved_told a ps)
all-unresolved-none a [] off = none-tell
all-unresolved-none a (p ∷ ps) off = both-none (member.unresolved_told a p.ask) (member.all_unresolved_told a ps) (unresolved-none a p.ask (λ x. off p x (inl refl))) (all-unresolved-none a ps (λ p2 x i. off p2 x (inr i)))

-- the attempt of a Fetch that waits here
abbrev pub Reads : List Parked → AttemptId → Type 0
Reads ps x = (p : Parked) × Has p ps × (member.is_asker x p.ask ≡ true)

module _ (is_due : AttemptId → Durable → Bool) (t : TargetPlan) (m : TargetMemory) (reading : ℕ) (a : AttemptId) (ask : Option AttemptId) (v : Verdict) (others : NoneReads a m.member.parked) where
  -- nothing that isn't settled is of one that reads here
  abbrev AllOthers : Kept → Type 0
  AllOthers k = (x : AttemptId) → Reads m.member.parked x → NoneOpen x k.durable

  abbrev AreReads : List Message → Type 0
  AreReads ms = (q : Message) (x : AttemptId) → Has q ms → member.is_asker x q ≡ true → Reads m.member.parked x

  record Frees (again : List Message) (posts : List Post) (k : Kept) : Type 0 where
    reads : AreReads again
    silent : TellNone posts
    open' : AllOthers k

  abbrev SoFar : verdict.VerdictStage → Kept → Type 0
  SoFar verdict.Heard k = AllOthers k
  SoFar (verdict.Freed again n posts) k = Frees again posts k
  SoFar (verdict.Trying q s again n posts) k = Frees again posts k × Reads m.member.parked q.attempt

  again-reads : (ps : List Parked) → ((p : Parked) → Has p ps → Has p m.member.parked) → AreReads (map member.parked_ask ps)
  again-reads ps among q x i is = let p = has-from_map member.parked_ask ps q i in (p.0, among p.0 p.1, ap (member.is_asker x) p.2 ∙ is)

  freed-reads : (w : Verdict) → AreReads (member.verdict_heard a ask w (member_at t m)).freed.again × TellNone (member.verdict_heard a ask w (member_at t m)).freed.posts
  unfolding member.unresolved
  freed-reads verdicts.Committed = (again-reads (filter (member.is_parked_on a) m.member.parked) (λ p i. (has-from_filter (member.is_parked_on a) m.member.parked p i).0), none-tell)
  freed-reads verdicts.Aborted = (again-reads (filter (member.is_parked_on a) m.member.parked) (λ p i. (has-from_filter (member.is_parked_on a) m.member.parked p i).0), none-tell)
  freed-reads verdicts.Undecided = by ask
    where
      by : (o : Option AttemptId) → AreReads (member.undecided_heard a o (member_at t m)).freed.again × TellNone (member.undecided_heard a o (member_at t m)).freed.posts
      by None = (λ q x i is. absurd i, none-tell)
      by (Some y) = (λ q x i is. absurd i, all-unresolved-none a (filter (member.is_waiting a y) m.member.parked) (λ p x i. others p x (has-from_filter (member.is_waiting a y) m.member.parked p i).0))

  settles : (s : Option Settle) (k l : Kept) → Steps (verdict.settling_change a s) k l → AllOthers k → AllOthers l
  settles None k l st h x i = subst (λ z. NoneOpen x z.durable) (sym st) (h x i)
  settles (Some step) k l st h x i = subst (NoneOpen x) (sym st.0) (settled-open a step k.durable x (h x i))

  verdict-step : (s : verdict.VerdictStage) (k : Kept) (o : Option Change) (u : verdict.VerdictStage) (l : Kept) → verdict.VerdictNext is_due t m reading a ask v s k o u → Steps o k l → SoFar s k → SoFar u l
  verdict-step s k o u l (verdict.SettlesBy k2 o2 says) st h = record {
    reads = (freed-reads v).0;
    silent = (freed-reads v).1;
    open' = settles (verdict.settles_by is_due v a k2.durable) k2 l (subst (λ c. Steps c k2 l) says st) h;
  }
  verdict-step s k o u l (verdict.TriesNext k2 n posts rest x op group ep first tracker r snapshot) st h = (
    record { reads = λ q y i is. h.reads q y (inr i) is; silent = h.silent; open' = λ y i. subst (λ z. NoneOpen y z.durable) (sym st) (h.open' y i) },
    h.reads (message.Fetch x op group ep first tracker r snapshot) x (inl refl) (itself x),
  )
    where
      itself : (x : AttemptId) → same_attempt x x ≡ true
      itself x = same_attempt-itself x
  verdict-step s k o u l (verdict.GoesOn k2 n posts rest q s2 u2 o2 next) st h =
      (record { reads = h.0.reads; silent = h.0.silent; open' = λ y i. fetch-step t n reading q y s2 k2 o2 u2 l next st (h.0.open' y i) }, h.1)
  verdict-step s k o u l (verdict.IsDone k2 n posts rest q s2 left ends) st h = record {
    reads = h.0.reads;
    silent = both-none posts left.1.posts h.0.silent (fetch-none t n reading q (verdict.fetcher q) s2 k2 left (h.0.open' q.attempt h.1) ends).0;
    open' = λ y i. subst (λ z. NoneOpen y z.durable) (sym st) (h.0.open' y i);
  }

  pub verdict-none : (old : Kept) (last : verdict.VerdictStage) (new : Kept) (left : TargetMemory × Did) → Reached (verdict.VerdictNext is_due t m reading a ask v) verdict.Heard old last new → verdict.VerdictEnds last new left
      → ((x : AttemptId) → Reads m.member.parked x → NoneOpen x old.durable) → TellNone left.1.posts × (left.1.lines ≡ [])
  verdict-none old last new left reached ends open' = by last new left ends (reached-keeps (verdict.VerdictNext is_due t m reading a ask v) SoFar verdict-step verdict.Heard old last new reached open')
    where
      by : (last : verdict.VerdictStage) (new : Kept) (left : TargetMemory × Did) → verdict.VerdictEnds last new left → SoFar last new → TellNone left.1.posts × (left.1.lines ≡ [])
      by last new left (verdict.AllTried k2 n posts left2 says) h = (told-as left2.1.posts posts (ap (λ i. i.1.posts) says) h.silent, ap (λ i. i.1.lines) says)
