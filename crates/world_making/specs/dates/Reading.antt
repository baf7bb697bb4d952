-- What a target says of epochs that hears a Fetch or a Verdict: each Fetch is answered at its epoch, or waits at it.
use Rattle.std.specs.Prelude.{ℕ, ◌≡◌, ◌++◌, Bool, true, false, List, [], ◌∷◌, filter, map, Option, Some, None, refl}
use Rattle.std.proofs.Common.{sym, ◌∙◌, ap, subst, inl, inr}
use Rattle.base_types.specs.declared.entry.Verdict.{Verdict}
use Rattle.base_types.specs.declared.entry.Verdict.TheVariants as how
use Rattle.base_types.specs.declared.epoch.Epoch.{Epoch}
use Rattle.base_types.specs.declared.id.AttemptId.{AttemptId}
use Rattle.base_types.specs.declared.operation.Read.{Read}
use Rattle.base_messages.specs.declared.actor.ActorId.{ActorId}
use Rattle.base_messages.specs.declared.message.Message.{Message}
use Rattle.base_messages.specs.declared.message.Message.TheVariants as message
use Rattle.base_messages.specs.declared.message.Post.{Post}
use Rattle.daos_model.specs.declared.durable.Durable.{Durable}
use Rattle.dtx_base.specs.declared.member.Parked.{Parked}
use Rattle.dtx_base.specs.Joining.{all_unresolved_told, is_not_waiting, is_parked_elsewhere, is_parked_on, is_waiting, parked_ask, unresolved, unresolved_told, verdict_heard}
use Rattle.model_laws.specs.Members.{Has, has-cases, has-from_filter, has-from_map}
use Rattle.world_base.specs.declared.did.Did.{Did}
use Rattle.world_base.specs.declared.request.FetchRequest.{FetchRequest}
use Rattle.world_base.specs.declared.target.TargetMemory.{TargetMemory}
use Rattle.world_base.specs.declared.target.TargetPlan.{TargetPlan}
use Rattle.world_base.specs.declared.world.World.{World}
use Rattle.world_base.specs.Changes.{Change, Kept, Steps}
use Rattle.world_base.specs.Events.{Rules}
use Rattle.world_base.specs.MemoryLaws.{member-then}
use Rattle.world_base.specs.CutTurns.{CutTurn, Cutting, issued_by_fetch, listed_issue}
use Rattle.world_base.specs.PathLaws.{path-keeps, reached-keeps}
use Rattle.world_base.specs.Reads as read
use Rattle.world_base.specs.Requests.{fetch_message, issued_for, request_epoch}
use Rattle.world_base.specs.Roles.{joins_on, member_at}
use Rattle.world_base.specs.Turns.{Whole}
use Rattle.world_base.specs.VerdictLaws.{Tries, verdict-keeps}
use Rattle.world_base.specs.Verdicts as verdict
use Rattle.world_letters.specs.clients.Snapshots.{is_at_snapshot}
use Rattle.world_letters.specs.epochs.Epochs.{IsEpochOf, is_making}
use Rattle.world_letters.specs.epochs.Sayings.{Spent}
use Rattle.world_making.specs.dates.Telling.{AllTellDated, AllWaitDated, LeavesDated, TellsDated, WaitsDated, both-tell, none-tell, one-tells, same-leaves}

-- ---- the epoch of a Fetch

-- known from the first step on
abbrev pub IsFoundAt : TargetPlan → TargetMemory → ℕ → FetchRequest → read.FetchStage → Type 0
IsFoundAt t m reading q read.Asked = Unit {0}
IsFoundAt t m reading q (read.Known e) = request_epoch t m reading q.tracker q.ep ≡ Some e
IsFoundAt t m reading q (read.Reading e decided) = request_epoch t m reading q.tracker q.ep ≡ Some e

found-step : (t : TargetPlan) (m : TargetMemory) (reading : ℕ) (q : FetchRequest) (s : read.FetchStage) (k : Kept) (o : Option Change) (n : read.FetchStage) (l : Kept) → read.FetchNext t m reading q s k o n → Steps o k l → IsFoundAt t m reading q s → IsFoundAt t m reading q n
found-step t m reading q s k o n l (read.AtSnapshot j e at own) steps h = ap (request_epoch t m reading q.tracker) own
found-step t m reading q s k o n l (read.HasEpoch j e at found) steps h = found
found-step t m reading q s k o n l (read.ExtendsLease j e lease low is) steps h = h
found-step t m reading q s k o n l (read.IsCovered j e low) steps h = h
found-step t m reading q s k o n l (read.SettlesOwn j e decided a none unsettled among) steps h = h

-- of one at a snapshot, it is its own
abbrev OwnAt : FetchRequest → read.FetchStage → Type 0
OwnAt q read.Asked = Unit {0}
OwnAt q (read.Known e) = ⊥
OwnAt q (read.Reading e decided) = q.ep ≡ Some e

own-step : (t : TargetPlan) (m : TargetMemory) (reading : ℕ) (q : FetchRequest) → q.snapshot ≡ true → (s : read.FetchStage) (k : Kept) (o : Option Change) (n : read.FetchStage) (l : Kept) → read.FetchNext t m reading q s k o n → Steps o k l → OwnAt q s → OwnAt q n
own-step t m reading q on s k o n l (read.AtSnapshot j e at own) steps h = own
own-step t m reading q on s k o n l (read.HasEpoch j e at found) steps h = let no : ⊥ = cc (on, at) in absurd no
own-step t m reading q on s k o n l (read.ExtendsLease j e lease low is) steps h = absurd h
own-step t m reading q on s k o n l (read.IsCovered j e low) steps h = absurd h
own-step t m reading q on s k o n l (read.SettlesOwn j e decided a none unsettled among) steps h = h

own-issues : (t : TargetPlan) (m : TargetMemory) (reading : ℕ) (q : FetchRequest) (from : ActorId) → q.snapshot ≡ true → (s : read.FetchStage) (k : Kept) (left : TargetMemory × Did) → read.FetchEnds t m reading q from s k left → OwnAt q s → left.1.issued ≡ None
own-issues t m reading q from on s k left (read.IsSpent j i at none is) h = let no : ⊥ = cc (on, at) in absurd no
own-issues t m reading q from on s k left (read.IsRefused j e decided c i why is) h = ap (λ z. z.1.issued) is ∙ ap (λ o. issued_for q.attempt o e) h
own-issues t m reading q from on s k left (read.MeetsUnresolved j e decided a i none unsettled among other is) h = ap (λ z. z.1.issued) is ∙ ap (λ o. issued_for q.attempt o e) h
own-issues t m reading q from on s k left (read.IsParked j e decided a leader i none unsettled other is) h = ap (λ z. z.1.issued) is ∙ ap (λ o. issued_for q.attempt o e) h
own-issues t m reading q from on s k left (read.IsServed j e decided b i none ok is) h = ap (λ z. z.1.issued) is ∙ ap (λ o. issued_for q.attempt o e) h

-- a read at a snapshot issues none
pub snapshot-issues-none : (t : TargetPlan) (m : TargetMemory) (reading : ℕ) (q : FetchRequest) (from : ActorId) (old new : Kept) (left : TargetMemory × Did) → q.snapshot ≡ true → Whole (read.FetchNext t m reading q) (read.FetchEnds t m reading q from) read.Asked old new left
    → left.1.issued ≡ None
snapshot-issues-none t m reading q from old new left on w =
    own-issues t m reading q from on w.last new left w.ends (reached-keeps (read.FetchNext t m reading q) (λ s k. OwnAt q s) (own-step t m reading q on) read.Asked old w.last new w.reached tt)

-- nor does it where its turn is cut
pub snapshot-cut-issues-none : (t : TargetPlan) (m : TargetMemory) (reading : ℕ) (q : FetchRequest) (n : ℕ) (old : Kept) (cut : Cutting) → q.snapshot ≡ true → CutTurn (read.FetchNext t m reading q) (issued_by_fetch q) n read.Asked old cut → cut.issued ≡ []
snapshot-cut-issues-none t m reading q n old cut on g = by g.last g.issued (path-keeps (read.FetchNext t m reading q) (λ s k. OwnAt q s) (own-step t m reading q on) read.Asked old g.did g.last g.mid g.path tt)
  where
    by : (s : read.FetchStage) → cut.issued ≡ issued_by_fetch q s → OwnAt q s → cut.issued ≡ []
    by read.Asked is h = is
    by (read.Known e) is h = is
    by (read.Reading e decided) is h = is ∙ ap (λ o. listed_issue (issued_for q.attempt o e)) h

module _ (r : Rules) (u : World) (L : Spent) where
  -- ---- a Fetch

  -- what is known of one
  pub record IsDatedFetch (t : TargetPlan) (m : TargetMemory) (reading : ℕ) (q : FetchRequest) (from : ActorId) : Type 0 where
    pub epoch : (e : Epoch) → request_epoch t m reading q.tracker q.ep ≡ Some e → IsEpochOf r u q.attempt e
    pub spent : request_epoch t m reading q.tracker q.ep ≡ None → L q.attempt from
    pub at : q.snapshot ≡ is_at_snapshot r q.attempt
    pub other : is_making r q.attempt ≡ false
    pub parked : AllWaitDated r u L m.member.parked

  module _ (t : TargetPlan) (m : TargetMemory) (reading : ℕ) (q : FetchRequest) (from : ActorId) (K : IsDatedFetch t m reading q from) where
    told : (e : Epoch) (decided : List AttemptId) (left : TargetMemory × Did) (p : Post) → left.0.member ≡ (read.memory_then q e decided m).member → left.1.posts ≡ p ∷ [] → TellsDated r u L p.message p.to → LeavesDated r u L left
    told e decided left p member posts k = same-leaves r u L m left (p ∷ []) (ap (λ z. z.parked) (member ∙ member-then q e decided m)) posts K.parked (one-tells r u L p k)

    fetch-ends : (s : read.FetchStage) (k : Kept) (left : TargetMemory × Did) → read.FetchEnds t m reading q from s k left → IsFoundAt t m reading q s → LeavesDated r u L left
    fetch-ends s k left (read.IsSpent j i at none is) f = same-leaves r u L m left _ (ap (λ z. z.0.member.parked) is) (ap (λ z. z.1.posts) is) K.parked (one-tells r u L _ (K.spent none, K.other))
    fetch-ends s k left (read.IsRefused j e decided c i why is) f = told e decided left _ (ap (λ z. z.0.member) is) (ap (λ z. z.1.posts) is) (K.epoch e f, K.other)
    fetch-ends s k left (read.MeetsUnresolved j e decided a i none unsettled among other is) f = told e decided left _ (ap (λ z. z.0.member) is) (ap (λ z. z.1.posts) is) (K.epoch e f, K.other)
    fetch-ends s k left (read.IsServed j e decided b i none ok is) f = told e decided left _ (ap (λ z. z.0.member) is) (ap (λ z. z.1.posts) is) (K.epoch e f, K.other)
    fetch-ends s k left (read.IsParked j e decided a leader i none unsettled other is) f = record {
      posts = subst (λ z. AllTellDated r u L z.1.posts) (sym is) (one-tells r u L _ tt);
      parked = subst (λ z. AllWaitDated r u L z.0.member.parked) (sym is) more;
    }
      where
        new : Parked
        new = record { on = a; leader = leader; ask = read.fetch_at q e }

        waits : WaitsDated r u (read.fetch_at q e)
        waits = (record { x = q.attempt; e = e; bears = (refl, refl); known = K.epoch e f }, (K.at, K.other))

        more : AllWaitDated r u L (m.member.parked ++ new ∷ [])
        more p i = elim (has-cases m.member.parked (new ∷ []) p i) [
          | inl j ↦ K.parked p j
          | inr j ↦ elim j [ inl same ↦ subst (λ z. WaitsDated r u z.ask) (sym same) waits | inr none ↦ absurd none ]
        ]

    pub fetch-leaves : (old new : Kept) (left : TargetMemory × Did) → Whole (read.FetchNext t m reading q) (read.FetchEnds t m reading q from) read.Asked old new left → LeavesDated r u L left
    fetch-leaves old new left w = fetch-ends w.last new left w.ends (reached-keeps (read.FetchNext t m reading q) (λ s k. IsFoundAt t m reading q s) (found-step t m reading q) read.Asked old w.last new w.reached tt)

  -- ---- a Fetch that waited

  -- its epoch, and what else is known of it
  pub record WaitedDated (x : AttemptId) (ep : Option Epoch) (snapshot : Bool) : Type 0 where
    pub own : Epoch
    pub has : ep ≡ Some own
    pub known : IsEpochOf r u x own
    pub at : snapshot ≡ is_at_snapshot r x
    pub other : is_making r x ≡ false

  pub waited : (x : AttemptId) (op group : ℕ) (ep first : Option Epoch) (tracker : Epoch) (q : Read) (snapshot : Bool) → WaitsDated r u (message.Fetch x op group ep first tracker q snapshot) → WaitedDated x ep snapshot
  waited x op group None first tracker q snapshot h = absurd h.0.bears
  waited x op group (Some own) first tracker q snapshot h =
      record { own = own; has = refl; known = subst (λ y. IsEpochOf r u y own) (sym h.0.bears.0) (subst (IsEpochOf r u h.0.x) (sym h.0.bears.1) h.0.known); at = h.1.0; other = h.1.1 }

  waited-known : (t : TargetPlan) (n : TargetMemory) (reading : ℕ) (q : FetchRequest) (from : ActorId) → WaitedDated q.attempt q.ep q.snapshot → AllWaitDated r u L n.member.parked → IsDatedFetch t n reading q from
  waited-known t n reading q from h parked = record {
    epoch = λ e found. subst (IsEpochOf r u q.attempt) (same e (subst (λ ep. request_epoch t n reading q.tracker ep ≡ Some e) h.has found)) h.known;
    spent = λ none. absurd (never (subst (λ ep. request_epoch t n reading q.tracker ep ≡ None) h.has none));
    at = h.at;
    other = h.other;
    parked = parked;
  }
    where
      same : (e : Epoch) → Some h.own ≡ Some e → h.own ≡ e
      same e is = cc

      never : Some h.own ≡ None → ⊥
      never is = cc

  -- ---- a Verdict

  unresolved-tells : (a : AttemptId) (m : Message) → WaitsDated r u m → AllTellDated r u L (unresolved_told a m)
  unresolved-tells a (message.Fetch x op group ep first tracker q snapshot) h =
      let w = waited x op group ep first tracker q snapshot h in
      subst (λ o. AllTellDated r u L (unresolved_told a (message.Fetch x op group o first tracker q snapshot))) (sym w.has) (one-tells r u L _ (w.known, w.other))
  unresolved-tells a m h = none-tell r u L

  pub all-unresolved-tell : (a : AttemptId) (ps : List Parked) → AllWaitDated r u L ps → AllTellDated r u L (all_unresolved_told a ps)
  all-unresolved-tell a [] h = none-tell r u L
  all-unresolved-tell a (p ∷ ps) h = both-tell r u L (unresolved_told a p.ask) (all_unresolved_told a ps) (unresolved-tells a p.ask (h p (inl refl))) (all-unresolved-tell a ps (λ q i. h q (inr i)))

  pub filtered-wait : (f : Parked → Bool) (ps : List Parked) → AllWaitDated r u L ps → AllWaitDated r u L (filter f ps)
  filtered-wait f ps h p i = h p (has-from_filter f ps p i).0

  -- what is left to be tried, what waits, and what is said so far
  record FreesDated (asks : List Message) (n : TargetMemory) (posts : List Post) : Type 0 where
    waiting : (m : Message) → Has m asks → WaitsDated r u m
    parked : AllWaitDated r u L n.member.parked
    says : AllTellDated r u L posts

  again-wait : (f : Parked → Bool) (ps : List Parked) → AllWaitDated r u L ps → (m : Message) → Has m (map parked_ask (filter f ps)) → WaitsDated r u m
  again-wait f ps h m i = let z = has-from_map parked_ask (filter f ps) m i in subst (WaitsDated r u) z.2 (filtered-wait f ps h z.0 z.1)

  verdict-frees : (t : TargetPlan) (m : TargetMemory) (a : AttemptId) (ask : Option AttemptId) (v : Verdict) → AllWaitDated r u L m.member.parked
      → FreesDated (verdict_heard a ask v (member_at t m)).freed.again (joins_on (verdict_heard a ask v (member_at t m)).member m) (verdict_heard a ask v (member_at t m)).freed.posts
  unfolding unresolved
  verdict-frees t m a ask how.Committed h = record { waiting = again-wait (is_parked_on a) m.member.parked h; parked = filtered-wait (is_parked_elsewhere a) m.member.parked h; says = none-tell r u L }
  verdict-frees t m a ask how.Aborted h = record { waiting = again-wait (is_parked_on a) m.member.parked h; parked = filtered-wait (is_parked_elsewhere a) m.member.parked h; says = none-tell r u L }
  verdict-frees t m a (Some x) how.Undecided h = record {
    waiting = λ z i. absurd i;
    parked = filtered-wait (is_not_waiting a x) m.member.parked h;
    says = all-unresolved-tell a (filter (is_waiting a x) m.member.parked) (filtered-wait (is_waiting a x) m.member.parked h);
  }
  verdict-frees t m a None how.Undecided h = record { waiting = λ z i. absurd i; parked = h; says = none-tell r u L }

  pub verdict-leaves : (is_due : AttemptId → Durable → Bool) (t : TargetPlan) (m : TargetMemory) (reading : ℕ) (a : AttemptId) (ask : Option AttemptId) (v : Verdict) (old new : Kept) (left : TargetMemory × Did) → AllWaitDated r u L m.member.parked
      → Whole (verdict.VerdictNext is_due t m reading a ask v) verdict.VerdictEnds verdict.Heard old new left → LeavesDated r u L left
  verdict-leaves is_due t m reading a ask v old new left h w =
      let k = (verdict-keeps is_due t m reading a ask v old (λ asks n posts j. FreesDated asks n posts) (λ j steps. verdict-frees t m a ask v h) goes new left w).0 in
      record { posts = k.says; parked = k.parked }
    where
      goes : (q : FetchRequest) (rest : List Message) (n : TargetMemory) (posts : List Post) (k l : Kept) (z : TargetMemory × Did) → FreesDated (fetch_message q ∷ rest) n posts → Tries t reading n q k l z → FreesDated rest z.0 (posts ++ z.1.posts)
      goes q rest n posts k l z f tries =
          let w = waited q.attempt q.op q.group q.ep q.first q.tracker q.read q.snapshot (f.waiting (fetch_message q) (inl refl)) in
          let y = fetch-leaves t n reading q (verdict.fetcher q) (waited-known t n reading q (verdict.fetcher q) w f.parked) k l z tries in
          record { waiting = λ m i. f.waiting m (inr i); parked = y.parked; says = both-tell r u L posts z.1.posts f.says y.posts }
