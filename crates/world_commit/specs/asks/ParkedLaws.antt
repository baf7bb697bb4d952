-- Of each Fetch that waits, the question what became of the attempt that it waits for is in flight, or the answer.
use Rattle.std.specs.Prelude.{ℕ, ◌≡◌, ◌⊎◌, ◌&&◌, Bool, true, not, List, [], ◌∷◌, ◌++◌, filter, slice_get, Option, Some, None, refl}
use Rattle.std.proofs.Common.{sym, ◌∙◌, ap, subst, inl, inr}
use Rattle.base_types.specs.declared.entry.Verdict.{Verdict}
use Rattle.base_types.specs.declared.entry.Verdict.TheVariants as verdict
use Rattle.base_types.specs.declared.epoch.Epoch.{Epoch}
use Rattle.base_types.specs.declared.id.AttemptId.{AttemptId}
use Rattle.base_types.specs.declared.outcome.FloorWhy.{FloorWhy}
use Rattle.model_laws.specs.Members.{Has, has-cases, has-from_filter, has-left, has-right}
use Rattle.base_messages.specs.declared.actor.ActorId.{ActorId}
use Rattle.base_messages.specs.declared.message.Message.{Message}
use Rattle.base_messages.specs.declared.message.Message.TheVariants as message
use Rattle.base_messages.specs.declared.message.Post.{Post}
use Rattle.daos_model.specs.EntryLaws.{same_attempt-itself}
use Rattle.daos_model.specs.Durables.{same_attempt}
use Rattle.dtx_base.specs.declared.member.Parked.{Parked}
use Rattle.dtx_base.specs.Joining.{MemberOf, asker, is_asker, is_not_waiting, is_parked_elsewhere, is_waiting, unresolved, verdict_heard}
use Rattle.dtx_base.specs.Leading.{query_answer, to_target}
use Rattle.world_commit.specs.asks.Asks.{Flies, IsQuery, IsQueryOf, IsVerdict}
use Rattle.world_commit.specs.asks.Moving.{ClientMoves, TargetMoves, now-here, same-there}
use Rattle.world_commit.specs.attempts.Stored.{target-is}
use Rattle.world_commit.specs.attempts.Turning.{one-or_another}
use Rattle.world_base.specs.declared.did.Did.{Did}
use Rattle.world_base.specs.declared.letter.Letter.{Letter}
use Rattle.world_base.specs.declared.request.FetchRequest.{FetchRequest}
use Rattle.world_base.specs.declared.target.TargetMemory.{TargetMemory}
use Rattle.world_base.specs.declared.target.TargetPlan.{TargetPlan}
use Rattle.world_base.specs.declared.target.TargetState.{TargetState}
use Rattle.world_base.specs.declared.world.World.{World}
use Rattle.world_base.specs.Letters.{letter_of, target}
use Rattle.world_base.specs.Changes.{Kept}
use Rattle.world_base.specs.MemoryLaws.{ack-leaves, commit-leaves, idle-leaves, mark-leaves, marked-leaves, member-then, prepare-leaves, query-leaves}
use Rattle.world_base.specs.Reads as read
use Rattle.world_base.specs.RightTurns.{HearsRightly}
use Rattle.world_base.specs.Roles.{is_in_doubt, leader_at, member_at}
use Rattle.world_base.specs.TargetTurns.{IdlesWhole, commit_request, fetch_request, prepare_request}
use Rattle.world_base.specs.Turns.{Whole}
use Rattle.world_base.specs.VerdictLaws.{Tries, verdict-keeps}
use Rattle.world_base.specs.Verdicts as verdicts

-- ---- what turns leave parked

-- a Fetch is parked anew: the leader of what it waits for is asked
pub record IsNewlyParked (posts : List Post) (p : Parked) : Type 0 where
  pub of : AttemptId
  pub fetch : asker p.ask ≡ Some of
  pub leader : ℕ
  pub sent : Has (to_target leader (message.Query p.on (Some of))) posts

-- what waits after a turn waited before, and isn't answered in it, or its question is sent in it
abbrev pub ParksAfter : List Parked → (Parked → Type 0) → TargetMemory → List Post → Type 0
ParksAfter before Open n posts = (p : Parked) → Has p n.member.parked → (Has p before × Open p) ⊎ IsNewlyParked posts p

-- a message doesn't answer the question what became of an attempt
abbrev pub IsOpenStill : AttemptId → Option AttemptId → Message → Type 0
IsOpenStill x ask (message.Verdict a b inc v) = x ≡ a → ask ≡ b → ⊥
IsOpenStill x ask q = Unit {0}

abbrev pub IsWaitingStill : Message → Parked → Type 0
IsWaitingStill q p = (of : AttemptId) → asker p.ask ≡ Some of → IsOpenStill p.on (Some of) q

parks-same : (m n : TargetMemory) (posts : List Post) (Open : Parked → Type 0) → n.member.parked ≡ m.member.parked → ((p : Parked) → Open p) → ParksAfter m.member.parked Open n posts
parks-same m n posts Open same all p i = inl (subst (Has p) same i, all p)

later-asked : (xs ys : List Post) (p : Parked) → IsNewlyParked ys p → IsNewlyParked (xs ++ ys) p
later-asked xs ys p k = record { of = k.of; fetch = k.fetch; leader = k.leader; sent = has-right xs ys (to_target k.leader (message.Query p.on (Some k.of))) k.sent }

early-asked : (xs ys : List Post) (p : Parked) → IsNewlyParked xs p → IsNewlyParked (xs ++ ys) p
early-asked xs ys p k = record { of = k.of; fetch = k.fetch; leader = k.leader; sent = has-left xs ys (to_target k.leader (message.Query p.on (Some k.of))) k.sent }

fetch-parks : (t : TargetPlan) (m : TargetMemory) (reading : ℕ) (q : FetchRequest) (from : ActorId) (s : read.FetchStage) (k : Kept) (left : TargetMemory × Did)
    → read.FetchEnds t m reading q from s k left → ParksAfter m.member.parked (λ p. Unit {0}) left.0 left.1.posts
fetch-parks t m reading q from s k left (read.IsSpent j z live none is) p i = parks-same m left.0 left.1.posts (λ p. Unit {0}) (ap (λ x. x.0.member.parked) is) (λ p. tt) p i
fetch-parks t m reading q from s k left (read.IsRefused j e decided c z why is) p i =
    parks-same m left.0 left.1.posts (λ p. Unit {0}) (ap (λ x. x.0.member.parked) is ∙ ap (λ x. x.parked) (member-then q e decided m)) (λ p. tt) p i
fetch-parks t m reading q from s k left (read.MeetsUnresolved j e decided a z none unsettled other own is) p i =
    parks-same m left.0 left.1.posts (λ p. Unit {0}) (ap (λ x. x.0.member.parked) is ∙ ap (λ x. x.parked) (member-then q e decided m)) (λ p. tt) p i
fetch-parks t m reading q from s k left (read.IsServed j e decided b z none ok is) p i =
    parks-same m left.0 left.1.posts (λ p. Unit {0}) (ap (λ x. x.0.member.parked) is ∙ ap (λ x. x.parked) (member-then q e decided m)) (λ p. tt) p i
fetch-parks t m reading q from s k left (read.IsParked j e decided a leader z none unsettled other is) p i =
    elim (has-cases m.member.parked (record { on = a; leader = leader; ask = read.fetch_at q e } ∷ []) p (subst (λ x. Has p x.0.member.parked) is i)) [
      | inl old ↦ inl (old, tt)
      | inr (inl new) ↦ inr (subst (λ x. IsNewlyParked x.1.posts p) (sym is) (subst (IsNewlyParked (read.asks_leader q e a leader).posts) (sym new) (record {
        of = q.attempt;
        fetch = refl;
        leader = leader;
        sent = inl refl;
      })))
      | inr (inr none') ↦ absurd none'
    ]

-- ---- a Verdict

asker-is : (x : AttemptId) (q : Message) → asker q ≡ Some x → is_asker x q ≡ true
asker-is x (message.Fetch a op group ep first tracker r snapshot) h = let same : a ≡ x = cc in ap (λ b. same_attempt b x) same ∙ same_attempt-itself x
asker-is x q h = let no : ⊥ = cc in absurd no

-- those that wait elsewhere aren't answered
elsewhere-open : (a : AttemptId) (ask : Option AttemptId) (inc : ℕ) (v : Verdict) (ps : List Parked) → ((p : Parked) → Has p (filter (is_parked_elsewhere a) ps) → Has p ps × IsWaitingStill (message.Verdict a ask inc v) p)
elsewhere-open a ask inc v ps p i =
    let k = has-from_filter (is_parked_elsewhere a) ps p i in
    (k.0, λ of fetch on same. let own : same_attempt p.on a ≡ true = ap (λ b. same_attempt b a) on ∙ same_attempt-itself a in (let no : ⊥ = cc (own, k.1) in no))

-- nor those that asked for another Fetch
pub waiting-open : (a x : AttemptId) (inc : ℕ) (v : Verdict) (ps : List Parked) → ((p : Parked) → Has p (filter (is_not_waiting a x) ps) → Has p ps × IsWaitingStill (message.Verdict a (Some x) inc v) p)
unfolding is_waiting
waiting-open a x inc v ps p i =
    let k = has-from_filter (is_not_waiting a x) ps p i in (
      k.0,
      λ of fetch on same.
          let own : same_attempt p.on a ≡ true = ap (λ b. same_attempt b a) on ∙ same_attempt-itself a in
          let asks : is_asker x p.ask ≡ true = asker-is x p.ask (fetch ∙ same) in
          let last : not (same_attempt p.on a && is_asker x p.ask) ≡ true = k.1 in
          (let no : ⊥ = cc (own, asks, last) in no),
    )

left-open : (a : AttemptId) (ask : Option AttemptId) (inc : ℕ) (v : Verdict) (s : MemberOf) (p : Parked) → Has p (verdict_heard a ask v s).member.memory.parked → Has p s.memory.parked × IsWaitingStill (message.Verdict a ask inc v) p
unfolding unresolved
left-open a ask inc verdict.Committed s p i = elsewhere-open a ask inc verdict.Committed s.memory.parked p i
left-open a ask inc verdict.Aborted s p i = elsewhere-open a ask inc verdict.Aborted s.memory.parked p i
left-open a (Some x) inc verdict.Undecided s p i = waiting-open a x inc verdict.Undecided s.memory.parked p i
left-open a None inc verdict.Undecided s p i = (i, λ of fetch on same. let no : ⊥ = cc in no)

verdict-parks : (t : TargetPlan) (m : TargetMemory) (reading : ℕ) (a : AttemptId) (ask : Option AttemptId) (inc : ℕ) (v : Verdict) (old new : Kept) (left : TargetMemory × Did)
    → Whole (verdicts.VerdictNext (is_in_doubt t.me) t m reading a ask v) verdicts.VerdictEnds verdicts.Heard old new left → ParksAfter m.member.parked (IsWaitingStill (message.Verdict a ask inc v)) left.0 left.1.posts
verdict-parks t m reading a ask inc v old new left w =
    (verdict-keeps (is_in_doubt t.me) t m reading a ask v old (λ asks n posts k. ParksAfter m.member.parked Open n posts) (λ k steps p i. inl (left-open a ask inc v (member_at t m) p i)) goes new left w).0
  where
    Open : Parked → Type 0
    Open = IsWaitingStill (message.Verdict a ask inc v)

    goes : (q : FetchRequest) (rest : List Message) (n : TargetMemory) (posts : List Post) (k l : Kept) (z : TargetMemory × Did) → ParksAfter m.member.parked Open n posts → Tries t reading n q k l z
        → ParksAfter m.member.parked Open z.0 (posts ++ z.1.posts)
    goes q rest n posts k l z h y p i = elim (fetch-parks t n reading q (verdicts.fetcher q) y.last l z y.ends p i) [
      | inl old' ↦ elim (h p old'.0) [ inl before ↦ inl before | inr asked ↦ inr (early-asked posts z.1.posts p asked) ]
      | inr new' ↦ inr (later-asked posts z.1.posts p new')
    ]

-- ---- every turn

pub hears-parks : (t : TargetPlan) (opening : Epoch × FloorWhy) (m : TargetMemory) (reading : ℕ) (from : ActorId) (q : Message) (old new : Kept) (left : TargetMemory × Did)
    → HearsRightly t opening m reading from q old new left → ParksAfter m.member.parked (IsWaitingStill q) left.0 left.1.posts
hears-parks t opening m reading from (message.Fetch x op group ep first tracker r snapshot) old new left h p i =
    elim (fetch-parks t m reading (fetch_request x op group ep first tracker r snapshot) from h.last new left h.ends p i) [ inl k ↦ inl (k.0, λ of fetch. tt) | inr k ↦ inr k ]
hears-parks t opening m reading from (message.Commit x ep first tracker ws) old new left h p i =
    parks-same m left.0 left.1.posts (IsWaitingStill (message.Commit x ep first tracker ws)) (ap (λ z. z.parked) (commit-leaves t opening m reading (commit_request x ep first tracker ws) from h.last new left h.ends).member) (λ p of fetch. tt) p i
hears-parks t opening m reading from (message.Prepare e first ws inc) old new left h p i =
    parks-same m left.0 left.1.posts (IsWaitingStill (message.Prepare e first ws inc)) (ap (λ z. z.member.parked) (prepare-leaves t opening m (prepare_request e first ws inc) h.last new left h.ends)) (λ p of fetch. tt) p i
hears-parks t opening m reading from (message.Ack x inc refusal) old new left h p i = parks-same m left.0 left.1.posts (IsWaitingStill (message.Ack x inc refusal)) (ap (λ z. z.parked) (ack-leaves m h.last new left h.ends).member) (λ p of fetch. tt) p i
hears-parks t opening m reading from (message.Mark inc marks) old new left h p i = parks-same m left.0 left.1.posts (IsWaitingStill (message.Mark inc marks)) (ap (λ z. z.member.parked) (mark-leaves m from inc marks h.last new left h.ends)) (λ p of fetch. tt) p i
hears-parks t opening m reading from (message.Marked inc ids) old new left h p i =
    parks-same m left.0 left.1.posts (IsWaitingStill (message.Marked inc ids)) (ap (λ z. z.parked) (marked-leaves t m from.number inc ids h.last new left h.ends).rest.member) (λ p of fetch. tt) p i
hears-parks t opening m reading from (message.Query x ask) old new left h p i = parks-same m left.0 left.1.posts (IsWaitingStill (message.Query x ask)) (ap (λ z. z.member.parked) (query-leaves t m from x ask h.last new left h.ends)) (λ p of fetch. tt) p i
hears-parks t opening m reading from (message.Verdict x ask inc v) old new left h p i = verdict-parks t m reading x ask inc v old new left h p i
hears-parks t opening m reading from q old new left h p i = absurd h

pub idles-parks : (settling : Bool) (t : TargetPlan) (m : TargetMemory) (old new : Kept) (left : TargetMemory × Did) → IdlesWhole settling t m old new left → ParksAfter m.member.parked (λ p. Unit {0}) left.0 left.1.posts
idles-parks settling t m old new left h = parks-same m left.0 left.1.posts (λ p. Unit {0}) (idle-leaves settling t m h.last new left h.ends).parked (λ p. tt)

-- ---- questions fly on

-- a question that is heard is answered
abbrev pub QueriesAreAnswered : ActorId → Message → List Post → Type 0
QueriesAreAnswered from (message.Query x ask) posts = (inc : ℕ) × (v : Verdict) × Has (record { to = from; message = message.Verdict x ask inc v }) posts
QueriesAreAnswered from q posts = Unit {0}

query-answers : (t : TargetPlan) (m : TargetMemory) (from : ActorId) (a : AttemptId) (ask : Option AttemptId) (s : verdicts.QueryStage) (k : Kept) (left : TargetMemory × Did)
    → verdicts.QueryEnds t m from a ask s k left → QueriesAreAnswered from (message.Query a ask) left.1.posts
query-answers t m from a ask s k left (verdicts.IsTold j z is) = subst (λ x. QueriesAreAnswered from (message.Query a ask) x.1.posts) (sym is) (k.durable.incarnation, query_answer a (leader_at t m k.durable), inl refl)

pub queries-answered : (t : TargetPlan) (opening : Epoch × FloorWhy) (m : TargetMemory) (reading : ℕ) (from : ActorId) (q : Message) (old new : Kept) (left : TargetMemory × Did)
    → HearsRightly t opening m reading from q old new left → QueriesAreAnswered from q left.1.posts
queries-answered t opening m reading from (message.Query x ask) old new left h = query-answers t m from x ask h.last new left h.ends
queries-answered t opening m reading from (message.Fetch x op group ep first tracker r snapshot) old new left h = tt
queries-answered t opening m reading from (message.Commit x ep first tracker ws) old new left h = tt
queries-answered t opening m reading from (message.Prepare e first ws inc) old new left h = tt
queries-answered t opening m reading from (message.Ack x inc refusal) old new left h = tt
queries-answered t opening m reading from (message.Mark inc marks) old new left h = tt
queries-answered t opening m reading from (message.Marked inc ids) old new left h = tt
queries-answered t opening m reading from (message.Verdict x ask inc v) old new left h = tt
queries-answered t opening m reading from q old new left h = absurd h

-- a client's turn leaves each question in flight
pub client-asked : (w v : World) → ClientMoves w v → (m : ℕ) (x : AttemptId) (ask : Option AttemptId) → Flies w (IsQueryOf m x ask) → Flies v (IsQueryOf m x ask)
client-asked w v g m x ask (l, j, IsQuery leader is from to) = (l, g.stays l leader j to, IsQuery leader is from to)
client-asked w v g m x ask (l, j, IsVerdict inc said is to) = (l, g.stays l m j to, IsVerdict inc said is to)

module _ (w v : World) (t : ℕ) (s z : TargetState) (l : Letter) (posts : List Post) (g : TargetMoves w v t s z (Some l) posts) (to : l.to ≡ target t) (answered : QueriesAreAnswered l.from l.message posts) where
  heard-on : (m : ℕ) (x : AttemptId) (ask : Option AttemptId) → (m ≡ t → IsOpenStill x ask l.message) → IsQueryOf m x ask l → Flies v (IsQueryOf m x ask)
  heard-on m x ask open' (IsQuery leader is from goes) =
      let a : QueriesAreAnswered l.from (message.Query x ask) posts = subst (λ q. QueriesAreAnswered l.from q posts) is answered in
      let p : Post = record { to = l.from; message = message.Verdict x ask a.0 a.1 } in
      (letter_of (target t) p, g.posted p a.2, IsVerdict a.0 a.1 refl from)
  heard-on m x ask open' (IsVerdict inc said is goes) =
      let own : m ≡ t = target-is m t (sym goes ∙ to) in
      let none : IsOpenStill x ask (message.Verdict x ask inc said) = subst (λ q. IsOpenStill x ask q) is (open' own) in
      absurd (none refl refl)

  -- a question that isn't answered in this turn flies on
  pub asked-on : (m : ℕ) (x : AttemptId) (ask : Option AttemptId) → (m ≡ t → IsOpenStill x ask l.message) → Flies w (IsQueryOf m x ask) → Flies v (IsQueryOf m x ask)
  asked-on m x ask open' (j, i, k) = elim (g.stays j i) [
    | inl heard ↦ heard-on m x ask open' (subst (IsQueryOf m x ask) (let same : j ≡ l = cc in same) k)
    | inr stays ↦ (j, stays, k)
  ]

-- ---- the world

-- what waits is a Fetch of some attempt, and something holds of its question
pub record WaitsSo (C : World → ℕ → AttemptId → Option AttemptId → Type 0) (w : World) (m : ℕ) (p : Parked) : Type 0 where
  pub of : AttemptId
  pub fetch : asker p.ask ≡ Some of
  pub asked : C w m p.on (Some of)

abbrev pub ParkedSo : (World → ℕ → AttemptId → Option AttemptId → Type 0) → World → Type 0
ParkedSo C w = (m : ℕ) (s : TargetState) (p : Parked) → slice_get w.targets m ≡ Some s → Has p s.memory.member.parked → WaitsSo C w m p

-- where no target changes, and what holds stays
pub untouched-parked : (C : World → ℕ → AttemptId → Option AttemptId → Type 0) (w v : World) → v.targets ≡ w.targets → ((m : ℕ) (x : AttemptId) (ask : Option AttemptId) → C w m x ask → C v m x ask) → ParkedSo C w → ParkedSo C v
untouched-parked C w v same on k m s p here i = let a = k m s p (subst (λ ts. slice_get ts m ≡ Some s) same here) i in record { of = a.of; fetch = a.fetch; asked = on m p.on (Some a.of) a.asked }

pub newly-asked : (w v : World) (t : ℕ) (s z : TargetState) (heard : Option Letter) (posts : List Post) → TargetMoves w v t s z heard posts → (p : Parked) (n : IsNewlyParked posts p) → Flies v (IsQueryOf t p.on (Some n.of))
newly-asked w v t s z heard posts g p n = let q : Post = to_target n.leader (message.Query p.on (Some n.of)) in (letter_of (target t) q, g.posted q n.sent, IsQuery n.leader refl refl refl)

-- a target's turn keeps what holds of all questions for what waits, where it stays of those that aren't answered, and holds of each new one
pub target-parked : (C : World → ℕ → AttemptId → Option AttemptId → Type 0) (w v : World) (t : ℕ) (s z : TargetState) (heard : Option Letter) (posts : List Post) (Open : Parked → Type 0) (Still : AttemptId → Option AttemptId → Type 0) → TargetMoves w v t s z heard posts
    → ParksAfter s.memory.member.parked Open z.memory posts → ((p : Parked) (of : AttemptId) → asker p.ask ≡ Some of → Open p → Still p.on (Some of))
    → ((m : ℕ) (x : AttemptId) (ask : Option AttemptId) → Flies v (IsQueryOf m x ask) → C v m x ask)
    → ((m : ℕ) (x : AttemptId) (ask : Option AttemptId) → (m ≡ t → Still x ask) → C w m x ask → C v m x ask) → ParkedSo C w → ParkedSo C v
target-parked C w v t s z heard posts Open Still g after still new on k m y p here i = elim (one-or_another m t) [
  | inl same ↦
      let is : Some z ≡ Some y = sym (now-here w v t s z heard posts g) ∙ ap (slice_get v.targets) (sym same) ∙ here in
      subst (λ a. WaitsSo C v a p) (sym same)
      (elim (after p (subst (λ x. Has p x.memory.member.parked) (let one : y ≡ z = cc in one) i)) [
        | inl old ↦ (let a = k t s p g.here old.0 in record { of = a.of; fetch = a.fetch; asked = on t p.on (Some a.of) (λ e. still p a.of a.fetch old.1) a.asked })
        | inr sent ↦ record { of = sent.of; fetch = sent.fetch; asked = new t p.on (Some sent.of) (newly-asked w v t s z heard posts g p sent) }
      ])
  | inr other ↦
      let a = k m y p (sym (same-there w v t s z heard posts g m other) ∙ here) i in
      record { of = a.of; fetch = a.fetch; asked = on m p.on (Some a.of) (λ e. absurd (other e)) a.asked }
]
