-- Whatever happens, what leaders named and what Fetches wait for is on its way.
use Rattle.std.specs.Prelude.{ℕ, ◌≡◌, true, Option, Some, None}
use Rattle.std.proofs.Common.{sym, ◌∙◌, subst, inl, inr}
use Rattle.base_types.specs.declared.epoch.Epoch.{Epoch}
use Rattle.base_types.specs.declared.id.AttemptId.{AttemptId}
use Rattle.base_types.specs.declared.outcome.FloorWhy.{FloorWhy}
use Rattle.model_laws.specs.Members.{Has}
use Rattle.base_messages.specs.declared.actor.ActorId.{ActorId}
use Rattle.base_messages.specs.declared.message.Message.{Message, more_of-Message}
use Rattle.base_messages.specs.declared.message.Message.TheVariants as message
use Rattle.dtx_base.specs.declared.leading.Naming.{Naming}
use Rattle.world_commit.specs.asks.Asks.{IsMark, IsMarked, IsNamingOf, IsQuery, IsQueryOf, IsVerdict}
use Rattle.world_commit.specs.asks.Moving.{ClientMoves, TargetMoves, all-stay, goes-moves, heard-moves, hears-moves, idle-moves}
use Rattle.world_commit.specs.asks.NamedLaws.{IsUnanswered, client-named, flies-on, hears-names, idles-names, marks-answered, newly-flies, target-named, untouched-named}
use Rattle.world_commit.specs.asks.ParkedLaws.{IsOpenStill, IsWaitingStill, asked-on, client-asked, hears-parks, idles-parks, queries-answered, target-parked, untouched-parked}
use Rattle.world_commit.specs.attempts.History.{History}
use Rattle.world_commit.specs.attempts.Stored.{target-is}
use Rattle.world_commit.specs.fates.Facts.{Attempts}
use Rattle.world_commit.specs.fates.Rightly.{events-are-right}
use Rattle.world_commit.specs.questions.Facts.{IsAsked, IsMarkFor, IsNamed, IsNamingReset, IsOnNaming, IsOnQuery, IsQueryReset, IsResetBy, NamingsFly, WaitingAreAsked}
use Rattle.world_commit.specs.questions.Facts as fact
use Rattle.world_commit.specs.questions.Hearing.{IsNotBack, IsNotLost, WaitsOn, is_of_stops, more-names, more-parks}
use Rattle.world_commit.specs.questions.Stopping.{cut_loss, drawing_loss, failing_loss, given_up_loss, loss-namings, loss-waiting, opening_loss, sweeping_loss}
use Rattle.world_base.specs.declared.did.Did.{Did}
use Rattle.world_base.specs.declared.letter.Letter.{Letter}
use Rattle.world_base.specs.declared.target.TargetMemory.{TargetMemory}
use Rattle.world_base.specs.declared.target.TargetPlan.{TargetPlan}
use Rattle.world_base.specs.declared.target.TargetState.{TargetState}
use Rattle.world_base.specs.declared.world.World.{World}
use Rattle.world_base.specs.Changes.{Kept}
use Rattle.world_base.specs.Events.{ByClient, ByTarget, RightEvent, Rules, TargetHearsBy, ToClient, ToTarget, kept, target_after, target_plan}
use Rattle.world_base.specs.Further.{HearsFurther}
use Rattle.world_base.specs.Letters.{target}
use Rattle.world_base.specs.RightTurns.{HearsRightly}
use Rattle.world_base.specs.Stops.{Draws, Fails, Further, GivenUp, Happening, HearsMore, IsCut, Opens, Plainly, swept}

-- ---- without stops

-- a target that hears as without stops hears no Reset
pub rightly-no_reset : (t : TargetPlan) (opening : Epoch × FloorWhy) (m : TargetMemory) (reading : ℕ) (from : ActorId) (q : Message) (old new : Kept) (left : TargetMemory × Did)
    → HearsRightly t opening m reading from q old new left → (by : ℕ) (Asked : Message → Type 0) → IsResetBy by Asked q → ⊥
rightly-no_reset t opening m reading from (message.Reset' b down place (more_of-Message q rest)) old new left turn by Asked k = turn
rightly-no_reset t opening m reading from q old new left turn by Asked k = k

-- a Reset stays in flight in a client's turn
client-naming : (w v : World) → ClientMoves w v → (t : ℕ) (n : Naming) → IsOnNaming w t n → IsOnNaming v t n
client-naming w v g t n (IsNamed f) = IsNamed (client-named w v g t n f)
client-naming w v g t n (fact.IsReset (l, i, k)) = fact.IsReset (l, g.stays l t i k.to, k)

pub client-query : (w v : World) → ClientMoves w v → (m : ℕ) (x : AttemptId) (ask : Option AttemptId) → IsOnQuery w m x ask → IsOnQuery v m x ask
client-query w v g m x ask (IsAsked f) = IsAsked (client-asked w v g m x ask f)
client-query w v g m x ask (fact.IsReset (l, i, k)) = fact.IsReset (l, g.stays l m i k.to, k)

-- what stays where all letters stay
all-naming : (w v : World) → ((l : Letter) → Has l w.messages → Has l v.messages) → (t : ℕ) (n : Naming) → IsOnNaming w t n → IsOnNaming v t n
all-naming w v all t n (IsNamed f) = IsNamed (f.0, all f.0 f.1, f.2)
all-naming w v all t n (fact.IsReset f) = fact.IsReset (f.0, all f.0 f.1, f.2)

pub all-query : (w v : World) → ((l : Letter) → Has l w.messages → Has l v.messages) → (m : ℕ) (x : AttemptId) (ask : Option AttemptId) → IsOnQuery w m x ask → IsOnQuery v m x ask
all-query w v all m x ask (IsAsked f) = IsAsked (f.0, all f.0 f.1, f.2)
all-query w v all m x ask (fact.IsReset f) = fact.IsReset (f.0, all f.0 f.1, f.2)

pub namings-kept : (r : Rules) (w v : World) → RightEvent r w v → NamingsFly w → NamingsFly v
namings-kept r w v (ByClient g) k = untouched-named IsOnNaming w v (goes-moves r w v g).targets (client-naming w v (goes-moves r w v g)) k
namings-kept r w v (ToClient g) k = untouched-named IsOnNaming w v (hears-moves r w v g).targets (client-naming w v (hears-moves r w v g)) k
namings-kept r w v (ToTarget g) k =
    target-named IsOnNaming w v g.t g.s (target_after g.s g.new g.memory) (Some g.l) g.did.posts (λ n. IsUnanswered g.l.from n g.l.message) moves
    (hears-names (target_plan r g.t) g.s.opening g.s.memory g.reading g.l.from g.l.message (kept g.s) g.new (g.memory, g.did) g.turn)
    (λ n new. IsNamed (newly-flies w v g.t g.s (target_after g.s g.new g.memory) (Some g.l) g.did.posts moves n new)) on k
  where
    moves : TargetMoves w v g.t g.s (target_after g.s g.new g.memory) (Some g.l) g.did.posts
    moves = heard-moves r w v g

    on : (u : ℕ) (n : Naming) → (u ≡ g.t → IsUnanswered g.l.from n g.l.message) → IsOnNaming w u n → IsOnNaming v u n
    on u n open' (IsNamed f) =
        IsNamed (flies-on w v g.t g.s (target_after g.s g.new g.memory) g.l g.did.posts moves g.to_it
        (marks-answered (target_plan r g.t) g.s.opening g.s.memory g.reading g.l.from g.l.message (kept g.s) g.new (g.memory, g.did) g.turn) u n open' f)
    on u n open' (fact.IsReset (l, i, q)) = elim (moves.stays l i) [
      | inl heard ↦
          absurd (rightly-no_reset (target_plan r g.t) g.s.opening g.s.memory g.reading g.l.from g.l.message (kept g.s) g.new (g.memory, g.did) g.turn n.member (IsMarkFor n)
          (subst (λ y. IsResetBy n.member (IsMarkFor n) y.message) (let same : l ≡ g.l = cc in same) q.tells))
      | inr stays ↦ fact.IsReset (l, stays, q)
    ]
namings-kept r w v (ByTarget g) k =
    target-named IsOnNaming w v g.t g.s (target_after g.s g.new g.memory) None g.did.posts (λ n. Unit {0}) (idle-moves r w v g)
    (idles-names g.settling (target_plan r g.t) g.s.memory (kept g.s) g.new (g.memory, g.did) g.turn)
    (λ n new. IsNamed (newly-flies w v g.t g.s (target_after g.s g.new g.memory) None g.did.posts (idle-moves r w v g) n new))
    (λ u n open'. all-naming w v (all-stay w v g.t g.s (target_after g.s g.new g.memory) g.did.posts (idle-moves r w v g)) u n) k

-- a question that isn't answered in a turn without stops stays on its way
module _ (r : Rules) (w v : World) (t : ℕ) (s z : TargetState) (l : Letter) (new : Kept) (left : TargetMemory × Did) (reading : ℕ) (moves : TargetMoves w v t s z (Some l) left.1.posts) (to_it : l.to ≡ target t)
    (turn : HearsRightly (target_plan r t) s.opening s.memory reading l.from l.message (kept s) new left) where
  pub query-on : (m : ℕ) (x : AttemptId) (ask : Option AttemptId) → (m ≡ t → IsOpenStill x ask l.message) → IsOnQuery w m x ask → IsOnQuery v m x ask
  query-on m x ask open' (IsAsked f) =
      IsAsked (asked-on w v t s z l left.1.posts moves to_it (queries-answered (target_plan r t) s.opening s.memory reading l.from l.message (kept s) new left turn) m x ask open' f)
  query-on m x ask open' (fact.IsReset (j, i, q)) = elim (moves.stays j i) [
    | inl heard ↦
        absurd (rightly-no_reset (target_plan r t) s.opening s.memory reading l.from l.message (kept s) new left turn q.leader (λ y. y ≡ message.Query x ask)
        (subst (λ y. IsResetBy q.leader (λ a. a ≡ message.Query x ask) y.message) (let same : j ≡ l = cc in same) q.tells))
    | inr stays ↦ fact.IsReset (j, stays, q)
  ]

pub waiting-kept : (r : Rules) (w v : World) → RightEvent r w v → WaitingAreAsked w → WaitingAreAsked v
waiting-kept r w v (ByClient g) k = untouched-parked IsOnQuery w v (goes-moves r w v g).targets (client-query w v (goes-moves r w v g)) k
waiting-kept r w v (ToClient g) k = untouched-parked IsOnQuery w v (hears-moves r w v g).targets (client-query w v (hears-moves r w v g)) k
waiting-kept r w v (ToTarget g) k =
    target-parked IsOnQuery w v g.t g.s (target_after g.s g.new g.memory) (Some g.l) g.did.posts (IsWaitingStill g.l.message) (λ x ask. IsOpenStill x ask g.l.message) (heard-moves r w v g)
    (hears-parks (target_plan r g.t) g.s.opening g.s.memory g.reading g.l.from g.l.message (kept g.s) g.new (g.memory, g.did) g.turn) (λ p of fetch still. still of fetch) (λ m x ask f. IsAsked f)
    (query-on r w v g.t g.s (target_after g.s g.new g.memory) g.l g.new (g.memory, g.did) g.reading (heard-moves r w v g) g.to_it g.turn) k
waiting-kept r w v (ByTarget g) k =
    target-parked IsOnQuery w v g.t g.s (target_after g.s g.new g.memory) None g.did.posts (λ p. Unit {0}) (λ x ask. Unit {0}) (idle-moves r w v g)
    (idles-parks g.settling (target_plan r g.t) g.s.memory (kept g.s) g.new (g.memory, g.did) g.turn) (λ p of fetch still. tt) (λ m x ask f. IsAsked f)
    (λ m x ask open'. all-query w v (all-stay w v g.t g.s (target_after g.s g.new g.memory) g.did.posts (idle-moves r w v g)) m x ask) k

-- ---- what is heard of stops

lost-not : (n : Naming) (q : Message) → IsNotLost n q → IsResetBy n.member (IsMarkFor n) q → ⊥
lost-not n (message.Reset' by down place (more_of-Message q rest)) none k = none k.0 k.1
lost-not n q none k = k

back-not : (x : AttemptId) (ask : Option AttemptId) (by : ℕ) (q : Message) → IsNotBack x ask q → IsResetBy by (λ y. y ≡ message.Query x ask) q → ⊥
back-not x ask by (message.Reset' b down place (more_of-Message q rest)) none k = none k.1
back-not x ask by q none k = k

module _ (r : Rules) (w v : World) (g : HearsMore r w v) (ours : is_of_stops g.hears.l.message ≡ true) where
  abbrev a : TargetHearsBy (HearsFurther g.number) r w v
  a = g.hears

  moves : TargetMoves w v a.t a.s (target_after a.s a.new a.memory) (Some a.l) a.did.posts
  moves = heard-moves r w v a

  heard : (q : Message) → a.l.message ≡ q → HearsFurther g.number (target_plan r a.t) a.s.opening a.s.memory a.reading a.l.from q (kept a.s) a.new (a.memory, a.did)
  heard q is = subst (λ y. HearsFurther g.number (target_plan r a.t) a.s.opening a.s.memory a.reading a.l.from y (kept a.s) a.new (a.memory, a.did)) is a.turn

  -- neither a Mark nor the answer to one is heard so
  naming-unheard : (u : ℕ) (n : Naming) → IsNamingOf u n a.l → ⊥
  naming-unheard u n (IsMark marks is from to names) = heard (message.Mark n.inc marks) is
  naming-unheard u n (IsMarked ids is from to names) = heard (message.Marked n.inc ids) is

  query-unheard : (m : ℕ) (x : AttemptId) (ask : Option AttemptId) → IsQueryOf m x ask a.l → ⊥
  query-unheard m x ask (IsQuery leader is from to) = heard (message.Query x ask) is
  query-unheard m x ask (IsVerdict inc said is to) = heard (message.Verdict x ask inc said) is

  naming-more : (u : ℕ) (n : Naming) → (u ≡ a.t → IsNotLost n a.l.message) → IsOnNaming w u n → IsOnNaming v u n
  naming-more u n open' (IsNamed (j, i, k)) = elim (moves.stays j i) [
    | inl heard' ↦ absurd (naming-unheard u n (subst (IsNamingOf u n) (let same : j ≡ a.l = cc in same) k))
    | inr stays ↦ IsNamed (j, stays, k)
  ]
  naming-more u n open' (fact.IsReset (j, i, k)) = elim (moves.stays j i) [
    | inl heard' ↦
        let q = subst (IsNamingReset u n) (let same : j ≡ a.l = cc in same) k in
        absurd (lost-not n a.l.message (open' (target-is u a.t (sym q.to ∙ a.to_it))) q.tells)
    | inr stays ↦ fact.IsReset (j, stays, k)
  ]

  pub query-more : (m : ℕ) (x : AttemptId) (ask : Option AttemptId) → (m ≡ a.t → IsNotBack x ask a.l.message) → IsOnQuery w m x ask → IsOnQuery v m x ask
  query-more m x ask open' (IsAsked (j, i, k)) = elim (moves.stays j i) [
    | inl heard' ↦ absurd (query-unheard m x ask (subst (IsQueryOf m x ask) (let same : j ≡ a.l = cc in same) k))
    | inr stays ↦ IsAsked (j, stays, k)
  ]
  query-more m x ask open' (fact.IsReset (j, i, k)) = elim (moves.stays j i) [
    | inl heard' ↦
        let q = subst (IsQueryReset m x ask) (let same : j ≡ a.l = cc in same) k in
        absurd (back-not x ask q.leader a.l.message (open' (target-is m a.t (sym q.to ∙ a.to_it))) q.tells)
    | inr stays ↦ fact.IsReset (j, stays, k)
  ]

  more-namings : NamingsFly w → NamingsFly v
  more-namings k =
      target-named IsOnNaming w v a.t a.s (target_after a.s a.new a.memory) (Some a.l) a.did.posts (λ n. IsNotLost n a.l.message) moves
      (more-names g.number (target_plan r a.t) a.s.opening a.s.memory a.reading a.l.from a.l.message (kept a.s) a.new (a.memory, a.did) ours a.turn)
      (λ n new. IsNamed (newly-flies w v a.t a.s (target_after a.s a.new a.memory) (Some a.l) a.did.posts moves n new)) naming-more k

  more-waiting : WaitingAreAsked w → WaitingAreAsked v
  more-waiting k =
      target-parked IsOnQuery w v a.t a.s (target_after a.s a.new a.memory) (Some a.l) a.did.posts (WaitsOn a.l.message) (λ x ask. IsNotBack x ask a.l.message) moves
      (more-parks g.number (target_plan r a.t) a.s.opening a.s.memory a.reading a.l.from a.l.message (kept a.s) a.new (a.memory, a.did) ours a.turn) (λ p of fetch still. still of fetch) (λ m x ask f. IsAsked f) query-more k

-- ---- whatever happens

-- all but what is heard of snapshots and aggregations
abbrev pub IsWithoutCollections : {r : Rules} {w v : World} → Happening r w v → Type 0
IsWithoutCollections (Further g) = is_of_stops g.hears.l.message ≡ true
IsWithoutCollections e = Unit {0}

module _ (r : Rules) (h : History) (w v : World) (A : Attempts r h w) where
  pub namings-happen : (e : Happening r w v) → IsWithoutCollections e → NamingsFly w → NamingsFly v
  namings-happen (Plainly e up) ours k = namings-kept r w v (events-are-right r h w v A e) k
  namings-happen (Further g) ours k = more-namings r w v g ours k
  namings-happen (IsCut g) ours k = loss-namings w v A.prompt (cut_loss w v g.t g.s g.cut g.here g.after) k
  namings-happen (Opens g) ours k = loss-namings w v A.prompt (opening_loss r w v g) k
  namings-happen (Fails g) ours k = loss-namings w v A.prompt (failing_loss r w v A.on.quiet g) k
  namings-happen (GivenUp g) ours k = loss-namings w v A.prompt (given_up_loss r w v A.on.quiet g) k
  namings-happen (Draws g) ours k = loss-namings w v A.prompt (drawing_loss w v g) k

  pub waiting-happen : (e : Happening r w v) → IsWithoutCollections e → WaitingAreAsked w → WaitingAreAsked v
  waiting-happen (Plainly e up) ours k = waiting-kept r w v (events-are-right r h w v A e) k
  waiting-happen (Further g) ours k = more-waiting r w v g ours k
  waiting-happen (IsCut g) ours k = loss-waiting w v A.prompt (cut_loss w v g.t g.s g.cut g.here g.after) k
  waiting-happen (Opens g) ours k = loss-waiting w v A.prompt (opening_loss r w v g) k
  waiting-happen (Fails g) ours k = loss-waiting w v A.prompt (failing_loss r w v A.on.quiet g) k
  waiting-happen (GivenUp g) ours k = loss-waiting w v A.prompt (given_up_loss r w v A.on.quiet g) k
  waiting-happen (Draws g) ours k = loss-waiting w v A.prompt (drawing_loss w v g) k

pub namings-swept : (r : Rules) (h : History) (w : World) → Attempts r h w → NamingsFly w → NamingsFly (swept w)
namings-swept r h w A k = loss-namings w (swept w) A.prompt (sweeping_loss w A.on.quiet) k

pub waiting-swept : (r : Rules) (h : History) (w : World) → Attempts r h w → WaitingAreAsked w → WaitingAreAsked (swept w)
waiting-swept r h w A k = loss-waiting w (swept w) A.prompt (sweeping_loss w A.on.quiet) k
