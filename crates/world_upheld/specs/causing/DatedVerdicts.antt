-- Where epochs of snapshots count as those of the attempts that read there, a target that hears a Verdict answers the Fetches that it sets free, at
-- their own epochs and at snapshots, and shows what each meets.
use Rattle.std.specs.Prelude.{ℕ, ◌≡◌, ◌≤◌, ◌/◌, ◌++◌, Bool, true, false, filter, map, List, [], ◌∷◌, Contains, Option, Some, None, refl}
use Rattle.std.proofs.Common.{append-nil, inl, inr, sym, ◌∙◌, ap, subst, arith}
use Rattle.base_types.specs.declared.entry.Settle.{Settle}
use Rattle.base_types.specs.declared.entry.Settle.TheVariants.{Abort, Commit, Confirm, Forget}
use Rattle.base_types.specs.declared.entry.Verdict.{Verdict}
use Rattle.base_types.specs.declared.entry.Verdict.TheVariants as verdict
use Rattle.base_types.specs.declared.epoch.Epoch.{Epoch}
use Rattle.base_types.specs.declared.id.AttemptId.{AttemptId}
use Rattle.base_types.specs.declared.operation.Read.{Read}
use Rattle.base_types.specs.declared.outcome.FloorWhy.{FloorWhy}
use Rattle.base_types.specs.declared.report.Line.{Line}
use Rattle.base_messages.specs.declared.message.Message.{Message}
use Rattle.base_messages.specs.declared.message.Message.TheVariants as message
use Rattle.base_messages.specs.declared.message.Post.{Post}
use Rattle.base_messages.specs.declared.actor.ActorId.{ActorId}
use Rattle.daos_model.specs.BoolLaws.{clash}
use Rattle.model_laws.specs.Members.{Has, has-cases, has-from_filter, has-from_map}
use Rattle.daos_model.specs.Opening.{Opening, top}
use Rattle.dtx_base.specs.declared.member.Parked.{Parked}
use Rattle.dtx_base.specs.Joining.{all_unresolved_told, is_not_waiting, is_parked_elsewhere, is_parked_on, is_waiting, parked_ask, unresolved, unresolved_told, verdict_heard}
use Rattle.world_base.specs.declared.did.Did.{Did}
use Rattle.world_base.specs.declared.request.FetchRequest.{FetchRequest}
use Rattle.world_base.specs.declared.target.TargetMemory.{TargetMemory}
use Rattle.world_base.specs.declared.target.TargetPlan.{TargetPlan}
use Rattle.world_base.specs.ChangeLaws.{snaps-made}
use Rattle.world_base.specs.Changes.{Change, Kept, Steps}
use Rattle.world_base.specs.ClientTurns.{told_by_some}
use Rattle.world_base.specs.Events.{Rules, listed}
use Rattle.world_base.specs.Letters.{client}
use Rattle.world_base.specs.MemoryLaws.{member-then}
use Rattle.world_base.specs.PathLaws.{path-keeps, step-leaves}
use Rattle.world_base.specs.Reads as read
use Rattle.world_base.specs.Requests.{fetch_message, is_other_attempt, issued_for}
use Rattle.world_base.specs.Roles.{is_in_doubt, joins_on, member_at}
use Rattle.world_base.specs.TargetTurns.{fetch_request}
use Rattle.world_base.specs.TurnLaws.{verdict-plain}
use Rattle.world_base.specs.Turns.{Whole}
use Rattle.world_base.specs.Verdicts as turn
use Rattle.world_legal.specs.world_causes.causes.AtFloors.{IsTarget}
use Rattle.world_legal.specs.world_causes.causes.Causes.{Dated, MeetsOther, Stored, stored_by}
use Rattle.world_legal.specs.world_causes.causes.CommitTurns.{space-same}
use Rattle.world_legal.specs.world_causes.causes.Leases.{AskBelow, AsksBelow, EpochBelow}
use Rattle.world_legal.specs.world_causes.causes.Paths.{AreOpen, Lasts, ReadSoFar, lasts-aborted, lasts-committed, lasts-here, lasts-known, lasts-rests, left_at, read-step}
use Rattle.world_legal.specs.world_causes.causes.ReadTurns.{FetchLeft, IsFetch, fetch-ends, meet-more, told-one, unresolved-stands}
use Rattle.world_legal.specs.world_causes.causes.Shown.{IsOpenTo, limit_over}
use Rattle.world_legal.specs.world_causes.causes.Turns.{AllMeet, AllShow, Leaves, ParkedMeets, all-both, all-more}
use Rattle.world_legal.specs.world_causes.showing.Following.{none-borne}
use Rattle.world_upheld.specs.causing.Posts.{EachShows}
use Rattle.world_upheld.specs.causing.SnapshotReads.{IsDatedRead, ReadsSo, SnapshotReadLeaves, WaitsThen, ends-show, reads-step}
use Rattle.world_letters.specs.epochs.Epochs.{reads_snapshot}

-- what is known of a Fetch that waits: it bears its epoch, and is as its client asked it
pub record IsAskFit (r : Rules) (o : Opening) (issued : Dated) (lines : List Line) (t : TargetPlan) (m : Message) : Type 0 where
  pub q : FetchRequest
  pub is : m ≡ message.Fetch q.attempt q.op q.group q.ep q.first q.tracker q.read q.snapshot
  pub fit : IsFetch r o issued lines t q
  pub e : Epoch
  pub own : q.ep ≡ Some e

-- ---- what is known

-- Of a Fetch that waits: it bears its own epoch, and is as its client asked it; or it reads at a snapshot, whose epoch counts as its attempt's.
pub data IsAskRight (r : Rules) (o : Opening) (dated : Dated) (lines : List Line) (t : TargetPlan) (old : Kept) (n : Message) : Type 0 where
  AtOwnEpoch : IsAskFit r o dated lines t n → IsAskRight r o dated lines t old n
  AtSnapshot : (q : FetchRequest) (e : Epoch) → n ≡ fetch_message q → IsDatedRead r o dated lines q (turn.fetcher q) e old → IsAskRight r o dated lines t old n

abbrev pub AllRight : Rules → Opening → Dated → List Line → TargetPlan → Kept → List Message → Type 0
AllRight r o dated lines t old ms = (n : Message) → Has n ms → IsAskRight r o dated lines t old n

-- the attempt of which a Fetch asks
abbrev pub AsksFor : Message → AttemptId → Type 0
AsksFor (message.Fetch x op group ep first tracker q snapshot) y = x ≡ y
AsksFor n y = ⊥

-- of reads at snapshots that wait, what each waits for is in its way
abbrev pub ReadsMeet : Rules → Dated → List Parked → Type 0
ReadsMeet r dated ps = (p : Parked) (x : AttemptId) → Has p ps → reads_snapshot p.ask ≡ true → AsksFor p.ask x → MeetsOther r dated x p.on

-- What is known when a Verdict is heard: the Fetches that wait are as they were asked, and what they wait for is in their way; one that asked of
-- an attempt which isn't decided meets one that is open to it.
pub record IsVerdictRight (r : Rules) (o : Opening) (dated : Dated) (lines : List Line) (t : TargetPlan) (m : TargetMemory) (old : Kept) (a : AttemptId) (ask : Option AttemptId) (v : Verdict) : Type 0 where
  pub asks : (p : Parked) → Has p m.member.parked → IsAskRight r o dated lines t old p.ask
  pub meets : (p : Parked) (x : AttemptId) → Has p m.member.parked → AsksFor p.ask x → MeetsOther r dated x p.on
  pub open' : (p : Parked) (x : AttemptId) → Has p m.member.parked → v ≡ verdict.Undecided → ask ≡ Some x → is_waiting a x p ≡ true → (p.on ≡ a) × ((y : AttemptId) → AsksFor p.ask y → IsOpenTo r.script lines y a)

-- ---- lists of posts, told in either way

each-all : (r : Rules) (o : Opening) (stored : Stored) (issued : Dated) (lines : List Line) (qs : List Post) → EachShows r o stored issued lines qs → AllShow r o stored issued lines qs
each-all r o stored issued lines [] all = tt
each-all r o stored issued lines (q ∷ qs) all = (all q (inl refl), each-all r o stored issued lines qs (λ p i. all p (inr i)))

-- a Fetch at its own epoch makes no read at a snapshot wait
pub own-waits : (t : TargetPlan) (m : TargetMemory) (reading : ℕ) (q : FetchRequest) (from : ActorId) (s : read.FetchStage) (k : Kept) (left : TargetMemory × Did) → q.snapshot ≡ false → read.FetchEnds t m reading q from s k left
    → (p : Parked) → Has p left.0.member.parked → reads_snapshot p.ask ≡ true → Has p m.member.parked
own-waits t m reading q from s k left plain (read.IsSpent j z live none is) p i at = subst (Has p) (ap (λ x. x.0.member.parked) is) i
own-waits t m reading q from s k left plain (read.IsRefused j e decided c z why is) p i at = subst (Has p) (ap (λ x. x.0.member.parked) is ∙ ap (λ x. x.parked) (member-then q e decided m)) i
own-waits t m reading q from s k left plain (read.MeetsUnresolved j e decided a z none unsettled other own is) p i at = subst (Has p) (ap (λ x. x.0.member.parked) is ∙ ap (λ x. x.parked) (member-then q e decided m)) i
own-waits t m reading q from s k left plain (read.IsServed j e decided b z none ok is) p i at = subst (Has p) (ap (λ x. x.0.member.parked) is ∙ ap (λ x. x.parked) (member-then q e decided m)) i
own-waits t m reading q from s k left plain (read.IsParked j e decided a leader z none unsettled other is) p i at =
    elim (has-cases m.member.parked (record { on = a; leader = leader; ask = read.fetch_at q e } ∷ []) p (subst (λ x. Has p x.0.member.parked) is i)) [
      | inl old ↦ old
      | inr (inl new) ↦ clash q.snapshot (ap (λ y. reads_snapshot y.ask) (sym new) ∙ at) plain
      | inr (inr none') ↦ absurd none'
    ]

module _ (r : Rules) (o : Opening) (stored : Stored) (dated : Dated) (lines : List Line) (t : TargetPlan) (opening : Epoch × FloorWhy) (m : TargetMemory) (reading : ℕ) (a : AttemptId) (ask : Option AttemptId) (v : Verdict) (old : Kept)
    (T : IsTarget r o dated lines t.me opening old) (V : IsVerdictRight r o dated lines t m old a ask v) (within : m.ticks ≤ limit_over o lines dated) (meet : AllMeet r dated m.member.parked) (opens : AreOpen r.script t lines (top o) old.durable m.leader.decided) where
  -- ---- the Fetches that asked

  unresolved-shows : (n : Message) (q : FetchRequest) (e : Epoch) → n ≡ fetch_message q → q.ep ≡ Some e → e.0 / 256 ≤ limit_over o lines dated → MeetsOther r dated q.attempt a → IsOpenTo r.script lines q.attempt a
      → AllShow r o stored dated lines (unresolved_told a n)
  unresolved-shows n q e is own low meets open' = subst (λ z. AllShow r o stored dated lines (unresolved_told a z)) (sym is) (
    record {
      shows = unresolved-stands r lines dated q.attempt a meets open' (T.once q.attempt);
      told = λ i j. told q.ep own i j;
      undecided = λ x by u. absurd u;
      asked = λ x u. absurd u;
      own = λ x same. ap (λ y. client y.client) same;
    },
    tt,
  )
    where
      told : (ep : Option Epoch) → ep ≡ Some e → (i : ℕ) → Contains (told_by_some ep ++ []) i → i / 256 ≤ limit_over o lines dated
      told None is i j = let no : ⊥ = cc in absurd no
      told (Some f) is i j = subst (λ z. z / 256 ≤ limit_over o lines dated) (told-one f i j) (subst (λ z. z.0 / 256 ≤ limit_over o lines dated) (same f is) low)
        where
          same : (f : Epoch) → Some f ≡ Some e → e ≡ f
          same f is = cc

  one-unresolved : (p : Parked) → Has p m.member.parked → p.on ≡ a → ((y : AttemptId) → AsksFor p.ask y → IsOpenTo r.script lines y a) → AllShow r o stored dated lines (unresolved_told a p.ask)
  one-unresolved p i on open' = by (V.asks p i)
    where
      its : (q : FetchRequest) → p.ask ≡ fetch_message q → MeetsOther r dated q.attempt a × IsOpenTo r.script lines q.attempt a
      its q is = let asks : AsksFor p.ask q.attempt = subst (λ n. AsksFor n q.attempt) (sym is) refl in (subst (MeetsOther r dated q.attempt) on (V.meets p q.attempt i asks), open' q.attempt asks)

      by : IsAskRight r o dated lines t old p.ask → AllShow r o stored dated lines (unresolved_told a p.ask)
      by (AtOwnEpoch k) = let z = its k.q k.is in unresolved-shows p.ask k.q k.e k.is k.own (k.fit.request.own k.e k.own).2 z.0 z.1
      by (AtSnapshot q e is k) = let z = its q is in unresolved-shows p.ask q e is k.own k.within z.0 z.1

  pub all-unresolved_show : (x : AttemptId) (ps : List Parked) → ((p : Parked) → Has p ps → Has p m.member.parked × (is_waiting a x p ≡ true)) → v ≡ verdict.Undecided → ask ≡ Some x → AllShow r o stored dated lines (all_unresolved_told a ps)
  all-unresolved_show x [] among undecided asked = tt
  all-unresolved_show x (p ∷ ps) among undecided asked =
      let i = among p (inl refl) in
      let u = V.open' p x i.0 undecided asked i.1 in
      all-both r o stored dated lines (unresolved_told a p.ask) (all_unresolved_told a ps) (one-unresolved p i.0 u.0 u.1)
      (all-unresolved_show x ps (λ q j. among q (inr j)) undecided asked)

  -- ---- what is left

  -- what is left to be tried, what is remembered, and what is said so far
  record Frees (again : List Message) (n : TargetMemory) (posts : List Post) : Type 0 where
    right : AllRight r o dated lines t old again
    meets : AllMeet r dated n.member.parked
    ticks : n.ticks ≤ limit_over o lines dated
    shows : AllShow r o stored dated lines posts
    reads : ReadsMeet r dated n.member.parked

  asks-right : (ps : List Parked) → ((p : Parked) → Has p ps → Has p m.member.parked) → AllRight r o dated lines t old (map parked_ask ps)
  asks-right ps among n i = let p = has-from_map parked_ask ps n i in subst (IsAskRight r o dated lines t old) p.2 (V.asks p.0 (among p.0 p.1))

  frees : (w : Verdict) → v ≡ w → Frees (verdict_heard a ask w (member_at t m)).freed.again (joins_on (verdict_heard a ask w (member_at t m)).member m) (verdict_heard a ask w (member_at t m)).freed.posts
  unfolding unresolved
  frees verdict.Committed is = record {
    right = asks-right (filter (is_parked_on a) m.member.parked) (λ p i. (has-from_filter (is_parked_on a) m.member.parked p i).0);
    meets = λ p i. meet p (has-from_filter (is_parked_elsewhere a) m.member.parked p i).0;
    ticks = within;
    shows = tt;
    reads = λ p x i at asks. V.meets p x (has-from_filter (is_parked_elsewhere a) m.member.parked p i).0 asks;
  }
  frees verdict.Aborted is = record {
    right = asks-right (filter (is_parked_on a) m.member.parked) (λ p i. (has-from_filter (is_parked_on a) m.member.parked p i).0);
    meets = λ p i. meet p (has-from_filter (is_parked_elsewhere a) m.member.parked p i).0;
    ticks = within;
    shows = tt;
    reads = λ p x i at asks. V.meets p x (has-from_filter (is_parked_elsewhere a) m.member.parked p i).0 asks;
  }
  frees verdict.Undecided is = by ask refl
    where
      by : (z : Option AttemptId) → ask ≡ z → Frees (verdict_heard a z verdict.Undecided (member_at t m)).freed.again (joins_on (verdict_heard a z verdict.Undecided (member_at t m)).member m) (verdict_heard a z verdict.Undecided (member_at t m)).freed.posts
      by None asked = record { right = λ n i. absurd i; meets = meet; ticks = within; shows = tt; reads = λ p x i at asks. V.meets p x i asks }
      by (Some x) asked = record {
        right = λ n i. absurd i;
        meets = λ p i. meet p (has-from_filter (is_not_waiting a x) m.member.parked p i).0;
        ticks = within;
        shows = all-unresolved_show x (filter (is_waiting a x) m.member.parked) (λ p i. has-from_filter (is_waiting a x) m.member.parked p i) is asked;
        reads = λ p y i at asks. V.meets p y (has-from_filter (is_not_waiting a x) m.member.parked p i).0 asks;
      }

  -- the epochs of those that are freed are within the limit
  pub freed-below : (c : ℕ) → limit_over o lines dated ≤ c → AsksBelow c (verdict_heard a ask v (member_at t m)).freed.again
  freed-below c up n i = by ((frees v refl).right n i)
    where
      low : (q : FetchRequest) (e : Epoch) → n ≡ fetch_message q → q.ep ≡ Some e → e.0 / 256 ≤ limit_over o lines dated → AskBelow c n
      low q e is own k = subst (AskBelow c) (sym is) (subst (EpochBelow c) (sym own) (sum (e.0 / 256) (limit_over o lines dated) k up))
        where
          sum : (n b : ℕ) → n ≤ b → b ≤ c → n ≤ c
          sum n b p z = omega (arith, p, z)

      by : IsAskRight r o dated lines t old n → AskBelow c n
      by (AtOwnEpoch k) = low k.q k.e k.is k.own (k.fit.request.own k.e k.own).2
      by (AtSnapshot q e is k) = low q e is k.own k.within

  -- ---- the steps

  -- a Fetch that is tried again, at its own epoch or at a snapshot
  data Tries (q : FetchRequest) (s : read.FetchStage) (k : Kept) (again : List Message) (n : TargetMemory) (posts : List Post) : Type 0 where
    TriesOwn : Frees again n posts → IsFetch r o dated lines t q → (e : Epoch) → q.ep ≡ Some e → ReadSoFar r.script t lines (top o) n reading q old s k → Tries q s k again n posts
    TriesAt : Frees again n posts → (e : Epoch) (K : IsDatedRead r o dated lines q (turn.fetcher q) e old) → ReadsSo r o lines t n reading q e old K.snapshot K.own s k → Tries q s k again n posts

  abbrev AsFar : turn.VerdictStage → Kept → Type 0
  AsFar turn.Heard k = Lasts r.script t lines (top o) old m.leader.decided k
  AsFar (turn.Freed again n posts) k = Frees again n posts × Lasts r.script t lines (top o) old n.leader.decided k
  AsFar (turn.Trying q s again n posts) k = Tries q s k again n posts

  abbrev VerdictSoFar : turn.VerdictStage → Kept → Type 0
  VerdictSoFar s k = (k.durable.snaps ≡ old.durable.snaps) × AsFar s k

  settles : (s : Option Settle) (k l : Kept) → s ≡ turn.settles_by (is_in_doubt t.me) v a k.durable → Steps (turn.settling_change a s) k l → Lasts r.script t lines (top o) old m.leader.decided k → Lasts r.script t lines (top o) old m.leader.decided l
  settles None k l is st h = lasts-rests r.script t lines (top o) old m.leader.decided k l st h
  settles (Some Commit) k l is st h = lasts-known r.script t lines (top o) old (filter (is_other_attempt a) m.leader.decided) m.leader.decided l (λ b i. (has-from_filter (is_other_attempt a) m.leader.decided b i).0) (lasts-committed r.script t lines (top o) old m.leader.decided a k l st h)
  settles (Some Abort) k l is st h = lasts-aborted r.script t lines (top o) old m.leader.decided a k l st h
  settles (Some (Confirm u)) k l is st h = absurd (no-confirm v (is_in_doubt t.me a k.durable) u is)
    where
      no-confirm : (w : Verdict) (b : Bool) (u : ℕ) → Some (Confirm u) ≡ turn.step_if b (turn.step_by w) → ⊥
      no-confirm w false u e = cc
      no-confirm verdict.Committed true u e = cc
      no-confirm verdict.Aborted true u e = cc
      no-confirm verdict.Undecided true u e = cc
  settles (Some Forget) k l is st h = absurd (no-forget v (is_in_doubt t.me a k.durable) is)
    where
      no-forget : (w : Verdict) (b : Bool) → Some Forget ≡ turn.step_if b (turn.step_by w) → ⊥
      no-forget w false e = cc
      no-forget verdict.Committed true e = cc
      no-forget verdict.Aborted true e = cc
      no-forget verdict.Undecided true e = cc

  -- what a Fetch that was done leaves known as decided
  decided-left : (q : FetchRequest) (n : TargetMemory) (s : read.FetchStage) (k : Kept) (left : TargetMemory × Did) → read.FetchEnds t n reading q (turn.fetcher q) s k left → Lasts r.script t lines (top o) old (left_at n s) k → Lasts r.script t lines (top o) old left.0.leader.decided k
  decided-left q n s k left (read.IsSpent j i plain none says) w = subst (λ x. Lasts r.script t lines (top o) old x.0.leader.decided k) (sym says) w
  decided-left q n s k left (read.IsRefused j f decided c i why says) w = subst (λ x. Lasts r.script t lines (top o) old x.0.leader.decided k) (sym says) w
  decided-left q n s k left (read.MeetsUnresolved j f decided b i none unsettled among own' says) w = subst (λ x. Lasts r.script t lines (top o) old x.0.leader.decided k) (sym says) w
  decided-left q n s k left (read.IsParked j f decided b leader i none unsettled other says) w = subst (λ x. Lasts r.script t lines (top o) old x.0.leader.decided k) (sym says) w
  decided-left q n s k left (read.IsServed j f decided b i none ok says) w = subst (λ x. Lasts r.script t lines (top o) old x.0.leader.decided k) (sym says) w

  -- one at its own epoch
  module _ (q : FetchRequest) (n : TargetMemory) (posts : List Post) (rest : List Message) (L : Frees rest n posts) (s : read.FetchStage) (k : Kept) (left : TargetMemory × Did) (ends : read.FetchEnds t n reading q (turn.fetcher q) s k left) where
    own-frees : IsFetch r o dated lines t q → (e : Epoch) → q.ep ≡ Some e → ReadSoFar r.script t lines (top o) n reading q old s k → Frees rest left.0 (posts ++ left.1.posts) × Lasts r.script t lines (top o) old left.0.leader.decided k
    own-frees fit e own so = (
      record {
        right = L.right;
        meets = subst (λ is. AllMeet r is left.0.member.parked) same f.parked;
        ticks = subst (λ is. left.0.ticks ≤ limit_over o lines is) same f.ticks;
        shows = all-both r o stored dated lines posts left.1.posts L.shows (subst (λ is. AllShow r o stored is lines left.1.posts) same f.posts);
        reads = λ p x i at asks. L.reads p x (own-waits t n reading q (turn.fetcher q) s k left fit.plain ends p i at) at asks;
      },
      decided-left q n s k left ends so.lasts,
    )
      where
        f : FetchLeft r o stored dated lines left
        f = fetch-ends r o stored dated lines t opening n reading q (turn.fetcher q) old T fit refl L.ticks L.meets s k left so ends

        none-issued : (s : read.FetchStage) (k : Kept) → read.FetchEnds t n reading q (turn.fetcher q) s k left → (z : Option Epoch) → q.ep ≡ z → z ≡ Some e → left.1.issued ≡ None
        none-issued s k g None is some = let no : ⊥ = cc in absurd no
        none-issued s k (read.IsSpent j i plain none says) (Some f) is some = ap (λ x. x.1.issued) says
        none-issued s k (read.IsRefused j f decided c i why says) (Some g) is some = ap (λ x. x.1.issued) says ∙ ap (λ ep. issued_for q.attempt ep f) is
        none-issued s k (read.MeetsUnresolved j f decided b i none unsettled among own' says) (Some g) is some = ap (λ x. x.1.issued) says ∙ ap (λ ep. issued_for q.attempt ep f) is
        none-issued s k (read.IsParked j f decided b leader i none unsettled other says) (Some g) is some = ap (λ x. x.1.issued) says ∙ ap (λ ep. issued_for q.attempt ep f) is
        none-issued s k (read.IsServed j f decided b i none ok says) (Some g) is some = ap (λ x. x.1.issued) says ∙ ap (λ ep. issued_for q.attempt ep f) is

        same : dated ++ listed left.1.issued ≡ dated
        same = ap (λ z. dated ++ listed z) (none-issued s k ends q.ep refl own) ∙ append-nil dated

    -- one at a snapshot
    at-frees : (e : Epoch) (K : IsDatedRead r o dated lines q (turn.fetcher q) e old) → ReadsSo r o lines t n reading q e old K.snapshot K.own s k → Frees rest left.0 (posts ++ left.1.posts) × Lasts r.script t lines (top o) old left.0.leader.decided k
    unfolding ReadsSo
    at-frees e K so = (
      record {
        right = L.right;
        meets = λ p i. meets p (z.parked p i);
        ticks = subst (λ b. b ≤ limit_over o lines dated) (sym z.ticks) L.ticks;
        shows = all-both r o stored dated lines posts left.1.posts L.shows (each-all r o stored dated lines left.1.posts z.posts);
        reads = λ p x i at asks. elim (z.parked p i) [
          | inl j ↦ L.reads p x j at asks
          | inr w ↦ subst (λ y. MeetsOther r dated y p.on) (subst (λ m. AsksFor m x) w.0 asks) w.1
        ];
      },
      decided-left q n s k left ends (lasts s so),
    )
      where
        z : SnapshotReadLeaves r o stored dated lines n q e old k left
        z = ends-show r o stored dated lines t opening n reading q (turn.fetcher q) e old T K s k left so ends

        meets : (p : Parked) → WaitsThen r dated q e n.member.parked p → ParkedMeets r dated p
        meets p (inl i) = L.meets p i
        meets p (inr w) = λ x f b. absurd (none-borne p.ask x f (ap reads_snapshot w.0 ∙ K.snapshot) b)

        lasts : (s : read.FetchStage) → ReadsSo r o lines t n reading q e old K.snapshot K.own s k → Lasts r.script t lines (top o) old (left_at n s) k
        lasts read.Asked h = h.0
        lasts (read.Known f) h = absurd h
        lasts (read.Reading f decided) h = h.1

  done-frees : (q : FetchRequest) (s : read.FetchStage) (k : Kept) (rest : List Message) (n : TargetMemory) (posts : List Post) (left : TargetMemory × Did) → read.FetchEnds t n reading q (turn.fetcher q) s k left → Tries q s k rest n posts
      → Frees rest left.0 (posts ++ left.1.posts) × Lasts r.script t lines (top o) old left.0.leader.decided k
  done-frees q s k rest n posts left ends (TriesOwn L fit e own so) = own-frees q n posts rest L s k left ends fit e own so
  done-frees q s k rest n posts left ends (TriesAt L e K so) = at-frees q n posts rest L s k left ends e K so

  same-request : (p q : FetchRequest) → fetch_message p ≡ fetch_message q → p ≡ q
  same-request p q e = parts p.attempt p.op p.group p.ep p.first p.tracker p.read p.snapshot q.attempt q.op q.group q.ep q.first q.tracker q.read q.snapshot (cc) (cc) (cc) (cc) (cc) (cc) (cc) (cc)
    where
      parts : (x : AttemptId) (op group : ℕ) (ep first : Option Epoch) (k : Epoch) (y : Read) (b : Bool) (x2 : AttemptId) (op2 group2 : ℕ) (ep2 first2 : Option Epoch) (k2 : Epoch) (y2 : Read) (b2 : Bool)
          → x ≡ x2 → op ≡ op2 → group ≡ group2 → ep ≡ ep2 → first ≡ first2 → k ≡ k2 → y ≡ y2 → b ≡ b2 → fetch_request x op group ep first k y b ≡ fetch_request x2 op2 group2 ep2 first2 k2 y2 b2
      parts x op group ep first k y b x2 op2 group2 ep2 first2 k2 y2 b2 e1 e2 e3 e4 e5 e6 e7 e8 = rw (e1, e2, e3, e4, e5, e6, e7, e8) refl

  -- the next one is tried
  tries : (q : FetchRequest) (k : Kept) (again : List Message) (n : TargetMemory) (posts : List Post) → Frees again n posts → IsAskRight r o dated lines t old (fetch_message q) → Lasts r.script t lines (top o) old n.leader.decided k → k.durable.snaps ≡ old.durable.snaps
      → Tries q read.Asked k again n posts
  unfolding ReadsSo
  tries q k again n posts L (AtOwnEpoch f) lasts snaps =
      let same : f.q ≡ q = same-request f.q q (sym f.is) in
      TriesOwn L (subst (IsFetch r o dated lines t) same f.fit) f.e (ap (λ z. z.ep) (sym same) ∙ f.own) (record { dated = tt; lasts = lasts })
  tries q k again n posts L (AtSnapshot p e is K) lasts snaps =
      let same : p ≡ q = same-request p q (sym is) in
      TriesAt L e (subst (λ z. IsDatedRead r o dated lines z (turn.fetcher z) e old) same K) (lasts, snaps)

  goes-on : (q : FetchRequest) (k l : Kept) (again : List Message) (n : TargetMemory) (posts : List Post) (g i : read.FetchStage) (d : Option Change) → read.FetchNext t n reading q g k d i → Steps d k l → Tries q g k again n posts → Tries q i l again n posts
  goes-on q k l again n posts g i d next st (TriesOwn L fit e own so) = TriesOwn L fit e own (read-step r.script t lines (top o) n reading q old fit.plain g k d i l next st so)
  goes-on q k l again n posts g i d next st (TriesAt L e K so) = TriesAt L e K (reads-step r o lines t n reading q e old K.snapshot K.own g k d i l next st so)

  as-far : (s : turn.VerdictStage) (k : Kept) (c : Option Change) (u : turn.VerdictStage) (l : Kept) → turn.VerdictNext (is_in_doubt t.me) t m reading a ask v s k c u → Steps c k l → VerdictSoFar s k → AsFar u l
  as-far s k c u l (turn.SettlesBy j d is) st h = (frees v refl, settles (turn.settles_by (is_in_doubt t.me) v a k.durable) k l refl (subst (λ z. Steps z k l) is st) h.1)
  as-far s k c u l (turn.TriesNext j n posts rest x op group ep first tracker y snapshot) st h =
      let q : FetchRequest = record { attempt = x; op = op; group = group; ep = ep; first = first; tracker = tracker; read = y; snapshot = snapshot } in
      tries q l rest n posts (record { right = λ n i. h.1.0.right n (inr i); meets = h.1.0.meets; ticks = h.1.0.ticks; shows = h.1.0.shows; reads = h.1.0.reads }) (h.1.0.right (fetch_message q) (inl refl)) (lasts-rests r.script t lines (top o) old n.leader.decided k l st h.1.1)
      (ap (λ z. z.durable.snaps) st ∙ h.0)
  as-far s k c u l (turn.GoesOn j n posts rest q g i d next) st h = goes-on q k l rest n posts g i d next st h.1
  as-far s k c u l (turn.IsDone j n posts rest q g left ends) st h = let z = done-frees q g k rest n posts left ends h.1 in (z.0, lasts-rests r.script t lines (top o) old left.0.leader.decided k l st z.1)

  verdict-step : (s : turn.VerdictStage) (k : Kept) (c : Option Change) (u : turn.VerdictStage) (l : Kept) → turn.VerdictNext (is_in_doubt t.me) t m reading a ask v s k c u → Steps c k l → VerdictSoFar s k → VerdictSoFar u l
  verdict-step s k c u l next st h = (step-leaves (λ d. d.snaps) snaps-made c k l (verdict-plain (is_in_doubt t.me) t m reading a ask v s k c u next) st ∙ h.0, as-far s k c u l next st h)

  verdict-ends : (n : ℕ) (s : turn.VerdictStage) (k : Kept) (left : TargetMemory × Did) → turn.VerdictEnds s k left → VerdictSoFar s k → Leaves r o stored dated lines n old k left
  verdict-ends me s k left (turn.AllTried j n posts i is) h = subst (Leaves r o stored dated lines me old k) (sym is) (record {
    posts = all-more r o (stored_by me old.durable k.durable) stored dated [] lines posts h.1.0.shows;
    ticks = subst (λ is'. n.ticks ≤ limit_over o lines is') (sym (append-nil dated)) h.1.0.ticks;
    dated = λ x e z. let no : ⊥ = cc in absurd no;
    space = space-same r.script me stored old k h.1.1.free;
    parked = meet-more r dated [] n.member.parked h.1.0.meets;
  })

  -- a turn that hears a Verdict
  pub verdict-leaves : (n : ℕ) (new : Kept) (left : TargetMemory × Did) → Whole (turn.VerdictNext (is_in_doubt t.me) t m reading a ask v) turn.VerdictEnds turn.Heard old new left → Leaves r o stored dated lines n old new left
  verdict-leaves n new left w =
      verdict-ends n w.last new left w.ends
      (path-keeps (turn.VerdictNext (is_in_doubt t.me) t m reading a ask v) VerdictSoFar verdict-step turn.Heard old w.reached.did w.last new w.reached.path (refl, lasts-here r.script t lines (top o) old m.leader.decided opens))

  verdict-meet : (s : turn.VerdictStage) (k : Kept) (left : TargetMemory × Did) → turn.VerdictEnds s k left → VerdictSoFar s k → ReadsMeet r dated left.0.member.parked
  verdict-meet s k left (turn.AllTried j n posts i is) h = subst (λ y. ReadsMeet r dated y.0.member.parked) (sym is) h.1.0.reads

  -- reads at snapshots that wait then meet what they wait for
  pub verdict-reads_meet : (new : Kept) (left : TargetMemory × Did) → Whole (turn.VerdictNext (is_in_doubt t.me) t m reading a ask v) turn.VerdictEnds turn.Heard old new left → ReadsMeet r dated left.0.member.parked
  verdict-reads_meet new left w =
      verdict-meet w.last new left w.ends
      (path-keeps (turn.VerdictNext (is_in_doubt t.me) t m reading a ask v) VerdictSoFar verdict-step turn.Heard old w.reached.did w.last new w.reached.path (refl, lasts-here r.script t lines (top o) old m.leader.decided opens))
