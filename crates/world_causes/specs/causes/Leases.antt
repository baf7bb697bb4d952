-- The leases of targets are within a bound: each was stored for ticks within the limit.
use Rattle.std.specs.Prelude.{ℕ, ◌≡◌, ◌≤◌, ◌<◌, ◌+◌, ◌*◌, ◌/◌, ◌++◌, Bool, true, false, min, nat_le, List, length, Option, Some, None, refl, if◌then◌else◌}
use Rattle.std.specs.Int.{div_ceil}
use Rattle.std.proofs.Common.{inl, inr, sym, ◌∙◌, ap, subst, arith}
use Rattle.std.proofs.lemmas.Grind.{div_ceil_times}
use Rattle.base_types.specs.declared.entry.Settle.{Settle}
use Rattle.base_types.specs.declared.entry.Verdict.{Verdict}
use Rattle.base_types.specs.declared.epoch.Epoch.{Epoch}
use Rattle.base_types.specs.declared.id.AttemptId.{AttemptId}
use Rattle.base_types.specs.declared.outcome.FloorWhy.{FloorWhy}
use Rattle.base_types.specs.declared.outcome.Outcome.{Outcome}
use Rattle.base_types.specs.Epochs.{last_ticks, lease_for}
use Rattle.base_messages.specs.declared.actor.ActorId.{ActorId}
use Rattle.base_messages.specs.declared.message.Message.{Message}
use Rattle.base_messages.specs.declared.message.Message.TheVariants as message
use Rattle.model_laws.specs.Members.{Has}
use Rattle.daos_model.specs.declared.durable.Durable.{Durable}
use Rattle.daos_model.specs.Opening.{Opening}
use Rattle.dtx_base.specs.Joining.{verdict_heard}
use Rattle.world_base.specs.declared.did.Did.{Did}
use Rattle.world_base.specs.declared.letter.Letter.{Letter}
use Rattle.world_base.specs.declared.request.CommitRequest.{CommitRequest}
use Rattle.world_base.specs.declared.request.FetchRequest.{FetchRequest}
use Rattle.world_base.specs.declared.request.PrepareRequest.{PrepareRequest}
use Rattle.world_base.specs.declared.target.TargetMemory.{TargetMemory}
use Rattle.world_base.specs.declared.target.TargetPlan.{TargetPlan}
use Rattle.world_base.specs.declared.target.TargetState.{TargetState}
use Rattle.world_base.specs.declared.world.World.{World}
use Rattle.world_base.specs.Acks as ack
use Rattle.world_base.specs.ChangeLaws.{lease-leased, lease-prepared, lease-settled}
use Rattle.world_base.specs.Changes.{Change, Creates, Extends, Freezes, Kept, Prepares, Prunes, Settles, Steps}
use Rattle.world_base.specs.Commits as commit
use Rattle.world_base.specs.Idle.{IdleNext, SettlesFirst}
use Rattle.world_base.specs.Marks as mark
use Rattle.world_base.specs.PathLaws.{reached-keeps}
use Rattle.world_base.specs.Prepares as prepare
use Rattle.world_base.specs.Reads as read
use Rattle.world_base.specs.Requests.{request_epoch}
use Rattle.world_base.specs.RightTurns.{HearsRightly}
use Rattle.world_base.specs.Roles.{is_in_doubt, member_at}
use Rattle.world_base.specs.Turns.{Whole}
use Rattle.world_base.specs.Verdicts as verdict
use Rattle.world_base.specs.Events.{Rules, TargetHearsRightly, TargetIdles, kept, listed, target_plan}
use Rattle.world_base.specs.Requests.{issued_for}
use Rattle.world_base.specs.TargetTurns.{commit_request, fetch_request, prepare_request}
use Rattle.world_causes.specs.causes.Causes.{Dated, Stored}
use Rattle.world_causes.specs.causes.Dates.{limit-more, limit-rises, request-dated}
use Rattle.world_causes.specs.causes.Heard.{IsHeardAs}
use Rattle.world_causes.specs.causes.Premises.{IsRequest}
use Rattle.world_causes.specs.causes.Shown.{Causes, limit_over}

-- ---- a lease for some ticks

-- it is at most so far above them
pub lease-near : (n l c : ℕ) → n ≤ c → lease_for n ≡ Some l → l ≤ c + 65535
lease-near n l c low h = near last_ticks h
  where
    up : div_ceil n 65536 * 65536 < n + 65536
    up = (div_ceil_times n 65536 (omega arith)).1

    least : (a b : ℕ) → b < n + 65536 → min a b ≡ l → l ≤ c + 65535
    least a b q e = omega (arith, low, q, e)

    near : (last : ℕ) → (if nat_le n last then Some (min last (div_ceil n 65536 * 65536)) else None) ≡ Some l → l ≤ c + 65535
    near last f = by (nat_le n last) f
      where
        by : (b : Bool) → (if b then Some (min last (div_ceil n 65536 * 65536)) else None) ≡ Some l → l ≤ c + 65535
        by true g = let same : min last (div_ceil n 65536 * 65536) ≡ l = cc in least last (div_ceil n 65536 * 65536) up same
        by false g = let no : ⊥ = cc in absurd no

-- ---- changes

-- a change leaves the lease, or extends it to so much at most
abbrev pub ExtendsTo : ℕ → Option Change → Type 0
ExtendsTo b None = Unit {0}
ExtendsTo b (Some (Extends ticks)) = ticks ≤ b
ExtendsTo b (Some (Prepares e ws)) = Unit {0}
ExtendsTo b (Some (Settles a step)) = Unit {0}
ExtendsTo b (Some (Freezes c s)) = ⊥
ExtendsTo b (Some (Creates c s)) = ⊥
ExtendsTo b (Some (Prunes c upto n)) = ⊥

pub lease-to : (b : ℕ) (o : Option Change) (k l : Kept) → Steps o k l → ExtendsTo b o → k.durable.lease ≤ b → l.durable.lease ≤ b
lease-to b None k l st to low = subst (λ z. z.durable.lease ≤ b) (sym st) low
lease-to b (Some (Extends ticks)) k l st to low = subst (λ n. n ≤ b) (sym (ap (λ d. d.lease) st.0 ∙ lease-leased ticks k.durable)) to
lease-to b (Some (Prepares e ws)) k l st to low = subst (λ n. n ≤ b) (sym (ap (λ d. d.lease) st.0 ∙ lease-prepared e ws k.durable)) low
lease-to b (Some (Settles a step)) k l st to low = subst (λ n. n ≤ b) (sym (ap (λ d. d.lease) st.0 ∙ lease-settled a step k.durable)) low
lease-to b (Some (Freezes c s)) k l st to low = absurd to
lease-to b (Some (Creates c s)) k l st to low = absurd to
lease-to b (Some (Prunes c upto n)) k l st to low = absurd to

-- a turn whose steps do so, at stages of which this is so
pub whole-to : {S R : Type 0} (Next : S → Kept → Option Change → S → Type 0) (Ends : S → Kept → R → Type 0) (start : S) (old new : Kept) (result : R) (b : ℕ) (P : S → Type 0) → P start
    → ((s : S) (k : Kept) (o : Option Change) (u : S) → Next s k o u → P s → P u × ExtendsTo b o) → old.durable.lease ≤ b → Whole Next Ends start old new result → new.durable.lease ≤ b
whole-to Next Ends start old new result b P first each low w =
    (reached-keeps Next (λ s k. P s × (k.durable.lease ≤ b)) (λ s k o u l next steps p. let e = each s k o u next p.0 in (e.0, lease-to b o k l steps e.1 p.1)) start old w.last new w.reached (first, low)).1

-- ---- turns

abbrev pub EpochBelow : ℕ → Option Epoch → Type 0
EpochBelow c None = ⊥
EpochBelow c (Some e) = e.0 / 256 ≤ c

abbrev pub AskBelow : ℕ → Message → Type 0
AskBelow c (message.Fetch x op group ep first tracker r snapshot) = EpochBelow c ep
AskBelow c m = Unit {0}

abbrev pub AsksBelow : ℕ → List Message → Type 0
AsksBelow c ms = (m : Message) → Has m ms → AskBelow c m

-- a request's epoch is below a bound
abbrev pub IsDatedBelow : ℕ → TargetPlan → TargetMemory → ℕ → Epoch → Option Epoch → Type 0
IsDatedBelow c t m reading tracker ep = (e : Epoch) → request_epoch t m reading tracker ep ≡ Some e → e.0 / 256 ≤ c

below-known : (c : ℕ) (t : TargetPlan) (m : TargetMemory) (reading : ℕ) (tracker : Epoch) (ep : Option Epoch) → EpochBelow c ep → IsDatedBelow c t m reading tracker ep
below-known c t m reading tracker None low e is = absurd low
below-known c t m reading tracker (Some own) low e is = let same : own ≡ e = cc in subst (λ z. z.0 / 256 ≤ c) same low

module _ (c : ℕ) where
  abbrev pub FetchBelow : read.FetchStage → Type 0
  FetchBelow read.Asked = Unit {0}
  FetchBelow (read.Known e) = e.0 / 256 ≤ c
  FetchBelow (read.Reading e decided) = Unit {0}

  pub fetch-to : (t : TargetPlan) (m : TargetMemory) (reading : ℕ) (q : FetchRequest) → IsDatedBelow c t m reading q.tracker q.ep → (s : read.FetchStage) (k : Kept) (o : Option Change) (u : read.FetchStage)
      → read.FetchNext t m reading q s k o u → FetchBelow s → FetchBelow u × ExtendsTo (c + 65535) o
  fetch-to t m reading q low s k o u (read.AtSnapshot j e at is) p = (tt, tt)
  fetch-to t m reading q low s k o u (read.HasEpoch j e at is) p = (low e is, tt)
  fetch-to t m reading q low s k o u (read.ExtendsLease j e lease less is) p = (p, lease-near (e.0 / 256) lease c p is)
  fetch-to t m reading q low s k o u (read.IsCovered j e less) p = (tt, tt)
  fetch-to t m reading q low s k o u (read.SettlesOwn j e decided a none unsettled among) p = (tt, tt)

  abbrev pub CommitBelow : commit.CommitStage → Type 0
  CommitBelow commit.Asked = Unit {0}
  CommitBelow (commit.Known e) = e.0 / 256 ≤ c
  CommitBelow (commit.Checking e) = Unit {0}
  CommitBelow (commit.Stored e) = Unit {0}

  pub commit-to : (t : TargetPlan) (opening : Epoch × FloorWhy) (m : TargetMemory) (reading : ℕ) (q : CommitRequest) → IsDatedBelow c t m reading q.tracker q.ep → (s : commit.CommitStage) (k : Kept) (o : Option Change) (u : commit.CommitStage)
      → commit.CommitNext t opening m reading q s k o u → CommitBelow s → CommitBelow u × ExtendsTo (c + 65535) o
  commit-to t opening m reading q low s k o u (commit.HasEpoch j e is) p = (low e is, tt)
  commit-to t opening m reading q low s k o u (commit.ExtendsLease j e lease less is) p = (p, lease-near (e.0 / 256) lease c p is)
  commit-to t opening m reading q low s k o u (commit.IsCovered j e less) p = (tt, tt)
  commit-to t opening m reading q low s k o u (commit.Stores j e allowed space) p = (tt, tt)

  pub prepare-to : (t : TargetPlan) (opening : Epoch × FloorWhy) (m : TargetMemory) (q : PrepareRequest) → q.entry.epoch.0 / 256 ≤ c → (s : prepare.PrepareStage) (k : Kept) (o : Option Change) (u : prepare.PrepareStage)
      → prepare.PrepareNext t opening m q s k o u → Unit {0} → Unit {0} × ExtendsTo (c + 65535) o
  prepare-to t opening m q low s k o u (prepare.ExtendsLease j lease less is) p = (tt, lease-near (q.entry.epoch.0 / 256) lease c low is)
  prepare-to t opening m q low s k o u (prepare.IsCovered j less) p = (tt, tt)
  prepare-to t opening m q low s k o u (prepare.Stores j allowed space) p = (tt, tt)

  pub ack-to : (t : TargetPlan) (m : TargetMemory) (member : ℕ) (a : AttemptId) (inc : ℕ) (refusal : Option Outcome) (s : ack.AckStage) (k : Kept) (o : Option Change) (u : ack.AckStage)
      → ack.AckNext t m member a inc refusal s k o u → Unit {0} → Unit {0} × ExtendsTo (c + 65535) o
  ack-to t m member a inc refusal s k o u (ack.Aborts j is) p = (tt, tt)
  ack-to t m member a inc refusal s k o u (ack.Counts j is) p = (tt, tt)

  pub mark-to : (is_due : AttemptId → Durable → Bool) (s : List (AttemptId × Bool)) (k : Kept) (o : Option Change) (u : List (AttemptId × Bool)) → mark.MarkNext is_due s k o u → Unit {0} → Unit {0} × ExtendsTo (c + 65535) o
  mark-to is_due s k o u (mark.SettlesMarked j a committed rest is) p = (tt, tt)
  mark-to is_due s k o u (mark.PassesBy j a committed rest is) p = (tt, tt)

  pub marked-to : (t : TargetPlan) (m : TargetMemory) (member : ℕ) (s : List AttemptId) (k : Kept) (o : Option Change) (u : List AttemptId) → ack.MarkedNext t m member s k o u → Unit {0} → Unit {0} × ExtendsTo (c + 65535) o
  marked-to t m member s k o u (ack.Confirms j a rest is) p = (tt, tt)
  marked-to t m member s k o u (ack.PassesBy j a rest is) p = (tt, tt)

  pub query-to : (s : verdict.QueryStage) (k : Kept) (o : Option Change) (u : verdict.QueryStage) → verdict.QueryNext s k o u → Unit {0} → Unit {0} × ExtendsTo (c + 65535) o
  query-to s k o u (verdict.Answers j) p = (tt, tt)

  module _ (is_due : AttemptId → Durable → Bool) (t : TargetPlan) (m : TargetMemory) (reading : ℕ) (a : AttemptId) (ask : Option AttemptId) (v : Verdict) where
    abbrev pub VerdictBelow : verdict.VerdictStage → Type 0
    VerdictBelow verdict.Heard = AsksBelow c (verdict_heard a ask v (member_at t m)).freed.again
    VerdictBelow (verdict.Freed asks n posts) = AsksBelow c asks
    VerdictBelow (verdict.Trying q s asks n posts) = EpochBelow c q.ep × FetchBelow s × AsksBelow c asks

    settling-to : (step : Option Settle) → ExtendsTo (c + 65535) (verdict.settling_change a step)
    settling-to None = tt
    settling-to (Some step) = tt

    pub verdict-to : (s : verdict.VerdictStage) (k : Kept) (o : Option Change) (u : verdict.VerdictStage) → verdict.VerdictNext is_due t m reading a ask v s k o u → VerdictBelow s → VerdictBelow u × ExtendsTo (c + 65535) o
    verdict-to s k o u (verdict.SettlesBy j z is) p = (p, subst (ExtendsTo (c + 65535)) (sym is) (settling-to (verdict.settles_by is_due v a k.durable)))
    verdict-to s k o u (verdict.TriesNext j n posts rest x op group ep first tracker r snapshot) p = ((p (message.Fetch x op group ep first tracker r snapshot) (inl refl), tt, λ z i. p z (inr i)), tt)
    verdict-to s k o u (verdict.GoesOn j n posts rest q i z w next) p = let e = fetch-to t n reading q (below-known c t n reading q.tracker q.ep p.0) i k o z next p.1 in ((p.0, e.0, p.2), e.1)
    verdict-to s k o u (verdict.IsDone j n posts rest q i left ends) p = (p.2, tt)

  pub idle-to : (s : List AttemptId) (k : Kept) (o : Option Change) (u : List AttemptId) → IdleNext s k o u → Unit {0} → Unit {0} × ExtendsTo (c + 65535) o
  idle-to s k o u (SettlesFirst j a rest) p = (tt, tt)

-- what a target hears tells of no epoch above a bound
abbrev pub HeardBelow : ℕ → TargetPlan → TargetMemory → ℕ → Message → Type 0
HeardBelow c t m reading (message.Fetch x op group ep first tracker r snapshot) = IsDatedBelow c t m reading tracker ep
HeardBelow c t m reading (message.Commit x ep first tracker ws) = IsDatedBelow c t m reading tracker ep
HeardBelow c t m reading (message.Prepare e first ws inc) = e.epoch.0 / 256 ≤ c
HeardBelow c t m reading (message.Verdict x ask inc v) = AsksBelow c (verdict_heard x ask v (member_at t m)).freed.again
HeardBelow c t m reading q = Unit {0}

rightly-to : (c : ℕ) (t : TargetPlan) (opening : Epoch × FloorWhy) (m : TargetMemory) (reading : ℕ) (from : ActorId) (q : Message) (old new : Kept) (left : TargetMemory × Did) → HeardBelow c t m reading q → old.durable.lease ≤ c + 65535
    → HearsRightly t opening m reading from q old new left → new.durable.lease ≤ c + 65535
rightly-to c t opening m reading from (message.Fetch x op group ep first tracker r snapshot) old new left below low h =
    whole-to _ _ _ old new left (c + 65535) (FetchBelow c) tt (fetch-to c t m reading (fetch_request x op group ep first tracker r snapshot) below) low h
rightly-to c t opening m reading from (message.Commit x ep first tracker ws) old new left below low h =
    whole-to _ _ _ old new left (c + 65535) (CommitBelow c) tt (commit-to c t opening m reading (commit_request x ep first tracker ws) below) low h
rightly-to c t opening m reading from (message.Prepare e first ws inc) old new left below low h =
    whole-to _ _ _ old new left (c + 65535) (λ s. Unit {0}) tt (prepare-to c t opening m (prepare_request e first ws inc) below) low h
rightly-to c t opening m reading from (message.Ack x inc refusal) old new left below low h = whole-to _ _ _ old new left (c + 65535) (λ s. Unit {0}) tt (ack-to c t m from.number x inc refusal) low h
rightly-to c t opening m reading from (message.Mark inc marks) old new left below low h = whole-to _ _ _ old new left (c + 65535) (λ s. Unit {0}) tt (mark-to c (is_in_doubt t.me)) low h
rightly-to c t opening m reading from (message.Marked inc ids) old new left below low h = whole-to _ _ _ old new left (c + 65535) (λ s. Unit {0}) tt (marked-to c t m from.number) low h
rightly-to c t opening m reading from (message.Query x ask) old new left below low h = whole-to _ _ _ old new left (c + 65535) (λ s. Unit {0}) tt (query-to c) low h
rightly-to c t opening m reading from (message.Verdict x ask inc v) old new left below low h =
    whole-to _ _ _ old new left (c + 65535) (VerdictBelow c (is_in_doubt t.me) t m reading x ask v) below (verdict-to c (is_in_doubt t.me) t m reading x ask v) low h
rightly-to c t opening m reading from q old new left below low h = absurd h

-- ---- what a target hears

listed-few : (i : Option (AttemptId × Epoch)) → length (listed i) ≤ 1
listed-few None = omega arith
listed-few (Some i) = omega arith

-- a request's epoch is at most one above the limit
pub request-below : (r : Rules) (o : Opening) (w : World) (t : ℕ) (m : TargetMemory) → m.ticks ≤ limit_over o w.lines w.issued → (reading : ℕ) (x : AttemptId) (ep first : Option Epoch) (tracker : Epoch) → t < 256 → IsRequest o w.issued w.lines x ep first tracker
    → IsDatedBelow (limit_over o w.lines w.issued + 1) (target_plan r t) m reading tracker ep
request-below r o w t m ticks reading x ep first tracker few k e is =
    let d = request-dated o w.issued w.lines x ep first tracker (target_plan r t) m reading e few ticks k is in
    by (limit_over o w.lines w.issued) (length (listed (issued_for x ep e))) (listed-few (issued_for x ep e)) (subst (λ n. e.0 / 256 ≤ n) (limit-more o w.lines w.issued (listed (issued_for x ep e))) d.within)
  where
    by : (b n : ℕ) → n ≤ 1 → e.0 / 256 ≤ b + n → e.0 / 256 ≤ b + 1
    by b n few low = omega (arith, few, low)

module _ (r : Rules) (o : Opening) (stored : Stored) (w : World) (t : ℕ) (s : TargetState) (l : Letter) (K : IsHeardAs r o stored w t s l) (ticks : s.memory.ticks ≤ limit_over o w.lines w.issued) where
  abbrev bound : ℕ
  bound = limit_over o w.lines w.issued + 1

  within : (n : ℕ) → n ≤ limit_over o w.lines w.issued → n ≤ bound
  within n low = by (limit_over o w.lines w.issued) low
    where
      by : (b : ℕ) → n ≤ b → n ≤ b + 1
      by b k = omega (arith, k)

  dated : (reading : ℕ) (x : AttemptId) (ep first : Option Epoch) (tracker : Epoch) → t < 256 → IsRequest o w.issued w.lines x ep first tracker → IsDatedBelow bound (target_plan r t) s.memory reading tracker ep
  dated reading x ep first tracker few k = request-below r o w t s.memory ticks reading x ep first tracker few k

  pub heard-below : (reading : ℕ) (m : Message) → l.message ≡ m → HeardBelow bound (target_plan r t) s.memory reading m
  heard-below reading (message.Fetch x op group ep first tracker y snapshot) is = let f = K.fetch (fetch_request x op group ep first tracker y snapshot) is in dated reading x ep first tracker f.0.few f.0.request
  heard-below reading (message.Commit x ep first tracker ws) is = let c = K.commit (commit_request x ep first tracker ws) is in dated reading x ep first tracker c.0.few c.0.request
  heard-below reading (message.Prepare e first ws inc) is = let p = K.prepare (prepare_request e first ws inc) is in within (e.epoch.0 / 256) (K.at.target.dates e.attempt e.epoch p.issued_to)
  heard-below reading (message.Verdict x ask inc y) is = absurd (K.verdict x ask inc y is)
  heard-below reading m is = tt

-- a lease that a turn leaves
abbrev pub IsLeasedBelow : Opening → World → Kept → Type 0
IsLeasedBelow o w k = k.durable.lease ≤ limit_over o w.lines w.issued + 1 + 65535

pub was-leased : (o : Opening) (w : World) (k : Kept) → k.durable.lease ≤ limit_over o w.lines w.issued + 65536 → IsLeasedBelow o w k
was-leased o w k low = by (limit_over o w.lines w.issued) low
  where
    by : (b : ℕ) → k.durable.lease ≤ b + 65536 → k.durable.lease ≤ b + 1 + 65535
    by b k = omega (arith, k)

pub leased-near : (o : Opening) (w : World) (more : Dated) (k : Kept) → IsLeasedBelow o w k → k.durable.lease ≤ limit_over o w.lines (w.issued ++ more) + 65536
leased-near o w more k low = by (limit_over o w.lines w.issued) (limit_over o w.lines (w.issued ++ more)) low (limit-rises o w.lines w.issued more)
  where
    by : (a b : ℕ) → k.durable.lease ≤ a + 1 + 65535 → a ≤ b → k.durable.lease ≤ b + 65536
    by a b p q = omega (arith, p, q)

-- a target that hears
pub hears-leased : (r : Rules) (o : Opening) (stored : Stored) (w v : World) (g : TargetHearsRightly r w v) → IsHeardAs r o stored w g.t g.s g.l → Causes r o stored w → IsLeasedBelow o w g.new
hears-leased r o stored w v g K C =
    rightly-to (limit_over o w.lines w.issued + 1) (target_plan r g.t) g.s.opening g.s.memory g.reading g.l.from g.l.message (kept g.s) g.new (g.memory, g.did)
    (heard-below r o stored w g.t g.s g.l K (C.bounded.ticks g.t g.s g.here g.runs) g.reading g.l.message refl) (was-leased o w (kept g.s) (C.bounded.leases g.t g.s g.here)) g.turn

-- one that does its idle work
pub idles-leased : (r : Rules) (o : Opening) (stored : Stored) (w v : World) (g : TargetIdles r w v) → Causes r o stored w → IsLeasedBelow o w g.new
idles-leased r o stored w v g C =
    whole-to _ _ _ (kept g.s) g.new (g.memory, g.did) (limit_over o w.lines w.issued + 1 + 65535) (λ s. Unit {0}) tt (idle-to (limit_over o w.lines w.issued + 1)) (was-leased o w (kept g.s) (C.bounded.leases g.t g.s g.here)) g.turn
