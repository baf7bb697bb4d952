-- Which attempts have entries at a target after a turn, or where it was cut: those that had, and those that the turn brings.
use Rattle.std.specs.Prelude.{ℕ, ◌≡◌, ◌≤◌, ◌<◌, ◌/◌, Bool, true, List, Option, Some, None, refl}
use Rattle.std.proofs.Common.{sym, ◌∙◌, subst, arith}
use Rattle.base_types.specs.declared.entry.Settle.{Settle}
use Rattle.base_types.specs.declared.entry.Verdict.{Verdict}
use Rattle.base_types.specs.declared.epoch.Epoch.{Epoch}
use Rattle.base_types.specs.declared.id.AttemptId.{AttemptId}
use Rattle.base_types.specs.declared.outcome.FloorWhy.{FloorWhy}
use Rattle.base_types.specs.declared.outcome.Outcome.{Outcome}
use Rattle.base_types.specs.Epochs.{lease_for}
use Rattle.base_messages.specs.declared.actor.ActorId.{ActorId}
use Rattle.base_messages.specs.declared.message.Message.{Message, more_of-Message}
use Rattle.base_messages.specs.declared.message.Message.TheVariants as message
use Rattle.daos_model.specs.declared.durable.Durable.{Durable}
use Rattle.world_base.specs.declared.did.Did.{Did}
use Rattle.world_base.specs.declared.request.CommitRequest.{CommitRequest}
use Rattle.world_base.specs.declared.request.FetchRequest.{FetchRequest}
use Rattle.world_base.specs.declared.request.PrepareRequest.{PrepareRequest}
use Rattle.world_base.specs.declared.target.TargetMemory.{TargetMemory}
use Rattle.world_base.specs.declared.target.TargetPlan.{TargetPlan}
use Rattle.world_base.specs.Acks as ack
use Rattle.world_base.specs.ChangeLaws.{conts-made}
use Rattle.world_base.specs.Changes.{Change, Creates, Extends, Freezes, IsPlainly, Kept, Prepares, Prunes, Settles, Steps}
use Rattle.world_base.specs.Commits as commit
use Rattle.world_base.specs.CutTurns.{CutTurn, Cutting, HearingIsCut, IdleWorkIsCut}
use Rattle.world_base.specs.Further.{HearsFurther}
use Rattle.world_base.specs.Idle.{IdleNext, SettlesFirst}
use Rattle.world_base.specs.Marks as mark
use Rattle.world_base.specs.PathLaws.{reached-keeps, step-leaves}
use Rattle.world_base.specs.Prepares as prepare
use Rattle.world_base.specs.Reads as read
use Rattle.world_base.specs.Roles.{is_prepared, told_by}
use Rattle.world_base.specs.Statuses.{Looks, NoChange, status_refusal}
use Rattle.world_base.specs.TargetTurns.{Hears, IdlesWhole, commit_request, fetch_request, prepare_request}
use Rattle.world_base.specs.Turns.{Whole}
use Rattle.world_base.specs.Verdicts as verdict
use Rattle.world_contents.specs.world_letters.epochs.FetchTurns.{lease-covers}
use Rattle.world_contents.specs.world_letters.epochs.Sayings.{AreKnown, Known, Stays, StepFits, step-stays}
use Rattle.world_causes.specs.restarts.CutLaws.{commit-is-cut}
use Rattle.world_causes.specs.restarts.Cuts.{cut-keeps}
use Rattle.world_contents.specs.world_commit.statuses.Heard.{is_of_attempts}
use Rattle.world_contents.specs.world_commit.stops.CutEvents.{is_without_snapshots}

-- ---- steps

-- each step stores no entry but a known one, and makes no snapshot
abbrev pub AllFit : Known → {S : Type 0} → (S → Kept → Option Change → S → Type 0) → Type 0
AllFit P {S} Next = (s : S) (k : Kept) (o : Option Change) (u : S) → Next s k o u → StepFits P k o

module _ (P : Known) where
  pub fits-plain : (k : Kept) (o : Option Change) → StepFits P k o → IsPlainly o
  fits-plain k None fits = tt
  fits-plain k (Some (Extends ticks)) fits = refl
  fits-plain k (Some (Prepares e ws)) fits = refl
  fits-plain k (Some (Settles a step)) fits = refl
  fits-plain k (Some (Freezes c s)) fits = absurd fits
  fits-plain k (Some (Creates c s)) fits = absurd fits
  fits-plain k (Some (Prunes c upto n)) fits = absurd fits

  extends-fits : (d : Durable) (n lease : ℕ) → d.lease < n → lease_for n ≡ Some lease → d.lease ≤ lease
  extends-fits d n lease less is = let up : n ≤ lease = lease-covers n lease is in omega (arith, less, up)

  pub fetch-fits : (t : TargetPlan) (m : TargetMemory) (reading : ℕ) (q : FetchRequest) → AllFit P (read.FetchNext t m reading q)
  fetch-fits t m reading q s k o u (read.AtSnapshot j e at is) = tt
  fetch-fits t m reading q s k o u (read.HasEpoch j e at is) = tt
  fetch-fits t m reading q s k o u (read.ExtendsLease j e lease low is) = extends-fits k.durable (e.0 / 256) lease low is
  fetch-fits t m reading q s k o u (read.IsCovered j e low) = tt
  fetch-fits t m reading q s k o u (read.SettlesOwn j e decided a none unsettled among) = tt

  pub commit-fits : (t : TargetPlan) (opening : Epoch × FloorWhy) (m : TargetMemory) (reading : ℕ) (q : CommitRequest) → ((e : Epoch) → P q.attempt e) → AllFit P (commit.CommitNext t opening m reading q)
  commit-fits t opening m reading q own s k o u (commit.HasEpoch j e is) = tt
  commit-fits t opening m reading q own s k o u (commit.ExtendsLease j e lease low is) = extends-fits k.durable (e.0 / 256) lease low is
  commit-fits t opening m reading q own s k o u (commit.IsCovered j e low) = tt
  commit-fits t opening m reading q own s k o u (commit.Stores j e allowed space) = own e

  pub prepare-fits : (t : TargetPlan) (opening : Epoch × FloorWhy) (m : TargetMemory) (q : PrepareRequest) → P q.entry.attempt q.entry.epoch → AllFit P (prepare.PrepareNext t opening m q)
  prepare-fits t opening m q own s k o u (prepare.ExtendsLease j lease low is) = extends-fits k.durable (q.entry.epoch.0 / 256) lease low is
  prepare-fits t opening m q own s k o u (prepare.IsCovered j low) = tt
  prepare-fits t opening m q own s k o u (prepare.Stores j allowed space) = own

  pub ack-fits : (t : TargetPlan) (m : TargetMemory) (member : ℕ) (a : AttemptId) (inc : ℕ) (refusal : Option Outcome) → AllFit P (ack.AckNext t m member a inc refusal)
  ack-fits t m member a inc refusal s k o u (ack.Aborts j is) = tt
  ack-fits t m member a inc refusal s k o u (ack.Counts j is) = tt

  pub mark-fits : (is_due : AttemptId → Durable → Bool) → AllFit P (mark.MarkNext is_due)
  mark-fits is_due s k o u (mark.SettlesMarked j a committed rest is) = tt
  mark-fits is_due s k o u (mark.PassesBy j a committed rest is) = tt

  pub marked-fits : (t : TargetPlan) (m : TargetMemory) (member : ℕ) → AllFit P (ack.MarkedNext t m member)
  marked-fits t m member s k o u (ack.Confirms j a rest is) = tt
  marked-fits t m member s k o u (ack.PassesBy j a rest is) = tt

  pub query-fits : AllFit P verdict.QueryNext
  query-fits s k o u (verdict.Answers j) = tt

  pub look-fits : AllFit P NoChange
  look-fits s k o u (Looks j) = tt

  settling-fits : (k : Kept) (a : AttemptId) (step : Option Settle) → StepFits P k (verdict.settling_change a step)
  settling-fits k a None = tt
  settling-fits k a (Some step) = tt

  pub verdict-fits : (is_due : AttemptId → Durable → Bool) (t : TargetPlan) (m : TargetMemory) (reading : ℕ) (a : AttemptId) (ask : Option AttemptId) (v : Verdict) → AllFit P (verdict.VerdictNext is_due t m reading a ask v)
  verdict-fits is_due t m reading a ask v s k o u (verdict.SettlesBy j p is) = subst (StepFits P k) (sym is) (settling-fits k a (verdict.settles_by is_due v a k.durable))
  verdict-fits is_due t m reading a ask v s k o u (verdict.TriesNext j n posts rest x op group ep first tracker r snapshot) = tt
  verdict-fits is_due t m reading a ask v s k o u (verdict.GoesOn j n posts rest q i z p next) = fetch-fits t n reading q i k o z next
  verdict-fits is_due t m reading a ask v s k o u (verdict.IsDone j n posts rest q i left ends) = tt

  pub idle-fits : AllFit P IdleNext
  idle-fits s k o u (SettlesFirst j a rest) = tt

  -- ---- turns

  -- known entries alone are kept, the lease is no lower, and the containers are the same
  pub record KeptSo (old d : Durable) : Type 0 where
    pub lease : old.lease ≤ d.lease
    pub entries : AreKnown P d.entries
    pub conts : d.conts ≡ old.conts

  kept-stays : (old : Durable) (k : Kept) → KeptSo old k.durable → Stays P old.lease k
  kept-stays old k so = record { lease = so.lease; entries = so.entries }

  step-kept : (old : Durable) (o : Option Change) (k l : Kept) → StepFits P k o → Steps o k l → KeptSo old k.durable → KeptSo old l.durable
  step-kept old o k l fits steps so =
      let z = (step-stays P old.lease o k l fits steps (kept-stays old k so)).0 in
      record { lease = z.lease; entries = z.entries; conts = step-leaves (λ d. d.conts) conts-made o k l (fits-plain k o fits) steps ∙ so.conts }

  kept-same : (old : Kept) → AreKnown P old.durable.entries → KeptSo old.durable old.durable
  kept-same old known = record { lease = omega arith; entries = known; conts = refl }

  -- so it is after a turn whose steps fit, and where it was cut
  pub whole-kept : {S R : Type 0} (Next : S → Kept → Option Change → S → Type 0) (Ends : S → Kept → R → Type 0) → AllFit P Next → (start : S) (old new : Kept) (left : R) → Whole Next Ends start old new left → AreKnown P old.durable.entries
      → KeptSo old.durable new.durable
  whole-kept Next Ends fits start old new left w known =
      reached-keeps Next (λ s k. KeptSo old.durable k.durable) (λ s k o u l next steps so. step-kept old.durable o k l (fits s k o u next) steps so) start old w.last new w.reached (kept-same old known)

  pub cut-kept : {S : Type 0} (Next : S → Kept → Option Change → S → Type 0) (issues : S → List (AttemptId × Epoch)) → AllFit P Next → (t : ℕ) (start : S) (old : Kept) (cut : Cutting) → CutTurn Next issues t start old cut → AreKnown P old.durable.entries
      → KeptSo old.durable cut.left.durable
  cut-kept {S} Next issues fits t start old cut g known =
      cut-keeps Next issues t (λ s k. KeptSo old.durable k.durable) (KeptSo old.durable) (λ s k o u next. fits-plain k o (fits s k o u next)) (λ s k o u l next steps so. step-kept old.durable o k l (fits s k o u next) steps so)
      (λ s k so. so) start old cut g (kept-same old known)

-- ---- what is heard

-- the attempt of a Commit or a Prepare is known, at any epoch
abbrev pub BringsKnown : Known → Message → Type 0
BringsKnown P (message.Commit x ep first tracker ws) = (e : Epoch) → P x e
BringsKnown P (message.Prepare e first ws inc) = P e.attempt e.epoch
BringsKnown P m = Unit {0}

module _ (P : Known) (t : TargetPlan) (opening : Epoch × FloorWhy) (m : TargetMemory) (reading : ℕ) (from : ActorId) (old : Kept) (known : AreKnown P old.durable.entries) where
  pub hears-kept : (q : Message) (new : Kept) (left : TargetMemory × Did) → BringsKnown P q → Hears t opening m reading from q old new left → KeptSo P old.durable new.durable
  hears-kept (message.Fetch x op group ep first tracker r snapshot) new left brings h = whole-kept P _ _ (fetch-fits P t m reading (fetch_request x op group ep first tracker r snapshot)) _ old new left h known
  hears-kept (message.Commit x ep first tracker ws) new left brings h = whole-kept P _ _ (commit-fits P t opening m reading (commit_request x ep first tracker ws) brings) _ old new left h known
  hears-kept (message.Prepare e first ws inc) new left brings h = whole-kept P _ _ (prepare-fits P t opening m (prepare_request e first ws inc) brings) _ old new left h known
  hears-kept (message.Ack x inc refusal) new left brings h = whole-kept P _ _ (ack-fits P t m from.number x inc refusal) _ old new left h known
  hears-kept (message.Mark inc marks) new left brings h = whole-kept P _ _ (mark-fits P is_prepared) _ old new left h known
  hears-kept (message.Marked inc ids) new left brings h = whole-kept P _ _ (marked-fits P t m from.number) _ old new left h known
  hears-kept (message.Query x ask) new left brings h = whole-kept P _ _ (query-fits P) _ old new left h known
  hears-kept (message.Verdict x ask inc v) new left brings h = whole-kept P _ _ (verdict-fits P is_prepared t (told_by v x m) reading x ask v) _ old new left h known
  hears-kept q new left brings h = absurd h

  pub further-kept : (number : ℕ) (q : Message) (new : Kept) (left : TargetMemory × Did) → is_of_attempts q ≡ true → BringsKnown P q → HearsFurther number t opening m reading from q old new left → KeptSo P old.durable new.durable
  further-kept number (message.Commit x ep first tracker ws) new left ours brings h = whole-kept P _ _ (commit-fits P t opening m reading (commit_request x ep first tracker ws) brings) _ old new left h known
  further-kept number (message.Ask x) new left ours brings h = whole-kept P _ _ (look-fits P) _ old new left h known
  further-kept number (message.Status x inc) new left ours brings h = whole-kept P _ _ (look-fits P) _ old new left h known
  further-kept number (message.StatusIs x inc how) new left ours brings h = whole-kept P _ _ (ack-fits P t m from.number x inc (status_refusal x how)) _ old new left h known
  further-kept number (message.Reset' by down place (more_of-Message q rest)) new left ours brings h = whole-kept P _ _ (look-fits P) _ old new left h known
  further-kept number (message.Snap x c called tracker) new left ours brings h = let no : ⊥ = cc in absurd no
  further-kept number (message.Freeze x c s) new left ours brings h = let no : ⊥ = cc in absurd no
  further-kept number (message.Held x refusal) new left ours brings h = let no : ⊥ = cc in absurd no
  further-kept number (message.Prune x c tracker e) new left ours brings h = let no : ⊥ = cc in absurd no
  further-kept number q new left ours brings h = absurd h

  pub hearing-cut-kept : (number : ℕ) (q : Message) (cut : Cutting) → is_without_snapshots q ≡ true → BringsKnown P q → HearingIsCut is_prepared number t opening m reading from q old cut → KeptSo P old.durable cut.left.durable
  hearing-cut-kept number (message.Fetch x op group ep first tracker r snapshot) cut ours brings h = cut-kept P _ _ (fetch-fits P t m reading (fetch_request x op group ep first tracker r snapshot)) t.me _ old cut h known
  hearing-cut-kept number (message.Commit x ep first tracker ws) cut ours brings h =
      cut-kept P _ _ (commit-fits P t opening m reading (commit_request x ep first tracker ws) brings) t.me _ old cut (commit-is-cut t opening m reading (commit_request x ep first tracker ws) old cut h) known
  hearing-cut-kept number (message.Prepare e first ws inc) cut ours brings h = cut-kept P _ _ (prepare-fits P t opening m (prepare_request e first ws inc) brings) t.me _ old cut h known
  hearing-cut-kept number (message.Ack x inc refusal) cut ours brings h = cut-kept P _ _ (ack-fits P t m from.number x inc refusal) t.me _ old cut h known
  hearing-cut-kept number (message.StatusIs x inc how) cut ours brings h = cut-kept P _ _ (ack-fits P t m from.number x inc (status_refusal x how)) t.me _ old cut h known
  hearing-cut-kept number (message.Mark inc marks) cut ours brings h = cut-kept P _ _ (mark-fits P is_prepared) t.me _ old cut h known
  hearing-cut-kept number (message.Marked inc ids) cut ours brings h = cut-kept P _ _ (marked-fits P t m from.number) t.me _ old cut h known
  hearing-cut-kept number (message.Verdict x ask inc v) cut ours brings h = cut-kept P _ _ (verdict-fits P is_prepared t (told_by v x m) reading x ask v) t.me _ old cut h known
  hearing-cut-kept number (message.Query x ask) cut ours brings h = cut-kept P _ _ (query-fits P) t.me _ old cut h known
  hearing-cut-kept number (message.Ask x) cut ours brings h = cut-kept P _ _ (look-fits P) t.me _ old cut h known
  hearing-cut-kept number (message.Status x inc) cut ours brings h = cut-kept P _ _ (look-fits P) t.me _ old cut h known
  hearing-cut-kept number (message.Reset' by down place asked) cut ours brings h = cut-kept P _ _ (look-fits P) t.me _ old cut h known
  hearing-cut-kept number (message.Snap x c name tracker) cut ours brings h = let no : ⊥ = cc in absurd no
  hearing-cut-kept number (message.Freeze x c s) cut ours brings h = let no : ⊥ = cc in absurd no
  hearing-cut-kept number (message.Held x refusal) cut ours brings h = let no : ⊥ = cc in absurd no
  hearing-cut-kept number (message.Prune x c tracker e) cut ours brings h = let no : ⊥ = cc in absurd no
  hearing-cut-kept number q cut ours brings h = absurd h

  pub idle-kept : (settling : Bool) (new : Kept) (left : TargetMemory × Did) → IdlesWhole settling t m old new left → KeptSo P old.durable new.durable
  idle-kept settling new left h = whole-kept P _ _ (idle-fits P) _ old new left h known

  pub idle-cut-kept : (cut : Cutting) → IdleWorkIsCut t.me m old cut → KeptSo P old.durable cut.left.durable
  idle-cut-kept cut h = cut-kept P _ _ (idle-fits P) t.me _ old cut h known
