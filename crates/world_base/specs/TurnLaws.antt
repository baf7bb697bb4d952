-- What every turn of a target leaves of what it keeps: its containers, its snapshots and its incarnation; its lease doesn't go down.
use Rattle.std.specs.Prelude.{ℕ, ◌≡◌, ◌/◌, Bool, true, Option, Some, None, refl}
use Rattle.std.proofs.Common.{sym, subst}
use Rattle.base_types.specs.declared.epoch.Epoch.{Epoch}
use Rattle.base_types.specs.declared.id.AttemptId.{AttemptId}
use Rattle.base_types.specs.declared.entry.Settle.{Settle}
use Rattle.base_types.specs.declared.entry.Verdict.{Verdict}
use Rattle.base_types.specs.declared.outcome.FloorWhy.{FloorWhy}
use Rattle.base_types.specs.declared.outcome.Outcome.{Outcome}
use Rattle.base_messages.specs.declared.actor.ActorId.{ActorId}
use Rattle.base_messages.specs.declared.message.Message.{Message}
use Rattle.base_messages.specs.declared.message.Message.TheVariants as message
use Rattle.daos_model.specs.declared.durable.Durable.{Durable}
use Rattle.world_base.specs.declared.did.Did.{Did}
use Rattle.world_base.specs.declared.request.CommitRequest.{CommitRequest}
use Rattle.world_base.specs.declared.request.FetchRequest.{FetchRequest}
use Rattle.world_base.specs.declared.request.PrepareRequest.{PrepareRequest}
use Rattle.world_base.specs.declared.target.TargetMemory.{TargetMemory}
use Rattle.world_base.specs.declared.target.TargetPlan.{TargetPlan}
use Rattle.world_base.specs.Acks as ack
use Rattle.world_base.specs.ChangeLaws.{LeaseRises, Raises, conts-made, extends-raises, incarnation-made, lease-same, lease-steps, lease-then, snaps-made}
use Rattle.world_base.specs.Changes.{Change, IsPlainly, Kept, is_plain, made}
use Rattle.world_base.specs.Commits as commit
use Rattle.world_base.specs.Idle.{IdleNext, SettlesFirst}
use Rattle.world_base.specs.Marks as mark
use Rattle.world_base.specs.PathLaws.{AllPlain, reached-keeps, whole-leaves}
use Rattle.world_base.specs.Prepares as prepare
use Rattle.world_base.specs.Reads as read
use Rattle.world_base.specs.RightTurns.{HearsRightly}
use Rattle.world_base.specs.Roles.{is_in_doubt, is_prepared, told_by}
use Rattle.world_base.specs.TargetTurns.{Hears, IdlesWhole, commit_request, fetch_request, prepare_request}
use Rattle.world_base.specs.Turns.{Whole}
use Rattle.world_base.specs.Verdicts as verdict

-- ---- plain changes alone

pub fetch-plain : (t : TargetPlan) (m : TargetMemory) (reading : ℕ) (q : FetchRequest) → AllPlain (read.FetchNext t m reading q)
fetch-plain t m reading q s k o u (read.AtSnapshot j e at is) = tt
fetch-plain t m reading q s k o u (read.HasEpoch j e at is) = tt
fetch-plain t m reading q s k o u (read.ExtendsLease j e lease low is) = refl
fetch-plain t m reading q s k o u (read.IsCovered j e low) = tt
fetch-plain t m reading q s k o u (read.SettlesOwn j e decided a none unsettled among) = refl

pub commit-plain : (t : TargetPlan) (opening : Epoch × FloorWhy) (m : TargetMemory) (reading : ℕ) (q : CommitRequest) → AllPlain (commit.CommitNext t opening m reading q)
commit-plain t opening m reading q s k o u (commit.HasEpoch j e is) = tt
commit-plain t opening m reading q s k o u (commit.ExtendsLease j e lease low is) = refl
commit-plain t opening m reading q s k o u (commit.IsCovered j e low) = tt
commit-plain t opening m reading q s k o u (commit.Stores j e allowed space) = refl

pub prepare-plain : (t : TargetPlan) (opening : Epoch × FloorWhy) (m : TargetMemory) (q : PrepareRequest) → AllPlain (prepare.PrepareNext t opening m q)
prepare-plain t opening m q s k o u (prepare.ExtendsLease j lease low is) = refl
prepare-plain t opening m q s k o u (prepare.IsCovered j low) = tt
prepare-plain t opening m q s k o u (prepare.Stores j allowed space) = refl

pub ack-plain : (t : TargetPlan) (m : TargetMemory) (member : ℕ) (a : AttemptId) (inc : ℕ) (refusal : Option Outcome) → AllPlain (ack.AckNext t m member a inc refusal)
ack-plain t m member a inc refusal s k o u (ack.Aborts j is) = refl
ack-plain t m member a inc refusal s k o u (ack.Counts j is) = tt

pub mark-plain : (is_due : AttemptId → Durable → Bool) → AllPlain (mark.MarkNext is_due)
mark-plain is_due s k o u (mark.SettlesMarked j a committed rest is) = refl
mark-plain is_due s k o u (mark.PassesBy j a committed rest is) = tt

pub marked-plain : (t : TargetPlan) (m : TargetMemory) (member : ℕ) → AllPlain (ack.MarkedNext t m member)
marked-plain t m member s k o u (ack.Confirms j a rest is) = refl
marked-plain t m member s k o u (ack.PassesBy j a rest is) = tt

pub query-plain : AllPlain verdict.QueryNext
query-plain s k o u (verdict.Answers j) = tt

settling-plain : (a : AttemptId) (step : Option Settle) → IsPlainly (verdict.settling_change a step)
settling-plain a None = tt
settling-plain a (Some step) = refl

pub verdict-plain : (is_due : AttemptId → Durable → Bool) (t : TargetPlan) (m : TargetMemory) (reading : ℕ) (a : AttemptId) (ask : Option AttemptId) (v : Verdict) → AllPlain (verdict.VerdictNext is_due t m reading a ask v)
verdict-plain is_due t m reading a ask v s k o u (verdict.SettlesBy j p is) = subst IsPlainly (sym is) (settling-plain a (verdict.settles_by is_due v a k.durable))
verdict-plain is_due t m reading a ask v s k o u (verdict.TriesNext j n posts rest x op group ep first tracker r snapshot) = tt
verdict-plain is_due t m reading a ask v s k o u (verdict.GoesOn j n posts rest q i z p next) = fetch-plain t n reading q i k o z next
verdict-plain is_due t m reading a ask v s k o u (verdict.IsDone j n posts rest q i left ends) = tt

pub idle-plain : AllPlain IdleNext
idle-plain s k o u (SettlesFirst j a rest) = refl

-- ---- a part that no plain change touches

module _ {T : Type 0} (part : Durable → T) (leaves : (c : Change) (d : Durable) → is_plain c ≡ true → part (made c d) ≡ part d) where
  hears-leaves : (t : TargetPlan) (opening : Epoch × FloorWhy) (m : TargetMemory) (reading : ℕ) (from : ActorId) (q : Message) (old new : Kept) (left : TargetMemory × Did)
      → Hears t opening m reading from q old new left → part new.durable ≡ part old.durable
  hears-leaves t opening m reading from (message.Fetch x op group ep first tracker r snapshot) old new left h = whole-leaves part leaves _ _ _ old new left (fetch-plain t m reading (fetch_request x op group ep first tracker r snapshot)) h
  hears-leaves t opening m reading from (message.Commit x ep first tracker ws) old new left h = whole-leaves part leaves _ _ _ old new left (commit-plain t opening m reading (commit_request x ep first tracker ws)) h
  hears-leaves t opening m reading from (message.Prepare e first ws inc) old new left h = whole-leaves part leaves _ _ _ old new left (prepare-plain t opening m (prepare_request e first ws inc)) h
  hears-leaves t opening m reading from (message.Ack x inc refusal) old new left h = whole-leaves part leaves _ _ _ old new left (ack-plain t m from.number x inc refusal) h
  hears-leaves t opening m reading from (message.Mark inc marks) old new left h = whole-leaves part leaves _ _ _ old new left (mark-plain is_prepared) h
  hears-leaves t opening m reading from (message.Marked inc ids) old new left h = whole-leaves part leaves _ _ _ old new left (marked-plain t m from.number) h
  hears-leaves t opening m reading from (message.Query x ask) old new left h = whole-leaves part leaves _ _ _ old new left query-plain h
  hears-leaves t opening m reading from (message.Verdict x ask inc v) old new left h = whole-leaves part leaves _ _ _ old new left (verdict-plain is_prepared t (told_by v x m) reading x ask v) h
  hears-leaves t opening m reading from q old new left h = absurd h

-- ---- the lease

abbrev pub RaisesAll : {S : Type 0} → (S → Kept → Option Change → S → Type 0) → Type 0
RaisesAll {S} Next = (s : S) (k : Kept) (o : Option Change) (u : S) → Next s k o u → Raises k.durable o

-- where each step raises the lease or leaves it, a turn does
pub whole-raises : {S R : Type 0} (Next : S → Kept → Option Change → S → Type 0) (Ends : S → Kept → R → Type 0) (start : S) (old new : Kept) (result : R)
    → RaisesAll Next → Whole Next Ends start old new result → LeaseRises old.durable new.durable
whole-raises Next Ends start old new result raises w =
    reached-keeps Next (λ s k. LeaseRises old.durable k.durable) (λ s k o u l next steps so_far. lease-then old.durable k.durable l.durable so_far (lease-steps o k l steps (raises s k o u next)))
    start old w.last new w.reached (lease-same old.durable old.durable refl)

pub fetch-raises : (t : TargetPlan) (m : TargetMemory) (reading : ℕ) (q : FetchRequest) → RaisesAll (read.FetchNext t m reading q)
fetch-raises t m reading q s k o u (read.AtSnapshot j e at is) = tt
fetch-raises t m reading q s k o u (read.HasEpoch j e at is) = tt
fetch-raises t m reading q s k o u (read.ExtendsLease j e lease low is) = extends-raises k.durable (e.0 / 256) lease low is
fetch-raises t m reading q s k o u (read.IsCovered j e low) = tt
fetch-raises t m reading q s k o u (read.SettlesOwn j e decided a none unsettled among) = tt

pub commit-raises : (t : TargetPlan) (opening : Epoch × FloorWhy) (m : TargetMemory) (reading : ℕ) (q : CommitRequest) → RaisesAll (commit.CommitNext t opening m reading q)
commit-raises t opening m reading q s k o u (commit.HasEpoch j e is) = tt
commit-raises t opening m reading q s k o u (commit.ExtendsLease j e lease low is) = extends-raises k.durable (e.0 / 256) lease low is
commit-raises t opening m reading q s k o u (commit.IsCovered j e low) = tt
commit-raises t opening m reading q s k o u (commit.Stores j e allowed space) = tt

pub prepare-raises : (t : TargetPlan) (opening : Epoch × FloorWhy) (m : TargetMemory) (q : PrepareRequest) → RaisesAll (prepare.PrepareNext t opening m q)
prepare-raises t opening m q s k o u (prepare.ExtendsLease j lease low is) = extends-raises k.durable (q.entry.epoch.0 / 256) lease low is
prepare-raises t opening m q s k o u (prepare.IsCovered j low) = tt
prepare-raises t opening m q s k o u (prepare.Stores j allowed space) = tt

pub ack-raises : (t : TargetPlan) (m : TargetMemory) (member : ℕ) (a : AttemptId) (inc : ℕ) (refusal : Option Outcome) → RaisesAll (ack.AckNext t m member a inc refusal)
ack-raises t m member a inc refusal s k o u (ack.Aborts j is) = tt
ack-raises t m member a inc refusal s k o u (ack.Counts j is) = tt

pub mark-raises : (is_due : AttemptId → Durable → Bool) → RaisesAll (mark.MarkNext is_due)
mark-raises is_due s k o u (mark.SettlesMarked j a committed rest is) = tt
mark-raises is_due s k o u (mark.PassesBy j a committed rest is) = tt

pub marked-raises : (t : TargetPlan) (m : TargetMemory) (member : ℕ) → RaisesAll (ack.MarkedNext t m member)
marked-raises t m member s k o u (ack.Confirms j a rest is) = tt
marked-raises t m member s k o u (ack.PassesBy j a rest is) = tt

pub query-raises : RaisesAll verdict.QueryNext
query-raises s k o u (verdict.Answers j) = tt

settling-raises : (a : AttemptId) (d : Durable) (step : Option Settle) → Raises d (verdict.settling_change a step)
settling-raises a d None = tt
settling-raises a d (Some step) = tt

pub verdict-raises : (is_due : AttemptId → Durable → Bool) (t : TargetPlan) (m : TargetMemory) (reading : ℕ) (a : AttemptId) (ask : Option AttemptId) (v : Verdict) → RaisesAll (verdict.VerdictNext is_due t m reading a ask v)
verdict-raises is_due t m reading a ask v s k o u (verdict.SettlesBy j p is) = subst (Raises k.durable) (sym is) (settling-raises a k.durable (verdict.settles_by is_due v a k.durable))
verdict-raises is_due t m reading a ask v s k o u (verdict.TriesNext j n posts rest x op group ep first tracker r snapshot) = tt
verdict-raises is_due t m reading a ask v s k o u (verdict.GoesOn j n posts rest q i z p next) = fetch-raises t n reading q i k o z next
verdict-raises is_due t m reading a ask v s k o u (verdict.IsDone j n posts rest q i left ends) = tt

pub idle-raises : RaisesAll IdleNext
idle-raises s k o u (SettlesFirst j a rest) = tt

hears-raises : (t : TargetPlan) (opening : Epoch × FloorWhy) (m : TargetMemory) (reading : ℕ) (from : ActorId) (q : Message) (old new : Kept) (left : TargetMemory × Did)
    → Hears t opening m reading from q old new left → LeaseRises old.durable new.durable
hears-raises t opening m reading from (message.Fetch x op group ep first tracker r snapshot) old new left h = whole-raises _ _ _ old new left (fetch-raises t m reading (fetch_request x op group ep first tracker r snapshot)) h
hears-raises t opening m reading from (message.Commit x ep first tracker ws) old new left h = whole-raises _ _ _ old new left (commit-raises t opening m reading (commit_request x ep first tracker ws)) h
hears-raises t opening m reading from (message.Prepare e first ws inc) old new left h = whole-raises _ _ _ old new left (prepare-raises t opening m (prepare_request e first ws inc)) h
hears-raises t opening m reading from (message.Ack x inc refusal) old new left h = whole-raises _ _ _ old new left (ack-raises t m from.number x inc refusal) h
hears-raises t opening m reading from (message.Mark inc marks) old new left h = whole-raises _ _ _ old new left (mark-raises is_prepared) h
hears-raises t opening m reading from (message.Marked inc ids) old new left h = whole-raises _ _ _ old new left (marked-raises t m from.number) h
hears-raises t opening m reading from (message.Query x ask) old new left h = whole-raises _ _ _ old new left query-raises h
hears-raises t opening m reading from (message.Verdict x ask inc v) old new left h = whole-raises _ _ _ old new left (verdict-raises is_prepared t (told_by v x m) reading x ask v) h
hears-raises t opening m reading from q old new left h = absurd h

-- ---- every turn

-- the same containers, snapshots and incarnation are kept, and a lease no lower
pub record KeepsAs (d e : Durable) : Type 0 where
  pub conts : e.conts ≡ d.conts
  pub snaps : e.snaps ≡ d.snaps
  pub incarnation : e.incarnation ≡ d.incarnation
  pub lease : LeaseRises d e

pub hears-keeps : (t : TargetPlan) (opening : Epoch × FloorWhy) (m : TargetMemory) (reading : ℕ) (from : ActorId) (q : Message) (old new : Kept) (left : TargetMemory × Did)
    → Hears t opening m reading from q old new left → KeepsAs old.durable new.durable
hears-keeps t opening m reading from q old new left h = record {
  conts = hears-leaves (λ d. d.conts) conts-made t opening m reading from q old new left h;
  snaps = hears-leaves (λ d. d.snaps) snaps-made t opening m reading from q old new left h;
  incarnation = hears-leaves (λ d. d.incarnation) (λ c d plain. incarnation-made c d) t opening m reading from q old new left h;
  lease = hears-raises t opening m reading from q old new left h;
}

-- and where what is settled is in doubt
module _ {T : Type 0} (part : Durable → T) (leaves : (c : Change) (d : Durable) → is_plain c ≡ true → part (made c d) ≡ part d) where
  rightly-leaves : (t : TargetPlan) (opening : Epoch × FloorWhy) (m : TargetMemory) (reading : ℕ) (from : ActorId) (q : Message) (old new : Kept) (left : TargetMemory × Did)
      → HearsRightly t opening m reading from q old new left → part new.durable ≡ part old.durable
  rightly-leaves t opening m reading from (message.Mark inc marks) old new left h = whole-leaves part leaves _ _ _ old new left (mark-plain (is_in_doubt t.me)) h
  rightly-leaves t opening m reading from (message.Verdict x ask inc v) old new left h = whole-leaves part leaves _ _ _ old new left (verdict-plain (is_in_doubt t.me) t m reading x ask v) h
  rightly-leaves t opening m reading from q old new left h = hears-leaves part leaves t opening m reading from q old new left h

rightly-raises : (t : TargetPlan) (opening : Epoch × FloorWhy) (m : TargetMemory) (reading : ℕ) (from : ActorId) (q : Message) (old new : Kept) (left : TargetMemory × Did)
    → HearsRightly t opening m reading from q old new left → LeaseRises old.durable new.durable
rightly-raises t opening m reading from (message.Mark inc marks) old new left h = whole-raises _ _ _ old new left (mark-raises (is_in_doubt t.me)) h
rightly-raises t opening m reading from (message.Verdict x ask inc v) old new left h = whole-raises _ _ _ old new left (verdict-raises (is_in_doubt t.me) t m reading x ask v) h
rightly-raises t opening m reading from q old new left h = hears-raises t opening m reading from q old new left h

pub rightly-keeps : (t : TargetPlan) (opening : Epoch × FloorWhy) (m : TargetMemory) (reading : ℕ) (from : ActorId) (q : Message) (old new : Kept) (left : TargetMemory × Did)
    → HearsRightly t opening m reading from q old new left → KeepsAs old.durable new.durable
rightly-keeps t opening m reading from q old new left h = record {
  conts = rightly-leaves (λ d. d.conts) conts-made t opening m reading from q old new left h;
  snaps = rightly-leaves (λ d. d.snaps) snaps-made t opening m reading from q old new left h;
  incarnation = rightly-leaves (λ d. d.incarnation) (λ c d plain. incarnation-made c d) t opening m reading from q old new left h;
  lease = rightly-raises t opening m reading from q old new left h;
}

pub idles-keeps : (settling : Bool) (t : TargetPlan) (m : TargetMemory) (old new : Kept) (left : TargetMemory × Did) → IdlesWhole settling t m old new left → KeepsAs old.durable new.durable
idles-keeps settling t m old new left h = record {
  conts = whole-leaves (λ d. d.conts) conts-made _ _ _ old new left idle-plain h;
  snaps = whole-leaves (λ d. d.snaps) snaps-made _ _ _ old new left idle-plain h;
  incarnation = whole-leaves (λ d. d.incarnation) (λ c d plain. incarnation-made c d) _ _ _ old new left idle-plain h;
  lease = whole-raises _ _ _ old new left idle-raises h;
}
