-- Every turn of a target, whole or cut, keeps its versions in form, where what it is asked to store is in form.
use Rattle.std.specs.Prelude.{ℕ, ◌≡◌, Bool, true, false, All, List, Option, Some, None}
use Rattle.std.proofs.Common.{sym, subst}
use Rattle.base_types.specs.declared.entry.Settle.{Settle}
use Rattle.base_types.specs.declared.entry.Verdict.{Verdict}
use Rattle.base_types.specs.declared.epoch.Epoch.{Epoch}
use Rattle.base_types.specs.declared.id.AttemptId.{AttemptId}
use Rattle.base_types.specs.declared.id.ContId.{ContId}
use Rattle.base_types.specs.declared.operation.MinorWrite.{MinorWrite}
use Rattle.base_types.specs.declared.outcome.FloorWhy.{FloorWhy}
use Rattle.base_types.specs.declared.outcome.Outcome.{Outcome}
use Rattle.base_messages.specs.declared.actor.ActorId.{ActorId}
use Rattle.base_messages.specs.declared.message.Message.{Message, more_of-Message}
use Rattle.base_messages.specs.declared.message.Message.TheVariants as message
use Rattle.daos_model.specs.declared.durable.Durable.{Durable}
use Rattle.daos_model.specs.Forms.{is_write_in_form}
use Rattle.model_laws.specs.DecidedLaws.{all-from_has, has-all}
use Rattle.model_laws.specs.Members.{has-from_filter}
use Rattle.world_base.specs.declared.did.Did.{Did}
use Rattle.world_base.specs.declared.request.CommitRequest.{CommitRequest}
use Rattle.world_base.specs.declared.request.FetchRequest.{FetchRequest}
use Rattle.world_base.specs.declared.request.PrepareRequest.{PrepareRequest}
use Rattle.world_base.specs.declared.target.TargetMemory.{TargetMemory}
use Rattle.world_base.specs.declared.target.TargetPlan.{TargetPlan}
use Rattle.world_base.specs.Acks as ack
use Rattle.world_base.specs.Changes.{Kept}
use Rattle.world_base.specs.Commits as commit
use Rattle.world_base.specs.CutTurns as cuts
use Rattle.world_base.specs.CutTurns.{CommitIsCut, CutTurn, Cutting, HearingIsCut, IdleWorkIsCut, NoneIsDown, OneIsDown, UnstoredNext}
use Rattle.world_base.specs.Further.{HearsFurther}
use Rattle.world_base.specs.Idle.{IdleEnds, IdleNext}
use Rattle.world_base.specs.Idle as idle
use Rattle.world_base.specs.Marks as mark
use Rattle.world_base.specs.Prepares as prepare
use Rattle.world_base.specs.Reads as read
use Rattle.world_base.specs.Roles.{is_prepared, told_by}
use Rattle.world_base.specs.Snapshots as snap
use Rattle.world_base.specs.Statuses as status
use Rattle.world_base.specs.TargetTurns.{Hears, IdlesWhole, commit_request, fetch_request, prepare_request}
use Rattle.world_base.specs.Verdicts as verdict
use Rattle.world_readers.specs.forms.Changes.{AllInForm, IsChangeInForm, turn-cut_in_form, whole-in_form}
use Rattle.world_readers.specs.forms.Forms.{VersionsInForm}

-- ---- the steps of each kind of turn

fetch-form : (t : TargetPlan) (m : TargetMemory) (reading : ℕ) (q : FetchRequest) → AllInForm (read.FetchNext t m reading q)
fetch-form t m reading q s k o u (read.AtSnapshot j e is ep) = tt
fetch-form t m reading q s k o u (read.HasEpoch j e plain is) = tt
fetch-form t m reading q s k o u (read.ExtendsLease j e lease low is) = tt
fetch-form t m reading q s k o u (read.IsCovered j e low) = tt
fetch-form t m reading q s k o u (read.SettlesOwn j e decided a none unsettled among) = tt

abbrev pub AreWrites : List MinorWrite → Type 0
AreWrites ws = All (λ w. is_write_in_form w.write ≡ true) ws

commit-form : (t : TargetPlan) (opening : Epoch × FloorWhy) (m : TargetMemory) (reading : ℕ) (q : CommitRequest) → AreWrites q.writes → AllInForm (commit.CommitNext t opening m reading q)
commit-form t opening m reading q form s k o u (commit.HasEpoch j e is) = tt
commit-form t opening m reading q form s k o u (commit.ExtendsLease j e lease low is) = tt
commit-form t opening m reading q form s k o u (commit.IsCovered j e low) = tt
commit-form t opening m reading q form s k o u (commit.Stores j e allowed fits) =
    all-from_has (λ w. is_write_in_form w.write ≡ true) (commit.own_writes t q.writes) (λ w i. has-all (λ y. is_write_in_form y.write ≡ true) q.writes w form (has-from_filter _ q.writes w i).0)

unstored-form : (t : TargetPlan) (opening : Epoch × FloorWhy) (m : TargetMemory) (reading : ℕ) (q : CommitRequest) → AreWrites q.writes → AllInForm (UnstoredNext t opening m reading q)
unstored-form t opening m reading q form s k o u (cuts.Before s2 u2 j p next early) = commit-form t opening m reading q form s k o u next

prepare-form : (t : TargetPlan) (opening : Epoch × FloorWhy) (m : TargetMemory) (q : PrepareRequest) → AreWrites q.writes → AllInForm (prepare.PrepareNext t opening m q)
prepare-form t opening m q form s k o u (prepare.ExtendsLease j lease low is) = tt
prepare-form t opening m q form s k o u (prepare.IsCovered j low) = tt
prepare-form t opening m q form s k o u (prepare.Stores j allowed fits) = form

ack-form : (t : TargetPlan) (m : TargetMemory) (member : ℕ) (a : AttemptId) (inc : ℕ) (refusal : Option Outcome) → AllInForm (ack.AckNext t m member a inc refusal)
ack-form t m member a inc refusal s k o u (ack.Aborts j is) = tt
ack-form t m member a inc refusal s k o u (ack.Counts j is) = tt

mark-form : (is_due : AttemptId → Durable → Bool) → AllInForm (mark.MarkNext is_due)
mark-form is_due s k o u (mark.SettlesMarked j a committed rest due) = tt
mark-form is_due s k o u (mark.PassesBy j a committed rest due) = tt

marked-form : (t : TargetPlan) (m : TargetMemory) (member : ℕ) → AllInForm (ack.MarkedNext t m member)
marked-form t m member s k o u (ack.Confirms j a rest may) = tt
marked-form t m member s k o u (ack.PassesBy j a rest may) = tt

query-form : AllInForm verdict.QueryNext
query-form s k o u (verdict.Answers j) = tt

settling-form : (a : AttemptId) (s : Option Settle) → IsChangeInForm (verdict.settling_change a s)
settling-form a None = tt
settling-form a (Some s) = tt

verdict-form : (is_due : AttemptId → Durable → Bool) (t : TargetPlan) (m : TargetMemory) (reading : ℕ) (a : AttemptId) (ask : Option AttemptId) (v : Verdict) → AllInForm (verdict.VerdictNext is_due t m reading a ask v)
verdict-form is_due t m reading a ask v s k o u (verdict.SettlesBy j p is) = subst IsChangeInForm (sym is) (settling-form a (verdict.settles_by is_due v a k.durable))
verdict-form is_due t m reading a ask v s k o u (verdict.TriesNext j n posts rest x op group ep first tracker r snapshot) = tt
verdict-form is_due t m reading a ask v s k o u (verdict.GoesOn j n posts rest q i z p next) = fetch-form t n reading q i k o z next
verdict-form is_due t m reading a ask v s k o u (verdict.IsDone j n posts rest q i left ends) = tt

idle-form : AllInForm IdleNext
idle-form s k o u (idle.SettlesFirst j a rest) = tt

looks-form : AllInForm status.NoChange
looks-form s k o u (status.Looks j) = tt

freeze-form : (p : TargetPlan) (m : TargetMemory) (reading : ℕ) (tracker : Epoch) (ep : Option Epoch) (c : ContId) (alone : Bool) → AllInForm (snap.FreezeNext p m reading tracker ep c alone)
freeze-form p m reading tracker ep c alone s k o u (snap.HasEpoch j e is) = tt
freeze-form p m reading tracker ep c alone s k o u (snap.ExtendsLease j e lease low is) = tt
freeze-form p m reading tracker ep c alone s k o u (snap.IsCovered j e low) = tt
freeze-form p m reading tracker ep c alone s k o u (snap.FreezesIt j e free new) = tt
freeze-form p m reading tracker ep c alone s k o u (snap.IsFrozen j e free old) = tt
freeze-form p m reading tracker ep c alone s k o u (snap.CreatesIt j e lines only) = tt

prune-form : (p : TargetPlan) (m : TargetMemory) (reading : ℕ) (tracker : Epoch) (ep : Option Epoch) (c : ContId) (number : ℕ) → AllInForm (snap.PruneNext p m reading tracker ep c number)
prune-form p m reading tracker ep c number s k o u (snap.HasEpoch j e is) = tt
prune-form p m reading tracker ep c number s k o u (snap.ExtendsLease j e lease low is) = tt
prune-form p m reading tracker ep c number s k o u (snap.IsCovered j e low) = tt
prune-form p m reading tracker ep c number s k o u (snap.SettlesFirst j e a rest) = tt
prune-form p m reading tracker ep c number s k o u (snap.PrunesIt j e due) = tt
prune-form p m reading tracker ep c number s k o u (snap.PassesBy j e late) = tt

held-form : (p : TargetPlan) (m : TargetMemory) (from : ℕ) (x : AttemptId) (refusal : Option Outcome) → AllInForm (snap.HeldNext p m from x refusal)
held-form p m from x refusal s k o u (snap.CreatesIt j c name none found named last) = tt
held-form p m from x refusal s k o u (snap.Counts j other) = tt

-- ---- every turn

-- what a message asks to store is in form
abbrev pub AsksInForm : Message → Type 0
AsksInForm (message.Commit x ep first tracker ws) = AreWrites ws
AsksInForm (message.Prepare e first ws inc) = AreWrites ws
AsksInForm q = Unit {0}

module _ (t : TargetPlan) (opening : Epoch × FloorWhy) (m : TargetMemory) (reading : ℕ) (from : ActorId) (old : Kept) (f : VersionsInForm old.durable) where
  pub hears-in_form : (new : Kept) (left : TargetMemory × Did) (q : Message) → AsksInForm q → Hears t opening m reading from q old new left → VersionsInForm new.durable
  hears-in_form new left (message.Fetch x op group ep first tracker r snapshot) asks h = whole-in_form _ _ _ old new left (fetch-form t m reading (fetch_request x op group ep first tracker r snapshot)) h f
  hears-in_form new left (message.Commit x ep first tracker ws) asks h = whole-in_form _ _ _ old new left (commit-form t opening m reading (commit_request x ep first tracker ws) asks) h f
  hears-in_form new left (message.Prepare e first ws inc) asks h = whole-in_form _ _ _ old new left (prepare-form t opening m (prepare_request e first ws inc) asks) h f
  hears-in_form new left (message.Ack x inc refusal) asks h = whole-in_form _ _ _ old new left (ack-form t m from.number x inc refusal) h f
  hears-in_form new left (message.Mark inc marks) asks h = whole-in_form _ _ _ old new left (mark-form is_prepared) h f
  hears-in_form new left (message.Marked inc ids) asks h = whole-in_form _ _ _ old new left (marked-form t m from.number) h f
  hears-in_form new left (message.Query x ask) asks h = whole-in_form _ _ _ old new left query-form h f
  hears-in_form new left (message.Verdict x ask inc v) asks h = whole-in_form _ _ _ old new left (verdict-form is_prepared t (told_by v x m) reading x ask v) h f
  hears-in_form new left q asks h = absurd h

  pub further-in_form : (number : ℕ) (new : Kept) (left : TargetMemory × Did) (q : Message) → AsksInForm q → HearsFurther number t opening m reading from q old new left → VersionsInForm new.durable
  further-in_form number new left (message.Commit x ep first tracker ws) asks h = whole-in_form _ _ _ old new left (commit-form t opening m reading (commit_request x ep first tracker ws) asks) h f
  further-in_form number new left (message.Ask x) asks h = whole-in_form _ _ _ old new left looks-form h f
  further-in_form number new left (message.Status x inc) asks h = whole-in_form _ _ _ old new left looks-form h f
  further-in_form number new left (message.StatusIs x inc how) asks h = whole-in_form _ _ _ old new left (ack-form t m from.number x inc (status.status_refusal x how)) h f
  further-in_form number new left (message.Snap x c called tracker) asks h = whole-in_form _ _ _ old new left (freeze-form t m reading tracker None c (snap.is_held_by_all t 0)) h f
  further-in_form number new left (message.Freeze x c s) asks h = whole-in_form _ _ _ old new left (freeze-form t m reading s (Some s) c false) h f
  further-in_form number new left (message.Held x refusal) asks h = whole-in_form _ _ _ old new left (held-form t m from.number x refusal) h f
  further-in_form number new left (message.Prune x c (Some tracker) None) asks h = whole-in_form _ _ _ old new left (prune-form t m reading tracker None c number) h f
  further-in_form number new left (message.Prune x c None (Some g)) asks h = whole-in_form _ _ _ old new left (prune-form t m reading g (Some g) c number) h f
  further-in_form number new left (message.Reset' by down place (more_of-Message asked rest)) asks h = whole-in_form _ _ _ old new left looks-form h f
  further-in_form number new left q asks h = absurd h

  commit-cut : (q : CommitRequest) (cut : Cutting) → AreWrites q.writes → CommitIsCut t opening m reading q old cut → VersionsInForm cut.left.durable
  commit-cut q cut form (NoneIsDown none g) = turn-cut_in_form _ _ t.me _ old cut (commit-form t opening m reading q form) g f
  commit-cut q cut form (OneIsDown e down is g) = turn-cut_in_form _ _ t.me _ old cut (unstored-form t opening m reading q form) g f

  pub hearing-cut : (number : ℕ) (cut : Cutting) (q : Message) → AsksInForm q → HearingIsCut is_prepared number t opening m reading from q old cut → VersionsInForm cut.left.durable
  hearing-cut number cut (message.Fetch x op group ep first tracker r snapshot) asks g = turn-cut_in_form _ _ t.me _ old cut (fetch-form t m reading (fetch_request x op group ep first tracker r snapshot)) g f
  hearing-cut number cut (message.Commit x ep first tracker ws) asks g = commit-cut (commit_request x ep first tracker ws) cut asks g
  hearing-cut number cut (message.Prepare e first ws inc) asks g = turn-cut_in_form _ _ t.me _ old cut (prepare-form t opening m (prepare_request e first ws inc) asks) g f
  hearing-cut number cut (message.Ack x inc refusal) asks g = turn-cut_in_form _ _ t.me _ old cut (ack-form t m from.number x inc refusal) g f
  hearing-cut number cut (message.StatusIs x inc how) asks g = turn-cut_in_form _ _ t.me _ old cut (ack-form t m from.number x inc (status.status_refusal x how)) g f
  hearing-cut number cut (message.Mark inc marks) asks g = turn-cut_in_form _ _ t.me _ old cut (mark-form is_prepared) g f
  hearing-cut number cut (message.Marked inc ids) asks g = turn-cut_in_form _ _ t.me _ old cut (marked-form t m from.number) g f
  hearing-cut number cut (message.Verdict x ask inc v) asks g = turn-cut_in_form _ _ t.me _ old cut (verdict-form is_prepared t (told_by v x m) reading x ask v) g f
  hearing-cut number cut (message.Snap x c name tracker) asks g = turn-cut_in_form _ _ t.me _ old cut (freeze-form t m reading tracker None c (snap.is_held_by_all t 0)) g f
  hearing-cut number cut (message.Freeze x c s) asks g = turn-cut_in_form _ _ t.me _ old cut (freeze-form t m reading s (Some s) c false) g f
  hearing-cut number cut (message.Held x refusal) asks g = turn-cut_in_form _ _ t.me _ old cut (held-form t m from.number x refusal) g f
  hearing-cut number cut (message.Prune x c (Some tracker) None) asks g = turn-cut_in_form _ _ t.me _ old cut (prune-form t m reading tracker None c number) g f
  hearing-cut number cut (message.Prune x c None (Some e)) asks g = turn-cut_in_form _ _ t.me _ old cut (prune-form t m reading e (Some e) c number) g f
  hearing-cut number cut (message.Query x ask) asks g = turn-cut_in_form _ _ t.me _ old cut query-form g f
  hearing-cut number cut (message.Ask x) asks g = turn-cut_in_form _ _ t.me _ old cut looks-form g f
  hearing-cut number cut (message.Status x inc) asks g = turn-cut_in_form _ _ t.me _ old cut looks-form g f
  hearing-cut number cut (message.Reset' by down place asked) asks g = turn-cut_in_form _ _ t.me _ old cut looks-form g f
  hearing-cut number cut q asks g = absurd g

-- idle work
pub idles-in_form : (settling : Bool) (t : TargetPlan) (m : TargetMemory) (old new : Kept) (left : TargetMemory × Did) → VersionsInForm old.durable → IdlesWhole settling t m old new left → VersionsInForm new.durable
idles-in_form settling t m old new left f h = whole-in_form IdleNext (IdleEnds settling t m) m.leader.decided old new left idle-form h f

pub idle-cut : (me : ℕ) (m : TargetMemory) (old : Kept) (cut : Cutting) → VersionsInForm old.durable → IdleWorkIsCut me m old cut → VersionsInForm cut.left.durable
idle-cut me m old cut f g = turn-cut_in_form IdleNext _ me m.leader.decided old cut idle-form g f
