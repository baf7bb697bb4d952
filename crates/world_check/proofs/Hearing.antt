-- A target hears a message of some kind, or none that it can hear.
use Rattle.std.proofs.Common.{◌≡◌, ◌∙◌, sym, ap, subst, Bool, false, Option, Some}
use Rattle.std.specs.Bool.{Decides}
use Rattle.base_messages.specs.declared.actor.ActorId.{ActorId}
use Rattle.base_messages.specs.declared.message.Message.{Message}
use Rattle.base_messages.specs.declared.message.Message.TheVariants as message
use Rattle.daos_model.specs.Forms.{AreWritesInForm}
use Rattle.replay_base.specs.declared.told.Left.{Left}
use Rattle.replay_base.specs.Heard.{CanCommit, CanHear, CanRead}
use Rattle.replay_base.specs.Leaving.{HearsAs, IsLeftIf}
use Rattle.replay_base.specs.Onward.{keeps}
use Rattle.replay_base.proofs.Starts.{none_so}
use Rattle.replay_writes.specs.Committed.{CommitsSo, PreparesSo}
use Rattle.replay_verdict.specs.replay_fetch.Fetched.{FetchesSo}
use Rattle.world_base.specs.declared.did.Did.{Did}
use Rattle.world_base.specs.declared.request.CommitRequest.{CommitRequest}
use Rattle.world_base.specs.declared.request.FetchRequest.{FetchRequest}
use Rattle.world_base.specs.declared.request.PrepareRequest.{PrepareRequest}
use Rattle.world_base.specs.declared.target.TargetPlan.{TargetPlan}
use Rattle.world_base.specs.declared.target.TargetState.{TargetState}
use Rattle.replay_verdict.specs.Tried.{fetch_in}
use Rattle.world_check.specs.Turned.{HearsSo, commit_in, prepare_in}

-- ---- requests as messages

fetch_of : FetchRequest → Message
fetch_of q = message.Fetch q.attempt q.op q.group q.ep q.first q.tracker q.read q.snapshot

commit_of : CommitRequest → Message
commit_of q = message.Commit q.attempt q.ep q.first q.tracker q.writes

is_fetch : (m : Message) (q : FetchRequest) → fetch_in m ≡ Some q → m ≡ fetch_of q
unfolding fetch_of
is_fetch (message.Fetch x op group ep first tracker r snapshot) q is =
    let same : (record { attempt = x; op = op; group = group; ep = ep; first = first; tracker = tracker; read = r; snapshot = snapshot }) ≡ q = cc in
    ap (λ (y : FetchRequest). message.Fetch y.attempt y.op y.group y.ep y.first y.tracker y.read y.snapshot) same
is_fetch m q is = let bad : ⊥ = cc in absurd bad

is_commit : (m : Message) (q : CommitRequest) → commit_in m ≡ Some q → m ≡ commit_of q
unfolding commit_of
is_commit (message.Commit x ep first tracker ws) q is =
    let same : (record { attempt = x; ep = ep; first = first; tracker = tracker; writes = ws }) ≡ q = cc in
    ap (λ (y : CommitRequest). message.Commit y.attempt y.ep y.first y.tracker y.writes) same
is_commit m q is = let bad : ⊥ = cc in absurd bad

prepare_of : PrepareRequest → Message
prepare_of q = message.Prepare q.entry q.first q.writes q.inc

is_prepare : (m : Message) (q : PrepareRequest) → prepare_in m ≡ Some q → m ≡ prepare_of q
unfolding prepare_of
is_prepare (message.Prepare e first ws inc) q is =
    let same : (record { entry = e; first = first; writes = ws; inc = inc }) ≡ q = cc in
    ap (λ (y : PrepareRequest). message.Prepare y.entry y.first y.writes y.inc) same
is_prepare m q is = let bad : ⊥ = cc in absurd bad

-- ---- as the code tests it

pub both_hold : {P Q : Type 0} (test : Bool) → P → Decides test Q → Decides test (P × Q)
both_hold test p same = (λ h. (p, same.0 h), λ b. same.1 b.1)

pub first_fails : {P Q : Type 0} → (P → ⊥) → Decides false (P × Q)
first_fails never = none_so (λ b. never b.0)

module _ (t : TargetPlan) (from : ActorId) (m : Message) (s new : TargetState) (did : Did) where
  pub fetch_heard : (q : FetchRequest) (o o' : Option FetchRequest) (test : Bool) → o ≡ fetch_in m → o ≡ o' → o' ≡ Some q → Decides test (CanRead t s.durable s.memory.leader.decided × FetchesSo t from q s new did) → Decides test (HearsSo t from m s new did)
  unfolding fetch_of
  fetch_heard q o o' test is same_o some same =
      subst (λ x. Decides test (HearsSo t from x s new did)) (sym (is_fetch m q (sym is ∙ same_o ∙ some)))
      (λ h. (let p = same.0 h in record { form = p.0; turn = p.1 }), λ h. same.1 (h.form, h.turn))

  pub commit_heard : (q : CommitRequest) (o o' : Option CommitRequest) (test : Bool) → o ≡ commit_in m → o ≡ o' → o' ≡ Some q → Decides test (CanCommit t q.writes × CommitsSo t from q s new did) → Decides test (HearsSo t from m s new did)
  unfolding commit_of
  commit_heard q o o' test is same_o some same =
      subst (λ x. Decides test (HearsSo t from x s new did)) (sym (is_commit m q (sym is ∙ same_o ∙ some)))
      (λ h. (let p = same.0 h in record { form = p.0; turn = p.1 }), λ h. same.1 (h.form, h.turn))

  pub prepare_heard : (q : PrepareRequest) (o o' : Option PrepareRequest) (test : Bool) → o ≡ prepare_in m → o ≡ o' → o' ≡ Some q → Decides test (AreWritesInForm q.writes × PreparesSo t q s new did) → Decides test (HearsSo t from m s new did)
  unfolding prepare_of
  prepare_heard q o o' test is same_o some same =
      subst (λ x. Decides test (HearsSo t from x s new did)) (sym (is_prepare m q (sym is ∙ same_o ∙ some)))
      (λ h. (let p = same.0 h in record { form = p.0; turn = (0, p.1) }), λ h. same.1 (h.form, h.turn.1))

  -- a message of which the turn was made again, which it can hear
  pub made_heard : (o : Option Left) (test : Bool) → CanHear t s.durable s.memory m → HearsAs t from m s o → Decides test (IsLeftIf o s.free (keeps new.durable new.free) (new.memory, did)) → Decides test (HearsSo t from m s new did)
  made_heard o test form made same = (
    λ h. record { form = form; turn = (0, (made 0 (keeps new.durable new.free) (new.memory, did)).1 (same.0 h)) },
    λ h. same.1 ((made h.turn.0 (keeps new.durable new.free) (new.memory, did)).0 h.turn.1),
  )

  -- or which it can't hear
  pub never_heard : (CanHear t s.durable s.memory m → ⊥) → Decides false (HearsSo t from m s new did)
  never_heard never = none_so (λ h. never h.form)
