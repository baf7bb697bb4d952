-- Signs of how attempts ended, as one who sees the world at a moment of any run finds them.
use Rattle.std.specs.Prelude.{ℕ, ◌≡◌, Bool, true, false, List, Contains, slice_get, Option, Some, None, refl}
use Rattle.std.proofs.Common.{inl, inr, ◌∙◌, ap, subst, sym}
use Rattle.base_types.specs.declared.entry.Entry.{Entry}
use Rattle.base_types.specs.declared.entry.Verdict.TheVariants as verdict
use Rattle.base_types.specs.declared.epoch.Epoch.{Epoch}
use Rattle.base_types.specs.declared.id.AttemptId.{AttemptId}
use Rattle.base_types.specs.declared.outcome.Outcome.{Outcome}
use Rattle.base_types.specs.declared.outcome.Outcome.TheVariants as outcome
use Rattle.base_types.specs.declared.report.Attempt.{Attempt}
use Rattle.base_messages.specs.declared.message.Message.{Message}
use Rattle.base_messages.specs.declared.message.Message.TheVariants as message
use Rattle.daos_model.specs.Attempts.{tries}
use Rattle.daos_model.specs.Durables.{entry_of}
use Rattle.daos_model.specs.Opening.{Opening}
use Rattle.dtx_base.specs.Leading.{entry_attempt}
use Rattle.model_laws.specs.Members.{Has}
use Rattle.world_base.specs.declared.letter.Letter.{Letter}
use Rattle.world_base.specs.declared.target.TargetState.{TargetState}
use Rattle.world_base.specs.declared.world.World.{World}
use Rattle.world_base.specs.Events.{Rules}
use Rattle.world_base.specs.Stops.{WorldRun}
use Rattle.world_legal.specs.world_commit.attempts.Attempts.{Entries, IsHeld, IsMember, entry_at, entry_in, is_known_at, is_known_in, leader_of}
use Rattle.world_legal.specs.world_commit.attempts.History.{Aborted, Decided, History}
use Rattle.world_legal.specs.world_commit.attempts.Stored.{among-has, row-found}
use Rattle.world_legal.specs.world_commit.fates.Facts.{Attempts, IsSaidSo}
use Rattle.world_legal.specs.world_causes.outcomes.Outcomes.{HasWrites, is_failed}
use Rattle.world_upheld.specs.upheld.Begins.{AreRulesInForm, RunBeginsWell}
use Rattle.world_upheld.specs.upheld.Runs.{runs-have_grounds}
use Rattle.world_upheld.specs.upheld.Upheld.{Grounds}

-- ---- what is seen

-- a target keeps an entry
pub record HasEntry (w : World) (t : ℕ) (e : Entry) : Type 0 where
  pub s : TargetState
  pub here : slice_get w.targets t ≡ Some s
  pub among : Has e s.durable.entries

-- a message is in flight
pub record IsInFlight (w : World) (m : Message) : Type 0 where
  pub l : Letter
  pub among : Has l w.messages
  pub says : l.message ≡ m

-- a line tells how an attempt ended
pub record HasLine (w : World) (x : AttemptId) (how : Outcome) : Type 0 where
  pub a : Attempt
  pub among : Contains (tries w.lines) a
  pub of_it : a.id ≡ x
  pub ended : a.outcome ≡ how

-- ---- signs

-- A sign that an attempt is decided: a target holds it committed, or its leader counts it as decided; a member is being told that it is
-- committed; or it has writes, and its client is being told so, or a line tells so.
pub data HasDecidedSign (r : Rules) (w : World) (x : AttemptId) : Type 0 where
  IsHeldCommitted : (t : ℕ) (e : Entry) → HasEntry w t e → e.attempt ≡ x → e.committed ≡ true → HasDecidedSign r w x
  CountsAsDecided : (t : ℕ) (s : TargetState) → slice_get w.targets t ≡ Some s → Has x s.memory.leader.decided → HasDecidedSign r w x
  IsBeingMarked : (inc : ℕ) (marks : List (AttemptId × Bool)) → IsInFlight w (message.Mark inc marks) → Has (x, true) marks → HasDecidedSign r w x
  IsBeingAnswered : (ask : Option AttemptId) (inc : ℕ) → IsInFlight w (message.Verdict x ask inc verdict.Committed) → HasDecidedSign r w x
  IsBeingTold : (own : Option Epoch) → HasWrites r x → IsInFlight w (message.Ended x own outcome.Committed) → HasDecidedSign r w x
  IsTold : HasWrites r x → HasLine w x outcome.Committed → HasDecidedSign r w x

-- A sign that an attempt had no effect: a member is being told so; or it has writes, and its client is being told so, or a line tells so.
pub data HasAbortedSign (r : Rules) (w : World) (x : AttemptId) : Type 0 where
  EndIsBeingMarked : (inc : ℕ) (marks : List (AttemptId × Bool)) → IsInFlight w (message.Mark inc marks) → Has (x, false) marks → HasAbortedSign r w x
  EndIsBeingAnswered : (ask : Option AttemptId) (inc : ℕ) → IsInFlight w (message.Verdict x ask inc verdict.Aborted) → HasAbortedSign r w x
  EndIsBeingTold : (own : Option Epoch) (how : Outcome) → is_failed how ≡ true → HasWrites r x → IsInFlight w (message.Ended x own how) → HasAbortedSign r w x
  EndIsTold : (how : Outcome) → is_failed how ≡ true → HasWrites r x → HasLine w x how → HasAbortedSign r w x

-- No attempt has both. Where one has a decided sign its leader and each other member hold it; where one has an aborted sign, its leader has no
-- entry of it, and no target has it committed.
pub record SignsAgree (r : Rules) (w : World) : Type 0 where
  pub apart : (x : AttemptId) → HasDecidedSign r w x → HasAbortedSign r w x → ⊥
  pub held : (x : AttemptId) (t : ℕ) → HasDecidedSign r w x → IsMember r x t → IsHeld w t x
  pub no_entry : (x : AttemptId) → HasAbortedSign r w x → entry_at w (leader_of r x) x ≡ None
  pub uncommitted : (x : AttemptId) (t : ℕ) (e : Entry) → HasAbortedSign r w x → HasEntry w t e → e.attempt ≡ x → e.committed ≡ false

-- so it is at each moment of any run, whatever its targets' versions stood for when it began
abbrev pub RunsSignAlike : Type 0
RunsSignAlike = (r : Rules) (o : Opening) (w v : World) → AreRulesInForm r → RunBeginsWell r o w → WorldRun r w v → SignsAgree r v

-- ---- the law

module _ (r : Rules) (o : Opening) (h : History) (w : World) (k : Grounds r o h w) where
  a : Attempts r h w
  a = k.heard.attempts

  facts : (x : AttemptId) → Entries r h w x
  facts x = (a.on.each x).entries

  found : (t : ℕ) (e : Entry) (i : HasEntry w t e) → entry_at w t e.attempt ≡ Some e
  unfolding entry_of
  found t e i = ap (λ z. entry_in z e.attempt) i.here ∙ row-found entry_attempt i.s.durable.entries e (a.on.ordered t i.s i.here).entries i.among

  -- what a letter says is so
  said : (m : Message) (i : IsInFlight w m) → IsSaidSo r h w i.l.from i.l.to m
  said m i = subst (IsSaidSo r h w i.l.from i.l.to) i.says (a.on.letters i.l i.among)

  decided-of : (x : AttemptId) → HasDecidedSign r w x → (e : Epoch) × Decided h x e
  decided-of x (IsHeldCommitted t e i its committed) = (e.epoch, subst (λ y. Decided h y e.epoch) its ((facts e.attempt).committed t e (found t e i) committed))
  decided-of x (CountsAsDecided t s here i) =
      let known : is_known_at w t x ≡ true = ap (λ z. is_known_in z x) here ∙ among-has x s.memory.leader.decided i in
      let z = (a.on.each x).rows.unsettled t known in
      (z.here.entry.epoch, z.decided)
  decided-of x (IsBeingMarked inc marks i j) = (said (message.Mark inc marks) i x true j).fate
  decided-of x (IsBeingAnswered ask inc i) = (said (message.Verdict x ask inc verdict.Committed) i).fate
  decided-of x (IsBeingTold own writes i) = let z = (k.outcomes.told i.l x own outcome.Committed i.among i.says writes).committed refl in (z.0, z.2)
  decided-of x (IsTold writes z) =
      let d = (k.outcomes.lines z.a z.among (subst (HasWrites r) (sym z.of_it) writes)).committed z.ended in
      (d.0, subst (λ y. Decided h y d.0) z.of_it d.2)

  -- of one that had no effect the leader keeps nothing
  no-entry : (x : AttemptId) → HasAbortedSign r w x → entry_at w (leader_of r x) x ≡ None
  no-entry x (EndIsBeingMarked inc marks i j) = (facts x).aborted (said (message.Mark inc marks) i x false j).fate
  no-entry x (EndIsBeingAnswered ask inc i) = (facts x).aborted (said (message.Verdict x ask inc verdict.Aborted) i).fate
  no-entry x (EndIsBeingTold own how failed writes i) = (k.outcomes.told i.l x own how i.among i.says writes).failed failed
  no-entry x (EndIsTold how failed writes z) =
      ap (λ y. entry_at w (leader_of r y) y) (sym z.of_it) ∙ (k.outcomes.lines z.a z.among (subst (HasWrites r) (sym z.of_it) writes)).failed (ap is_failed z.ended ∙ failed)

  held-by : (x : AttemptId) (t : ℕ) → HasDecidedSign r w x → IsMember r x t → IsHeld w t x
  held-by x t sign member = by (decided-of x sign) member
    where
      by : (e : Epoch) × Decided h x e → IsMember r x t → IsHeld w t x
      by (e, decided) (inl leads) = let z = (facts x).held_by_leader e decided in record { entry = z.entry; found = ap (λ n. entry_at w n x) leads ∙ z.found }
      by (e, decided) (inr other) = let z = (facts x).held_by_others e t decided other in record { entry = z.entry; found = z.found }

  both-not : (x : AttemptId) → HasDecidedSign r w x → HasAbortedSign r w x → ⊥
  both-not x decided aborted =
      let held = (held-by x (leader_of r x) decided (inl refl)).found in
      let none = no-entry x aborted in
      let no : ⊥ = cc (held, none) in no

  uncommitted-by : (x : AttemptId) (t : ℕ) (e : Entry) → HasAbortedSign r w x → HasEntry w t e → e.attempt ≡ x → (b : Bool) → e.committed ≡ b → b ≡ false
  uncommitted-by x t e aborted i its true is = absurd (both-not x (IsHeldCommitted t e i its is) aborted)
  uncommitted-by x t e aborted i its false is = refl

  pub signs-agree : SignsAgree r w
  signs-agree = record { apart = both-not; held = held-by; no_entry = no-entry; uncommitted = λ x t e aborted i its. uncommitted-by x t e aborted i its e.committed refl }

pub runs-sign_alike : RunsSignAlike
runs-sign_alike r o w v A B run = let k = runs-have_grounds r o w v A B run in signs-agree r o k.0 v k.1
