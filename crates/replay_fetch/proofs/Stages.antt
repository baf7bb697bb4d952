-- The steps and the ends of a Fetch, stage by stage.
use Rattle.std.proofs.Common.{ℕ, ◌≡◌, ◌/◌, refl, sym, ◌∙◌, ap, subst, List, Bool, true, false, Option, Some, None, ◌⊎◌, inl, inr, Contains}
use Rattle.std.specs.Prelude.{filter, if◌then◌else◌}
use Rattle.base_types.specs.declared.answer.Answer.{Answer}
use Rattle.base_types.specs.declared.entry.Settle.TheVariants.{Commit}
use Rattle.base_types.specs.declared.epoch.Epoch.{Epoch}
use Rattle.base_types.specs.declared.id.AttemptId.{AttemptId}
use Rattle.base_types.specs.declared.outcome.Cause.TheVariants as cause
use Rattle.base_types.specs.declared.outcome.Outcome.TheVariants as outcome
use Rattle.base_messages.specs.declared.actor.ActorId.{ActorId}
use Rattle.base_messages.specs.declared.message.Reply.TheVariants as reply
use Rattle.world_base.specs.declared.did.Did.{Did}
use Rattle.world_base.specs.declared.request.FetchRequest.{FetchRequest}
use Rattle.world_base.specs.declared.target.TargetMemory.{TargetMemory}
use Rattle.world_base.specs.declared.target.TargetPlan.{TargetPlan}
use Rattle.world_base.specs.Changes.{Change, Kept, Settles}
use Rattle.world_base.specs.Reads.{Asked, AtSnapshot, ExtendsLease, FetchEnds, FetchNext, FetchStage, HasEpoch, IsCovered, IsParked, IsRefused, IsServed, IsSpent, Known, MeetsUnresolved, Reading, SettlesOwn, asks_leader, fetch_at, fetched_message, memory_parked, memory_then, stamps_with, tells}
use Rattle.world_base.specs.Requests.{is_other_attempt, request_epoch, says, with_ticks}
use Rattle.world_base.specs.Roles.{joins_on, other_leader}
use Rattle.dtx_base.specs.Joining.{parking}
use Rattle.dtx_base.specs.declared.member.MemberMemory.{MemberMemory}
use Rattle.base_types.specs.declared.shown.Shown.{Shown}
use Rattle.daos_model.specs.declared.durable.Durable.{Durable}
use Rattle.replay_base.proofs.Leaders.{led_at}
use Rattle.replay_base.specs.Heard.{AreLedHere}
use Rattle.replay_base.proofs.Asking.{Begins}
use Rattle.replay_base.proofs.Covering.{Covering, CoverStep, Extending}
use Rattle.replay_fetch.specs.Met as met
use Rattle.replay_fetch.specs.Met.{IsEnding, IsInTheWay, left_by}
use Rattle.replay_fetch.specs.declared.meets.Ending.{Ending}
use Rattle.replay_fetch.specs.declared.meets.Ending.TheVariants as ending

-- at a snapshot a read begins at the epoch of that
pub record FromSnapshot (m : TargetMemory) (q : FetchRequest) (o : Option Change) (u : FetchStage) : Type 0 where
  pub epoch : Epoch
  pub snapshot : q.snapshot ≡ true
  pub own : q.ep ≡ Some epoch
  pub silent : o ≡ None
  pub there : u ≡ Reading epoch m.leader.decided

-- a decided attempt is settled
pub record SettlesOne (t : TargetPlan) (q : FetchRequest) (e : Epoch) (decided : List AttemptId) (k : Kept) (o : Option Change) (u : FetchStage) : Type 0 where
  pub a : AttemptId
  pub way : IsInTheWay t q e k.durable decided a
  pub change : o ≡ Some (Settles a Commit)
  pub there : u ≡ Reading e (filter (is_other_attempt a) decided)

module _ (t : TargetPlan) (m : TargetMemory) (reading : ℕ) (q : FetchRequest) (from : ActorId) where
  abbrev pub NextAt : FetchStage → Kept → Option Change → FetchStage → Type 0
  NextAt Asked k o u = FromSnapshot m q o u ⊎ ((q.snapshot ≡ false) × Begins (request_epoch t m reading q.tracker q.ep) Known o u)
  NextAt (Known e) k o u = CoverStep (e.0 / 256) (Known e) (Reading e m.leader.decided) k o u
  NextAt (Reading e decided) k o u = SettlesOne t q e decided k o u

  pub next_at : (s : FetchStage) (k : Kept) (o : Option Change) (u : FetchStage) → FetchNext t m reading q s k o u → NextAt s k o u
  next_at s k o u (AtSnapshot j e snapshot own) = inl (record { epoch = e; snapshot = snapshot; own = own; silent = refl; there = refl })
  next_at s k o u (HasEpoch j e now asked) = inr (now, record { epoch = e; asked = asked; silent = refl; there = refl })
  next_at s k o u (ExtendsLease j e lease low is) = Extending lease low is
  next_at s k o u (IsCovered j e le) = Covering le
  next_at s k o u (SettlesOwn j e decided a none unsettled own) = record { a = a; way = record { free = none; meets = unsettled; own = own }; change = refl; there = refl }

  -- no ticks were left
  abbrev pub spent : TargetMemory × Did
  spent = (m, says from (fetched_message q None (reply.Outcome outcome.EpochsSpent)) None)

  -- what is known with a read's epoch, but for that
  stamps_then : (e : Epoch) (b : Bool) → (if b then m else with_ticks e m).stamps ≡ m.stamps
  stamps_then e true = refl
  stamps_then e false = refl

  member_then : (e : Epoch) (b : Bool) → (if b then m else with_ticks e m).member ≡ m.member
  member_then e true = refl
  member_then e false = refl

  -- what a read is left with at its ending
  abbrev pub ended : Epoch → List AttemptId → Ending → TargetMemory × Did
  ended e decided r = left_by t q from e r (memory_then q e decided m)

  abbrev with_stamps : Epoch → List AttemptId → Answer → List Shown → TargetMemory × Did
  with_stamps e decided b stamps = (record (memory_then q e decided m) { stamps = stamps_with q e stamps }, tells q from e (reply.Answer b))

  served_is : (e : Epoch) (decided : List AttemptId) (b : Answer) → ended e decided (ending.Replies (reply.Answer b)) ≡ (record (memory_then q e decided m) { stamps = stamps_with q e m.stamps }, tells q from e (reply.Answer b))
  served_is e decided b = ap (with_stamps e decided b) (stamps_then e q.snapshot)

  abbrev with_member : Epoch → List AttemptId → AttemptId → ℕ → MemberMemory → TargetMemory × Did
  with_member e decided a leader k = (joins_on (parking (fetch_at q e) a leader (record { me = t.me; memory = k })) (memory_then q e decided m), asks_leader q e a leader)

  parked_is : (e : Epoch) (decided : List AttemptId) (a : AttemptId) (leader : ℕ) → ended e decided (ending.Parks a leader) ≡ (memory_parked t q e decided a leader m, asks_leader q e a leader)
  parked_is e decided a leader = ap (with_member e decided a leader) (member_then e q.snapshot)

  pub record Ended (e : Epoch) (decided : List AttemptId) (k : Kept) (left : TargetMemory × Did) : Type 0 where
    pub r : Ending
    pub is : IsEnding t q e k.durable decided r
    pub left_is : left ≡ ended e decided r

  abbrev pub EndsAt : FetchStage → Kept → TargetMemory × Did → Type 0
  EndsAt Asked k left = (q.snapshot ≡ false) × ((request_epoch t m reading q.tracker q.ep ≡ None) × (left ≡ spent))
  EndsAt (Known e) k left = ⊥
  EndsAt (Reading e decided) k left = Ended e decided k left

  pub ends_at : (s : FetchStage) (k : Kept) (left : TargetMemory × Did) → FetchEnds t m reading q from s k left → EndsAt s k left
  ends_at s k left (IsSpent j l now none is) = (now, (none, is))
  ends_at s k left (IsRefused j e decided c l why is) = record { r = ending.Replies (reply.Outcome (outcome.Restart c)); is = met.IsRefused c why refl; left_is = is }
  ends_at s k left (MeetsUnresolved j e decided a l none unsettled apart ours is) =
      record { r = ending.Replies (reply.Outcome (outcome.Restart (cause.Unresolved a))); is = met.IsUnresolved a none unsettled apart ours refl; left_is = is }
  ends_at s k left (IsParked j e decided a leader l none unsettled other is) = record { r = ending.Parks a leader; is = met.IsParked a leader none unsettled other refl; left_is = is ∙ sym (parked_is e decided a leader) }
  ends_at s k left (IsServed j e decided b l none answer is) = record { r = ending.Replies (reply.Answer b); is = met.IsAnswered b none answer refl; left_is = is ∙ sym (served_is e decided b) }

  pub ends_with : (e : Epoch) (decided : List AttemptId) (k : Kept) (r : Ending) → IsEnding t q e k.durable decided r → FetchEnds t m reading q from (Reading e decided) k (ended e decided r)
  ends_with e decided k r (met.IsRefused c why is) = IsRefused k e decided c (ended e decided r) why (ap (ended e decided) is)
  ends_with e decided k r (met.IsUnresolved a none unsettled apart ours is) = MeetsUnresolved k e decided a (ended e decided r) none unsettled apart ours (ap (ended e decided) is)
  ends_with e decided k r (met.IsParked a leader none unsettled other is) = IsParked k e decided a leader (ended e decided r) none unsettled other (ap (ended e decided) is ∙ parked_is e decided a leader)
  ends_with e decided k r (met.IsAnswered b none answer is) = IsServed k e decided b (ended e decided r) none answer (ap (ended e decided) is ∙ served_is e decided b)

  -- there is one ending
  pub one_ending : (e : Epoch) (d : Durable) (decided : List AttemptId) (r r' : Ending) → IsEnding t q e d decided r → IsEnding t q e d decided r' → r' ≡ r
  one_ending e d decided r r' (met.IsRefused c why is) (met.IsRefused c' why' is') = (let same : c' ≡ c = cc in is' ∙ ap (λ x. ending.Replies (reply.Outcome (outcome.Restart x))) same ∙ sym is)
  one_ending e d decided r r' (met.IsRefused c why is) (met.IsUnresolved a none unsettled apart ours is') = let bad : ⊥ = cc in absurd bad
  one_ending e d decided r r' (met.IsRefused c why is) (met.IsParked a leader none unsettled other is') = let bad : ⊥ = cc in absurd bad
  one_ending e d decided r r' (met.IsRefused c why is) (met.IsAnswered b none answer is') = let bad : ⊥ = cc in absurd bad
  one_ending e d decided r r' (met.IsUnresolved a none unsettled apart ours is) (met.IsRefused c why is') = let bad : ⊥ = cc in absurd bad
  one_ending e d decided r r' (met.IsUnresolved a none unsettled apart ours is) (met.IsUnresolved a' none' unsettled' apart' ours' is') =
      (let same : a' ≡ a = cc in is' ∙ ap (λ x. ending.Replies (reply.Outcome (outcome.Restart (cause.Unresolved x)))) same ∙ sym is)
  one_ending e d decided r r' (met.IsUnresolved a none unsettled apart ours is) (met.IsParked a' leader none' unsettled' other is') =
      (let same : a' ≡ a = cc in let theirs : other_leader t a d ≡ Some leader = subst (λ x. other_leader t x d ≡ Some leader) same other in let bad : ⊥ = cc in absurd bad)
  one_ending e d decided r r' (met.IsUnresolved a none unsettled apart ours is) (met.IsAnswered b none' answer is') = let bad : ⊥ = cc in absurd bad
  one_ending e d decided r r' (met.IsParked a leader none unsettled other is) (met.IsRefused c why is') = let bad : ⊥ = cc in absurd bad
  one_ending e d decided r r' (met.IsParked a leader none unsettled other is) (met.IsUnresolved a' none' unsettled' apart ours is') =
      (let same : a' ≡ a = cc in let theirs : other_leader t a d ≡ None = subst (λ x. other_leader t x d ≡ None) same ours in let bad : ⊥ = cc in absurd bad)
  one_ending e d decided r r' (met.IsParked a leader none unsettled other is) (met.IsParked a' leader' none' unsettled' other' is') =
      (let same : a' ≡ a = cc in let theirs : other_leader t a d ≡ Some leader' = subst (λ x. other_leader t x d ≡ Some leader') same other' in let led : leader' ≡ leader = cc in is' ∙ ap (λ x. ending.Parks x leader') same ∙ ap (ending.Parks a) led ∙ sym is)
  one_ending e d decided r r' (met.IsParked a leader none unsettled other is) (met.IsAnswered b none' answer is') = let bad : ⊥ = cc in absurd bad
  one_ending e d decided r r' (met.IsAnswered b none answer is) (met.IsRefused c why is') = let bad : ⊥ = cc in absurd bad
  one_ending e d decided r r' (met.IsAnswered b none answer is) (met.IsUnresolved a none' unsettled apart ours is') = let bad : ⊥ = cc in absurd bad
  one_ending e d decided r r' (met.IsAnswered b none answer is) (met.IsParked a leader none' unsettled other is') = let bad : ⊥ = cc in absurd bad
  one_ending e d decided r r' (met.IsAnswered b none answer is) (met.IsAnswered b' none' answer' is') = (let same : b' ≡ b = cc in is' ∙ ap (λ x. ending.Replies (reply.Answer x)) same ∙ sym is)

  -- and none while a decided attempt is in the way, which this target leads; nor where a read doesn't go on
  pub way_unended : (e : Epoch) (d : Durable) (decided : List AttemptId) (a : AttemptId) (r : Ending) → AreLedHere t decided d → IsInTheWay t q e d decided a → IsEnding t q e d decided r → ⊥
  way_unended e d decided a r led w (met.IsRefused c why is) = (let none = w.free in let bad : ⊥ = cc in bad)
  way_unended e d decided a r led w (met.IsUnresolved b none unsettled apart ours is) = (let here = w.meets in let same : a ≡ b = cc in apart (subst (Contains decided) same w.own))
  way_unended e d decided a r led w (met.IsParked b leader none unsettled other is) =
      (let here = w.meets in let same : a ≡ b = cc in let ours : other_leader t b d ≡ None = led_at t decided d b led (subst (Contains decided) same w.own) in let bad : ⊥ = cc in bad)
  way_unended e d decided a r led w (met.IsAnswered b none answer is) = (let here = w.meets in let bad : ⊥ = cc in bad)

  pub stuck_unended : (e : Epoch) (d : Durable) (decided : List AttemptId) (r : Ending) → met.IsStuck t q e d → IsEnding t q e d decided r → ⊥
  stuck_unended e d decided r w (met.IsRefused c why is) = (let none = w.free in let bad : ⊥ = cc in bad)
  stuck_unended e d decided r w (met.IsUnresolved b none unsettled apart ours is) = w.unmet b unsettled
  stuck_unended e d decided r w (met.IsParked b leader none unsettled other is) = w.unmet b unsettled
  stuck_unended e d decided r w (met.IsAnswered b none answer is) = w.unanswered b answer
