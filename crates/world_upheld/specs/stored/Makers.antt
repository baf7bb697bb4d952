-- Who is told an end where snapshots are made and containers aggregated: an attempt that makes a snapshot or aggregates, which has no writes.
use Rattle.std.specs.Prelude.{ℕ, ◌≡◌, true, false, List, [], ◌∷◌, map, Option, Some, None}
use Rattle.std.proofs.Common.{sym, ap, subst, inl, inr}
use Rattle.base_types.specs.declared.epoch.Epoch.{Epoch}
use Rattle.base_types.specs.declared.id.AttemptId.{AttemptId}
use Rattle.base_types.specs.declared.outcome.Outcome.{Outcome}
use Rattle.base_types.specs.declared.outcome.Outcome.TheVariants as outcome
use Rattle.base_messages.specs.declared.actor.ActorId.{ActorId}
use Rattle.base_messages.specs.declared.message.Message.{Message, more_of-Message}
use Rattle.base_messages.specs.declared.message.Message.TheVariants as message
use Rattle.base_messages.specs.declared.message.Post.{Post}
use Rattle.daos_model.specs.Accesses.{minor_writes}
use Rattle.daos_model.specs.Transactions.{ops_or_none}
use Rattle.daos_model.specs.declared.durable.Durable.{Durable}
use Rattle.dtx_base.specs.Leading.{to_target}
use Rattle.model_laws.specs.Members.{Has, has-from_map}
use Rattle.world_base.specs.declared.target.TargetMemory.{TargetMemory}
use Rattle.world_base.specs.declared.target.TargetPlan.{TargetPlan}
use Rattle.world_base.specs.Events.{Rules}
use Rattle.world_base.specs.Snapshots.{freeze_to, others, prune_to}
use Rattle.world_legal.specs.world_causes.causes.Storing.{RefusesAt}
use Rattle.world_owners.specs.world_making.fates.Sends.{is_sent_in_making}
use Rattle.world_owners.specs.world_making.makers.Makers.{IsMaker, IsToldByMaker}
use Rattle.world_owners.specs.world_making.making.Making.{AsksAgain, AsksFreezes, AsksPrunes, EndsCollected, EndsIt, MakingSends, SaysFrozen, SaysNothing, SaysPruned, SaysRefused, is_asked_for, is_lost_at, is_told_of}
use Rattle.world_letters.specs.snapshots.Makings.{IsSo}
use Rattle.world_legal.specs.world_causes.outcomes.Outcomes.{HasWrites}

-- such an attempt has no operations
pub maker-writes-none : (r : Rules) (x : AttemptId) → IsMaker r x → HasWrites r x → ⊥
unfolding minor_writes
maker-writes-none r x (c, inl made) some = some (ap (λ o. minor_writes 0 (ops_or_none o)) made.1)
maker-writes-none r x (c, inr made) some = some (ap (λ o. minor_writes 0 (ops_or_none o)) made)

-- an end is told of such an attempt
abbrev pub EndsMaker : Rules → Message → Type 0
EndsMaker r (message.Ended x own how) = IsMaker r x
EndsMaker r m = Unit {0}

abbrev pub EndMakers : Rules → List Post → Type 0
EndMakers r posts = (q : Post) → Has q posts → EndsMaker r q.message

one-ends : (r : Rules) (q : Post) → EndsMaker r q.message → EndMakers r (q ∷ [])
one-ends r q is s (inl same) = subst (λ z. EndsMaker r z.message) (sym same) is
one-ends r q is s (inr none) = absurd none

all-end : (r : Rules) (to : ℕ → Post) (ts : List ℕ) → ((t : ℕ) → EndsMaker r (to t).message) → EndMakers r (map to ts)
all-end r to ts each q i = let z = has-from_map to ts q i in subst (λ y. EndsMaker r y.message) z.2 (each z.0)

module _ (r : Rules) (is : List (AttemptId × Epoch)) where
  -- who asks for it makes it
  asker-makes : (x : AttemptId) (q : Message) → IsSo r is q → is_asked_for x q → IsMaker r x
  asker-makes x (message.Snap y c name tracker) so same = subst (IsMaker r) same (c, inl (name, so))
  asker-makes x (message.Prune y c (Some tracker) None) so same = subst (IsMaker r) same (c, inr so)
  asker-makes x q so none = absurd none

  -- and so does the attempt of which a target tells
  told-makes : (x : AttemptId) (q : Message) → IsSo r is q → IsToldByMaker r q → is_told_of x q → IsMaker r x
  told-makes x (message.Held y refusal) so told same = subst (IsMaker r) same told
  told-makes x (message.Reset' by true place (more_of-Message (message.Freeze y c s) rest)) so told same = subst (IsMaker r) same (c, inl so.1)
  told-makes x (message.Reset' by true place (more_of-Message (message.Prune y c (Some tracker) None) rest)) so told same = subst (IsMaker r) same (c, inr so)
  told-makes x (message.Reset' by true place (more_of-Message (message.Prune y c None (Some g)) rest)) so told same = subst (IsMaker r) same (c, inr so.1)
  told-makes x (message.Reset' by true place (more_of-Message (message.Prune y c None None) rest)) so told same = absurd told
  told-makes x (message.Reset' by true place (more_of-Message (message.Prune y c (Some tracker) (Some g)) rest)) so told same = absurd told
  told-makes x q so told none = absurd none

  again-ends : (by : ℕ) (q asked : Message) → is_lost_at by q asked → EndsMaker r asked
  again-ends by (message.Reset' t false place (more_of-Message (message.Freeze y c s) rest)) asked h = subst (EndsMaker r) (sym h.1) tt
  again-ends by (message.Reset' t false place (more_of-Message (message.Prune y c tracker e) rest)) asked h = subst (EndsMaker r) (sym h.1) tt
  again-ends by q asked h = absurd h

  pub making-ends-makers : (p : TargetPlan) (m : TargetMemory) (from : ActorId) (q : Message) (d : Durable) (posts : List Post) → IsSo r is q → IsToldByMaker r q
      → MakingSends p m from q d posts → EndMakers r posts
  making-ends-makers p m from q d posts so told (AsksFreezes x c name tracker s same frozen all) = subst (EndMakers r) (sym all) (all-end r (freeze_to x c s) (others p) (λ t. tt))
  making-ends-makers p m from q d posts so told (AsksPrunes x c tracker g same all) = subst (EndMakers r) (sym all) (all-end r (prune_to x c g) (others p) (λ t. tt))
  making-ends-makers p m from q d posts so told (SaysFrozen x c s same frozen one) = subst (EndMakers r) (sym one) (one-ends r _ tt)
  making-ends-makers p m from q d posts so told (SaysRefused x c s how same why one) = subst (EndMakers r) (sym one) (one-ends r _ tt)
  making-ends-makers p m from q d posts so told (SaysPruned x c g same one) = subst (EndMakers r) (sym one) (one-ends r _ tt)
  making-ends-makers p m from q d posts so told (EndsIt x own how asked one) = subst (EndMakers r) (sym one) (one-ends r _ (asker-makes x q so asked))
  making-ends-makers p m from q d posts so told (EndsCollected x c how of found one) = subst (EndMakers r) (sym one) (one-ends r _ (told-makes x q so told of))
  making-ends-makers p m from q d posts so told (AsksAgain by asked lost one) = subst (EndMakers r) (sym one) (one-ends r (to_target by asked) (again-ends by q asked lost))
  making-ends-makers p m from q d posts so told (SaysNothing unasked none) = subst (EndMakers r) (sym none) (λ z i. absurd i)

-- so what is refused for want of space there is such an attempt
refused-end : (r : Rules) (y : AttemptId) (own : Option Epoch) (how : Outcome) (t : ℕ) (x : AttemptId) → IsMaker r y → RefusesAt (message.Ended y own how) t x → IsMaker r x
refused-end r y own (outcome.NoSpace u need free) t x maker k = subst (IsMaker r) k.0 maker
refused-end r y own how t x maker k = absurd k

pub refused-makes : (r : Rules) (m : Message) (t : ℕ) (x : AttemptId) → is_sent_in_making m ≡ true → EndsMaker r m → RefusesAt m t x → IsMaker r x
refused-makes r (message.Ended y own how) t x sent maker k = refused-end r y own how t x maker k
refused-makes r (message.Freeze y c s) t x sent maker k = absurd k
refused-makes r (message.Prune y c tracker e) t x sent maker k = absurd k
refused-makes r (message.Held y refusal) t x sent maker k = absurd k
refused-makes r m t x sent maker k = let no : ⊥ = cc in absurd no
