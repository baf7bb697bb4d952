-- What is sent in turns in which snapshots are made or containers aggregated says nothing of attempts between their leaders and members.
use Rattle.std.specs.Prelude.{ℕ, ◌≡◌, Bool, true, false, List, [], ◌∷◌, map, Some, None, refl}
use Rattle.std.proofs.Common.{◌∙◌, ap, subst, inl, inr}
use Rattle.base_types.specs.declared.id.AttemptId.{AttemptId}
use Rattle.base_messages.specs.declared.actor.ActorId.{ActorId}
use Rattle.base_messages.specs.declared.message.Message.{Message, more_of-Message}
use Rattle.base_messages.specs.declared.message.Message.TheVariants as message
use Rattle.base_messages.specs.declared.message.Post.{Post}
use Rattle.daos_model.specs.declared.durable.Durable.{Durable}
use Rattle.dtx_base.specs.Leading.{to_target}
use Rattle.model_laws.specs.Members.{Has, has-from_map}
use Rattle.world_causes.specs.world_commit.attempts.History.{History}
use Rattle.world_base.specs.declared.letter.Letter.{Letter}
use Rattle.world_base.specs.declared.target.TargetMemory.{TargetMemory}
use Rattle.world_base.specs.declared.target.TargetPlan.{TargetPlan}
use Rattle.world_base.specs.declared.world.World.{World}
use Rattle.world_base.specs.Events.{Rules}
use Rattle.world_base.specs.Letters.{letter_of, letters_of}
use Rattle.world_base.specs.Snapshots.{freeze_to, others, prune_to}
use Rattle.world_causes.specs.world_commit.fates.Concerns.{Spare, concerns}
use Rattle.world_causes.specs.world_commit.fates.Facts.{IsSaidSo}
use Rattle.world_making.specs.making.Making.{AsksAgain, AsksFreezes, AsksPrunes, EndsCollected, EndsIt, IsOfMaking, MakingSends, SaysFrozen, SaysNothing, SaysPruned, SaysRefused, is_lost_at}
use Rattle.world_causes.specs.world_contents.reads.Adds.{is_answer}

-- ---- what is heard

-- what is heard of snapshots and aggregation concerns no attempt between targets
pub making-unconcerned : (q : Message) → IsOfMaking q → (x : AttemptId) → concerns x q ≡ false
making-unconcerned (message.Snap y c name tracker) is x = refl
making-unconcerned (message.Freeze y c s) is x = refl
making-unconcerned (message.Held y refusal) is x = refl
making-unconcerned (message.Prune y c tracker e) is x = refl
making-unconcerned (message.Reset' by down place (more_of-Message (message.Snap y c name tracker) rest)) is x = refl
making-unconcerned (message.Reset' by down place (more_of-Message (message.Freeze y c s) rest)) is x = refl
making-unconcerned (message.Reset' by down place (more_of-Message (message.Held y refusal) rest)) is x = refl
making-unconcerned (message.Reset' by down place (more_of-Message (message.Prune y c tracker e) rest)) is x = refl
making-unconcerned (message.Reset' by down place (more_of-Message q rest)) is x = let no : ⊥ = cc in absurd no
making-unconcerned q is x = let no : ⊥ = cc in absurd no

-- ---- what is sent

-- a Freeze, a Prune, a Held, or how an attempt ended
abbrev pub is_sent_in_making : Message → Bool
is_sent_in_making (message.Freeze x c s) = true
is_sent_in_making (message.Prune x c tracker e) = true
is_sent_in_making (message.Held x refusal) = true
is_sent_in_making (message.Ended x own how) = true
is_sent_in_making m = false

abbrev AreSent : List Post → Type 0
AreSent posts = (z : Post) → Has z posts → is_sent_in_making z.message ≡ true

one-sent : (to : ActorId) (m : Message) (posts : List Post) → is_sent_in_making m ≡ true → posts ≡ record { to = to; message = m } ∷ [] → AreSent posts
one-sent to m posts is one z i = by (subst (Has z) one i)
  where
    by : Has z (record { to = to; message = m } ∷ []) → is_sent_in_making z.message ≡ true
    by (inl same) = ap (λ y. is_sent_in_making y.message) same ∙ is
    by (inr none) = absurd none

all-sent : (to : ℕ → Post) (ts : List ℕ) (posts : List Post) → ((t : ℕ) → is_sent_in_making (to t).message ≡ true) → posts ≡ map to ts → AreSent posts
all-sent to ts posts each all z i = let y = has-from_map to ts z (subst (Has z) all i) in subst (λ n. is_sent_in_making n.message ≡ true) y.2 (each y.0)

-- what is asked again was a Freeze or a Prune
again-sent : (by : ℕ) (q asked : Message) → is_lost_at by q asked → is_sent_in_making asked ≡ true
again-sent by (message.Reset' t false place (more_of-Message (message.Freeze y c s) rest)) asked h = ap is_sent_in_making h.1
again-sent by (message.Reset' t false place (more_of-Message (message.Prune y c tracker e) rest)) asked h = ap is_sent_in_making h.1
again-sent by q asked h = absurd h

pub making-sent : (p : TargetPlan) (m : TargetMemory) (from : ActorId) (q : Message) (d : Durable) (posts : List Post) → MakingSends p m from q d posts → AreSent posts
making-sent p m from q d posts (AsksFreezes x c name tracker s is frozen all) = all-sent (freeze_to x c s) (others p) posts (λ t. refl) all
making-sent p m from q d posts (AsksPrunes x c tracker g is all) = all-sent (prune_to x c g) (others p) posts (λ t. refl) all
making-sent p m from q d posts (SaysFrozen x c s is frozen one) = one-sent from (message.Held x None) posts refl one
making-sent p m from q d posts (SaysRefused x c s how is why one) = one-sent from (message.Held x (Some how)) posts refl one
making-sent p m from q d posts (SaysPruned x c g is one) = one-sent from (message.Held x None) posts refl one
making-sent p m from q d posts (EndsIt x own how is one) = one-sent from (message.Ended x own how) posts refl one
making-sent p m from q d posts (EndsCollected x c how is found one) = one-sent c.client (message.Ended x (Some c.epoch) how) posts refl one
making-sent p m from q d posts (AsksAgain by asked is one) = one-sent (to_target by asked).to asked posts (again-sent by q asked is) one
making-sent p m from q d posts (SaysNothing unasked none) = λ z i. absurd (subst (Has z) none i)

sent-unconcerned : (m : Message) → is_sent_in_making m ≡ true → (x : AttemptId) → concerns x m ≡ false
sent-unconcerned (message.Freeze y c s) is x = refl
sent-unconcerned (message.Prune y c tracker e) is x = refl
sent-unconcerned (message.Held y refusal) is x = refl
sent-unconcerned (message.Ended y own how) is x = refl
sent-unconcerned m is x = let no : ⊥ = cc in absurd no

sent-so : (r : Rules) (h : History) (w : World) (from to : ActorId) (m : Message) → is_sent_in_making m ≡ true → IsSaidSo r h w from to m
sent-so r h w from to (message.Freeze y c s) is = tt
sent-so r h w from to (message.Prune y c tracker e) is = tt
sent-so r h w from to (message.Held y refusal) is = tt
sent-so r h w from to (message.Ended y own how) is = tt
sent-so r h w from to m is = let no : ⊥ = cc in absurd no

module _ (by : ActorId) (posts : List Post) (sent : (z : Post) → Has z posts → is_sent_in_making z.message ≡ true) where
  pub spare : (x : AttemptId) → Spare x (letters_of by posts)
  spare x l i = let y = has-from_map (letter_of by) posts l i in subst (λ n. concerns x n.message ≡ false) y.2 (sent-unconcerned y.0.message (sent y.0 y.1) x)

  pub so : (r : Rules) (h : History) (w : World) → (l : Letter) → Has l (letters_of by posts) → IsSaidSo r h w l.from l.to l.message
  so r h w l i = let y = has-from_map (letter_of by) posts l i in subst (λ n. IsSaidSo r h w n.from n.to n.message) y.2 (sent-so r h w by y.0.to y.0.message (sent y.0 y.1))

pub making-silent : (m : Message) → is_sent_in_making m ≡ true → is_answer m ≡ false
making-silent (message.Fetched x op group own b) sent = let no : ⊥ = cc in absurd no
making-silent m sent = refl
