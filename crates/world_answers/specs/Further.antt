-- Turns after stops, and turns that make snapshots and aggregate: a target answers no read in one.
use Rattle.std.specs.Prelude.{ℕ, ◌≡◌, Bool, true, false, refl}
use Rattle.std.proofs.Common.{sym, subst}
use Rattle.base_types.specs.declared.epoch.Epoch.{Epoch}
use Rattle.base_types.specs.declared.outcome.FloorWhy.{FloorWhy}
use Rattle.base_messages.specs.declared.actor.ActorId.{ActorId}
use Rattle.base_messages.specs.declared.message.Message.{Message, more_of-Message}
use Rattle.base_messages.specs.declared.message.Message.TheVariants as message
use Rattle.world_base.specs.declared.did.Did.{Did}
use Rattle.world_base.specs.declared.request.CommitRequest.{CommitRequest}
use Rattle.world_base.specs.declared.target.TargetMemory.{TargetMemory}
use Rattle.world_base.specs.declared.target.TargetPlan.{TargetPlan}
use Rattle.world_base.specs.Changes.{Kept}
use Rattle.world_base.specs.Commits as commit
use Rattle.world_base.specs.Further.{CommitDown, HearsFurther, IsSpent, IsUnknown}
use Rattle.world_base.specs.Statuses.{status_refusal}
use Rattle.world_base.specs.TargetTurns.{commit_request}
use Rattle.world_making.specs.world_causes.hearing.Listening.{Listens, listens}
use Rattle.world_making.specs.world_commit.statuses.Heard.{is_of_attempts}
use Rattle.world_making.specs.world_contents.reads.Adds.{NoneIs, is_answer}
use Rattle.world_making.specs.fates.Sends.{making-sent, making-silent}
use Rattle.world_making.specs.making.Kinds.{of-attempts}
use Rattle.world_making.specs.making.Making.{tells_of_snapshots}
use Rattle.world_making.specs.making.Turns.{hearings-leave}
use Rattle.world_standing.specs.external.Silent.{ack-silent, one-silent}
use Rattle.world_answers.specs.Forms.{PostsInForm, none-answers}
use Rattle.world_making.specs.world_causes.hearing.FurtherTurns.{says-silent}

down-silent : (t : TargetPlan) (m : TargetMemory) (reading : ℕ) (q : CommitRequest) (from : ActorId) (s : commit.CommitStage) (k : Kept) (left : TargetMemory × Did) → CommitDown t m reading q from s k left → NoneIs is_answer left.1.posts
down-silent t m reading q from s k left (IsSpent j e down z none known is) = subst (λ (x : TargetMemory × Did). NoneIs is_answer x.1.posts) (sym is) (one-silent _ refl)
down-silent t m reading q from s k left (IsUnknown j e down z known is) = subst (λ (x : TargetMemory × Did). NoneIs is_answer x.1.posts) (sym is) (one-silent _ refl)

module _ (number : ℕ) (t : TargetPlan) (opening : Epoch × FloorWhy) (m : TargetMemory) (reading : ℕ) (from : ActorId) (old new : Kept) (left : TargetMemory × Did) where
  listens-silent : Listens old m new left → NoneIs is_answer left.1.posts
  listens-silent k p i = says-silent old.durable m.member.parked p.message (k.says p i)

  attempts-silent : (q : Message) → is_of_attempts q ≡ true → HearsFurther number t opening m reading from q old new left → NoneIs is_answer left.1.posts
  attempts-silent (message.Ask x) ours h = listens-silent (listens number t opening m reading from (message.Ask x) old new left refl h)
  attempts-silent (message.Status x inc) ours h = listens-silent (listens number t opening m reading from (message.Status x inc) old new left refl h)
  attempts-silent (message.Reset' by down place (more_of-Message q rest)) ours h = listens-silent (listens number t opening m reading from (message.Reset' by down place (more_of-Message q rest)) old new left ours h)
  attempts-silent (message.StatusIs x inc how) ours h = ack-silent t m from.number x inc (status_refusal x how) old new left h
  attempts-silent (message.Commit x ep first tracker ws) ours h = down-silent t m reading (commit_request x ep first tracker ws) from h.last new left h.ends
  attempts-silent (message.Snap x c called tracker) ours h = let no : ⊥ = cc in absurd no
  attempts-silent (message.Freeze x c e) ours h = let no : ⊥ = cc in absurd no
  attempts-silent (message.Held x refusal) ours h = let no : ⊥ = cc in absurd no
  attempts-silent (message.Prune x c tracker e) ours h = let no : ⊥ = cc in absurd no
  attempts-silent q ours h = absurd h

  further-silent : (q : Message) (making : Bool) → tells_of_snapshots q ≡ making → HearsFurther number t opening m reading from q old new left → NoneIs is_answer left.1.posts
  further-silent q false off h = attempts-silent q (of-attempts q off) h
  further-silent q true is h = λ p i. making-silent p.message (making-sent t m from q new.durable left.1.posts (hearings-leave number t opening m reading from q old new left h is).ends.sends p i)

  pub further-in_form : (q : Message) → HearsFurther number t opening m reading from q old new left → PostsInForm left.1.posts
  further-in_form q h = none-answers left.1.posts (further-silent q (tells_of_snapshots q) refl h)
