-- Turns as without stops: what a target answers in one has form, where it keeps versions on paths with keys.
use Rattle.std.specs.Prelude.{ℕ, ◌≡◌, refl}
use Rattle.std.proofs.Common.{subst}
use Rattle.base_types.specs.declared.entry.Verdict.{Verdict}
use Rattle.base_types.specs.declared.entry.Verdict.TheVariants as verdicts
use Rattle.base_types.specs.declared.epoch.Epoch.{Epoch}
use Rattle.base_types.specs.declared.id.AttemptId.{AttemptId}
use Rattle.base_types.specs.declared.outcome.FloorWhy.{FloorWhy}
use Rattle.base_messages.specs.declared.actor.ActorId.{ActorId}
use Rattle.base_messages.specs.declared.message.Message.{Message}
use Rattle.base_messages.specs.declared.message.Message.TheVariants as message
use Rattle.dtx_base.specs.declared.member.Parked.{Parked}
use Rattle.dtx_base.specs.Leading.{attempts_of}
use Rattle.model_laws.specs.Members.{Has}
use Rattle.world_base.specs.declared.did.Did.{Did}
use Rattle.world_base.specs.declared.target.TargetMemory.{TargetMemory}
use Rattle.world_base.specs.declared.target.TargetPlan.{TargetPlan}
use Rattle.world_base.specs.Changes.{Kept}
use Rattle.world_base.specs.Roles.{is_prepared, told_by, told_of_all}
use Rattle.world_base.specs.TargetTurns.{Hears, commit_request, fetch_request, prepare_request}
use Rattle.world_standing.specs.external.Silent.{ack-silent, commit-silent, mark-silent, marked-silent, prepare-silent, query-silent}
use Rattle.world_answers.specs.Forms.{AsksInForm, PostsInForm, VersionsHaveKeys, none-answers}
use Rattle.world_answers.specs.Reads.{fetch-in_form, verdict-in_form}

-- what others tell leaves what waits
told-waits : (v : Verdict) (x : AttemptId) (m : TargetMemory) → (told_by v x m).member.parked ≡ m.member.parked
told-waits verdicts.Committed x m = refl
told-waits verdicts.Aborted x m = refl
told-waits verdicts.Undecided x m = refl

module _ (t : TargetPlan) (opening : Epoch × FloorWhy) (m : TargetMemory) (reading : ℕ) (from : ActorId) (old new : Kept) (left : TargetMemory × Did) (waits : (p : Parked) → Has p m.member.parked → AsksInForm p.ask) (keys : VersionsHaveKeys old.durable) where
  pub hears-in_form : (q : Message) → AsksInForm q → Hears t opening m reading from q old new left → PostsInForm left.1.posts
  hears-in_form (message.Fetch x op group ep first tracker q snapshot) asks h = fetch-in_form t m reading (fetch_request x op group ep first tracker q snapshot) from asks old new left keys h
  hears-in_form (message.Verdict x ask inc v) asks h = verdict-in_form is_prepared t (told_by v x m) reading x ask v old (λ p i. waits p (subst (Has p) (told-waits v x m) i)) keys new left h
  hears-in_form (message.Commit x ep first tracker ws) asks h = none-answers left.1.posts (commit-silent t opening m reading (commit_request x ep first tracker ws) from h.last new left h.ends)
  hears-in_form (message.Prepare e first ws inc) asks h = none-answers left.1.posts (prepare-silent t opening m (prepare_request e first ws inc) h.last new left h.ends)
  hears-in_form (message.Ack x inc refusal) asks h = none-answers left.1.posts (ack-silent t m from.number x inc refusal old new left h)
  hears-in_form (message.Mark inc marks) asks h = none-answers left.1.posts (mark-silent (told_of_all (attempts_of marks) m) from inc marks h.last new left h.ends)
  hears-in_form (message.Marked inc ids) asks h = none-answers left.1.posts (marked-silent t m from.number inc ids h.last new left h.ends)
  hears-in_form (message.Query x ask) asks h = none-answers left.1.posts (query-silent t m from x ask h.last new left h.ends)
  hears-in_form q asks h = absurd h
