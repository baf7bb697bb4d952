-- A leader hears what a member holds, as it hears an Ack.
use Rattle.std.specs.Prelude.{ℕ, ◌≡◌, ◌++◌, refl}
use Rattle.std.proofs.Common.{ap}
use Rattle.base_types.specs.declared.entry.EntryState.{EntryState}
use Rattle.base_types.specs.declared.id.AttemptId.{AttemptId}
use Rattle.base_messages.specs.declared.message.Message.TheVariants as message
use Rattle.world_commit.specs.attempts.History.{GrowsBy, History}
use Rattle.world_commit.specs.fates.AckTurns as ack
use Rattle.world_commit.specs.fates.Answers.{IsAnswer, state-answers}
use Rattle.world_commit.specs.fates.Asked.{AskedRight}
use Rattle.world_commit.specs.fates.Facts.{Ongoing, PromptsFly, is_prompt_kind}
use Rattle.world_commit.specs.fates.Told.{silent_at}
use Rattle.world_commit.specs.fates.Working.{work-begins}
use Rattle.world_commit.specs.statuses.Turns.{hears-over, hears-spoken}
use Rattle.world_base.specs.declared.world.World.{World}
use Rattle.world_base.specs.Acks.{AckNext, Heard}
use Rattle.world_base.specs.Events.{Rules, TargetHearsBy, kept, target_after, target_plan}
use Rattle.world_base.specs.Further.{HearsFurther}
use Rattle.world_base.specs.PathLaws.{path-keeps}
use Rattle.world_base.specs.Statuses.{status_refusal}

module _ (number : ℕ) (r : Rules) (h later : History) (w v : World) (right : AskedRight r h w) (k : Ongoing r h w) (g : TargetHearsBy (HearsFurther number) r w v) (x : AttemptId) (inc : ℕ) (how : EntryState) (is : g.l.message ≡ message.StatusIs x inc how)
    (turn : HearsFurther number (target_plan r g.t) g.s.opening g.s.memory g.reading g.l.from (message.StatusIs x inc how) (kept g.s) g.new (g.memory, g.did)) where
  answer : IsAnswer r g.l x inc (status_refusal x how)
  answer = state-answers r g.l x inc how is

  so-far : ack.AtAck r h later w v g.t g.s g.here g.runs g.s.memory g.l g.rest g.takes g.to_it x inc (status_refusal x how) answer turn.last g.new
  so-far =
      path-keeps (AckNext (target_plan r g.t) g.s.memory g.l.from.number x inc (status_refusal x how)) (ack.AtAck r h later w v g.t g.s g.here g.runs g.s.memory g.l g.rest g.takes g.to_it x inc (status_refusal x how) answer)
      (ack.ack-step r h later w v g.t g.s g.here g.runs g.s.memory g.l g.rest g.takes g.to_it x inc (status_refusal x how) answer) Heard (kept g.s) turn.reached.did turn.last g.new turn.reached.path (refl, work-begins r h w g.t g.s g.here k)

  pub state-keeps : GrowsBy h (g.did.posts ++ silent_at g.s (target_after g.s g.new g.memory) (message.StatusIs x inc how)) later → Ongoing r later v
  state-keeps grows =
      ack.ack-ends r h later w v g.t g.s g.here g.runs g.s.memory g.l g.rest g.takes g.to_it x inc (status_refusal x how) answer (right.one_epoch x) turn.last g.new (g.memory, g.did) turn.ends so-far (hears-over number r w v g) grows

  pub state-prompts : PromptsFly w → PromptsFly v
  state-prompts fly =
      hears-spoken number r w v g (ap is_prompt_kind is)
      (ack.ack-speaks r h later w v g.t g.s g.here g.runs g.s.memory g.l g.rest g.takes g.to_it x inc (status_refusal x how) answer turn.last g.new (g.memory, g.did) turn.ends so-far) fly
