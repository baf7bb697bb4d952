-- What a Query comes to.
use Rattle.std.proofs.Common.{◌≡◌, refl, Option, Some, None, Result}
use Rattle.std.specs.Prelude.{IfOk, IfErr}
use Rattle.base_types.specs.declared.id.AttemptId.{AttemptId}
use Rattle.base_messages.specs.declared.actor.ActorId.{ActorId}
use Rattle.daos_model.specs.declared.durable.Durable.{Durable}
use Rattle.vos_store.specs.Calls.{State}
use Rattle.world_base.specs.declared.did.Did.{Did}
use Rattle.world_base.specs.declared.target.TargetMemory.{TargetMemory}
use Rattle.world_base.specs.declared.target.TargetPlan.{TargetPlan}
use Rattle.world_base.specs.Requests.{says}
use Rattle.world_base.specs.Turns.{Whole}
use Rattle.world_base.specs.Verdicts.{Answers, IsAnswered, IsAsked, IsTold, QueryEnds, QueryNext, verdict_message}
use Rattle.target_parts.specs.declared.stop.TargetStop.{TargetStop}
use Rattle.target_parts.specs.Ending.{turn_said}
use Rattle.target_parts.specs.Parts.{kept}
use Rattle.target_parts.specs.Stops.{Turn, never, stop_memory}
use Rattle.target_parts.specs.Turning.{now_partway, reached_silent, whole}
use Rattle.world_base.specs.PathLaws.{reached-here}

-- what the leader knows of the attempt is told, or memory is wanting for that
pub answers-so : (t : TargetPlan) (m : TargetMemory) (from : ActorId) (a : AttemptId) (ask : Option AttemptId) (d : Durable) (h : State) (new : Option Durable) (finds : Durable → Type 0) (r : Result Did TargetStop) → new ≡ Some d
    → IfOk r (λ did. did ≡ says from (verdict_message t m a ask d) None) → IfErr r (λ e. e ≡ stop_memory)
    → Turn QueryNext never IsAsked (kept d h) (λ did l. Whole QueryNext (QueryEnds t m from a ask) IsAsked (kept d h) l (m, did)) new h finds r
answers-so t m from a ask d h new finds r at ok wanting =
    turn_said QueryNext never IsAsked (kept d h) new h finds (λ did l. Whole QueryNext (QueryEnds t m from a ask) IsAsked (kept d h) l (m, did)) r (says from (verdict_message t m a ask d) None) ok wanting
    (record {
      durable = d;
      kept_is = at;
      holds = whole QueryNext (QueryEnds t m from a ask) IsAsked (kept d h) (kept d h) IsAnswered (m, says from (verdict_message t m a ask d) None)
          (reached_silent QueryNext IsAsked (kept d h) IsAsked (kept d h) IsAnswered (reached-here QueryNext IsAsked (kept d h)) (Answers (kept d h)))
          (IsTold (kept d h) (m, says from (verdict_message t m a ask d) None) refl);
    })
    (now_partway QueryNext IsAsked d h h new (record { kept_is = at; free = refl }))
