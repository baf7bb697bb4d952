-- At each moment of a run what goes about of how attempts end goes with what their commands do.
use Rattle.daos_model.specs.Opening.{Opening}
use Rattle.world_base.specs.declared.world.World.{World}
use Rattle.world_base.specs.Events.{Rules}
use Rattle.world_base.specs.Stops.{Begins, Goes, WorldRun}
use Rattle.world_refusals.specs.Events.{all-events-keep_fit, fit-begins}
use Rattle.world_refusals.specs.Telling.{AllTellFitly}
use Rattle.world_upheld.specs.upheld.Begins.{AreRulesInForm, RunBeginsWith}
use Rattle.world_upheld.specs.upheld.Runs.{runs-have_grounds}
use Rattle.world_upheld.specs.upheld.BeginVersions.{begins-well}

abbrev pub AllRunsTellFitly : Type 0
AllRunsTellFitly = (r : Rules) (o : Opening) (w v : World) → AreRulesInForm r → RunBeginsWith r o w → WorldRun r w v → AllTellFitly r v

pub all-runs-tell_fitly : AllRunsTellFitly
all-runs-tell_fitly r o w v A B Begins = fit-begins r w B.messages
all-runs-tell_fitly r o w v A B (Goes u x run e) =
    let k = runs-have_grounds r o w u A (begins-well r o w B) run in
    all-events-keep_fit r o k.0 u v k.1.heard e (all-runs-tell_fitly r o w u A B run)
