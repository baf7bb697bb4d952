-- The actors of a run as their contracts see them.
use Rattle.run_laws.specs.shows.Stages.{StageNow}
use Rattle.run_stage.specs.declared.stage.Stage.{Stage}

-- the clients, the targets, how these stand, and what lies between all of them
abbrev pub stage_now : {S C : Type 0} → Stage S C → StageNow S C
stage_now a = record { clients = a.clients.items; targets = a.targets.items; watch = a.watch; between = a.between }
