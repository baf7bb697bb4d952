-- What holds of the world when a run is over, and the report of its lines.
use Rattle.daos_model.specs.Opening.{Given}
use Rattle.world_base.specs.Events.{Rules}

-- ---- the report

-- what a run is given, as its events take it
abbrev pub rules_of : Given → Rules
rules_of g = record { script = g.script; attempts = g.job.attempts; epsilon = g.job.epsilon }
