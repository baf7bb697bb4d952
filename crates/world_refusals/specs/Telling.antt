-- What goes about of how attempts end goes with what their commands do.
use Rattle.std.specs.Prelude.{Option, Some, None}
use Rattle.base_types.specs.declared.id.AttemptId.{AttemptId}
use Rattle.base_types.specs.declared.outcome.Outcome.{Outcome}
use Rattle.base_types.specs.declared.script.Script.{Script}
use Rattle.base_messages.specs.declared.message.Message.{Message}
use Rattle.base_messages.specs.declared.message.Message.TheVariants.{Ack, Ended, Fetched, Held}
use Rattle.base_messages.specs.declared.message.Reply.{Reply}
use Rattle.base_messages.specs.declared.message.Reply.TheVariants as reply
use Rattle.model_laws.specs.Members.{Has}
use Rattle.model_lone.specs.Refusals.{GoesWithCommand}
use Rattle.world_base.specs.declared.letter.Letter.{Letter}
use Rattle.world_base.specs.declared.world.World.{World}
use Rattle.world_base.specs.Events.{Rules}

abbrev pub ReplyGoes : Script → AttemptId → Reply → Type 0
ReplyGoes s x (reply.Answer b) = Unit {0}
ReplyGoes s x (reply.Outcome how) = GoesWithCommand s x how

abbrev pub RefusalGoes : Script → AttemptId → Option Outcome → Type 0
RefusalGoes s x None = Unit {0}
RefusalGoes s x (Some how) = GoesWithCommand s x how

-- by what a message tells an attempt ends, or is refused, as one of its command may
abbrev pub TellsFitly : Script → Message → Type 0
TellsFitly s (Fetched x op group e b) = ReplyGoes s x b
TellsFitly s (Ended x e how) = GoesWithCommand s x how
TellsFitly s (Ack x inc refusal) = RefusalGoes s x refusal
TellsFitly s (Held x refusal) = RefusalGoes s x refusal
TellsFitly s m = Unit {0}

-- so it is of all in flight
abbrev pub AllTellFitly : Rules → World → Type 0
AllTellFitly r w = (l : Letter) → Has l w.messages → TellsFitly r.script l.message
