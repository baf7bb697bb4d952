-- What is told of attempts by what a target hears after stops.
use Rattle.std.specs.Prelude.{◌++◌, Bool, true, false, List, [], filter}
use Rattle.base_types.specs.declared.outcome.Outcome.TheVariants as outcome
use Rattle.base_messages.specs.declared.message.Message.{Message}
use Rattle.base_messages.specs.declared.message.Message.TheVariants as message
use Rattle.base_messages.specs.declared.message.Post.{Post}
use Rattle.world_commit.specs.fates.Told.{silent_at}
use Rattle.world_base.specs.declared.target.TargetState.{TargetState}
use Rattle.world_base.specs.declared.world.World.{World}
use Rattle.world_base.specs.Events.{Rules, target_after}
use Rattle.world_base.specs.Stops.{HearsMore}

-- an end by which it isn't known what becomes of an attempt
abbrev pub is_certain : Message → Bool
is_certain (message.Ended x own (outcome.Unknown t)) = false
is_certain m = true

abbrev pub tells_fate : Post → Bool
tells_fate p = is_certain p.message

-- By what is told, or would be told if clients waited, attempts are decided and aborted. What an Ask is answered tells of no fate that isn't
-- known already; what a member holds tells what an Ack does; and a Commit that is refused aborts its attempt.
abbrev pub told_by_it : Message → TargetState → TargetState → List Post → List Post
told_by_it (message.StatusIs x inc how) s z posts = posts ++ silent_at s z (message.StatusIs x inc how)
told_by_it (message.Commit x ep first tracker ws) s z posts = filter tells_fate posts
told_by_it m s z posts = []

abbrev pub told_further : {r : Rules} {w v : World} → HearsMore r w v → List Post
told_further g = told_by_it g.hears.l.message g.hears.s (target_after g.hears.s g.hears.new g.hears.memory) g.hears.did.posts
