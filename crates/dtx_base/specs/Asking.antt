-- A leader is asked by a client what became of an attempt.
use Rattle.std.specs.Prelude.{◌||◌, ℕ, Bool, List, [], ◌∷◌, map, Option, Some, None, if◌then◌else◌}
use Rattle.base_types.specs.declared.entry.Entry.{Entry}
use Rattle.base_types.specs.declared.epoch.Epoch.{Epoch}
use Rattle.base_types.specs.declared.id.AttemptId.{AttemptId}
use Rattle.base_types.specs.declared.outcome.Cause.TheVariants.{Unresolved}
use Rattle.base_types.specs.declared.outcome.Outcome.{Outcome}
use Rattle.base_types.specs.declared.outcome.Outcome.TheVariants as outcome
use Rattle.base_messages.specs.declared.actor.ActorId.{ActorId}
use Rattle.base_messages.specs.declared.message.Message.TheVariants as message
use Rattle.base_messages.specs.declared.message.Post.{Post}
use Rattle.daos_model.specs.Durables.{same_attempt}
use Rattle.dtx_base.specs.declared.leading.Undecided.{Undecided}
use Rattle.dtx_base.specs.Leading.{LeaderOf, LeaderStep, entry_led, first_down, with_undecided}
use Rattle.dtx_base.specs.Rows.{is_among}

-- the client waits for it from now on
abbrev pub waits_at : AttemptId → ActorId → Undecided → Undecided
waits_at x client u = if same_attempt u.attempt x then record u { client = Some client } else u

-- a client waits for an attempt from now on
abbrev pub waited_by : AttemptId → ActorId → LeaderOf → LeaderOf
waited_by x client l = with_undecided (map (waits_at x client) l.memory.undecided) l

abbrev pub tells_end : ActorId → AttemptId → Option Epoch → Outcome → List Post
tells_end from x ep how = record { to = from; message = message.Ended x ep how } ∷ []

-- an undecided attempt: a member is known to be down, or the client waits
abbrev pub asked_open : AttemptId → ActorId → Entry → Option ℕ → LeaderOf → LeaderStep
asked_open x from e None l = record { leader = waited_by x from l; posts = [] }
asked_open x from e (Some down) l = record { leader = l; posts = tells_end from x (Some e.epoch) (outcome.Unknown down) }

abbrev pub asked_of : AttemptId → ActorId → Option Entry → Bool → LeaderOf → LeaderStep
asked_of x from None decided l = record { leader = l; posts = tells_end from x None (outcome.Restart (Unresolved x)) }
asked_of x from (Some e) decided l =
    if e.committed || decided then record { leader = l; posts = tells_end from x (Some e.epoch) outcome.Committed } else asked_open x from e (first_down e.members l.memory.down) l

unfoldable pub ask_heard : AttemptId → ActorId → LeaderOf → LeaderStep
ask_heard x from l = asked_of x from (entry_led x l) (is_among x l.memory.decided) l
