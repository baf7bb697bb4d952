-- What a Commit stores, and what is known and follows then.
use Rattle.std.specs.Prelude.{ℕ, []}
use Rattle.base_types.specs.declared.entry.Entry.{Entry}
use Rattle.base_types.specs.declared.epoch.Epoch.{Epoch}
use Rattle.base_messages.specs.declared.actor.ActorId.{ActorId}
use Rattle.dtx_base.specs.declared.leading.LeaderMemory.{LeaderMemory}
use Rattle.dtx_base.specs.Leading.{LeaderOf, LeaderStep, begun}
use Rattle.replay_writes.specs.declared.ways.Storing.{Storing}
use Rattle.replay_writes.specs.declared.ways.Tells.TheVariants as tells
use Rattle.world_base.specs.declared.did.Did.{Did}
use Rattle.world_base.specs.declared.request.CommitRequest.{CommitRequest}
use Rattle.world_base.specs.declared.request.PrepareRequest.{PrepareRequest}
use Rattle.world_base.specs.declared.target.TargetMemory.{TargetMemory}
use Rattle.world_base.specs.declared.target.TargetPlan.{TargetPlan}
use Rattle.world_base.specs.Commits.{led_entry}
use Rattle.world_base.specs.Requests.{issued_for, sends}
use Rattle.world_base.specs.Roles.{leads_on}

-- an attempt that this target leads; its client is told of a refusal
abbrev pub storing_of : TargetPlan → ActorId → CommitRequest → Epoch → Storing
storing_of t from q e = record { first = q.first; entry = led_entry t q e; tells = tells.Client from q.attempt e (issued_for q.attempt q.ep e) }

-- what a leader does that begins an attempt depends on no entry
abbrev leader_with : TargetPlan → ℕ → LeaderMemory → LeaderOf
leader_with t inc m = record { me = t.me; targets = t.targets; incarnation = inc; entries = []; memory = m }

abbrev pub begun_by : TargetPlan → ActorId → CommitRequest → Entry → ℕ → TargetMemory → LeaderStep
begun_by t from q e inc n = begun e q.first from q.writes (leader_with t inc n.leader)

-- what is known once it began, and what follows
abbrev pub begun_left : TargetPlan → ActorId → CommitRequest → Entry → ℕ → TargetMemory → TargetMemory × Did
begun_left t from q e inc n = (leads_on (begun_by t from q e inc n) n, sends (begun_by t from q e inc n).posts (issued_for q.attempt q.ep e.epoch))

-- an attempt that another target leads, which is told of a refusal
abbrev pub storing_for : PrepareRequest → Storing
storing_for q = record { first = q.first; entry = q.entry; tells = tells.Leader q.entry.leader q.entry.attempt q.inc }
