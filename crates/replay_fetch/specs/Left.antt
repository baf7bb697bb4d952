-- What a Fetch leaves, part by part.
use Rattle.std.specs.Prelude.{filter}
use Rattle.base_types.specs.declared.epoch.Epoch.{Epoch}
use Rattle.base_types.specs.declared.id.AttemptId.{AttemptId}
use Rattle.base_messages.specs.declared.message.Reply.{Reply}
use Rattle.base_messages.specs.declared.message.Reply.TheVariants as reply
use Rattle.world_base.specs.declared.did.Did.{Did}
use Rattle.world_base.specs.declared.request.FetchRequest.{FetchRequest}
use Rattle.world_base.specs.declared.target.TargetMemory.{TargetMemory}
use Rattle.world_base.specs.Reads.{stamps_with}
use Rattle.world_base.specs.Requests.{is_other_attempt}
use Rattle.world_base.specs.Roles.{with_unsettled}
use Rattle.replay_base.specs.declared.told.Left.{Left}
use Rattle.replay_fetch.specs.declared.reads.Work.{Work}

-- an attempt is none of the decided ones any more
abbrev pub without : AttemptId → TargetMemory → TargetMemory
without a m = with_unsettled (filter (is_other_attempt a) m.leader.decided) m

-- what is known once a Fetch was replied to
abbrev pub memory_replied : FetchRequest → Epoch → Reply → TargetMemory → TargetMemory
memory_replied q e (reply.Answer b) m = record m { stamps = stamps_with q e m.stamps }
memory_replied q e (reply.Outcome o) m = m

-- what is kept by now, and this is known and follows
abbrev pub left_of : Work → TargetMemory × Did → Left
left_of w r = record { durable = w.durable; changed = w.changed; memory = r.0; did = r.1 }
