-- The epoch of a request, and what follows from a turn that answers it.
use Rattle.std.specs.Prelude.{ℕ, Bool, not, List, [], ◌∷◌, Option, Some, None}
use Rattle.std.specs.Option.{option_map}
use Rattle.base_types.specs.declared.epoch.Epoch.{Epoch}
use Rattle.base_types.specs.declared.id.AttemptId.{AttemptId}
use Rattle.base_types.specs.Epochs.{epoch_at, heard_ticks}
use Rattle.daos_hlc.specs.Clock.{next_ticks}
use Rattle.daos_model.specs.Durables.{same_attempt}
use Rattle.base_messages.specs.declared.actor.ActorId.{ActorId}
use Rattle.base_messages.specs.declared.message.Message.TheVariants.{Fetch}
use Rattle.base_messages.specs.declared.message.Message.{Message}
use Rattle.base_messages.specs.declared.message.Post.{Post}
use Rattle.world_base.specs.declared.did.Did.{Did}
use Rattle.world_base.specs.declared.request.FetchRequest.{FetchRequest}
use Rattle.world_base.specs.declared.target.TargetMemory.{TargetMemory}
use Rattle.world_base.specs.declared.target.TargetPlan.{TargetPlan}

abbrev pub epoch_of_ticks : ℕ → ℕ → Epoch
epoch_of_ticks me ticks = record { 0 = epoch_at ticks me }

-- the epoch of a request: its own, or one that is issued at this reading of the clock; none where no ticks are left
abbrev pub request_epoch : TargetPlan → TargetMemory → ℕ → Epoch → Option Epoch → Option Epoch
request_epoch t m reading tracker None = option_map (epoch_of_ticks t.me) (next_ticks (record { target = t.me; ticks = m.ticks }) reading tracker.0)
request_epoch t m reading tracker (Some e) = Some e

-- the ticks once the epoch of a request was issued or heard of
abbrev pub with_ticks : Epoch → TargetMemory → TargetMemory
with_ticks e m = record m { ticks = heard_ticks m.ticks e.0 }

-- the epoch that was issued for a request that had none
abbrev pub issued_for : AttemptId → Option Epoch → Epoch → Option (AttemptId × Epoch)
issued_for a None e = Some (a, e)
issued_for a (Some own) e = None

-- one message is what follows, and perhaps an epoch
abbrev pub says : ActorId → Message → Option (AttemptId × Epoch) → Did
says to m issued = record { posts = record { to = to; message = m } ∷ []; lines = []; issued = issued }

-- these messages are what follows, and perhaps an epoch
abbrev pub sends : List Post → Option (AttemptId × Epoch) → Did
sends posts issued = record { posts = posts; lines = []; issued = issued }

-- the message of a request for a read
abbrev pub fetch_message : FetchRequest → Message
fetch_message q = Fetch q.attempt q.op q.group q.ep q.first q.tracker q.read q.snapshot

-- any other attempt
abbrev pub is_other_attempt : AttemptId → AttemptId → Bool
is_other_attempt a b = not (same_attempt b a)

-- nothing follows but what is known
abbrev pub nothing_follows : Did
nothing_follows = record { posts = []; lines = []; issued = None }
