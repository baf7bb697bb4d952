-- What becomes of attempts in a turn: what the target tells, and what it would tell if a client waited.
use Rattle.std.specs.Prelude.{◌≡◌, Bool, true, false, ◌&&◌, not, List, [], ◌∷◌, ◌++◌, Option, Some, None, is_some, refl, if◌then◌else◌}
use Rattle.base_types.specs.declared.entry.Entry.{Entry}
use Rattle.base_types.specs.declared.epoch.Epoch.{Epoch}
use Rattle.base_types.specs.declared.id.AttemptId.{AttemptId}
use Rattle.base_types.specs.declared.outcome.Outcome.{Outcome}
use Rattle.base_types.specs.declared.outcome.Outcome.TheVariants.{Committed}
use Rattle.base_messages.specs.declared.message.Message.{Message}
use Rattle.base_messages.specs.declared.message.Message.TheVariants as message
use Rattle.base_messages.specs.declared.message.Post.{Post}
use Rattle.daos_model.specs.Durables.{entry_of}
use Rattle.dtx_base.specs.Rows.{is_among}
use Rattle.world_base.specs.declared.target.TargetState.{TargetState}
use Rattle.world_base.specs.declared.world.World.{World}
use Rattle.world_base.specs.Events.{ByClient, ByTarget, RightEvent, Rules, ToClient, ToTarget, target_after}
use Rattle.world_base.specs.Letters.{client}
use Rattle.world_base.specs.Statuses.{status_refusal}

-- an attempt's client is told that it ended so
abbrev pub told_end : AttemptId → Option Epoch → Outcome → Post
told_end x own how = record { to = client x.client; message = message.Ended x own how }

abbrev pub refused_end : AttemptId → Epoch → Option Outcome → List Post
refused_end x e None = []
refused_end x e (Some how) = told_end x (Some e) how ∷ []

-- What a leader that hears an answer would tell an attempt's client: that it is committed, where it knows it as decided from then on; or
-- the refusal, where its entry went.
abbrev pub silent_end : AttemptId → Option Outcome → Option Entry → Bool → Bool → Bool → List Post
silent_end x refusal None before after kept = []
silent_end x refusal (Some e) before after kept = if after && not before then told_end x (Some e.epoch) Committed ∷ [] else (if kept then [] else refused_end x e.epoch refusal)

abbrev pub silent_at : TargetState → TargetState → Message → List Post
silent_at s z (message.Ack x inc refusal) = silent_end x refusal (entry_of s.durable x) (is_among x s.memory.leader.decided) (is_among x z.memory.leader.decided) (is_some (entry_of z.durable x))
silent_at s z (message.StatusIs x inc how) =
    silent_end x (status_refusal x how) (entry_of s.durable x) (is_among x s.memory.leader.decided) (is_among x z.memory.leader.decided) (is_some (entry_of z.durable x))
silent_at s z m = []

-- By what is told in an event attempts are decided and aborted. A leader that opened again may have to go on without a client that waits; what
-- it would tell counts too.
abbrev pub told_posts : {r : Rules} {w v : World} → RightEvent r w v → List Post
told_posts (ByClient g) = []
told_posts (ToClient g) = []
told_posts (ToTarget g) = g.did.posts ++ silent_at g.s (target_after g.s g.new g.memory) g.l.message
told_posts (ByTarget g) = g.did.posts

-- nothing of it where its entry stays, and it is known as before
pub silent-same : (x : AttemptId) (refusal : Option Outcome) (o : Option Entry) (b : Bool) → silent_end x refusal o b b (is_some o) ≡ []
silent-same x refusal None b = refl
silent-same x refusal (Some e) true = refl
silent-same x refusal (Some e) false = refl

pub silent-decides : (x : AttemptId) (refusal : Option Outcome) (o : Option Entry) (e : Entry) (before after kept : Bool) → o ≡ Some e → before ≡ false → after ≡ true → silent_end x refusal o before after kept ≡ told_end x (Some e.epoch) Committed ∷ []
silent-decides x refusal o e before after kept found off on = rw (found, off, on) refl

pub silent-refuses : (x : AttemptId) (refusal : Option Outcome) (how : Outcome) (o : Option Entry) (e : Entry) (before after kept : Bool) → o ≡ Some e → after ≡ false → kept ≡ false → refusal ≡ Some how
    → silent_end x refusal o before after kept ≡ told_end x (Some e.epoch) how ∷ []
silent-refuses x refusal how o e before after kept found off gone is = rw (found, off, gone, is) refl
