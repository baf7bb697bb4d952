-- What else holds of the world, of which the facts of attempts make use. Other crates prove it.
use Rattle.std.specs.Prelude.{◌≡◌, List, Option, Some, None}
use Rattle.base_types.specs.declared.epoch.Epoch.{Epoch}
use Rattle.base_types.specs.declared.id.AttemptId.{AttemptId}
use Rattle.base_types.specs.declared.operation.MinorWrite.{MinorWrite}
use Rattle.model_laws.specs.Members.{Has}
use Rattle.base_messages.specs.declared.actor.ActorId.{ActorId}
use Rattle.base_messages.specs.declared.message.Message.TheVariants.{Commit}
use Rattle.world_commit.specs.attempts.Attempts.{entry_at, leader_of, writes_of}
use Rattle.world_commit.specs.attempts.History.{Aborted, History}
use Rattle.world_base.specs.declared.letter.Letter.{Letter}
use Rattle.world_base.specs.declared.world.World.{World}
use Rattle.world_base.specs.Events.{Rules}
use Rattle.world_base.specs.Letters.{target}

-- A Commit in flight: it brings an attempt's writes to its leader, at an epoch that was issued to it where it has
-- one. Nothing became of the attempt yet: its leader has no entry of it, and it isn't aborted.
pub record IsCommitNew (r : Rules) (h : History) (w : World) (to : ActorId) (x : AttemptId) (ep : Option Epoch) (ws : List MinorWrite) : Type 0 where
  pub receiver : to ≡ target (leader_of r x)
  pub writes : ws ≡ writes_of r x
  pub own : (e : Epoch) → ep ≡ Some e → Has (x, e) w.issued
  pub unstored : entry_at w (leader_of r x) x ≡ None
  pub unended : Aborted h x → ⊥

-- what is asked of targets is right, and no attempt has two epochs
pub record AskedRight (r : Rules) (h : History) (w : World) : Type 0 where
  pub commits : (l : Letter) (x : AttemptId) (ep first : Option Epoch) (tracker : Epoch) (ws : List MinorWrite) → Has l w.messages → l.message ≡ Commit x ep first tracker ws
      → IsCommitNew r h w l.to x ep ws
  pub one_epoch : (x : AttemptId) (e f : Epoch) → Has (x, e) w.issued → Has (x, f) w.issued → e ≡ f
