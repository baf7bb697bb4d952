-- What else holds of the world, of which the facts of attempts make use. Other crates prove it.
use Rattle.std.specs.Prelude.{◌≡◌, List, Option}
use Rattle.base_types.specs.declared.epoch.Epoch.{Epoch}
use Rattle.base_types.specs.declared.id.AttemptId.{AttemptId}
use Rattle.base_types.specs.declared.operation.MinorWrite.{MinorWrite}
use Rattle.model_laws.specs.Members.{Has}
use Rattle.base_messages.specs.declared.message.Message.TheVariants.{Commit}
use Rattle.world_commit.specs.attempts.Asked.{IsCommitNew}
use Rattle.world_commit.specs.attempts.History.{History}
use Rattle.world_base.specs.declared.letter.Letter.{Letter}
use Rattle.world_base.specs.declared.world.World.{World}
use Rattle.world_base.specs.Events.{Rules}
use Rattle.world_base.specs.Letters.{client}

-- A Commit in flight is right and new, and comes from its attempt's client; and no attempt has two epochs.
pub record AskedRight (r : Rules) (h : History) (w : World) : Type 0 where
  pub commits : (l : Letter) (x : AttemptId) (ep first : Option Epoch) (tracker : Epoch) (ws : List MinorWrite) → Has l w.messages → l.message ≡ Commit x ep first tracker ws
      → IsCommitNew r h w l.to x ep ws
  pub senders : (l : Letter) (x : AttemptId) (ep first : Option Epoch) (tracker : Epoch) (ws : List MinorWrite) → Has l w.messages → l.message ≡ Commit x ep first tracker ws → l.from ≡ client x.client
  pub one_epoch : (x : AttemptId) (e f : Epoch) → Has (x, e) w.issued → Has (x, f) w.issued → e ≡ f
