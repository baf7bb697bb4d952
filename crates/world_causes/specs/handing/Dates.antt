-- A Commit goes with the epoch that was issued to its attempt.
use Rattle.std.specs.Prelude.{ℕ, ◌≡◌, List, [], Option, Some, refl}
use Rattle.std.proofs.Common.{sym, ◌∙◌, subst}
use Rattle.base_types.specs.declared.epoch.Epoch.{Epoch}
use Rattle.base_types.specs.declared.id.AttemptId.{AttemptId}
use Rattle.base_types.specs.declared.operation.MinorWrite.{MinorWrite}
use Rattle.base_messages.specs.declared.message.Message.TheVariants as message
use Rattle.daos_model.specs.Attempts.{snapshot_of}
use Rattle.model_laws.specs.Members.{Has, contains-from_has, has-from_contains}
use Rattle.world_contents.specs.world_commit.attempts.Attempts.{writes_of}
use Rattle.world_base.specs.declared.letter.Letter.{Letter}
use Rattle.world_base.specs.declared.world.World.{World}
use Rattle.world_base.specs.Events.{Rules}
use Rattle.world_contents.specs.world_letters.epochs.Epochs.{ClientsStand, Epochs, GoesWith, IsEpochOf, IsOwn, IsSeen}
use Rattle.world_causes.specs.handing.Handing.{EpochsOfCommits, commit-asked}
use Rattle.world_contents.specs.world_letters.waits.Premises.{RequestsAreOfClients}
use Rattle.world_contents.specs.world_letters.waits.Waits.{Conversation}

-- what reads at a snapshot writes nothing
abbrev pub SnapshotsAreRead : Rules → Type 0
SnapshotsAreRead r = (x : AttemptId) (name : List ℕ) → snapshot_of r.script x ≡ Some name → writes_of r x ≡ []

pub epochs-of_commits : (r : Rules) (top : ℕ) (w : World) → Conversation r w → RequestsAreOfClients w → ClientsStand r w → SnapshotsAreRead r → Epochs r top w → EpochsOfCommits w
epochs-of_commits r top w k from stand reads epochs = record {
  own = λ l x e first tracker ws i says. own l x e first tracker ws i says;
  one = λ x e f i j. epochs.one x e f (contains-from_has w.issued (x, e) i) (contains-from_has w.issued (x, f) j);
}
  where
    own : (l : Letter) (x : AttemptId) (e : Epoch) (first : Option Epoch) (tracker : Epoch) (ws : List MinorWrite) → Has l w.messages → l.message ≡ message.Commit x (Some e) first tracker ws → Has (x, e) w.issued
    own l x e first tracker ws i says = by (epochs.borne l x e (contains-from_has w.messages l i) (subst (λ m. GoesWith m x e) (sym says) (refl, refl)))
      where
        by : IsEpochOf r w x e → Has (x, e) w.issued
        by (IsOwn known) = has-from_contains w.issued (x, e) known
        by (IsSeen named) = let c = commit-asked r w k from stand l x (Some e) first tracker ws i says in absurd (c.some (c.writes ∙ reads x named.name named.reads))
