-- With which epochs entries are stored: those that were issued to their attempts.
use Rattle.std.specs.Prelude.{ℕ, ◌≡◌, false, Contains, is_some, Some, None, refl}
use Rattle.std.proofs.Common.{ap, subst}
use Rattle.base_types.specs.declared.epoch.Epoch.{Epoch}
use Rattle.base_types.specs.declared.id.AttemptId.{AttemptId}
use Rattle.base_messages.specs.declared.message.Message.{Message}
use Rattle.base_messages.specs.declared.message.Message.TheVariants as message
use Rattle.daos_model.specs.BoolLaws.{clash}
use Rattle.model_laws.specs.Members.{contains-from_has, has-from_contains}
use Rattle.world_causes.specs.world_commit.attempts.History.{History}
use Rattle.world_base.specs.declared.letter.Letter.{Letter}
use Rattle.world_base.specs.declared.world.World.{World}
use Rattle.world_base.specs.Events.{Rules}
use Rattle.world_letters.specs.clients.Snapshots.{is_at_snapshot}
use Rattle.world_letters.specs.epochs.Epochs.{ClientsStand, Epochs, IsEpochOf, IsIssued, IsOwn, IsSeen}
use Rattle.world_causes.specs.world_commit.fates.Facts.{Attempts, IsSaidSo}
use Rattle.world_causes.specs.handing.Dates.{SnapshotsAreRead, epochs-of_commits}
use Rattle.world_letters.specs.waits.Premises.{RequestsAreOfClients}
use Rattle.world_letters.specs.waits.Waits.{Conversation}
use Rattle.world_making.specs.dates.Hearing.{BringsEpoch}

-- an attempt that reads at no snapshot has an epoch of its own
pub own-issued : (r : Rules) (w : World) (x : AttemptId) (e : Epoch) → is_at_snapshot r x ≡ false → IsEpochOf r w x e → IsIssued w x e
own-issued r w x e off (IsOwn i) = i
own-issued r w x e off (IsSeen s) = clash (is_at_snapshot r x) (ap is_some s.reads) off

-- a Commit goes with the epoch that was issued to its attempt, and so does a Prepare
pub brings-issued : (r : Rules) (top : ℕ) (h : History) (w : World) → SnapshotsAreRead r → RequestsAreOfClients w → Conversation r w → Attempts r h w → ClientsStand r w → Epochs r top w → (l : Letter) → Contains w.messages l → (x : AttemptId) (e : Epoch)
    → BringsEpoch l.message x e → IsIssued w x e
brings-issued r top h w alone clients talk fates S E l among x e b = by l.message refl b
  where
    by : (m : Message) → l.message ≡ m → BringsEpoch m x e → IsIssued w x e
    by (message.Commit y None first tracker ws) is b = absurd b
    by (message.Commit y (Some own) first tracker ws) is b =
        subst (λ z. IsIssued w z e) b.0 (subst (IsIssued w y) b.1 (contains-from_has w.issued (y, own) ((epochs-of_commits r top w talk clients S alone E).own l y own first tracker ws (has-from_contains w.messages l among) is)))
    by (message.Prepare k first ws inc) is b =
        subst (λ y. IsIssued w y e) b.0 (subst (λ f. IsIssued w k.attempt f) b.1 (contains-from_has w.issued (k.attempt, k.epoch) (subst (IsSaidSo r h w l.from l.to) is (fates.on.letters l (has-from_contains w.messages l among))).issued))
    by m is b = absurd b
