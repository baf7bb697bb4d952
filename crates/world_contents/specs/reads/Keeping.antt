-- The facts of versions and reads are kept by every turn, of what is decided and served by its end.
use Rattle.std.specs.Prelude.{ℕ, ◌≡◌, ◌⊎◌, List, Contains}
use Rattle.base_types.specs.declared.epoch.Epoch.{Epoch}
use Rattle.base_types.specs.declared.id.AttemptId.{AttemptId}
use Rattle.daos_model.specs.declared.durable.Version.{Version}
use Rattle.daos_model.specs.Opening.{Opening}
use Rattle.world_commit.specs.attempts.History.{History}
use Rattle.world_commit.specs.world_base.declared.world.World.{World}
use Rattle.world_commit.specs.world_base.Events.{ClientGoes, ClientHears, Rules}
use Rattle.world_contents.specs.reads.Reads.{Reads}
use Rattle.world_contents.specs.reads.Versions.{Versions}

-- where no target changes, they stay as they are
abbrev pub OthersKeepReads : Type 0
OthersKeepReads =
    (r : Rules) (o : Opening) (held : ℕ → List Version) (h : History) (w v : World) → v.targets ≡ w.targets → ((i : AttemptId × Epoch) → Contains w.issued i → Contains v.issued i) → Versions r o held h w → Reads r o h w
    → Versions r o held h v × Reads r o h v

-- as in the turns of clients
abbrev pub ClientsKeepReads : Type 0
ClientsKeepReads =
    (r : Rules) (o : Opening) (held : ℕ → List Version) (h : History) (w v : World) → Versions r o held h w → Reads r o h w → ClientGoes r w v ⊎ ClientHears r w v → Versions r o held h v × Reads r o h v
