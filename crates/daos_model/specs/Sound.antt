-- When the durable states of all targets are such as runs leave behind.
use Rattle.std.specs.Prelude.{ℕ, ◌≡◌, ◌≤◌, true, false, List, Some, All, AllPairs, Contains, ◌≢◌, slice_get, length}
use Rattle.base_types.specs.declared.entry.Entry.{Entry}
use Rattle.base_types.specs.Epochs.{restart_floor}
use Rattle.base_types.specs.Placement.{path_members}
use Rattle.daos_model.specs.declared.durable.Durable.{Durable}
use Rattle.daos_model.specs.declared.durable.Version.{Version}
use Rattle.daos_model.specs.Durables.{entry_of, is_frozen, version_key}
use Rattle.daos_model.specs.Family.{Agree, created_snaps, is_in_field}
use Rattle.daos_model.specs.Versions.{version_path}

-- no epoch that a target keeps is above what its lease covers
pub record IsCovered (d : Durable) : Type 0 where
  pub versions : All (λ v. v.epoch.0 ≤ restart_floor d.lease) d.versions
  pub entries : All (λ e. e.epoch.0 ≤ restart_floor d.lease) d.entries
  pub floors : All (λ r. r.floor.0 ≤ restart_floor d.lease) d.conts
  pub aggregated : All (λ r. r.aggregated.0 ≤ restart_floor d.lease) d.conts
  pub snaps : All (λ s. s.epoch.0 ≤ restart_floor d.lease) d.snaps

-- an unsettled version belongs to a prepared entry of its target, whose epoch it has
abbrev pub IsOfEntry : Durable → Version → Type 0
IsOfEntry d v = v.done ≡ false → (e : Entry) × (entry_of d v.by ≡ Some e) × (e.committed ≡ false) × (e.epoch ≡ v.epoch)

-- a version is a write of a group that the target belongs to
abbrev pub IsPlaced : ℕ → ℕ → Version → Type 0
IsPlaced targets t v = Contains (path_members (version_path v) targets) t

-- two entries of one attempt say the same of it
pub record SayTheSame (e f : Entry) : Type 0 where
  pub epoch : e.epoch ≡ f.epoch
  pub leader : e.leader ≡ f.leader
  pub members : e.members ≡ f.members

-- one target of a family
pub record IsSoundAt (F : List Durable) (t : ℕ) (d : Durable) : Type 0 where
  pub covered : IsCovered d
  pub holds : All (λ e. is_in_field e.members t ≡ true) d.entries
  pub unsettled : All (IsOfEntry d) d.versions
  pub placed : All (IsPlaced (length F) t) d.versions
  pub single : AllPairs (λ v w. version_key v ≢ version_key w) d.versions
  pub frozen : All (λ s. is_frozen d s.cont s.epoch ≡ true) (created_snaps F)

-- the durable states of all targets are sound: replicas agree, also at created snapshots; each target is sound; entries of one
-- attempt say the same wherever they are held
pub record Sound (F : List Durable) : Type 0 where
  pub agree : Agree F
  pub targets : (t : ℕ) (d : Durable) → slice_get F t ≡ Some d → IsSoundAt F t d
  pub entries : (t u : ℕ) (d f : Durable) → slice_get F t ≡ Some d → slice_get F u ≡ Some f →
      All (λ e. All (λ g. e.attempt ≡ g.attempt → SayTheSame e g) f.entries) d.entries
