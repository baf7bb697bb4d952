-- When there is no plan of a prune.
use Rattle.std.specs.Prelude.{◌≡◌, ◌≤◌, Bool, true, false, ◌&&◌, ◌==◌, not, nat_le, nat_lt, List, Option, Some, None, All, Contains}
use Rattle.base_types.specs.declared.epoch.Epoch.{Epoch}
use Rattle.base_types.specs.declared.id.ContId.{ContId}
use Rattle.daos_model.specs.declared.durable.Version.{Version}
use Rattle.daos_model.specs.Versions.{version_path}
use Rattle.vos_aggregate.specs.declared.PruneNo.{PruneNo}
use Rattle.vos_aggregate.specs.declared.PruneNo.TheVariants.{OpenBelow, Memory}

-- a version of a container at or below an epoch isn't settled
unfoldable pub is_open_below : ContId → Epoch → Version → Bool
is_open_below c upto v = ((version_path v).cont.0 == c.0) && nat_le v.epoch.0 upto.0 && not v.done

-- every version of the container at or below the epoch is settled
abbrev pub AreSettled : ContId → Epoch → List Version → Type 0
AreSettled c upto vs = All (λ v. is_open_below c upto v ≡ false) vs

-- of versions one that is open, and no open one has a lesser epoch
pub record IsLeastOpen (c : ContId) (upto : Epoch) (vs : List Version) (v : Version) : Type 0 where
  pub among : Contains vs v
  pub unsettled : is_open_below c upto v ≡ true
  pub least : All (λ w. is_open_below c upto w ≡ true → v.epoch.0 ≤ w.epoch.0) vs

-- such a one, or none where all are settled
abbrev pub LeastOpen : ContId → Epoch → List Version → Option Version → Type 0
LeastOpen c upto vs None = AreSettled c upto vs
LeastOpen c upto vs (Some v) = IsLeastOpen c upto vs v

-- a version has a lesser epoch than another, if there is one
abbrev pub is_earlier : Version → Option Version → Bool
is_earlier v None = true
is_earlier v (Some w) = nat_lt v.epoch.0 w.epoch.0

-- the refusal shows the attempt of an open version of the least epoch; want of memory may come at any time
abbrev pub PlanWhy : ContId → Epoch → List Version → PruneNo → Type 0
PlanWhy c upto vs (OpenBelow a) = (v : Version) × IsLeastOpen c upto vs v × (a ≡ v.by)
PlanWhy c upto vs Memory = Unit {0}
