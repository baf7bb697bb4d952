-- What a target keeps once its lease covers an epoch.
use Rattle.std.specs.Prelude.{ℕ, ◌≡◌, ◌≤◌, ◌<◌, Bool, true, Option, Some, None}
use Rattle.base_types.specs.Epochs.{lease_for}
use Rattle.daos_model.specs.declared.durable.Durable.{Durable}
use Rattle.daos_model.specs.Changes.{leased}
use Rattle.replay_base.specs.declared.leases.Covered.{Covered}

-- it covers these ticks already; it is extended; or no lease covers them
pub data IsCovered (ticks : ℕ) (d : Durable) (changed : Bool) (c : Option Covered) : Type 0 where
  Already : ticks ≤ d.lease → c ≡ Some (record { durable = d; changed = changed }) → IsCovered ticks d changed c
  Extended : (lease : ℕ) → d.lease < ticks → lease_for ticks ≡ Some lease → ticks ≤ lease → c ≡ Some (record { durable = leased lease d; changed = true }) → IsCovered ticks d changed c
  Never : d.lease < ticks → lease_for ticks ≡ None → c ≡ None → IsCovered ticks d changed c
