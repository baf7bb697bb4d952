-- The lease is stored before what it is to cover.
use Rattle.std.specs.Prelude.{◌/◌, ℕ, ◌≡◌, ◌≤◌, ◌<◌, Option, Some, None, Result, Ok, Err}
use Rattle.std.specs.Option.{option_map}
use Rattle.base_types.specs.declared.epoch.Epoch.{Epoch}
use Rattle.base_types.specs.Epochs.{heard_ticks, lease_for}
use Rattle.daos_hlc.specs.Clock.{Clock, next_ticks}
use Rattle.daos_model.specs.declared.durable.Durable.{Durable}
use Rattle.vos_store.specs.Calls.{State}
use Rattle.vos_store.specs.declared.refusal.Stopped.{Stopped}
use Rattle.world_contents.specs.world_base.Changes.{Extends, Kept}
use Rattle.world_contents.specs.world_base.Requests.{epoch_of_ticks}
use Rattle.target_parts.specs.Parts.{Did, Stays, WasCut, kept, left_by}

-- the lease covers the ticks: it did, or it was extended
pub data Covers (ticks : ℕ) (d : Durable) (h : State) (new : Option Durable) (k : State) : Type 0 where
  DidCover : ticks ≤ d.lease → new ≡ Some d → k.free ≡ h.free → Covers ticks d h new k
  WasExtended : (lease : ℕ) → d.lease < ticks → lease_for ticks ≡ Some lease → Did (Extends lease) d h new k → Covers ticks d h new k

-- the lease, which didn't cover the ticks, was to be extended, and that was cut
pub record CoverCut (ticks : ℕ) (d : Durable) (h : State) (finds : Kept → Type 0) : Type 0 where
  pub lease : ℕ
  pub low : d.lease < ticks
  pub lease_is : lease_for ticks ≡ Some lease
  pub cut : WasCut (Extends lease) (kept d h) finds

abbrev pub CoversOrCut : ℕ → Durable → State → Option Durable → State → (Durable → Type 0) → Result (Unit {0}) Stopped → Type 0
CoversOrCut ticks d h new k finds (Ok u) = Covers ticks d h new k
CoversOrCut ticks d h new k finds (Err e) = CoverCut ticks d h (left_by k finds)

-- the epoch of a request of a clock at a reading: its own, or one that is issued
abbrev pub epoch_for : Clock → ℕ → Epoch → Option Epoch → Option Epoch
epoch_for clock reading tracker None = option_map (epoch_of_ticks clock.target) (next_ticks clock reading tracker.0)
epoch_for clock reading tracker (Some e) = Some e

-- the clock once the epoch of a request was issued or heard of
abbrev pub heard_of : Option Epoch → Clock → Clock
heard_of None clock = clock
heard_of (Some e) clock = record clock { ticks = heard_ticks clock.ticks e.0 }

-- The epoch of a request is known and covered; or there is none, and nothing was changed; or extending the lease for it
-- was cut.
abbrev pub ReadiesOrCut : Option Epoch → Durable → State → Option Durable → State → (Durable → Type 0) → Result (Option Epoch) Stopped → Type 0
ReadiesOrCut wanted d h new k finds (Ok None) = (wanted ≡ None) × Stays d h new k
ReadiesOrCut wanted d h new k finds (Ok (Some e)) = (wanted ≡ Some e) × Covers (e.0 / 256) d h new k
ReadiesOrCut wanted d h new k finds (Err s) = (e : Epoch) × (wanted ≡ Some e) × CoverCut (e.0 / 256) d h (left_by k finds)
