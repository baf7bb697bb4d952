-- What a run of a script may begin with, and what its targets' stores keep then.
use Rattle.std.specs.Prelude.{ℕ, ◌≡◌, ◌≤◌, List, [], slice_get, Option, Some}
use Rattle.base_types.specs.declared.epoch.Epoch.{Epoch}
use Rattle.base_types.specs.declared.script.Script.{Script}
use Rattle.base_types.specs.declared.snapshot.Snap.{Snap}
use Rattle.base_types.specs.Epochs.{restart_floor}
use Rattle.daos_model.specs.declared.durable.Durable.{Durable}
use Rattle.daos_model.specs.Family.{greatest_lease, stand}
use Rattle.daos_model.specs.Opening.{kept}
use Rattle.daos_model.specs.Sound.{Sound}
use Rattle.run_opening.specs.All.{AreKept}
use Rattle.run_opening.specs.Laws.{AreFew}
use Rattle.run_opening.specs.Opened.{AreFloored, enlisted_family, lasting_snaps, opened_family}
use Rattle.vos_store.specs.Calls.{State}
use Rattle.world_closing.specs.stands.Lasting.{IsLasting}
use Rattle.world_closing.specs.Below.{AreEnlisted, declared_conts}

-- what stores keep that are sound together, with each frozen snapshot at or below the floor of its container, as runs leave it
pub record CanOpen (B : List Durable) : Type 0 where
  pub sound : Sound B
  pub floored : AreFloored B

-- What is left of this can be opened too; and no snapshot of it lasts over the opening for a script for which none of this would have lasted.
pub record MayOpenAgain (B G : List Durable) : Type 0 where
  pub opens : CanOpen G
  pub unsnapped : (s : Script) → lasting_snaps s B ≡ [] → lasting_snaps s G ≡ []

-- what all targets keep that kept this, once the script's containers are added and they are opened together
abbrev pub begun_family : Script → List Durable → List Durable
begun_family s B = opened_family s (enlisted_family (declared_conts s) B)

-- stores that kept this have got the script's containers, each no more than 256, and were opened together
pub record IsWhole {S : Type 0} (durable : S → Option Durable) (s : Script) (B : List Durable) (stores : List S) : Type 0 where
  pub kept : AreKept durable stores (begun_family s B)
  pub few : AreFew (enlisted_family (declared_conts s) B)

-- What a target keeps that kept b: nothing is left to settle, and its snapshots last over the run; the script's containers are among it; and it was
-- opened as often as before.
pub record BeginsAs (s : Script) (B : List Durable) (t : ℕ) (d : Durable) : Type 0 where
  pub lasts : IsLasting (begun_family s B) d
  pub enlisted : AreEnlisted s d
  pub incarnation : (b : Durable) → slice_get B t ≡ Some b → d.incarnation ≡ b.incarnation

-- A run of the script may begin with what all targets keep that kept this. It is sound, and stands for what they stood for, but for the snapshots that
-- the script drops; the greatest lease stays; and each target keeps what lasts. Where no snapshot lasts, it stands for none.
pub record AllBegin (s : Script) (B : List Durable) : Type 0 where
  pub sound : Sound (begun_family s B)
  pub stands : stand (begun_family s B) ≡ kept s (stand B)
  pub leases : greatest_lease (begun_family s B) ≡ greatest_lease B
  pub each : (t : ℕ) (d : Durable) → slice_get (begun_family s B) t ≡ Some d → BeginsAs s B t d
  pub unsnapped : lasting_snaps s B ≡ [] → (kept s (stand B)).snaps ≡ []

-- these are the snapshots that target 0 keeps
abbrev pub AreHeldFirst : List Durable → List Snap → Type 0
AreHeldFirst F held = (d : Durable) → slice_get F 0 ≡ Some d → held ≡ d.snaps

-- Stores that kept this were opened for a run of a script, and it may begin with what they keep. No floor of an opening is above the tracker, which is
-- the greatest epoch that their leases cover; and these are the snapshots that target 0 holds.
pub record AreOpened {S : Type 0} (durable : S → Option Durable) (state : S → State) (s : Script) (B : List Durable) (stores : List S) (tracker : Epoch) (held : List Snap) : Type 0 where
  pub tracker_is : tracker ≡ record { 0 = restart_floor (greatest_lease B) }
  pub held_is : AreHeldFirst (begun_family s B) held
  pub kept : AreKept durable stores (begun_family s B)
  pub begins : AllBegin s B
  pub covered : (t : ℕ) (x : S) → slice_get stores t ≡ Some x → (state x).opening.0.0 ≤ restart_floor (greatest_lease B)
