-- What an open pool with what it keeps in memory says of itself, and what it keeps.
use Rattle.std.specs.Prelude.{ℕ, Bool, false, true, Option}
use Rattle.base_outside.specs.declared.region.Region.{Ghosts}
use Rattle.base_outside.specs.Images.{Image}
use Rattle.daos_model.specs.declared.durable.Durable.{Durable}
use Rattle.vos_pool_base.specs.Pool.{kept_of, may_of}
use Rattle.vos_pool_held.specs.declared.held.Held.{Held}
use Rattle.vos_store.specs.Calls.{State}

-- What it says of itself. The outside may fail it; and a fuse may, which it doesn't tell, if its region can have one.
abbrev pub held_state : {R : Type 0} {Q : Ghosts R} → (R → ℕ) → (R → ℕ) → Bool → Held R Q → State
held_state count burns can_burn h = record {
  stopped = h.opened.blocks.undo.stopped;
  faults = count h.opened.blocks.undo.region;
  burns = burns h.opened.blocks.undo.region;
  may_fail = true;
  fused = can_burn;
  tells_fuse = false;
  left = 0;
  free = h.free;
  targets = h.targets;
  opening = (h.floor, h.why);
}

-- what it keeps, where its region tells its bytes
abbrev pub held_durable : {R : Type 0} {Q : Ghosts R} → Bool → (R → ℕ) → (R → Image) → Held R Q → Option Durable
held_durable tells extent image h = kept_of tells extent image h.opened

-- what its next opening may find
abbrev pub held_may : {R : Type 0} {Q : Ghosts R} → Bool → (R → ℕ) → (R → Image → Type 0) → Held R Q → Durable → Type 0
held_may tells extent may_leave h = may_of tells extent may_leave h.opened
