-- Leases cover epochs and floors, so these are as short as their types hold.
use Rattle.world_base.specs.declared.target.TargetState.{TargetState}
use Rattle.std.specs.Prelude.{ℕ, ◌≡◌, ◌≤◌, ◌<◌, ◌/◌, ◌%◌, ◌^◌, length, slice_get, Some, refl}
use Rattle.std.proofs.Common.{inl, arith}
use Rattle.base_types.specs.declared.epoch.Epoch.{Epoch}
use Rattle.base_types.specs.declared.id.AttemptId.{AttemptId}
use Rattle.base_types.specs.declared.report.Line.TheVariants as line
use Rattle.base_types.specs.Epochs.{restart_floor}
use Rattle.model_laws.specs.DecidedLaws.{has-all}
use Rattle.model_laws.specs.Lists.{at-within}
use Rattle.model_laws.specs.Members.{Has, has-filter}
use Rattle.model_laws.specs.TargetLaws.{same_number}
use Rattle.daos_model.specs.Opening.{Opening, top}
use Rattle.daos_model.specs.Stops.{HasTarget, floors, is_at, lines_at, opened_floor}
use Rattle.report_writer.specs.Forms.{IsEpoch}
use Rattle.world_base.specs.declared.world.World.{World}
use Rattle.world_base.specs.Events.{Rules}
use Rattle.world_standing.specs.world_letters.epochs.Epochs.{Epochs, IsIssued}
use Rattle.world_standing.specs.world_letters.lives.Lives.{Lives}
use Rattle.world_standing.specs.world_letters.lives.Numbers.{gather-has}

issued-low : (e lease : ℕ) → e / 256 ≤ lease → lease < 2 ^ 56 → e < 2 ^ 64
issued-low e lease covered low = omega (arith, covered, low)

floor-low : (f lease : ℕ) → f ≤ restart_floor lease → lease < 2 ^ 56 → f < 2 ^ 64
floor-low f lease covered low = omega (arith, covered, low)

-- the lease of each target fits
abbrev pub LeasesFit : World → Type 0
LeasesFit w = (t : ℕ) (s : TargetState) → slice_get w.targets t ≡ Some s → s.durable.lease < 2 ^ 56

module _ (r : Rules) (o : Opening) (w : World) (epochs : Epochs r (top o) w) (leases : LeasesFit w) where
  -- an epoch that was issued
  pub issued-short : (x : AttemptId) (e : Epoch) → IsIssued w x e → IsEpoch e
  issued-short x e i = let t = epochs.issuer x e i in issued-low e.0 t.0.durable.lease (epochs.leased x e t.0 i t.1) (leases (e.0 % 256) t.0 t.1)

  -- and a floor with which a target opened again
  pub floor-short : Lives w → (n t incarnation : ℕ) (floor : Epoch) → Has (line.Restart n t incarnation floor) w.lines → IsEpoch floor
  floor-short k n t incarnation floor i =
      let low : t < length w.targets = has-all (HasTarget (length w.targets)) w.lines (line.Restart n t incarnation floor) k.bounded i in
      let s = at-within w.targets t low in
      let at : Has (line.Restart n t incarnation floor) (lines_at t w.lines) = has-filter (is_at t) w.lines (line.Restart n t incarnation floor) i (same_number t) in
      let among : Has floor.0 (floors (lines_at t w.lines)) = gather-has opened_floor floors refl (λ l ls. refl) (lines_at t w.lines) (line.Restart n t incarnation floor) floor.0 at (inl refl) in
      floor-low floor.0 s.0.durable.lease (has-all (λ f. f ≤ restart_floor s.0.durable.lease) (floors (lines_at t w.lines)) floor.0 (k.told t s.0 s.1).covered among) (leases t s.0 s.1)
