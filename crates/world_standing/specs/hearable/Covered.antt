-- What a target keeps is covered by its lease, whatever happens, and wherever a turn of it is cut.
use Rattle.std.specs.Prelude.{ℕ, ◌≤◌, ◌/◌, All, List}
use Rattle.std.proofs.Common.{sym, subst, arith}
use Rattle.base_types.specs.declared.entry.Entry.{Entry}
use Rattle.base_types.specs.declared.entry.Settle.{Settle}
use Rattle.base_types.specs.declared.id.AttemptId.{AttemptId}
use Rattle.base_types.specs.declared.operation.MinorWrite.{MinorWrite}
use Rattle.daos_model.specs.Changes.{leased, prepared, reopened, settled}
use Rattle.daos_model.specs.declared.durable.Durable.{Durable}
use Rattle.world_base.specs.declared.world.World.{World}
use Rattle.world_base.specs.ChangeLaws.{lease-settled}
use Rattle.world_standing.specs.standing.Covering.{AreAll, StaysCovered, epochs-puts, epochs-settled}

-- ---- the statements

-- no version is later than the ticks that the lease covers
abbrev pub IsCovered : Durable → Type 0
IsCovered d = All (λ v. v.epoch.0 / 256 ≤ d.lease) d.versions

-- so it is of what each target keeps, whether it runs, is stopped, or is given up
abbrev pub AreCovered : World → Type 0
AreCovered w = AreAll IsCovered w

-- and so it is where its incarnation is raised, by an opening or by one that fails
abbrev pub RaisedIsCovered : Type 0
RaisedIsCovered = (d : Durable) → IsCovered d → IsCovered (reopened d)

-- ---- changes

later : (old lease x : ℕ) → old ≤ lease → x ≤ old → x ≤ lease
later old lease x a b = omega arith

covered-leased : (lease : ℕ) (d : Durable) → d.lease ≤ lease → IsCovered d → IsCovered (leased lease d)
unfolding leased
covered-leased lease d up all = λ i v lt. later d.lease lease _ up (all i v lt)

covered-prepared : (e : Entry) (ws : List MinorWrite) (d : Durable) → e.epoch.0 / 256 ≤ d.lease → IsCovered d → IsCovered (prepared e ws d)
unfolding prepared
covered-prepared e ws d within all = epochs-puts (λ x. x / 256 ≤ d.lease) e ws d.versions within all

covered-settled : (a : AttemptId) (step : Settle) (d : Durable) → IsCovered d → IsCovered (settled a step d)
covered-settled a step d all = subst (λ n. All (λ v. v.epoch.0 / 256 ≤ n) (settled a step d).versions) (sym (lease-settled a step d)) (epochs-settled (λ x. x / 256 ≤ d.lease) a step d all)

pub covered-reopened : RaisedIsCovered
unfolding reopened
covered-reopened d all = all

pub stays-covered : StaysCovered IsCovered
stays-covered = record { extends = covered-leased; stores = covered-prepared; settles = covered-settled; opens = covered-reopened }
