-- The versions that targets keep are in form.
use Rattle.std.specs.Prelude.{ℕ, ◌≡◌, true, slice_get, Some}
use Rattle.std.specs.List.{list_all}
use Rattle.daos_model.specs.declared.durable.Durable.{Durable}
use Rattle.daos_model.specs.Durables.{is_version_in_form}
use Rattle.world_base.specs.declared.target.TargetState.{TargetState}
use Rattle.world_base.specs.declared.world.World.{World}

-- the versions that are kept are in form
abbrev pub VersionsInForm : Durable → Type 0
VersionsInForm d = list_all is_version_in_form d.versions ≡ true

-- so it is at every target
abbrev pub AllKeepInForm : World → Type 0
AllKeepInForm w = (t : ℕ) (s : TargetState) → slice_get w.targets t ≡ Some s → VersionsInForm s.durable
