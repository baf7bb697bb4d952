-- Which writes are looked for, and the names of those that stand there.
use Rattle.std.specs.Prelude.{◌≡◌, ◌&&◌, ◌||◌, Bool, true, List, ◌++◌, filter, map, Option, Some, None}
use Rattle.std.specs.Option.{option_copied}
use Rattle.base_types.specs.declared.id.AttemptId.{AttemptId}
use Rattle.base_types.specs.declared.path.Path.{Path}
use Rattle.base_types.specs.Operations.{write_path}
use Rattle.base_types.specs.Paths.{leads_to, record_size}
use Rattle.daos_model.specs.declared.durable.Version.{Version}
use Rattle.daos_model.specs.Forms.{is_path_in_form, is_unit}
use Rattle.daos_model.specs.Prunes.{is_punch}
use Rattle.std.specs.Prelude.{is_some}
use Rattle.vos_values.specs.declared.keys.Moment.{Moment}
use Rattle.vos_levels.specs.declared.change.Change.{Change}
use Rattle.vos_levels.specs.Changes.{takes}
use Rattle.vos_path.specs.Writes.{NamesAreKeys}
use Rattle.vos_punches.specs.Moments.{has_moment}
use Rattle.vos_settle.specs.declared.name.WriteName.{WriteName}
use Rattle.vos_settle.specs.Names.{name_of}
use Rattle.vos_gather.specs.declared.wanted.Wanted.{Wanted}

-- Punches, and updates besides or not: those that a change takes, of one of some moments, under a path. What isn't given
-- leaves it open.
pub record Want : Type 0 where
  pub updates : Bool
  pub change : Option Change
  pub moments : Option (List Moment)
  pub under : Option Path

abbrev pub want_of : Wanted → Want
want_of w = record { updates = w.updates; change = w.change; moments = option_copied w.moments; under = option_copied w.under }

abbrev pub is_of_change : Option Change → AttemptId → Bool → Bool
is_of_change None by done = true
is_of_change (Some c) by done = takes c by done

abbrev pub is_of_moments : Option (List Moment) → Moment → Bool
is_of_moments None m = true
is_of_moments (Some ms) m = has_moment m ms

abbrev pub is_of_path : Option Path → Path → Bool
is_of_path None p = true
is_of_path (Some q) p = leads_to q p

-- a write of a path, of an attempt, done or not, and of a moment
abbrev pub wants : Want → Path → AttemptId → Bool → Moment → Bool
wants w p by done m = is_of_change w.change by done && is_of_moments w.moments m && is_of_path w.under p

abbrev pub moment_of_version : Version → Moment
moment_of_version v = record { epoch = v.epoch; minor = v.minor }

abbrev pub is_wanted : Want → Version → Bool
is_wanted w v = (w.updates || is_punch v.write) && wants w (write_path v.write) v.by v.done (moment_of_version v)

-- the names of those, in the order of the versions
abbrev pub names_in : Want → List Version → List WriteName
names_in w vs = map name_of (filter (is_wanted w) vs)

-- they came behind others
abbrev pub Listed : Want → List Version → List WriteName → List WriteName → Type 0
Listed w vs before now = now ≡ before ++ names_in w vs

-- a path of an object at least, as names of writes have them
pub record IsPlace (p : Path) : Type 0 where
  pub form : (is_path_in_form p && is_some p.obj) ≡ true
  pub size : is_unit (record_size p) ≡ true
  pub names : NamesAreKeys p
