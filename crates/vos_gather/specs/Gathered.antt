-- What comes to an index where punches are gathered into it, and what stands below a path.
use Rattle.std.specs.Prelude.{◌≡◌, ◌||◌, ◌&&◌, Bool, ℕ, List, ◌++◌, filter, map}
use Rattle.std.specs.List.{list_any}
use Rattle.base_types.specs.declared.operation.Write.{Write}
use Rattle.base_types.specs.declared.operation.Write.TheVariants.{PunchDkey}
use Rattle.base_types.specs.declared.path.Path.{Path}
use Rattle.daos_model.specs.declared.durable.Version.{Version}
use Rattle.vos_values.specs.declared.keys.Moment.{Moment}
use Rattle.vos_levels.specs.Levels.{Hung, things}
use Rattle.vos_ilog.specs.declared.ilog.LogEntry.{LogEntry}
use Rattle.vos_path.specs.Objects.{Akey, Below, Dkey, is_punch, punch_version, punches, together, values_versions}
use Rattle.vos_punches.specs.Moments.{AreInOrder, has_moment}
use Rattle.vos_punches.specs.Punches.{PunchesAt}
use Rattle.vos_levels.specs.Moments.{same_moment}
use Rattle.base_types.specs.Paths.{same_path}
use Rattle.vos_settle.specs.declared.name.WriteName.{WriteName}
use Rattle.vos_settle.specs.Names.{moment_of}
use Rattle.vos_lists.specs.Paths.{at_akey, at_dkey}

-- a name of a punch of a path, made then
abbrev pub is_name_of : Path → Moment → WriteName → Bool
is_name_of p m n = same_path n.path p && same_moment (moment_of n) m

-- Punches came to an index by their names: at a path stands a moment exactly where it stood there before, or one of them was
-- made of the path then.
pub record Gathered (ns : List WriteName) (f g : PunchesAt) : Type 0 where
  pub order : (p : Path) → AreInOrder (f p) → AreInOrder (g p)
  pub exact : (p : Path) (m : Moment) → has_moment m (g p) ≡ (has_moment m (f p) || list_any (is_name_of p m) ns)

-- ---- what stands below a path, by the names on the way

-- the punches among some entries of a log
abbrev pub entries_punches : Write → List LogEntry → List Version
entries_punches w es = map (punch_version w) (filter is_punch es)

-- the versions of an akey of a dkey, and of all of the dkey's
abbrev pub akey_in : Path → Akey → List Version
akey_in p a = values_versions (at_akey p a.name) a.holds

abbrev pub akeys_in : Path → Hung Akey → List Version
akeys_in p g = together (akey_in p) (things g)

-- those of a dkey, of a dkey of an object, and of all of the object's
abbrev pub below_dkey_in : Path → Below Akey → List Version
below_dkey_in p b = punches (PunchDkey p) b.0 ++ akeys_in p b.1

abbrev pub dkey_in : Path → Dkey → List Version
dkey_in p d = below_dkey_in (at_dkey p d.name) d.holds

abbrev pub dkeys_in : Path → Hung Dkey → List Version
dkeys_in p g = together (dkey_in p) (things g)
