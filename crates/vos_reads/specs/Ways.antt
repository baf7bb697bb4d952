-- The way down to an akey, and what covers it.
use Rattle.std.specs.Prelude.{◌≡◌, ℕ, List, Option, Some, None, if◌then◌else◌}
use Rattle.std.specs.List.{find}
use Rattle.std.specs.Option.{option_map}
use Rattle.base_types.specs.declared.answer.Answer.{Answer}
use Rattle.base_types.specs.declared.answer.Answer.TheVariants.{Absent, Bytes}
use Rattle.base_types.specs.declared.epoch.Epoch.{Epoch}
use Rattle.base_types.specs.declared.path.Path.{Path}
use Rattle.daos_model.specs.Versions.{first_blocking}
use Rattle.vos_values.specs.declared.keys.Moment.{Moment}
use Rattle.vos_values.specs.declared.keys.ObjectKey.{ObjectKey}
use Rattle.vos_values.specs.Keys.{name_key, object_key}
use Rattle.vos_levels.specs.Levels.{Hung, find_last, is_level, things}
use Rattle.vos_ilog.specs.Logs.{Log, is_punch_below, moment_of}
use Rattle.vos_single.specs.declared.single.SingleVersion.{SingleVersion}
use Rattle.vos_extent.specs.Shown.{hides}
use Rattle.vos_path.specs.Objects.{Akey, Below, Dkey, Objects, Values, akey_level, below_or_none, dkey_level, object_level, objects_versions, values_or_none}
pub use Rattle.vos_punches.specs.Moments.{later_moment}

-- what stands below an object, a dkey, an akey of this name: nothing where it isn't there
abbrev pub below_object : ObjectKey → Objects → Below Dkey
below_object o g = below_or_none (find (is_level object_level (object_key o)) (things g))

abbrev pub below_dkey : List ℕ → Hung Dkey → Below Akey
below_dkey d g = below_or_none (find (is_level dkey_level (name_key d)) (things g))

abbrev pub below_akey : List ℕ → Hung Akey → Values
below_akey a g = values_or_none (find (is_level akey_level (name_key a)) (things g))

-- the dkey of an object, and its akey
abbrev pub dkey_of : ObjectKey → List ℕ → Objects → Below Akey
dkey_of o d g = below_dkey d (below_object o g).1

abbrev pub akey_of : ObjectKey → List ℕ → List ℕ → Objects → Values
akey_of o d a g = below_akey a (dkey_of o d g).1

-- ---- punches

-- the first moment of an epoch: what lies before it lies below the epoch
abbrev pub start_of : Epoch → Moment
start_of e = record { epoch = e; minor = 0 }

-- when the last punch of a log below an epoch was made
abbrev pub punched_at : Epoch → Log → Option Moment
punched_at e g = option_map moment_of (find_last (is_punch_below (start_of e)) (things g))

-- the last punch of three logs
abbrev pub last_punch : Epoch → Log → Log → Log → Option Moment
last_punch e x y z = later_moment (punched_at e x) (later_moment (punched_at e y) (punched_at e z))

-- ---- answers

abbrev pub moment_of_single : SingleVersion → Moment
moment_of_single v = record { epoch = v.epoch; minor = v.minor }

-- the bytes of a version, unless there is none or the punch is later
abbrev pub single_answer : Option Moment → Option SingleVersion → Answer
single_answer punched None = Absent
single_answer punched (Some v) = if hides punched (moment_of_single v) then Absent else Bytes v.bytes

-- every version below an epoch that overlaps a path is settled
abbrev pub IsSettled : Path → Epoch → Objects → Type 0
IsSettled p e g = first_blocking p e.0 (objects_versions g) ≡ None
