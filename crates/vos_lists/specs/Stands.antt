-- What has a cell below an epoch: something that is written below it, and that no later punch hides.
use Rattle.std.specs.Prelude.{◌==◌, ◌&&◌, ◌||◌, ℕ, Bool, false, not, nat_le, List, length, filter, map, Option, Some, None}
use Rattle.std.specs.List.{list_any}
use Rattle.std.specs.Option.{option_map}
use Rattle.base_types.specs.declared.epoch.Epoch.{Epoch}
use Rattle.base_types.specs.declared.id.ContId.{ContId}
use Rattle.byteorder.specs.Endian.{big_bytes}
use Rattle.pmem_pages.specs.declared.node.TreeKey.{TreeKey}
use Rattle.vos_values.specs.declared.keys.Moment.{Moment}
use Rattle.vos_values.specs.Keys.{name_key}
use Rattle.vos_levels.specs.Levels.{Hung, find_last, things}
use Rattle.vos_levels.specs.Moments.{is_earlier}
use Rattle.vos_ilog.specs.Logs.{Log}
use Rattle.vos_path.specs.vos_single.Singles.{Singles, is_under, moment_of as moment_of_single}
use Rattle.vos_extent.specs.Extents.{Extents, Stored}
use Rattle.vos_extent.specs.Shown.{hides, moment_of}
use Rattle.vos_path.specs.Objects.{Akey, Below, Dkey, Object, Objects, Values}
use Rattle.vos_reads.specs.Ways.{later_moment, punched_at, start_of}
use Rattle.vos_lists.specs.declared.view.View.{View}

-- ---- values

-- when the newest version of a single value below an epoch was written
abbrev pub newest_at : Epoch → Singles → Option Moment
newest_at e g = option_map moment_of_single (find_last (is_under (start_of e)) (things g))

-- something was written, and the punch isn't later
abbrev pub outlasts : Option Moment → Option Moment → Bool
outlasts punched None = false
outlasts punched (Some m) = not (hides punched m)

-- a single value is there
abbrev pub has_single : View → Option Moment → Singles → Bool
has_single w punched g = outlasts punched (newest_at w.below g)

-- an extent of so many bytes has a record, lies below the epoch, and the punch isn't later
abbrev pub is_there : View → Option Moment → ℕ → Moment → Bool
is_there w punched len m = nat_le w.unit len && is_earlier m (start_of w.below) && not (hides punched m)

-- a record of an extent is there
abbrev pub has_record : View → Option Moment → Stored → Bool
has_record w punched s = is_there w punched (length s.extent.bytes) (moment_of s.extent)

-- a record of one of the extents of an array is there
abbrev pub has_extent : View → Option Moment → Extents → Bool
has_extent w punched g = list_any (has_record w punched) (things g)

-- ---- akeys and dkeys

-- the last punch below the epoch of what lies above, or of a log
abbrev pub covered : View → Option Moment → Log → Option Moment
covered w punched l = later_moment punched (punched_at w.below l)

-- a value is there, or a record of one of the extents
abbrev pub has_value : View → Option Moment → Values → Bool
has_value w punched a = has_single w punched a.1.0 || has_extent w punched a.1.1

-- a cell is there below an akey, in what a punch covers
abbrev pub values_stand : View → Option Moment → Values → Bool
values_stand w punched a = has_value w (covered w punched a.0) a

-- below one akey of a tree
abbrev pub akey_stands : View → Option Moment → Akey → Bool
akey_stands w punched a = values_stand w punched a.holds

-- below one of a tree's akeys
abbrev pub any_akey : View → Option Moment → Hung Akey → Bool
any_akey w punched g = list_any (akey_stands w punched) (things g)

-- a cell is there below a dkey: below one of its akeys
abbrev pub below_stands : View → Option Moment → Below Akey → Bool
below_stands w punched b = any_akey w (covered w punched b.0) b.1

-- below one dkey of a tree
abbrev pub dkey_stands : View → Option Moment → Dkey → Bool
dkey_stands w punched d = below_stands w punched d.holds

-- below one of a tree's dkeys
abbrev pub any_dkey : View → Option Moment → Hung Dkey → Bool
any_dkey w punched g = list_any (dkey_stands w punched) (things g)

-- a cell is there below an object: below one of its dkeys
abbrev pub object_stands : View → Below Dkey → Bool
object_stands w b = any_dkey w (punched_at w.below b.0) b.1

-- an object is of a container, and a cell is there below it
abbrev pub stands_in : ContId → Epoch → Object → Bool
stands_in c e x = (x.name.cont.0 == c.0) && object_stands (record { unit = x.name.obj.unit; below = e }) x.holds

-- a cell is there below a container
abbrev pub cont_stands : ContId → Epoch → Objects → Bool
cont_stands c e g = list_any (stands_in c e) (things g)

-- ---- keys

-- the key of a container's identity alone: those of its objects and of later containers' lie above it
unfoldable pub cont_key : ContId → TreeKey
cont_key c = name_key (big_bytes 16 c.0)

-- ---- names

-- the names of those that pass a test
abbrev pub names_of : {A N : Type 0} → (A → Bool) → (A → N) → List A → List N
names_of test name xs = map name (filter test xs)

-- by which an akey, or a dkey, is listed
abbrev pub akey_name : Akey → List ℕ
akey_name a = a.name

abbrev pub dkey_name : Dkey → List ℕ
dkey_name d = d.name

-- the names of the akeys, and of the dkeys, that have a cell, in the order of their tree
abbrev pub akey_names : View → Option Moment → Hung Akey → List (List ℕ)
akey_names w punched g = names_of (akey_stands w punched) akey_name (things g)

abbrev pub dkey_names : View → Option Moment → Hung Dkey → List (List ℕ)
dkey_names w punched g = names_of (dkey_stands w punched) dkey_name (things g)
