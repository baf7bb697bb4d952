-- Whose a write is that is done.
use Rattle.std.specs.Prelude.{◌&&◌, ◌<◌, ◌^◌, ℕ, Bool, List, Option, Some, None, if◌then◌else◌}
use Rattle.std.specs.List.{find}
use Rattle.std.specs.Option.{option_map}
use Rattle.base_types.specs.declared.id.AttemptId.{AttemptId}
use Rattle.base_types.specs.declared.path.Path.{Path}
use Rattle.daos_model.specs.declared.durable.Version.{Version}
use Rattle.vos_values.specs.declared.keys.ExtentKey.{ExtentKey}
use Rattle.vos_values.specs.declared.keys.Moment.{Moment}
use Rattle.vos_values.specs.declared.keys.ObjectKey.{ObjectKey}
use Rattle.vos_values.specs.declared.values.LogMark.{LogMark}
use Rattle.vos_values.specs.declared.values.VersionMark.{VersionMark}
use Rattle.vos_levels.specs.Levels.{Hung, things}
use Rattle.vos_ilog.specs.declared.ilog.LogEntry.{LogEntry}
use Rattle.vos_ilog.specs.Logs.{is_at, mark_of}
use Rattle.vos_single.specs.Singles as single
use Rattle.vos_extent.specs.Extents as extent
use Rattle.vos_path.specs.Objects.{Akey, Below, Dkey, Object, Objects, Values, or_none}
use Rattle.vos_settle.specs.declared.task.WriteKind.{WriteKind}
use Rattle.vos_settle.specs.declared.task.WriteKind.TheVariants as kind
use Rattle.vos_settle.specs.Nodes.{is_akey, is_dkey, is_object}
use Rattle.vos_settle.specs.Tasks.{place_at}
use Rattle.vos_settle.specs.Versions.{is_version_of}

-- a done version of a write, and whose the first such is
abbrev pub is_done_of : Path → WriteKind → Moment → Version → Bool
is_done_of p k m v = is_version_of p k m v && v.done

abbrev pub version_by : Version → AttemptId
version_by v = v.by

abbrev pub writer_of : Path → WriteKind → Moment → List Version → Option AttemptId
writer_of p k m vs = option_map version_by (find (is_done_of p k m) vs)

-- an extent begins at an index below 2^32
abbrev pub HasPlace : WriteKind → Type 0
HasPlace kind.Punch = Unit {0}
HasPlace kind.Single = Unit {0}
HasPlace (kind.Extent low) = low < 2 ^ 32

-- ---- the same on the way down

-- whose an entry is that is a done punch
abbrev pub done_punch : Option LogMark → Option AttemptId
done_punch None = None
done_punch (Some k) = if k.punch && k.done then Some k.by else None

-- whose a version is that is done
abbrev pub done_version : Option VersionMark → Option AttemptId
done_version None = None
done_version (Some k) = if k.done then Some k.by else None

abbrev pub log_writer : Moment → List LogEntry → Option AttemptId
log_writer m es = done_punch (option_map mark_of (find (is_at m) es))

abbrev pub single_writer : Moment → List single.Stored → Option AttemptId
single_writer m xs = done_version (option_map single.mark_of (find (single.is_at m) xs))

abbrev pub extent_writer : ExtentKey → List extent.Stored → Option AttemptId
extent_writer p xs = done_version (option_map extent.mark_of (find (extent.is_at p) xs))

abbrev pub values_writer : WriteKind → Moment → Values → Option AttemptId
values_writer kind.Punch m a = log_writer m (things a.0)
values_writer kind.Single m a = single_writer m (things a.1.0)
values_writer (kind.Extent low) m a = extent_writer (place_at m low) (things a.1.1)

abbrev pub akey_writer : WriteKind → Moment → Akey → Option AttemptId
akey_writer k m a = values_writer k m a.holds

abbrev pub akeys_writer : WriteKind → Moment → List ℕ → Hung Akey → Option AttemptId
akeys_writer k m name g = or_none (akey_writer k m) None (find (is_akey name) (things g))

abbrev pub dkey_writer : WriteKind → Moment → Option (List ℕ) → Below Akey → Option AttemptId
dkey_writer k m None b = log_writer m (things b.0)
dkey_writer k m (Some akey) b = akeys_writer k m akey b.1

abbrev pub one_dkey_writer : WriteKind → Moment → Option (List ℕ) → Dkey → Option AttemptId
one_dkey_writer k m akey d = dkey_writer k m akey d.holds

abbrev pub dkeys_writer : WriteKind → Moment → List ℕ → Option (List ℕ) → Hung Dkey → Option AttemptId
dkeys_writer k m name akey g = or_none (one_dkey_writer k m akey) None (find (is_dkey name) (things g))

abbrev pub object_writer : WriteKind → Moment → Option (List ℕ) → Option (List ℕ) → Below Dkey → Option AttemptId
object_writer k m None akey b = log_writer m (things b.0)
object_writer k m (Some dkey) akey b = dkeys_writer k m dkey akey b.1

abbrev pub one_object_writer : WriteKind → Moment → Path → Object → Option AttemptId
one_object_writer k m p o = object_writer k m p.dkey p.akey o.holds

abbrev pub objects_writer : WriteKind → Moment → ObjectKey → Path → Objects → Option AttemptId
objects_writer k m o p g = or_none (one_object_writer k m p) None (find (is_object o) (things g))
