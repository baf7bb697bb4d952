-- A log: creations and punches, in the order of their moments.
use Rattle.std.specs.Prelude.{◌≡◌, ◌≤◌, ◌<◌, ◌+◌, ◌*◌, ◌^◌, ◌&&◌, length, ℕ, Bool, true, List, Option, Some, None}
use Rattle.base_types.specs.declared.epoch.Epoch.{Epoch}
use Rattle.pmem_pages.specs.declared.node.Pair.{Pair}
use Rattle.std.specs.List.{find, list_any}
use Rattle.std.specs.Option.{option_map}
use Rattle.pmem_pages.specs.Owners.{Owner}
use Rattle.pmem_pages.specs.Shape.{entries}
use Rattle.pmem_pages.specs.declared.node.TreeKey.{TreeKey}
use Rattle.pmem_pages.specs.declared.node.Value.{Value}
use Rattle.vos_values.specs.declared.keys.Moment.{Moment}
use Rattle.vos_values.specs.declared.values.LogMark.{LogMark}
use Rattle.vos_values.specs.Keys.{IsAttempt, IsMoment, moment_in, moment_key}
use Rattle.vos_values.specs.Values.{log_in, log_value}
use Rattle.vos_moments.specs.vos_levels.declared.change.Change.{Change}
use Rattle.vos_moments.specs.vos_levels.Changes.{changed_by, freed_by, keeps, takes}
use Rattle.vos_moments.specs.vos_levels.Levels.{Hung, Level, hung, in_none, map_those, things, without_those}
use Rattle.vos_moments.specs.vos_levels.Moments.{is_earlier, same_moment}
use Rattle.vos_ilog.specs.declared.ilog.LogEntry.{LogEntry}

abbrev pub moment_of : LogEntry → Moment
moment_of v = record { epoch = v.epoch; minor = v.minor }

abbrev pub mark_of : LogEntry → LogMark
mark_of v = record { punch = v.punch; done = v.done; by = v.by }

abbrev pub key_of_entry : LogEntry → TreeKey
key_of_entry v = moment_key (moment_of v)

abbrev pub value_of_entry : LogEntry → Value
value_of_entry v = log_value (mark_of v)

pub record IsLogEntry (v : LogEntry) : Type 0 where
  pub moment : IsMoment (moment_of v)
  pub by : IsAttempt v.by

-- entries stand in the tree alone
abbrev pub log_level : Level LogEntry
log_level = record { kind = 4; owner = in_none; key = key_of_entry; value = value_of_entry; Good = IsLogEntry }

abbrev pub Log : Type 0
Log = Hung LogEntry

abbrev pub log_owner : Owner Log
log_owner = hung log_level

-- for each entry of a log, and once more, a look-up in its tree
abbrev pub StepsDown : Log → ℕ → ℕ → Type 0
StepsDown g before now = (d : ℕ) → length (entries g.0) < 2 ^ d → now ≤ before + (length (things g) + 1) * (2 * d)

-- an entry of a moment, and one before it
abbrev pub is_at : Moment → LogEntry → Bool
is_at m v = same_moment (moment_of v) m

abbrev pub is_under : Moment → LogEntry → Bool
is_under m v = is_earlier (moment_of v) m

abbrev pub has_entry_at : Moment → List LogEntry → Bool
has_entry_at m vs = list_any (is_at m) vs

-- a punch below an epoch
abbrev pub is_punch_below : Moment → LogEntry → Bool
is_punch_below m v = v.punch && is_under m v

abbrev pub done_entry : LogEntry → LogEntry
done_entry v = record { epoch = v.epoch; minor = v.minor; punch = v.punch; by = v.by; done = true }

-- a change takes the entry of a moment
abbrev pub is_taken : Change → Moment → LogEntry → Bool
is_taken c m v = is_at m v && takes c v.by v.done

-- the entries after a change of that of one moment
abbrev pub changed_at : Change → Moment → List LogEntry → List LogEntry
changed_at c m vs = changed_by (keeps c) (is_taken c m) done_entry vs

-- the blocks that the change gives back: an entry has one
abbrev pub one_block : LogEntry → ℕ
one_block v = 1

abbrev pub freed_at : Change → Moment → List LogEntry → ℕ
freed_at c m vs = freed_by (keeps c) (is_taken c m) one_block vs

-- the entry of a moment says this
abbrev pub SaysAt : Moment → LogMark → List LogEntry → Type 0
SaysAt m k vs = option_map mark_of (find (is_at m) vs) ≡ Some k

-- the entry of a moment became done, or went, or was changed
abbrev pub IsDoneAt : Moment → List LogEntry → List LogEntry → Type 0
IsDoneAt m vs ws = ws ≡ map_those (is_at m) done_entry vs

abbrev pub IsGoneAt : Moment → List LogEntry → List LogEntry → Type 0
IsGoneAt m vs ws = ws ≡ without_those (is_at m) vs

abbrev pub IsChangedAt : Change → Moment → List LogEntry → List LogEntry → Type 0
IsChangedAt c m vs ws = ws ≡ changed_at c m vs

-- the first moment of an epoch: what lies below it lies below the epoch
abbrev pub start_of : Epoch → Moment
start_of e = record { epoch = e; minor = 0 }

abbrev pub entry_from : Moment → LogMark → LogEntry
entry_from m v = record { epoch = m.epoch; minor = m.minor; punch = v.punch; by = v.by; done = v.done }

abbrev pub entry_with : Moment → Option LogMark → Option LogEntry
entry_with m None = None
entry_with m (Some v) = Some (entry_from m v)

abbrev pub entry_when : Value → Option Moment → Option LogEntry
entry_when v None = None
entry_when v (Some m) = entry_with m (log_in v)

-- the entry that a key and a value say
abbrev pub entry_in_pair : Pair → Option LogEntry
entry_in_pair p = entry_when p.value (moment_in p.key)
