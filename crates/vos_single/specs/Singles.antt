-- Versions of a single value, in the order of their moments, each with the chain of its bytes.
use Rattle.std.specs.Prelude.{◌≡◌, ◌&&◌, ◌+◌, ℕ, Bool, true, false, List, length, map, Option, Some, None}
use Rattle.std.specs.List.{list_any}
use Rattle.base_types.specs.declared.epoch.Epoch.{Epoch}
use Rattle.base_types.specs.declared.id.AttemptId.{AttemptId}
use Rattle.pmem_pages.specs.Owners.{Owner}
use Rattle.pmem_pages.specs.declared.node.Pair.{Pair}
use Rattle.pmem_pages.specs.declared.node.TreeKey.{TreeKey}
use Rattle.pmem_pages.specs.declared.node.Value.{Value}
use Rattle.vos_values.specs.declared.keys.Moment.{Moment}
use Rattle.vos_values.specs.declared.values.VersionMark.{VersionMark}
use Rattle.vos_values.specs.Keys.{IsMoment, moment_in, moment_key}
use Rattle.vos_values.specs.Values.{IsVersionMark, version_in, version_value}
use Rattle.vos_moments.specs.vos_levels.declared.change.Change.{Change}
use Rattle.vos_moments.specs.vos_levels.Changes.{changed_by, freed_by, keeps, takes}
use Rattle.vos_moments.specs.vos_levels.Levels.{Hung, Level, hung, in_part, things}
use Rattle.vos_moments.specs.vos_levels.Moments.{is_earlier, same_moment}
use Rattle.vos_versions.specs.vos_chain.Chains.{Chain, chain_owner, first_of}
use Rattle.vos_versions.specs.vos_chain.Made.{chain_blocks}
use Rattle.vos_single.specs.declared.single.Placed.{Placed}
use Rattle.vos_single.specs.declared.single.SingleVersion.{SingleVersion}

-- a version, and the blocks of its bytes
pub record Stored : Type 0 where
  pub version : SingleVersion
  pub blocks : List ℕ

abbrev pub chain_of : Stored → Chain
chain_of s = record { blocks = s.blocks; bytes = s.version.bytes }

abbrev pub moment_of : Stored → Moment
moment_of s = record { epoch = s.version.epoch; minor = s.version.minor }

abbrev pub mark_of : Stored → VersionMark
mark_of s = record { done = s.version.done; by = s.version.by; length = length s.version.bytes; chain = first_of s.blocks }

abbrev pub key_of_stored : Stored → TreeKey
key_of_stored s = moment_key (moment_of s)

abbrev pub value_of_stored : Stored → Value
value_of_stored s = version_value (mark_of s)

pub record IsStored (s : Stored) : Type 0 where
  pub moment : IsMoment (moment_of s)
  pub mark : IsVersionMark (mark_of s)

abbrev pub single_level : Level Stored
single_level = record { kind = 5; owner = in_part chain_of chain_owner; key = key_of_stored; value = value_of_stored; Good = IsStored }

abbrev pub Singles : Type 0
Singles = Hung Stored

abbrev pub single_owner : Owner Singles
single_owner = hung single_level

abbrev pub version_of : Stored → SingleVersion
version_of s = s.version

-- the versions that stand there
abbrev pub versions : Singles → List SingleVersion
versions g = map version_of (things g)

-- a version of a moment, and one before it
abbrev pub is_version_at : Moment → SingleVersion → Bool
is_version_at m v = same_moment (record { epoch = v.epoch; minor = v.minor }) m

abbrev pub is_at : Moment → Stored → Bool
is_at m s = is_version_at m s.version

abbrev pub is_under : Moment → Stored → Bool
is_under m s = is_earlier (moment_of s) m

abbrev pub has_version_at : Moment → List Stored → Bool
has_version_at m xs = list_any (is_at m) xs

-- the first moment of an epoch: what lies below it lies below the epoch
abbrev pub start_of : Epoch → Moment
start_of e = record { epoch = e; minor = 0 }

-- a version that was just written
abbrev pub new_version : Moment → AttemptId → List ℕ → SingleVersion
new_version m by bytes = record { epoch = m.epoch; minor = m.minor; by = by; done = false; bytes = bytes }

-- what a key and a value say
abbrev pub placed_of : Stored → Placed
placed_of s = record { moment = moment_of s; mark = mark_of s }

abbrev pub placed_with : Moment → Option VersionMark → Option Placed
placed_with m None = None
placed_with m (Some k) = Some (record { moment = m; mark = k })

abbrev pub placed_when : Value → Option Moment → Option Placed
placed_when v None = None
placed_when v (Some m) = placed_with m (version_in v)

abbrev pub placed_in_pair : Pair → Option Placed
placed_in_pair p = placed_when p.value (moment_in p.key)

-- ---- settled and pruned

abbrev pub done_version : SingleVersion → SingleVersion
done_version v = record { epoch = v.epoch; minor = v.minor; by = v.by; done = true; bytes = v.bytes }

abbrev pub done_stored : Stored → Stored
done_stored s = record { version = done_version s.version; blocks = s.blocks }

-- a change takes the version of a moment
abbrev pub is_taken : Change → Moment → SingleVersion → Bool
is_taken c m v = is_version_at m v && takes c v.by v.done

-- the versions after a change of that of one moment
abbrev pub IsChangedAt : Change → Moment → List SingleVersion → List SingleVersion → Type 0
IsChangedAt c m vs ws = ws ≡ changed_by (keeps c) (is_taken c m) done_version vs

-- the blocks of a version: those of its bytes, and its pair's
abbrev pub blocks_of_version : SingleVersion → ℕ
blocks_of_version v = chain_blocks (length v.bytes) + 1

-- the blocks that the change gives back
abbrev pub freed_at : Change → Moment → List SingleVersion → ℕ
freed_at c m vs = freed_by (keeps c) (is_taken c m) blocks_of_version vs
