-- What any run begins with: with what it asks where no snapshot is there, of all but snapshots, and with snapshots that earlier runs made.
use Rattle.std.specs.Prelude.{ℕ, ◌≡◌, ◌≤◌, ◌<◌, ◌/◌, Bool, true, List, [], length, map, slice_get, Contains, Option, Some, None}
use Rattle.base_types.specs.declared.epoch.Epoch.{Epoch}
use Rattle.base_types.specs.declared.id.ContId.{ContId}
use Rattle.base_types.specs.declared.script.Command.{Command}
use Rattle.base_types.specs.declared.snapshot.Snap.{Snap}
use Rattle.base_types.specs.Scripts.{IsInForm as IsScriptInForm}
use Rattle.daos_model.specs.declared.cell.CellValue.{CellValue}
use Rattle.daos_model.specs.declared.durable.Durable.{Durable}
use Rattle.daos_model.specs.declared.durable.Version.{Version}
use Rattle.daos_model.specs.Durables.{IsInForm, row_of, is_enlisted}
use Rattle.daos_model.specs.Opening.{Opening, kept_map, top}
use Rattle.world_base.specs.declared.client.ClientState.{ClientState}
use Rattle.world_base.specs.declared.target.Life.TheVariants.{Running}
use Rattle.world_base.specs.declared.target.TargetState.{TargetState}
use Rattle.world_base.specs.declared.world.World.{World}
use Rattle.world_base.specs.ClientTurns.{at_first}
use Rattle.world_base.specs.Events.{Rules}
use Rattle.world_owners.specs.world_making.freezings.Freezings.{KeepsFrozen}
use Rattle.world_owners.specs.world_making.making.Snapshots.{holds_created}
use Rattle.world_legal.specs.world_contents.reads.Versions.{HoldsMap, is_own_in}
use Rattle.model_laws.specs.Targets.{ArePlaced, is_own}
use Rattle.model_laws.specs.Dated.{AreSingleInOrder}
use Rattle.daos_model.specs.declared.cell.Cell.{Cell}
use Rattle.world_legal.specs.world_commit.attempts.History.{History}
use Rattle.dtx_base.specs.declared.leading.LeaderMemory.{LeaderMemory}
use Rattle.dtx_base.specs.declared.member.MemberMemory.{MemberMemory}
use Rattle.base_types.specs.declared.script.Script.{Script}
use Rattle.world_legal.specs.world_standing.hearable.Hearable.{declared_conts}
use Rattle.daos_model.specs.Effect.{effects}
use Rattle.daos_model.specs.Cells.{value_at}
use Rattle.daos_model.specs.Versions.{writes_in}

-- the opening's versions are of before the run
abbrev pub AreBefore : Opening → (ℕ → List Version) → Type 0
AreBefore o held = (t : ℕ) (z : Version) → Contains (held t) z → z.epoch.0 ≤ top o

-- What a target of so many keeps when a run begins: nothing is left to settle, no snapshot is held, no epoch is above the opening's
-- top, and its versions give what the opening stands for at its own cells.
pub record OpensWith (targets t : ℕ) (o : Opening) (d : Durable) : Type 0 where
  pub form : IsInForm d
  pub single : AreSingleInOrder d.versions
  pub placed : ArePlaced targets t d.versions
  pub done : (v : Version) → Contains d.versions v → v.done ≡ true
  pub entries : d.entries ≡ []
  pub snaps : d.snaps ≡ []
  pub lease : d.lease ≤ o.lease
  pub covered : (v : Version) → Contains d.versions v → (v.epoch.0 ≤ top o) × (v.epoch.0 / 256 ≤ d.lease)
  pub floors : (cont : ContId) → ((row_of d cont).floor.0 ≤ top o) × ((row_of d cont).aggregated.0 ≤ top o)
  pub stands : (c : Cell) → is_own targets t c ≡ true → value_at (effects (writes_in d.versions) []) c ≡ value_at o.stand.now c

-- each of them is known where this is kept
abbrev pub AreEnlisted : Script → Durable → Type 0
AreEnlisted s d = (c : ContId) → Contains (declared_conts s) c → is_enlisted d c ≡ true

-- what a target knows that has just opened a store without entries: it leads nothing, no Fetch waits, and nothing was asked
abbrev pub no_leading : LeaderMemory
no_leading = record { undecided = []; decided = []; named = []; down = 0 }

abbrev pub no_joining : MemberMemory
no_joining = record { parked = []; inquiries = [] }

-- a target of so many that runs, and has heard nothing yet
pub record StartsWith (targets t : ℕ) (o : Opening) (s : TargetState) : Type 0 where
  pub opens : OpensWith targets t o s.durable
  pub free : o.free t ≤ s.free
  pub floor : s.opening.0.0 ≤ top o
  pub runs : s.life ≡ Running
  pub ticks : s.memory.ticks ≤ o.lease
  pub stamps : s.memory.stamps ≡ []
  pub leader : s.memory.leader ≡ no_leading
  pub member : s.memory.member ≡ no_joining
  pub collecting : s.memory.collecting ≡ []

-- the tracker of each client covers all epochs of the opening
abbrev pub first_tracker : Opening → Epoch
first_tracker o = record { 0 = top o }

-- nothing was decided, nothing aborted, and nothing served
abbrev pub no_history : History
no_history = record { decided = []; aborted = []; served = [] }

-- the versions that the targets of a world keep
abbrev pub versions_in : Option TargetState → List Version
versions_in None = []
versions_in (Some s) = s.durable.versions

abbrev pub held_at : World → ℕ → List Version
held_at w t = versions_in (slice_get w.targets t)

-- ---- the rules

-- A run of a script in form, for some targets whose numbers fit into epochs and into sets of members, which allows a command an attempt.
pub record AreRulesInForm (r : Rules) : Type 0 where
  pub form : IsScriptInForm r.script.targets r.script
  pub some_target : 0 < r.script.targets
  pub few_targets : r.script.targets ≤ 64
  pub some_attempt : 0 < r.attempts

-- ---- snapshots that are kept

abbrev pub is_settled_version : Version → Bool
is_settled_version v = v.done

-- The snapshots that a target of so many holds when a run begins: no write at or below one is stored any more, and its lease covers it; and
-- where the opening keeps the map of one, the target's versions below its epoch give that at its own cells.
pub record KeepsSnapshots (targets t : ℕ) (o : Opening) (d : Durable) : Type 0 where
  pub form : IsInForm d
  pub floored : (s : Snap) → Contains d.snaps s → s.epoch.0 ≤ (row_of d s.cont).floor.0
  pub leased : (s : Snap) → Contains d.snaps s → s.epoch.0 / 256 ≤ d.lease
  pub maps : (s : Snap) (m : List CellValue) → Contains d.snaps s → kept_map s.cont s.epoch.0 o.stand.snaps ≡ Some m
      → HoldsMap (is_own_in targets t s.cont) is_settled_version d.versions s.epoch.0 m

-- a target, of which no snapshot is told
abbrev pub without_snaps : TargetState → TargetState
without_snaps s = record s { durable = record s.durable { snaps = [] } }

-- ---- whatever it stands for

-- What a target keeps when a run begins, whatever its versions stand for: it is in form, nothing is left to settle, and no epoch is above the
-- opening's top, or beyond what its lease covers.
pub record KeepsWell (o : Opening) (d : Durable) : Type 0 where
  pub form : IsInForm d
  pub done : (v : Version) → Contains d.versions v → v.done ≡ true
  pub entries : d.entries ≡ []
  pub lease : d.lease ≤ o.lease
  pub covered : (v : Version) → Contains d.versions v → (v.epoch.0 ≤ top o) × (v.epoch.0 / 256 ≤ d.lease)
  pub floors : (cont : ContId) → ((row_of d cont).floor.0 ≤ top o) × ((row_of d cont).aggregated.0 ≤ top o)
  pub early : (s : Snap) → Contains d.snaps s → s.epoch.0 ≤ top o
  pub leased : (s : Snap) → Contains d.snaps s → s.epoch.0 / 256 ≤ d.lease

-- a target that runs, and has heard nothing yet
pub record StartsWell (t : ℕ) (o : Opening) (s : TargetState) : Type 0 where
  pub keeps : KeepsWell o s.durable
  pub free : o.free t ≤ s.free
  pub floor : s.opening.0.0 ≤ top o
  pub runs : s.life ≡ Running
  pub ticks : s.memory.ticks ≤ o.lease
  pub stamps : s.memory.stamps ≡ []
  pub leader : s.memory.leader ≡ no_leading
  pub member : s.memory.member ≡ no_joining
  pub collecting : s.memory.collecting ≡ []

-- ---- the world

-- the snapshots that a target holds
abbrev pub snaps_held : Option TargetState → List Snap
snaps_held None = []
snaps_held (Some s) = s.durable.snaps

-- a client before its first turn, which knows the snapshots that the script names and target 0 holds as created
abbrev pub client_begins : Rules → Opening → World → List Command → ClientState
client_begins r o w commands = at_first r.script (snaps_held (slice_get w.targets 0)) (first_tracker o)

-- A world before its first event: a target for each number, that starts with all but its snapshots as where there are none, and with these; a
-- client for each list of the script; and nothing in flight, issued or told of. What target 0 holds as created each target holds frozen, and
-- the opening keeps its map.
pub record RunBeginsWith (r : Rules) (o : Opening) (w : World) : Type 0 where
  pub targets : length w.targets ≡ r.script.targets
  pub starts : (t : ℕ) (s : TargetState) → slice_get w.targets t ≡ Some s → StartsWith r.script.targets t o (without_snaps s)
  pub snapshots : (t : ℕ) (s : TargetState) → slice_get w.targets t ≡ Some s → KeepsSnapshots r.script.targets t o s.durable
  pub frozen : (z : TargetState) (c : ContId) (s : Epoch) → slice_get w.targets 0 ≡ Some z → holds_created z.durable c s ≡ true → (t : ℕ) → KeepsFrozen w t c s
  pub kept : (z : TargetState) (c : ContId) (s : Epoch) → slice_get w.targets 0 ≡ Some z → holds_created z.durable c s ≡ true
      → (m : List CellValue) × (kept_map c s.0 o.stand.snaps ≡ Some m)
  pub enlisted : (t : ℕ) (s : TargetState) → slice_get w.targets t ≡ Some s → AreEnlisted r.script s.durable
  pub clients : w.clients ≡ map (client_begins r o w) r.script.clients
  pub messages : w.messages ≡ []
  pub asked : w.asked ≡ []
  pub issued : w.issued ≡ []
  pub lines : w.lines ≡ []

-- A world before its first event, whatever its targets' versions stand for: replicas may differ, and versions lie anywhere. What target 0 holds
-- as created each target holds frozen, and the opening keeps a map for it.
pub record RunBeginsWell (r : Rules) (o : Opening) (w : World) : Type 0 where
  pub targets : length w.targets ≡ r.script.targets
  pub starts : (t : ℕ) (s : TargetState) → slice_get w.targets t ≡ Some s → StartsWell t o s
  pub frozen : (z : TargetState) (c : ContId) (s : Epoch) → slice_get w.targets 0 ≡ Some z → holds_created z.durable c s ≡ true → (t : ℕ) → KeepsFrozen w t c s
  pub kept : (z : TargetState) (c : ContId) (s : Epoch) → slice_get w.targets 0 ≡ Some z → holds_created z.durable c s ≡ true
      → (m : List CellValue) × (kept_map c s.0 o.stand.snaps ≡ Some m)
  pub enlisted : (t : ℕ) (s : TargetState) → slice_get w.targets t ≡ Some s → AreEnlisted r.script s.durable
  pub clients : w.clients ≡ map (client_begins r o w) r.script.clients
  pub messages : w.messages ≡ []
  pub asked : w.asked ≡ []
  pub issued : w.issued ≡ []
  pub lines : w.lines ≡ []
