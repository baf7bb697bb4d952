-- The steps of an opening at one target, and what its calls say of its store.
use Rattle.std.specs.Prelude.{◌≡◌, ◌≤◌, ◌&&◌, Bool, true, false, not, List, [], ◌∷◌, filter, map, Option, Some, Result, OnOk, if◌then◌else◌}
use Rattle.std.specs.Option.{option_map}
use Rattle.base_types.specs.declared.entry.Entry.{Entry}
use Rattle.base_types.specs.declared.entry.Settle.{Settle}
use Rattle.base_types.specs.declared.entry.Settle.TheVariants.{Abort, Commit, Forget}
use Rattle.base_types.specs.declared.id.AttemptId.{AttemptId}
use Rattle.base_types.specs.declared.script.Script.{Script}
use Rattle.base_types.specs.declared.snapshot.Snap.{Snap}
use Rattle.daos_model.specs.declared.durable.Durable.{Durable}
use Rattle.daos_model.specs.Changes.{settled, thawed}
use Rattle.daos_model.specs.Durables.{is_frozen, snap_key}
use Rattle.daos_model.specs.Family.{resolved}
use Rattle.daos_model.specs.Ordered.{is_rising}
use Rattle.model_laws.specs.Members.{Has}
use Rattle.vos_store.specs.Calls.{State}
use Rattle.target_parts.specs.Parts.{Runs}
use Rattle.run_opening.specs.Opened.{is_at_one_of, keeps}

-- ---- attempts

-- what a target keeps that has these entries and nothing else
abbrev pub bare : List Entry → Durable
bare es = record { versions = []; entries = es; conts = []; snaps = []; lease = 0; incarnation = 0 }

-- an attempt is resolved by the entries of all targets
abbrev pub resolved_by : List (List Entry) → AttemptId → Bool
resolved_by all x = resolved (map bare all) x

-- a prepared attempt that is resolved is committed, and any other aborted
abbrev pub ending : Bool → Settle
ending true = Commit
ending false = Abort

-- the attempt of an entry is settled, if it is prepared
abbrev pub ended_at : (AttemptId → Bool) → Entry → Durable → Durable
ended_at is_resolved e d = if e.committed then d else settled e.attempt (ending (is_resolved e.attempt)) d

-- those of entries, one after another
abbrev pub all_ended : (AttemptId → Bool) → List Entry → Durable → Durable
all_ended is_resolved [] d = d
all_ended is_resolved (e ∷ es) d = all_ended is_resolved es (ended_at is_resolved e d)

-- each entry's attempt is settled where it is kept
abbrev pub ended : (AttemptId → Bool) → Durable → Durable
ended is_resolved d = all_ended is_resolved d.entries d

-- all its entries are committed
abbrev pub AllCommitted : Durable → Type 0
AllCommitted d = (e : Entry) → Has e d.entries → e.committed ≡ true

-- entries are forgotten, one after another
abbrev pub all_forgotten : List Entry → Durable → Durable
all_forgotten [] d = d
all_forgotten (e ∷ es) d = all_forgotten es (settled e.attempt Forget d)

abbrev pub forgotten : Durable → Durable
forgotten d = all_forgotten d.entries d

-- ---- snapshots

-- snapshots are thawed, one after another
abbrev pub all_thawed : List Snap → Durable → Durable
all_thawed [] d = d
all_thawed (x ∷ xs) d = all_thawed xs (thawed x.cont x.epoch d)

-- each of some snapshots is frozen at a target, and they are in their order
pub record AreFrozen (xs : List Snap) (d : Durable) : Type 0 where
  pub each : (x : Snap) → Has x xs → is_frozen d x.cont x.epoch ≡ true
  pub rising : is_rising snap_key xs ≡ true

-- a snapshot that is created, and that a script drops
abbrev pub is_dropped : Script → Snap → Bool
is_dropped s x = x.created && not (keeps s x)

abbrev pub dropped : Script → Durable → Durable
dropped s d = all_thawed (filter (is_dropped s) d.snaps) d

-- a snapshot that is none of some
abbrev pub is_other_than : List Snap → Snap → Bool
is_other_than xs x = not (is_at_one_of xs x)

-- those go that are none of some
abbrev pub left_with : List Snap → Durable → Durable
left_with xs d = all_thawed (filter (is_other_than xs) d.snaps) d

-- ---- a store

-- Calls of a store that make a change of what it keeps: it runs on but where Stopped is answered, it has no fewer free blocks, and where
-- they came to their end the change is made. If it keeps no entries it keeps none then, and as many blocks stay free.
pub record Goes {T E : Type 0} (stop : E → Bool) (change : Durable → Durable) (result : Result T E) (h k : State) (old new : Option Durable) : Type 0 where
  pub runs : Runs stop result h k old new
  pub free : h.free ≤ k.free
  pub made : OnOk result (new ≡ option_map change old)
  pub still : OnOk result ((d : Durable) → old ≡ Some d → d.entries ≡ [] → (k.free ≡ h.free) × ((change d).entries ≡ []))

-- nothing is changed
abbrev pub same : Durable → Durable
same d = d
