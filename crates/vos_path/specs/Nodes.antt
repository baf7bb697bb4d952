-- What a write makes of the nodes on its way: of its akey, its dkey and its object. All others stay as they are.
use Rattle.std.specs.Prelude.{◌≡◌, Bool, not, ℕ, List, Option, Some, None}
use Rattle.std.specs.List.{find}
use Rattle.base_types.specs.declared.operation.Write.{Write}
use Rattle.vos_values.specs.declared.keys.ObjectKey.{ObjectKey}
use Rattle.vos_values.specs.Keys.{name_key, object_key}
use Rattle.vos_extent.specs.vos_levels.Levels.{Hung, is_level, things}
use Rattle.vos_ilog.specs.declared.ilog.LogEntry.{LogEntry}
use Rattle.vos_path.specs.declared.stamp.Stamp.{Stamp}
use Rattle.vos_path.specs.Calls.{IsPut}
use Rattle.vos_path.specs.Objects.{Akey, Below, Dkey, Objects, Values, akey_level, dkey_level, held_below, held_values, no_below, no_values, object_level, or_none}
use Rattle.vos_path.specs.Writes.{IsNoted, IsNotedIf, fresh_entry, is_update}

-- what a write notes in the log of its own path: an update a creation, a punch itself
abbrev pub noted : Stamp → Write → LogEntry
noted s w = fresh_entry s (not (is_update w))

-- The one that passes a test has another in its place, or where none does one more comes, made of nothing. This holds of what
-- is below the two.
pub record OnePut {A P : Type 0} (test : A → Bool) (f : A → P) (none : P) (Named : A → Type 0) (N : P → P → Type 0) (xs ys : List A) : Type 0 where
  pub now : A
  pub named : Named now
  pub put : IsPut (find test xs) now xs ys
  pub nodes : N (or_none f none (find test xs)) (f now)

-- an akey's log
abbrev pub ValuesNoted : Stamp → Write → Values → Values → Type 0
ValuesNoted s w a b = IsNoted (noted s w) (things a.0) (things b.0)

abbrev pub AkeysNoted : Stamp → Write → List ℕ → Hung Akey → Hung Akey → Type 0
AkeysNoted s w name g h = OnePut (is_level akey_level (name_key name)) held_values no_values (λ a. a.name ≡ name) (ValuesNoted s w) (things g) (things h)

-- a log, and what is below it: a write that goes on below is noted there, and an update in this log too
pub record BothNoted {A : Type 0} (s : Stamp) (w : Write) (N : Hung A → Hung A → Type 0) (a b : Below A) : Type 0 where
  pub log : IsNotedIf (is_update w) (noted s w) (things a.0) (things b.0)
  pub tree : N a.1 b.1

-- a punch of the log's own path leaves what is below it
pub record LogNoted {A : Type 0} (s : Stamp) (w : Write) (a b : Below A) : Type 0 where
  pub log : IsNoted (noted s w) (things a.0) (things b.0)
  pub tree : b.1 ≡ a.1

-- a dkey, and the akey that the path goes on to
abbrev pub DkeyNoted : Stamp → Write → Option (List ℕ) → Below Akey → Below Akey → Type 0
DkeyNoted s w None a b = LogNoted s w a b
DkeyNoted s w (Some name) a b = BothNoted s w (AkeysNoted s w name) a b

abbrev pub DkeysNoted : Stamp → Write → List ℕ → Option (List ℕ) → Hung Dkey → Hung Dkey → Type 0
DkeysNoted s w name akey g h = OnePut (is_level dkey_level (name_key name)) held_below no_below (λ k. k.name ≡ name) (DkeyNoted s w akey) (things g) (things h)

-- an object, and the dkey that the path goes on to
abbrev pub ObjectNoted : Stamp → Write → Option (List ℕ) → Option (List ℕ) → Below Dkey → Below Dkey → Type 0
ObjectNoted s w None akey a b = LogNoted s w a b
ObjectNoted s w (Some name) akey a b = BothNoted s w (DkeysNoted s w name akey) a b

abbrev pub ObjectsNoted : Stamp → Write → ObjectKey → Option (List ℕ) → Option (List ℕ) → Objects → Objects → Type 0
ObjectsNoted s w name dkey akey g h = OnePut (is_level object_level (object_key name)) held_below no_below (λ o. o.name ≡ name) (ObjectNoted s w dkey akey) (things g) (things h)
