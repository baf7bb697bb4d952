-- What is asked of a step that settles a write, and what it makes of it.
use Rattle.std.specs.Prelude.{◌≡◌, ◌&&◌, ◌||◌, Bool, true, false, List, [], ◌∷◌}
use Rattle.base_types.specs.declared.entry.Settle.{Settle}
use Rattle.base_types.specs.declared.entry.Settle.TheVariants as step
use Rattle.base_types.specs.declared.id.AttemptId.{AttemptId}
use Rattle.daos_model.specs.declared.durable.Version.{Version}
use Rattle.daos_model.specs.Versions.{is_pending}
use Rattle.vos_levels.specs.declared.change.Change.{Change}
use Rattle.vos_levels.specs.declared.change.Change.TheVariants.{Commit, Abort}
use Rattle.vos_levels.specs.Levels.{without_those}
use Rattle.vos_settle.specs.declared.task.Task.{Task}
use Rattle.vos_settle.specs.Versions.{is_version_of, versions_after}
use Rattle.vos_prune.specs.Writers.{is_done_of}
use Rattle.vos_settle.specs.declared.name.WriteName.{WriteName}
use Rattle.vos_settle.specs.Names.{moment_of}

-- a step decides an attempt: its versions become done, or go
abbrev pub decides : Settle → Bool
decides step.Commit = true
decides step.Abort = true
decides (step.Confirm target) = false
decides step.Forget = false

abbrev pub change_of : AttemptId → Settle → Change
change_of a step.Commit = Commit a
change_of a step.Abort = Abort a
change_of a (step.Confirm target) = Abort a
change_of a step.Forget = Abort a

-- a write of an attempt is settled, with the attempt's creations of it
abbrev pub settling : AttemptId → WriteName → Settle → Task
settling a n s = record { kind = n.kind; at = moment_of n; by = a; change = change_of a s }

-- the versions after each of some writes of an attempt was settled, one after another
abbrev pub settled_each : AttemptId → Settle → List WriteName → List Version → List Version
settled_each a s [] vs = vs
settled_each a s (n ∷ ns) vs = settled_each a s ns (versions_after (settling a n s) n.path vs)

-- a version is that of one of some writes
abbrev pub is_named : WriteName → Version → Bool
is_named n v = is_version_of n.path n.kind (moment_of n) v

abbrev pub is_among : List WriteName → Version → Bool
is_among [] v = false
is_among (n ∷ ns) v = is_named n v || is_among ns v

-- they name each version of an attempt that isn't settled
abbrev pub NamesAll : AttemptId → List WriteName → List Version → Type 0
NamesAll a ns [] = Unit {0}
NamesAll a ns (v ∷ vs) = (is_pending a v ≡ true → is_among ns v ≡ true) × NamesAll a ns vs

-- ---- pruning

-- a done version of a write
abbrev pub is_removed : WriteName → Version → Bool
is_removed n v = is_done_of n.path n.kind (moment_of n) v

-- the versions after each of some writes was taken out, one after another
abbrev pub removed_each : List WriteName → List Version → List Version
removed_each [] vs = vs
removed_each (n ∷ ns) vs = removed_each ns (without_those (is_removed n) vs)

-- they name exactly the done versions that pass a test
abbrev pub NamesThose : (Version → Bool) → List WriteName → List Version → Type 0
NamesThose goes ns [] = Unit {0}
NamesThose goes ns (v ∷ vs) = ((is_among ns v && v.done) ≡ goes v) × NamesThose goes ns vs
