-- The last punch that covers what lies below an object, and below a dkey.
use Rattle.std.specs.Prelude.{ℕ, List, Option}
use Rattle.vos_values.specs.declared.keys.Moment.{Moment}
use Rattle.vos_values.specs.declared.keys.ObjectKey.{ObjectKey}
use Rattle.vos_path.specs.Objects.{Objects}
use Rattle.vos_reads.specs.Ways.{below_object, dkey_of, punched_at}
use Rattle.vos_lists.specs.declared.view.View.{View}
use Rattle.vos_lists.specs.Stands.{covered}

-- the last punch below the epoch of an object, and of an object and its dkey
abbrev pub over_dkeys : View → ObjectKey → Objects → Option Moment
over_dkeys w o g = punched_at w.below (below_object o g).0

abbrev pub over_akeys : View → ObjectKey → List ℕ → Objects → Option Moment
over_akeys w o d g = covered w (over_dkeys w o g) (dkey_of o d g).0
