-- What commits make of what a region keeps, as statements. At rest the next opening finds what is kept. A commit after which the content keeps what a
-- change makes is that change, as a call of a store makes it; quiet commits, after which it keeps the same, may come before it and behind it.
use Rattle.std.specs.Prelude.{ℕ, ◌≡◌, ◌⊎◌, Bool, false, true, List, OnOk, Option, Result, Some, is_ok, is_some}
use Rattle.base_outside.specs.Images.{Image, Range}
use Rattle.daos_model.specs.declared.durable.Durable.{Durable}
use Rattle.pmem_undo.specs.Settled.{IsAtRest}
use Rattle.vos_commits.specs.Kept.{IsCommit, IsQuiet, MayFind, Reading, kept_in, kept_over}
use Rattle.vos_store.specs.Calls.{Makes, MakesPartly}
use Rattle.vos_store.specs.Refusals.{refuses, says}

-- at rest the next opening finds what is kept, and nothing else
abbrev pub AtRestOneIsFound : Type 1
AtRestOneIsFound = (reading : Reading) (size : ℕ) (f : Image) (may_leave : Image → Type 0) (x : Durable) → IsAtRest f may_leave → MayFind reading size may_leave x → x ≡ kept_in reading size f

-- after a commit, whatever it answered, an opening finds what it would have found before, or what the content after it keeps
abbrev pub CommitsFind : Type 1
CommitsFind =
    (reading : Reading) (size : ℕ) (ranges : List Range) (done : Bool) (f g : Image) (old new : Image → Type 0) (x : Durable)
    → IsCommit size ranges done f g old new → MayFind reading size new x → MayFind reading size old x ⊎ (x ≡ kept_over reading f ranges)

-- after Ok the content after it is kept
abbrev pub CommitsKeep : Type 1
CommitsKeep =
    (reading : Reading) (size : ℕ) (ranges : List Range) (done : Bool) (f g : Image) (old new : Image → Type 0)
    → IsCommit size ranges done f g old new → done ≡ true → kept_in reading size g ≡ kept_over reading f ranges

-- a commit after which the content keeps what a change makes is that change, as a store's call makes it
abbrev pub CommitsMake : Type 1
CommitsMake =
    (T E : Type 0) (stop : E → Bool) (change : Durable → Durable) (result : Result T E) (reading : Reading) (size : ℕ) (ranges : List Range) (f g : Image) (old new : Image → Type 0)
    → IsCommit size ranges (is_ok result) f g old new → refuses stop result ≡ false → kept_over reading f ranges ≡ change (kept_in reading size f)
    → Makes false stop change result (Some (kept_in reading size f)) (Some (kept_in reading size g)) (MayFind reading size old) (MayFind reading size new)

-- a quiet commit leaves to openings what they would have found
abbrev pub QuietFindsTheSame : Type 1
QuietFindsTheSame =
    (reading : Reading) (size : ℕ) (ranges : List Range) (done : Bool) (f g : Image) (old new : Image → Type 0) (x : Durable)
    → IsCommit size ranges done f g old new → IsQuiet reading size ranges f → MayFind reading size new x → MayFind reading size old x

-- and, where it is done, what is kept
abbrev pub QuietKeepsTheSame : Type 1
QuietKeepsTheSame =
    (reading : Reading) (size : ℕ) (ranges : List Range) (done : Bool) (f g : Image) (old new : Image → Type 0)
    → IsCommit size ranges done f g old new → IsQuiet reading size ranges f → done ≡ true → kept_in reading size g ≡ kept_in reading size f

-- a call that stopped before its change was made has made none of it, where what came before leaves to openings what they would have found
abbrev pub StoppedBeforeMakesNone : Type 1
StoppedBeforeMakesNone =
    (T E : Type 0) (stop : E → Bool) (change : Durable → Durable) (was_stopped : Bool) (result : Result T E) (kept new : Option Durable) (may after : Durable → Type 0)
    → says stop result ≡ true → ((x : Durable) → after x → may x) → is_some new ≡ is_some kept → Makes was_stopped stop change result kept new may after

-- a change is the same change where what came before it left to openings what they would have found
abbrev pub QuietBeforeStays : Type 1
QuietBeforeStays =
    (T E : Type 0) (stop : E → Bool) (change : Durable → Durable) (result : Result T E) (kept new : Option Durable) (may before after : Durable → Type 0)
    → ((x : Durable) → before x → may x) → Makes false stop change result kept new before after → Makes false stop change result kept new may after

-- a change that was made stays the same change where what comes behind it leaves to openings what they would have found, and keeps what
-- is kept where it is done
abbrev pub QuietAfterStays : Type 1
QuietAfterStays =
    (T U E F : Type 0) (stop : E → Bool) (stop' : F → Bool) (change : Durable → Durable) (made : Result T E) (result : Result U F) (old kept new : Option Durable) (may between after : Durable → Type 0)
    → is_ok made ≡ true → Makes false stop change made old kept may between → ((x : Durable) → after x → between x) → OnOk result (new ≡ kept) → refuses stop' result ≡ false → is_some new ≡ is_some kept
    → Makes false stop' change result old new may after

-- a step of a change that may be cut: after it openings find what they would have found, or what the cut change may leave
abbrev pub StepsArePartOfAChange : Type 1
StepsArePartOfAChange =
    (T E : Type 0) (stop : E → Bool) (change : Durable → Durable) (Cut : Durable → Durable → Type 0) (result : Result T E) (reading : Reading) (size : ℕ) (ranges : List Range) (d : Durable) (f g : Image) (may old left : Image → Type 0)
    → ((x : Durable) → MayFind reading size old x → MayFind reading size may x ⊎ Cut d x)
    → IsCommit size ranges (is_ok result) f g old left → Cut d (kept_over reading f ranges) → refuses stop result ≡ false
    → OnOk result (kept_over reading f ranges ≡ change d)
    → MakesPartly false stop change Cut result (Some d) (Some (kept_in reading size g)) (MayFind reading size may) (MayFind reading size left)
