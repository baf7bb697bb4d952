-- What the calls of a store answer of what it keeps, and where they refuse.
use Rattle.std.specs.Prelude.{◌≡◌, ◌<◌, ◌⊎◌, ℕ, Bool, true, ◌&&◌, ◌==◌, not, nat_lt, nat_le, find, length, map, List, [], ◌∷◌, Option, Some, None, Result, Ok, Err, if◌then◌else◌}
use Rattle.base_types.specs.declared.answer.Answer.{Answer}
use Rattle.base_types.specs.declared.epoch.Epoch.{Epoch}
use Rattle.base_types.specs.declared.id.ContId.{ContId}
use Rattle.base_types.specs.declared.id.ObjId.{ObjId}
use Rattle.base_types.specs.declared.operation.Read.{Read}
use Rattle.base_types.specs.declared.outcome.FloorWhy.{FloorWhy}
use Rattle.base_types.specs.declared.path.Path.{Path}
use Rattle.base_types.specs.declared.shown.Shown.{Shown}
use Rattle.base_types.specs.Operations.{read_path}
use Rattle.base_types.specs.Paths.{class_number}
use Rattle.daos_model.specs.declared.durable.ContRow.{ContRow}
use Rattle.daos_model.specs.declared.durable.Durable.{Durable}
use Rattle.daos_model.specs.declared.durable.Version.{Version}
use Rattle.daos_model.specs.Answers.{answer, is_before}
use Rattle.daos_model.specs.Changes.{enlisted, is_in_range}
use Rattle.daos_model.specs.Durables.{is_frozen, is_stored_why, row_of}
use Rattle.daos_model.specs.Versions.{first_between, first_blocking, map_below, version_path}
use Rattle.vos_store.specs.declared.refusal.DiscardNo.{DiscardNo}
use Rattle.vos_store.specs.declared.refusal.DiscardNo.TheVariants as discard
use Rattle.vos_store.specs.declared.refusal.EnlistNo.{EnlistNo}
use Rattle.vos_store.specs.declared.refusal.EnlistNo.TheVariants as enlist
use Rattle.vos_store.specs.declared.refusal.FetchNo.{FetchNo}
use Rattle.vos_store.specs.declared.refusal.FetchNo.TheVariants as fetch
use Rattle.vos_store.specs.declared.refusal.FreezeNo.{FreezeNo}
use Rattle.vos_store.specs.declared.refusal.FreezeNo.TheVariants as freeze
use Rattle.vos_store.specs.declared.refusal.PrepareNo.{PrepareNo}
use Rattle.vos_store.specs.declared.refusal.PrepareNo.TheVariants as prepare

-- the greater of the opening's floor and the one that is stored; where they are one, the opening's stands
abbrev pub later_floor : Epoch × FloorWhy → ContRow → Epoch × FloorWhy
later_floor opening r = if nat_lt opening.0.0 r.floor.0 then (r.floor, r.why) else opening

-- the floor of a container
unfoldable pub floor_of : Epoch × FloorWhy → Durable → ContId → Epoch × FloorWhy
floor_of opening d c = later_floor opening (row_of d c)

-- what may be shown as a floor: that of the last opening, or one that a snapshot or an aggregation set
abbrev pub IsFloorShown : Epoch × FloorWhy → Epoch × FloorWhy → Type 0
IsFloorShown opening shown = (shown ≡ opening) ⊎ (is_stored_why shown.1 ≡ true)

-- containers are too many where with those that are there they are more than 256
unfoldable pub enlists : List ContId → Durable → Result (Unit {0}) EnlistNo
enlists cs d = if nat_lt 256 (length (enlisted cs d).conts) then Err (enlist.TooMany (length (enlisted cs d).conts)) else Ok tt

-- the number of containers together that a refusal shows is more than 256, also of a store that tells nothing
abbrev pub IsManyShown : EnlistNo → Type 0
IsManyShown enlist.Stopped = Unit {0}
IsManyShown (enlist.TooMany together) = 256 < together
IsManyShown enlist.Memory = Unit {0}

-- writes have no space where fewer blocks are free than they may take
abbrev pub PrepareWhy : ℕ → ℕ → PrepareNo → Type 0
PrepareWhy need free prepare.Stopped = Unit {0}
PrepareWhy need free (prepare.NoSpace n f) = (n ≡ need) × (f ≡ free) × (free < need)
PrepareWhy need free prepare.Memory = Unit {0}

-- a freeze is refused at or below the aggregated-to epoch, and where 256 other places are used
unfoldable pub freezes : ContId → Epoch → Durable → Result (Unit {0}) FreezeNo
freezes c s d =
    if nat_le s.0 (row_of d c).aggregated.0 then Err (freeze.Below (row_of d c).aggregated (row_of d c).number)
    else if not (is_frozen d c s) && nat_le 256 (length d.snaps) then Err freeze.NoPlace else Ok tt

-- a version of a range that isn't settled
unfoldable pub is_open_in : ContId → Epoch → Epoch → Version → Bool
is_open_in c lo hi v = is_in_range c lo hi v && not v.done

abbrev pub or_unsettled : Option Version → Result (Unit {0}) DiscardNo
or_unsettled None = Ok tt
or_unsettled (Some v) = Err (discard.Unsettled v.by)

-- a discard is refused where a version of the range isn't settled; the first, of the least epoch, is shown
unfoldable pub discards : ContId → Epoch → Epoch → Durable → Result (Unit {0}) DiscardNo
discards c lo hi d = or_unsettled (find (is_open_in c lo hi) d.versions)

abbrev pub epoch_shown : Option Version → Option Epoch
epoch_shown None = None
epoch_shown (Some v) = Some v.epoch

-- the least epoch of a container's versions at or below an epoch that aren't settled, if there is one: an aggregation stays below it
unfoldable pub open_below : ContId → Epoch → Durable → Option Epoch
open_below c upto d = epoch_shown (find (is_open_in c (record { 0 = 0 }) upto) d.versions)

-- the versions that a read below an epoch asks for were aggregated: the epoch is at or below the aggregated-to epoch,
-- and no snapshot is frozen at it
unfoldable pub is_past : ContId → Epoch → Durable → Bool
is_past c e d = nat_le e.0 (row_of d c).aggregated.0 && not (is_frozen d c e)

abbrev pub answer_unless : Option Version → Answer → Result Answer FetchNo
answer_unless None a = Ok a
answer_unless (Some v) a = Err (fetch.Unsettled v.by)

-- what a read below an epoch is answered: that the versions were aggregated; else the first version in the way that
-- isn't settled, which is one of the least epoch; else the answer on the map below the epoch
unfoldable pub fetched : Read → Epoch → Durable → Result Answer FetchNo
fetched r e d =
    if is_past (read_path r).cont e d then Err (fetch.Aggregated (row_of d (read_path r).cont).aggregated (row_of d (read_path r).cont).number)
    else answer_unless (first_blocking (read_path r) e.0 d.versions) (answer r (map_below d.versions e.0))

-- a version as it is shown
abbrev pub shown_version : Version → Shown
shown_version v = record { by = v.by; epoch = v.epoch; path = version_path v }

abbrev pub shown_or_none : Option Version → Option Shown
shown_or_none None = None
shown_or_none (Some v) = Some (shown_version v)

-- the write on a path, above one epoch and up to another, that is shown: of the least epoch, and then of the least number
unfoldable pub later_write : Path → Epoch → Epoch → Durable → Option Shown
later_write p above upto d = shown_or_none (first_between p above.0 upto.0 d.versions)

abbrev pub row_cont : ContRow → ContId
row_cont r = r.cont

-- the containers that are enlisted, in order
abbrev pub enlisted_in : Durable → List ContId
enlisted_in d = map row_cont d.conts

-- the order of the objects of a container: by class, number and record size
abbrev pub obj_key : ObjId → List ℕ
obj_key o = class_number o.class ∷ o.number ∷ o.unit ∷ []

-- an object among objects in order, each once
abbrev pub obj_among : ObjId → List ObjId → List ObjId
obj_among o [] = o ∷ []
obj_among o (n ∷ os) =
    if is_before (obj_key o) (obj_key n) then o ∷ n ∷ os
    else if is_before (obj_key n) (obj_key o) then n ∷ obj_among o os
    else n ∷ os

-- the object of a path of the container, if it names one, among objects in order
abbrev pub named_among : ContId → ContId → Option ObjId → List ObjId → List ObjId
named_among c at None os = os
named_among c at (Some o) os = if at.0 == c.0 then obj_among o os else os

abbrev pub objects_of : ContId → List Version → List ObjId
objects_of c [] = []
objects_of c (v ∷ vs) = named_among c (version_path v).cont (version_path v).obj (objects_of c vs)

-- the objects of a container that have a version, settled or not, each once and in order
abbrev pub objects_in : ContId → Durable → List ObjId
objects_in c d = objects_of c d.versions
