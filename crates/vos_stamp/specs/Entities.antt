-- The numbers that stand for entities, and what a read raises at the entities on its path.
use Rattle.std.specs.Prelude.{ℕ, ◌≡◌, ◌≤◌, ◌+◌, ◌*◌, ◌/◌, ◌++◌, Bool, true, false, nat_le, nat_lt, nat_eq, List, [], ◌∷◌, Option, Some, None, Contains, if◌then◌else◌}
use Rattle.base_types.specs.declared.path.Level.{Level}
use Rattle.base_types.specs.declared.path.Level.TheVariants.{Cont, Obj, Dkey, Akey}
use Rattle.base_types.specs.declared.path.Path.{Path}
use Rattle.base_types.specs.declared.shown.Shown.{Shown}
use Rattle.base_types.specs.Paths.{cut_at, depth, level_of, slot}
use Rattle.base_types.specs.Tags.{tag}
use Rattle.daos_model.specs.Forms.{is_path_in_form}
use Rattle.vos_stamp.specs.declared.entity.TheConstants.{SLOTS}
use Rattle.vos_stamp.specs.declared.marks.Raise.{Raise}
use Rattle.vos_stamp.specs.declared.table.TheConstants.{OWN}
use Rattle.vos_stamp.specs.Raised.{AnswersAt, Marked}

-- ---- the number of an entity

-- 64 bits that stand for an entity: the last twelve are its slot, the others are of the hash of its parts
abbrev pub entity : Path → ℕ
entity p = tag p / SLOTS * SLOTS + slot p

-- ---- what a read raises

-- a path goes as far as a level
abbrev pub reaches : Level → Path → Bool
reaches l p = nat_le (depth l) (depth (level_of p))

-- and no further
abbrev pub ends_at : Level → Path → Bool
ends_at l p = nat_eq (depth l) (depth (level_of p))

-- a read is the high mark of each entity on its path, and the low mark of the last one
abbrev pub raise_at : Level → Shown → Raise
raise_at l r = record { entity = entity (cut_at l r.path); marks = record { low = if ends_at l r.path then Some r else None; high = Some r } }

abbrev pub raise_or_none : Level → Shown → Option Raise
raise_or_none l r = if reaches l r.path then Some (raise_at l r) else None

abbrev pub listed : {T : Type 0} → Option T → List T
listed None = []
listed (Some x) = x ∷ []

-- what reads raise at a level
abbrev pub raises : Level → List Shown → List Raise
raises l [] = []
raises l (r ∷ rs) = listed (raise_or_none l r) ++ raises l rs

-- the reads that were raised: at a container each one is the high mark
abbrev pub reads_of : List Raise → List Shown
reads_of [] = []
reads_of (r ∷ rs) = listed r.marks.high ++ reads_of rs

-- each level has what the reads raised there, all of them at paths in form
pub record HaveReads (cont obj dkey akey : List Raise) : Type 0 where
  pub conts : cont ≡ raises Cont (reads_of cont)
  pub objs : obj ≡ raises Obj (reads_of cont)
  pub dkeys : dkey ≡ raises Dkey (reads_of cont)
  pub akeys : akey ≡ raises Akey (reads_of cont)
  pub form : (r : Shown) → Contains (reads_of cont) r → is_path_in_form r.path ≡ true

-- what timestamps come to: the reads that were raised, and how many entities have timestamps of their own
pub record Stamped : Type 0 where
  pub reads : List Shown
  pub held : ℕ

-- those of four levels
abbrev pub stamped : Marked → Marked → Marked → Marked → Stamped
stamped cont obj dkey akey = record { reads = reads_of cont.raises; held = cont.held + obj.held + dkey.held + akey.held }

-- the levels have the reads, and each at most so many entities with marks of their own
pub record AreLevels (cont obj dkey akey : Marked) : Type 0 where
  pub reads : HaveReads cont.raises obj.raises dkey.raises akey.raises
  pub few_conts : cont.held ≤ OWN
  pub few_objs : obj.held ≤ OWN
  pub few_dkeys : dkey.held ≤ OWN
  pub few_akeys : akey.held ≤ OWN

-- ---- what a write asks

-- whether the whole subtree must have been read at a level of the path, which holds above its last one
abbrev pub asks_low : Level → Path → Bool
asks_low l p = nat_lt (depth l) (depth (level_of p))

-- at a level that the path doesn't reach there is nothing to ask
abbrev pub AnswersIf : Bool → Level → Path → ℕ → List Raise → Option Shown → Type 0
AnswersIf true l p e rs answer = AnswersAt rs (asks_low l p) (entity (cut_at l p)) e answer
AnswersIf false l p e rs answer = answer ≡ None

-- a level's answer to a write
abbrev pub AnswersLevel : Level → Path → ℕ → List Raise → Option Shown → Type 0
AnswersLevel l p e rs answer = AnswersIf (reaches l p) l p e rs answer
