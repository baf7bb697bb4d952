-- When paths are the same, lead to one another, or overlap.
use Rattle.std.specs.Prelude.{ℕ, Bool, ◌&&◌, ◌||◌, ◌==◌, ◌%◌, nat_le, is_none, is_some, if◌then◌else◌, List, [], ◌∷◌, ◌++◌, Option, Some, None}
use Rattle.std.specs.Int.{to_be_bytes, w64, w128}
use Rattle.std.specs.Option.{option_eq}
use Rattle.base_types.specs.declared.id.Class.{Class}
use Rattle.base_types.specs.declared.id.Class.TheVariants.{S1, S2, S4, SX, RP2G1, RP2GX, RP3G1, RP3GX}
use Rattle.base_types.specs.declared.id.ContId.{ContId}
use Rattle.base_types.specs.declared.id.ObjId.{ObjId}
use Rattle.base_types.specs.declared.path.Path.{Path}
use Rattle.base_types.specs.declared.path.Level.{Level}
use Rattle.base_types.specs.declared.path.Level.TheVariants.{Cont, Obj, Dkey, Akey}
use Rattle.base_types.specs.Hash.{fnv1a}
use Rattle.base_types.specs.Keys.{same_key}

-- the number that stands for a class
abbrev pub class_number : Class → ℕ
class_number S1 = 1
class_number S2 = 2
class_number S4 = 3
class_number SX = 4
class_number RP2G1 = 5
class_number RP2GX = 6
class_number RP3G1 = 7
class_number RP3GX = 8

-- objects of one container are the same where class, number and record size are
abbrev pub same_object : ObjId → ObjId → Bool
same_object a b = (class_number a.class == class_number b.class) && (a.number == b.number) && (a.unit == b.unit)

-- the record size of an object that a path may name: 1 where it names none
abbrev pub unit_of : Option ObjId → ℕ
unit_of None = 1
unit_of (Some o) = o.unit

-- the record size of the arrays under a path
abbrev pub record_size : Path → ℕ
record_size p = unit_of p.obj

-- how far a path goes
abbrev pub level_of : Path → Level
level_of p = if is_some p.akey then Akey else if is_some p.dkey then Dkey else if is_some p.obj then Obj else Cont

-- the same container, object, dkey and akey, as far as both paths go
unfoldable pub same_path : Path → Path → Bool
same_path p q =
    (p.cont.0 == q.cont.0) && option_eq same_object p.obj q.obj && option_eq same_key p.dkey q.dkey && option_eq same_key p.akey q.akey

-- p is a prefix of q: q is p, or goes on from it
unfoldable pub leads_to : Path → Path → Bool
leads_to p q =
    (p.cont.0 == q.cont.0) && (is_none p.obj || option_eq same_object p.obj q.obj)
    && (is_none p.dkey || option_eq same_key p.dkey q.dkey) && (is_none p.akey || option_eq same_key p.akey q.akey)

-- one is a prefix of the other
unfoldable pub overlaps : Path → Path → Bool
overlaps p q = leads_to p q || leads_to q p

-- how far a level is from the container
abbrev pub depth : Level → ℕ
depth Cont = 0
depth Obj = 1
depth Dkey = 2
depth Akey = 3

-- the level of the shorter of two paths
abbrev pub shorter_level : Path → Path → Level
shorter_level p q = if nat_le (depth (level_of p)) (depth (level_of q)) then level_of p else level_of q

-- a path as far as a level
abbrev pub cut_at : Level → Path → Path
cut_at Cont p = record { cont = p.cont; obj = None; dkey = None; akey = None }
cut_at Obj p = record { cont = p.cont; obj = p.obj; dkey = None; akey = None }
cut_at Dkey p = record { cont = p.cont; obj = p.obj; dkey = p.dkey; akey = None }
cut_at Akey p = p

-- the sixteen bytes of a container's identity, the highest first
unfoldable pub cont_bytes : ContId → List ℕ
cont_bytes c = to_be_bytes w128 c.0

-- the eight bytes of an object's number, the highest first
unfoldable pub number_bytes : ℕ → List ℕ
number_bytes n = to_be_bytes w64 n

-- the class number, the record size and the object number, if there is an object
abbrev pub object_bytes : Option ObjId → List ℕ
object_bytes None = []
object_bytes (Some o) = class_number o.class ∷ o.unit ∷ number_bytes o.number

abbrev pub dkey_bytes : Option (List ℕ) → List ℕ
dkey_bytes None = []
dkey_bytes (Some k) = k

-- a zero byte sets the akey off from the dkey
abbrev pub akey_bytes : Option (List ℕ) → List ℕ
akey_bytes None = []
akey_bytes (Some k) = 0 ∷ k

-- the bytes of a path: the container's identity, the object, the dkey and the akey, as far as the path goes
abbrev pub path_bytes : Path → List ℕ
path_bytes p = cont_bytes p.cont ++ object_bytes p.obj ++ dkey_bytes p.dkey ++ akey_bytes p.akey

-- which of the 4,096 slots that all paths share
unfoldable pub slot : Path → ℕ
slot p = fnv1a (path_bytes p) % 4096

-- paths that overlap, or that share a slot once each is cut to the level of the shorter one
unfoldable pub near : Path → Path → Bool
near p q = overlaps p q || (slot (cut_at (shorter_level p q) p) == slot (cut_at (shorter_level p q) q))
