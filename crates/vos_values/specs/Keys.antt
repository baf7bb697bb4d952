-- Keys of the trees: versions by epoch and number, extents by index besides, objects, attempts and names.
use Rattle.std.specs.Prelude.{◌≡◌, ◌<◌, ◌^◌, ◌==◌, ◌&&◌, ℕ, Bool, true, false, nat_le, nat_lt, ◌+◌, ◌||◌, List, [], ◌∷◌, drop, Option, Some, None, is_none, if◌then◌else◌}
use Rattle.byteorder.specs.Endian.{big_number}
use Rattle.base_types.specs.Keys.{key_fault, IsKey}
use Rattle.base_types.specs.Paths.{class_number}
use Rattle.base_types.specs.declared.id.AttemptId.{AttemptId}
use Rattle.base_types.specs.declared.id.Class.{Class}
use Rattle.base_types.specs.declared.id.Class.TheVariants.{S1, S2, S4, SX, RP2G1, RP2GX, RP3G1, RP3GX}
use Rattle.pmem_pages.specs.declared.node.TreeKey.{TreeKey}
use Rattle.pmem_pages.specs.Node.{key_text}
use Rattle.vos_values.specs.declared.keys.Moment.{Moment}
use Rattle.vos_values.specs.declared.keys.ExtentKey.{ExtentKey}
use Rattle.vos_values.specs.declared.keys.ObjectKey.{ObjectKey}
use Rattle.vos_values.specs.declared.keys.Layout.{Layout}
use Rattle.vos_values.specs.declared.keys.Layout.TheVariants.{One, Two}
use Rattle.vos_values.specs.Fields.{Fields, packed, numbers_of, key_of}

-- ---- the key of a log entry or a single version: epoch and number

abbrev pub moment_fields : Moment → Fields
moment_fields m = (8, m.epoch.0) ∷ (1, m.minor) ∷ []

abbrev pub moment_order : Moment → List ℕ
moment_order x = numbers_of (moment_fields x)

unfoldable pub moment_key : Moment → TreeKey
moment_key m = key_of (packed (moment_fields m))

-- numbers in a transaction are below 64
pub record IsMoment (m : Moment) : Type 0 where
  pub epoch : m.epoch.0 < 2 ^ 64
  pub minor : m.minor < 64

unfoldable pub moment_in : TreeKey → Option Moment
moment_in k =
    if (k.len == 9) && nat_lt (big_number 1 (drop 8 k.bytes)) 64 then Some (record { epoch = record { 0 = big_number 8 k.bytes }; minor = big_number 1 (drop 8 k.bytes) }) else None

-- ---- the key of an extent: the index of its first record, epoch and number

abbrev pub extent_fields : ExtentKey → Fields
extent_fields e = (4, e.low) ∷ (8, e.epoch.0) ∷ (1, e.minor) ∷ []

abbrev pub extent_order : ExtentKey → List ℕ
extent_order x = numbers_of (extent_fields x)

unfoldable pub extent_key : ExtentKey → TreeKey
extent_key e = key_of (packed (extent_fields e))

pub record IsExtentKey (e : ExtentKey) : Type 0 where
  pub low : e.low < 2 ^ 32
  pub epoch : e.epoch.0 < 2 ^ 64
  pub minor : e.minor < 64

unfoldable pub extent_in : TreeKey → Option ExtentKey
extent_in k =
    if (k.len == 13) && nat_lt (big_number 1 (drop 12 k.bytes)) 64
    then Some (record { low = big_number 4 k.bytes; epoch = record { 0 = big_number 8 (drop 4 k.bytes) }; minor = big_number 1 (drop 12 k.bytes) })
    else None

-- ---- the key of an object: container, class, number, and its record size unless that is 1

abbrev pub size_fields : ℕ → Fields
size_fields unit = if unit == 1 then [] else (1, unit) ∷ []

abbrev pub object_fields : ObjectKey → Fields
object_fields o = (16, o.cont.0) ∷ (1, class_number o.obj.class) ∷ (8, o.obj.number) ∷ size_fields o.obj.unit

abbrev pub object_order : ObjectKey → List ℕ
object_order x = numbers_of (object_fields x)

unfoldable pub object_key : ObjectKey → TreeKey
object_key o = key_of (packed (object_fields o))

abbrev pub has_sizes : Layout → Bool
has_sizes One = false
has_sizes Two = true

-- record sizes are from 1 to 64; the first layout has those of 1 alone
abbrev pub is_size : Layout → ℕ → Bool
is_size l unit = nat_le 1 unit && nat_le unit 64 && (has_sizes l || unit == 1)

pub record IsObjectKey (l : Layout) (o : ObjectKey) : Type 0 where
  pub cont : o.cont.0 < 2 ^ 128
  pub number : o.obj.number < 2 ^ 64
  pub size : is_size l o.obj.unit ≡ true

-- the class of a number, from 1 to 8
abbrev pub class_of : ℕ → Option Class
class_of n =
    if n == 1 then Some S1 else if n == 2 then Some S2 else if n == 3 then Some S4 else if n == 4 then Some SX else if n == 5 then Some RP2G1 else if n == 6 then Some RP2GX else if n == 7 then Some RP3G1 else if n == 8 then Some RP3GX else None

-- an object, where its class is one
abbrev pub object_of_class : ℕ → ℕ → ℕ → Option Class → Option ObjectKey
object_of_class cont number unit None = None
object_of_class cont number unit (Some class) = Some (record { cont = record { 0 = cont }; obj = record { class = class; number = number; unit = unit } })

abbrev pub sized_object : TreeKey → ℕ → Option ObjectKey
sized_object k unit = object_of_class (big_number 16 k.bytes) (big_number 8 (drop 17 k.bytes)) unit (class_of (big_number 1 (drop 16 k.bytes)))

-- a size that a key has to say: 1 isn't said
abbrev pub is_said_size : ℕ → Bool
is_said_size unit = nat_le 2 unit && nat_le unit 64

unfoldable pub object_in : Layout → TreeKey → Option ObjectKey
object_in l k =
    if k.len == 25 then sized_object k 1
    else if has_sizes l && (k.len == 26) && is_said_size (big_number 1 (drop 25 k.bytes)) then sized_object k (big_number 1 (drop 25 k.bytes))
    else None

-- ---- the key of an entry: its attempt

abbrev pub attempt_fields : AttemptId → Fields
attempt_fields a = (2, a.client) ∷ (4, a.command) ∷ (1, a.attempt) ∷ []

abbrev pub attempt_order : AttemptId → List ℕ
attempt_order x = numbers_of (attempt_fields x)

unfoldable pub attempt_key : AttemptId → TreeKey
attempt_key a = key_of (packed (attempt_fields a))

pub record IsAttempt (a : AttemptId) : Type 0 where
  pub client : a.client < 2 ^ 16
  pub command : a.command < 2 ^ 32
  pub attempt : a.attempt < 2 ^ 8

-- the attempt whose bytes stand from a place on
abbrev pub attempt_at : ℕ → List ℕ → AttemptId
attempt_at at bs = record { client = big_number 2 (drop at bs); command = big_number 4 (drop (at + 2) bs); attempt = big_number 1 (drop (at + 6) bs) }

unfoldable pub attempt_in : TreeKey → Option AttemptId
attempt_in k = if k.len == 7 then Some (attempt_at 0 k.bytes) else None

-- ---- the key of a dkey or an akey: its bytes

abbrev pub IsName : List ℕ → Type 0
IsName bytes = IsKey bytes

abbrev pub name_order : List ℕ → List ℕ
name_order bytes = bytes

unfoldable pub name_key : List ℕ → TreeKey
name_key bytes = key_of bytes

unfoldable pub name_in : TreeKey → Option (List ℕ)
name_in k = if is_none (key_fault (key_text k)) then Some (key_text k) else None
