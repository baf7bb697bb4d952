-- Numbers that stand behind one another in bytes, each in a width of its own.
use Rattle.std.specs.Prelude.{◌≡◌, ◌<◌, ◌≤◌, ◌^◌, ◌-◌, ◌+◌, ℕ, List, [], ◌∷◌, ◌++◌, length, drop, map, replicate, slice_index, Option, Some}
use Rattle.std.specs.Ordering.{nat_cmp}
use Rattle.std.specs.Cmp.Lexicographic.{slice_cmp}
use Rattle.byteorder.specs.Endian.{big_bytes, big_number}
use Rattle.pmem_pages.specs.declared.node.TreeKey.{TreeKey}
use Rattle.pmem_pages.specs.declared.node.Value.{Value}
use Rattle.pmem_pages.specs.Node.{key_cmp, IsKey, IsValue}

-- a field is a width and a number; numbers stand with the highest byte first
abbrev pub Fields : Type 0
Fields = List (ℕ × ℕ)

-- the bytes of fields
abbrev pub packed : Fields → List ℕ
packed [] = []
packed (f ∷ fs) = big_bytes f.0 f.1 ++ packed fs

abbrev pub number_of : ℕ × ℕ → ℕ
number_of f = f.1

abbrev pub numbers_of : Fields → List ℕ
numbers_of fs = map number_of fs

abbrev pub width_of : ℕ × ℕ → ℕ
width_of f = f.0

abbrev pub widths_of : Fields → List ℕ
widths_of fs = map width_of fs

-- how many bytes fields of these widths take
abbrev pub total : List ℕ → ℕ
total [] = 0
total (w ∷ ws) = w + total ws

-- the fields of these widths that stand in bytes from a place on
abbrev pub fields_at : ℕ → List ℕ → List ℕ → Fields
fields_at at [] bs = []
fields_at at (w ∷ ws) bs = (w, big_number w (drop at bs)) ∷ fields_at (at + w) ws bs

-- no field takes more than sixteen bytes
abbrev pub AreNarrow : Fields → Type 0
AreNarrow [] = Unit {0}
AreNarrow (f ∷ fs) = (f.0 ≤ 16) × AreNarrow fs

-- each number fits its width, which isn't zero
abbrev pub AllFit : Fields → Type 0
AllFit [] = Unit {0}
AllFit (f ∷ fs) = (0 < f.0) × (f.1 < 256 ^ f.0) × AllFit fs

-- field by field the widths are the same, as far as both go
abbrev pub AreAlike : Fields → Fields → Type 0
AreAlike [] gs = Unit {0}
AreAlike (f ∷ fs) [] = Unit {0}
AreAlike (f ∷ fs) (g ∷ gs) = (f.0 ≡ g.0) × AreAlike fs gs

-- numbers below 256
abbrev pub AreBytes : List ℕ → Type 0
AreBytes bs = (i : ℕ) → slice_index bs i < 256

-- bytes with zeros behind them
abbrev pub padded : ℕ → List ℕ → List ℕ
padded n bs = bs ++ replicate (n - length bs) 0

-- the key of at most 64 bytes, and the value of at most 180
unfoldable pub key_of : List ℕ → TreeKey
key_of bs = record { len = length bs; bytes = padded 64 bs }

unfoldable pub value_of : List ℕ → Value
value_of bs = record { len = length bs; bytes = padded 180 bs }

-- a key, or a value of a kind, of bytes
pub record IsByteKey (k : TreeKey) : Type 0 where
  pub key : IsKey k
  pub are_bytes : AreBytes k.bytes

pub record IsByteValue (kind : ℕ) (v : Value) : Type 0 where
  pub value : IsValue kind v
  pub are_bytes : AreBytes v.bytes

-- A reading is exact: it gives back what was written, and from nothing else does it give anything.
pub record IsExact {K A : Type 0} (Good : K → Type 0) (Fits : A → Type 0) (write : A → K) (read : K → Option A) : Type 0 where
  pub again : (a : A) → Fits a → read (write a) ≡ Some a
  pub back : (k : K) (a : A) → Good k → read k ≡ Some a → Fits a × (write a ≡ k)

-- keys lie to one another as the numbers in them do, the first that differs first
abbrev pub HasOrder : {A : Type 0} → (A → Type 0) → (A → TreeKey) → (A → List ℕ) → Type 0
HasOrder {A = A} Fits key numbers = (a b : A) → Fits a → Fits b → key_cmp (key a) (key b) ≡ slice_cmp nat_cmp (numbers a) (numbers b)
