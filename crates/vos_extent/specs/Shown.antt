-- What an array holds, index by index: the record of the greatest extent below an epoch that covers it.
use Rattle.std.specs.Prelude.{◌≡◌, ◌&&◌, ◌+◌, ◌-◌, ◌*◌, ◌/◌, ◌<◌, ◌≤◌, ◌^◌, ℕ, zero, suc, Bool, true, false, nat_le, nat_lt, not, List, [], ◌∷◌, ◌++◌, length, take, drop, Option, Some, None, if◌then◌else◌}
use Rattle.base_types.specs.declared.answer.Piece.{Piece}
use Rattle.base_types.specs.declared.epoch.Epoch.{Epoch}
use Rattle.byteorder.specs.Endian.{big_bytes}
use Rattle.daos_model.specs.Pieces.{pieces_of}
use Rattle.pmem_pages.specs.Shape.{Shape, entries}
use Rattle.pmem_pages.specs.declared.node.TreeKey.{TreeKey}
use Rattle.vos_values.specs.declared.keys.Moment.{Moment}
use Rattle.vos_values.specs.Keys.{name_key}
use Rattle.vos_moments.specs.vos_levels.Moments.{is_earlier}
use Rattle.vos_extent.specs.declared.extent.ExtentVersion.{ExtentVersion}

abbrev pub moment_of : ExtentVersion → Moment
moment_of v = record { epoch = v.epoch; minor = v.minor }

-- an extent covers the indexes of its records, which have so many bytes each
abbrev pub covers : ℕ → ℕ → ExtentVersion → Bool
covers unit i v = nat_le v.low i && nat_lt i (v.low + length v.bytes / unit)

-- the record at an index that it covers
abbrev pub record_in : ℕ → ℕ → ExtentVersion → List ℕ
record_in unit i v = take unit (drop ((i - v.low) * unit) v.bytes)

-- an extent before a moment that covers an index
abbrev pub is_seen : ℕ → Moment → ℕ → ExtentVersion → Bool
is_seen unit start i v = covers unit i v && is_earlier (moment_of v) start

-- a punch is later than a moment
abbrev pub hides : Option Moment → Moment → Bool
hides None m = false
hides (Some p) m = is_earlier m p

abbrev pub is_hidden : Option Moment → ExtentVersion → Bool
is_hidden punched v = hides punched (moment_of v)

-- an extent that is seen, and that the punch doesn't hide
abbrev pub shows : ℕ → Moment → Option Moment → ℕ → ExtentVersion → Bool
shows unit start punched i v = is_seen unit start i v && not (is_hidden punched v)

-- the later of two, the second where they are of one moment
abbrev pub later_of : Option ExtentVersion → Option ExtentVersion → Option ExtentVersion
later_of None y = y
later_of (Some a) None = Some a
later_of (Some a) (Some b) = if is_earlier (moment_of b) (moment_of a) then Some a else Some b

abbrev pub if_passes : (ExtentVersion → Bool) → ExtentVersion → Option ExtentVersion
if_passes test v = if test v then Some v else None

-- the greatest of an extent, if there is one, and those of a list that pass a test
abbrev pub greatest_with : Option ExtentVersion → (ExtentVersion → Bool) → List ExtentVersion → Option ExtentVersion
greatest_with best test [] = best
greatest_with best test (v ∷ vs) = greatest_with (later_of best (if_passes test v)) test vs

-- the greatest of those that pass a test
abbrev pub greatest : (ExtentVersion → Bool) → List ExtentVersion → Option ExtentVersion
greatest test vs = greatest_with None test vs

-- the record of an extent at an index, unless the punch is later
abbrev pub shown_of : ℕ → Option Moment → ℕ → Option ExtentVersion → Option (List ℕ)
shown_of unit punched i None = None
shown_of unit punched i (Some v) = if is_hidden punched v then None else Some (record_in unit i v)

-- what an index holds
abbrev pub record_at : ℕ → Moment → Option Moment → ℕ → List ExtentVersion → Option (List ℕ)
record_at unit start punched i vs = shown_of unit punched i (greatest (is_seen unit start i) vs)

-- what so many indexes hold, from one on
abbrev pub records_from : ℕ → Moment → Option Moment → ℕ → ℕ → List ExtentVersion → List (Option (List ℕ))
records_from unit start punched i zero vs = []
records_from unit start punched i (suc n) vs = record_at unit start punched i vs ∷ records_from unit start punched (i + 1) n vs

-- the pieces of so many indexes, from one on: neighbours of one kind are one piece
abbrev pub pieces_at : ℕ → Moment → Option Moment → ℕ → ℕ → List ExtentVersion → List Piece
pieces_at unit start punched i n vs = pieces_of unit (records_from unit start punched i n vs)

-- the first moment of an epoch: what lies before it lies below the epoch
abbrev pub start_of : Epoch → Moment
start_of e = record { epoch = e; minor = 0 }

-- ---- the walk

-- the key of an index alone: those of the extents from it on lie above it
unfoldable pub start_key : ℕ → TreeKey
start_key low = name_key (big_bytes 4 low)

-- an extent that may reach into indexes: it begins no more than 1,023 before the first, and not behind the last
abbrev pub is_near : ℕ → ℕ → ExtentVersion → Bool
is_near low high v = nat_le low (v.low + 1023) && nat_lt v.low high

-- how many may
abbrev pub near : ℕ → ℕ → List ExtentVersion → ℕ
near low high [] = 0
near low high (v ∷ vs) = (if is_near low high v then 1 else 0) + near low high vs

-- for each extent that may reach into the indexes, and once more, a look-up in the tree and at most five blocks of a chain
abbrev pub StepsNear : ℕ → ℕ → Shape → List ExtentVersion → ℕ → ℕ → Type 0
StepsNear low high t vs before now = (d : ℕ) → length (entries t) < 2 ^ d → now ≤ before + (near low high vs + 1) * (2 * d + 5)

-- ---- what the greatest is

-- it stands in a list and passes a test
pub record Among (test : ExtentVersion → Bool) (vs : List ExtentVersion) (v : ExtentVersion) : Type 0 where
  pub left : List ExtentVersion
  pub right : List ExtentVersion
  pub is : vs ≡ left ++ v ∷ right
  pub passes : test v ≡ true

-- it passes, and none that passes is later
pub record IsGreatest (test : ExtentVersion → Bool) (vs : List ExtentVersion) (v : ExtentVersion) : Type 0 where
  pub among : Among test vs v
  pub top : (x : ExtentVersion) → Among test vs x → is_earlier (moment_of v) (moment_of x) ≡ false
