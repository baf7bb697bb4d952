-- A disk in memory: its writes, from the first on, and what a crash may leave of them.
use Rattle.std.specs.Prelude.{◌≡◌, ◌⊎◌, ℕ, zero, suc, ◌+◌, ◌%◌, ◌≤◌, Bool, true, false, cond, ◌==◌, List, [], ◌∷◌, length, map}
use Rattle.base_outside.specs.Images.{Image, Range, all_over, image_of, Torn}
use Rattle.daos_regions.specs.declared.piece.Piece.{Piece}
use Rattle.daos_regions.specs.declared.piece.Stretch.{Stretch}
use Rattle.daos_regions.specs.declared.keep.Keep.{Keep}
use Rattle.daos_regions.specs.declared.keep.Keep.TheVariants.{All, None, Second}

-- the writes between two flushes or openings, and which of them its end keeps
pub record Period : Type 0 where
  pub writes : List Range
  pub keep : Keep

-- a disk of so many bytes, all zero at first: the periods that ended, and the writes since
pub record DiskState : Type 0 where
  pub size : ℕ
  pub past : List Period
  pub unflushed : List Range

abbrev pub range_of : Piece → Range
range_of piece = record { place = piece.place; bytes = piece.bytes.items }

abbrev pub ranges_of : List Piece → List Range
ranges_of pieces = map range_of pieces

abbrev pub period_of : Stretch → Period
period_of stretch = record { writes = ranges_of stretch.writes.items; keep = stretch.keep }

abbrev pub periods_of : List Stretch → List Period
periods_of stretches = map period_of stretches

-- whether the write of this number is kept, counted from 0
abbrev pub is_kept : Keep → ℕ → Bool
is_kept All i = true
is_kept None i = false
is_kept Second i = i % 2 == 1

-- those of some writes that are kept, the first of them having this number
abbrev pub kept_from : Keep → ℕ → List Range → List Range
kept_from keep i [] = []
kept_from keep i (r ∷ rs) = cond (is_kept keep i) (r ∷ kept_from keep (i + 1) rs) (kept_from keep (i + 1) rs)

-- what a period makes of an image
abbrev pub ended : Period → Image → Image
ended period f = all_over (kept_from period.keep 0 period.writes) f

abbrev pub all_ended : List Period → Image → Image
all_ended [] f = f
all_ended (period ∷ periods) f = all_ended periods (ended period f)

-- all zero
abbrev pub zeros : Image
zeros i = 0

-- what was kept so far, and what is read now
abbrev pub kept : DiskState → Image
kept disk = all_ended disk.past zeros

abbrev pub read_now : DiskState → Image
read_now disk = all_over disk.unflushed (kept disk)

-- a crash now leaves any bytes where there were writes since the last flush, and else what was kept
abbrev pub MayLeave : DiskState → Image → Type 0
MayLeave disk c = Torn disk.unflushed (kept disk) c

-- a crash in one of these periods, from the t-th on, may have left it
abbrev pub MayHaveLeft : ℕ → List Period → Image → Image → Type 0
MayHaveLeft t [] f c = ⊥
MayHaveLeft zero (period ∷ periods) f c = Torn period.writes f c ⊎ MayHaveLeft zero periods (ended period f) c
MayHaveLeft (suc t) (period ∷ periods) f c = MayHaveLeft t periods (ended period f) c

-- a crash at some moment from that one on may have left it
abbrev pub LeftSince : DiskState → ℕ → Image → Type 0
LeftSince disk t c = MayHaveLeft t disk.past zeros c ⊎ MayLeave disk c

-- each of some ranges lies in so many bytes
abbrev pub AllFit : ℕ → List Range → Type 0
AllFit size [] = Unit {0}
AllFit size (r ∷ rs) = (r.place + length r.bytes ≤ size) × AllFit size rs

-- what holds of the bytes that are kept and those that are read
pub record HoldsDisk (bytes base : List ℕ) (past : List Period) (unflushed : List Range) : Type 0 where
  pub now : image_of bytes ≡ all_over unflushed (all_ended past zeros)
  pub lasting : image_of base ≡ all_ended past zeros
  pub long : length base ≡ length bytes
  pub fits : AllFit (length bytes) unflushed

-- nothing that a crash may have left is forgotten
pub record Remembers (before now : ℕ) (past since : ℕ → Image → Type 0) : Type 0 where
  pub later : before ≤ now
  pub keeps : (t : ℕ) (c : Image) → t ≤ before → past t c → since t c
