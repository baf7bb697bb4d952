-- The bytes of a region by their places, what its calls do to them, and what a crash may leave.
use Rattle.std.specs.Prelude.{◌≡◌, ◌⊎◌, ℕ, zero, suc, ◌+◌, ◌-◌, ◌≤◌, Bool, true, false, cond, ◌&&◌, nat_le, nat_lt, IsTrue, List, [], ◌∷◌, length, slice_index, Result, OnOk, OnErr}

-- the byte at each place; places past the end count as zero
abbrev pub Image : Type 0
Image = ℕ → ℕ

-- bytes and the place of the first of them
pub record Range : Type 0 where
  pub place : ℕ
  pub bytes : List ℕ

-- a place lies in a range
abbrev pub lies_in : ℕ → Range → Bool
lies_in i r = nat_le r.place i && nat_lt i (r.place + length r.bytes)

-- a place lies in one of some ranges
abbrev pub lies_in_some : ℕ → List Range → Bool
lies_in_some i [] = false
lies_in_some i (r ∷ rs) = cond (lies_in i r) true (lies_in_some i rs)

-- an image with a range written over it
unfoldable pub over : Range → Image → Image
over r f i = cond (lies_in i r) (slice_index r.bytes (i - r.place)) (f i)

-- an image with ranges written over it, the first of them first
abbrev pub all_over : List Range → Image → Image
all_over [] f = f
all_over (r ∷ rs) f = all_over rs (over r f)

-- n bytes of an image from a place on
unfoldable pub bytes_at : Image → ℕ → ℕ → List ℕ
bytes_at f at zero = []
bytes_at f at (suc n) = f at ∷ bytes_at f (at + 1) n

-- the image of listed bytes
unfoldable pub image_of : List ℕ → Image
image_of bytes i = slice_index bytes i

-- what may be left of an image while ranges are being written: any bytes in them, and the others as
-- they were
abbrev pub Torn : List Range → Image → Image → Type 0
Torn rs f c = (i : ℕ) → lies_in_some i rs ≡ false → c i ≡ f i

-- a crash may leave this image and no other
abbrev pub Only : Image → (Image → Type 0) → Type 0
Only f may_leave = (c : Image) → may_leave c → (i : ℕ) → c i ≡ f i

-- a crash may leave no more than before
abbrev pub NoMore : (Image → Type 0) → (Image → Type 0) → Type 0
NoMore old new = (c : Image) → new c → old c

-- whatever a crash may leave now, one could leave before but for the bytes of these ranges
abbrev pub Tears : List Range → (Image → Type 0) → (Image → Type 0) → Type 0
Tears rs old new = (c : Image) → new c → (d : Image) × (old d × Torn rs d c)

-- Time goes on. What a crash since some moment may have left, it may have left since that moment
-- before, or may leave now.
pub record Elapses (before now : ℕ) (past since : ℕ → Image → Type 0) (may_leave : Image → Type 0) : Type 0 where
  pub later : before ≤ now
  pub nothing_else : (t : ℕ) (c : Image) → t ≤ before → since t c → past t c ⊎ may_leave c

-- A crash at any moment of a call leaves an image that has P. The moments before the call add what
-- they did before.
pub record LeavesOnly (before now : ℕ) (past since : ℕ → Image → Type 0) (P : Image → Type 0) : Type 0 where
  pub later : before ≤ now
  pub each : (t : ℕ) (c : Image) → t ≤ before → since t c → past t c ⊎ P c

-- What is read stays, and what a crash may leave or may have left since some moment; no time goes on.
pub record Stays (image image' : Image) (leaves leaves' : Image → Type 0) (moment moment' : ℕ) (past past' : ℕ → Image → Type 0) : Type 0 where
  pub same_image : image' ≡ image
  pub no_more : NoMore leaves leaves'
  pub no_less : NoMore leaves' leaves
  pub same_moment : moment' ≡ moment
  pub past_no_more : (t : ℕ) → NoMore (past t) (past' t)
  pub past_no_less : (t : ℕ) → NoMore (past' t) (past t)

-- an error leaves it broken, and no call succeeds while it is broken
pub record StaysBroken {T E : Type 0} (was is : Bool) (result : Result T E) : Type 0 where
  pub failed : OnErr result (is ≡ true)
  pub worked : OnOk result ((was ≡ false) × (is ≡ false))

-- an error leaves it broken, and success leaves it whole
pub record Mends {T E : Type 0} (is : Bool) (result : Result T E) : Type 0 where
  pub failed : OnErr result (is ≡ true)
  pub worked : OnOk result (is ≡ false)

-- a call that went well
pub data Call : Type 0 where
  Read : Call
  Write : Range → Call
  Flush : Call

-- these calls went well, one after another and with none between them
abbrev pub Runs : {S : Type 0} → (S → Call → S → Type 0) → List Call → S → S → Type 0
Runs did [] old new = old ≡ new
Runs {S = S} did (call ∷ calls) old new = (next : S) × (did old call next × Runs did calls next new)

-- All that a region tells of itself is as it was: its size, its counts, and, where it tells its bytes, what is
-- read, what a crash leaves, whether it is broken, and what its calls make of it.
pub record SameButFuse {R : Type 0} (extent count burns : R → ℕ) (tells : Bool) (image : R → Image) (may_leave : R → Image → Type 0) (moment : R → ℕ) (left_since : R → ℕ → Image → Type 0) (broken : R → Bool) (did : R → Call → R → Type 0) (old new : R) : Type 0 where
  pub extent_as : extent new ≡ extent old
  pub count_as : count new ≡ count old
  pub burns_as : burns new ≡ burns old
  pub stays : IsTrue tells → Stays (image old) (image new) (may_leave old) (may_leave new) (moment old) (moment new) (left_since old) (left_since new)
  pub broken_as : IsTrue tells → broken new ≡ broken old
  pub calls : (call : Call) (next : R) → did new call next → did old call next
