-- What attaching makes of an image, and what a crash leaves of a commit.
use Rattle.std.specs.Prelude.{◌≡◌, ◌≢◌, ◌⊎◌, ℕ, zero, suc, cond, ◌==◌, List, [], ◌∷◌, ◌++◌, IsSome, ◌^◌, ◌<◌, ◌≤◌, length}
use Rattle.base_outside.specs.Images.{Image, Range, over, all_over, Only, NoMore, LeavesOnly, Call, Runs}
use Rattle.base_outside.specs.Images.Call.{Read, Write, Flush}
use Rattle.pmem_undo.specs.Layout.{gate, gate_byte, log_place, most_ranges, most_bytes, SameContent, AreContent, total_bytes}
use Rattle.pmem_undo.specs.Log.{log_in, log_bytes, old_ranges, logged}

-- an image with the ranges of a log written back, the last of them first
abbrev pub rolled : List Range → Image → Image
rolled [] f = f
rolled (r ∷ rs) f = over r (rolled rs f)

-- the image that attaching leaves in a region of that size: where the gate is open the old bytes are
-- written back, none where the log is not well formed, and the gate is closed
unfoldable pub settled : ℕ → Image → Image
settled size f = cond (f gate == 0) f (over (gate_byte 0) (rolled (logged (log_in size f)) f))

-- where its gate is open, the log of an image is well formed
abbrev pub IsAttachable : ℕ → Image → Type 0
IsAttachable size f = f gate ≢ 0 → IsSome (log_in size f)

-- an image may be attached, and then has the content of another
pub record StandsFor (size : ℕ) (f c : Image) : Type 0 where
  pub attachable : IsAttachable size c
  pub content : SameContent (settled size c) f

-- an image stands for the content before these ranges were committed, or for that after it
abbrev pub IsBeforeOrAfter : ℕ → Image → List Range → Image → Type 0
IsBeforeOrAfter size f ranges c = StandsFor size f c ⊎ StandsFor size (all_over ranges f) c

-- What a commit is given: the gate is closed, there are at most 1,024 ranges of at most 256,000 bytes
-- together, each of them content, and the body has their old bytes.
pub record IsPrepared (size : ℕ) (f : Image) (ranges : List Range) (body : List ℕ) : Type 0 where
  pub small : size < 2 ^ 32
  pub closed : f gate ≡ 0
  pub content : AreContent size ranges
  pub few : length ranges ≤ most_ranges
  pub short : total_bytes ranges ≤ most_bytes
  pub logs : body ≡ log_bytes (old_ranges f ranges)

-- the log body in its place
abbrev pub body_range : List ℕ → Range
body_range body = record { place = log_place; bytes = body }

-- the image with the log written and its gate open
abbrev pub log_opened : List ℕ → Image → Image
log_opened body f = over (gate_byte 1) (over (body_range body) f)

-- the gate is closed, and a crash leaves what is read
pub record IsAtRest (image : Image) (may_leave : Image → Type 0) : Type 0 where
  pub only : Only image may_leave
  pub closed : image gate ≡ 0

-- the calls that write ranges, and all calls of a commit after the old bytes were read
abbrev pub writes : List Range → List Call
writes [] = []
writes (r ∷ rs) = Write r ∷ writes rs

abbrev pub commit_calls : List ℕ → List Range → List Call
commit_calls body ranges =
    Write (body_range body) ∷ Flush ∷ Write (gate_byte 1) ∷ Flush ∷ (writes ranges ++ Flush ∷ Write (gate_byte 0) ∷ Flush ∷ [])

-- so many reads
abbrev pub reads : ℕ → List Call
reads zero = []
reads (suc n) = Read ∷ reads n

-- the calls that write ranges back, the last of them first
abbrev pub writes_back : List Range → List Call
writes_back [] = []
writes_back (r ∷ rs) = writes_back rs ++ Write r ∷ []

-- What a log may tell: at most 1,024 ranges of at most 256,000 bytes together, each of them content.
pub record IsLogged (size : ℕ) (ranges : List Range) : Type 0 where
  pub content : AreContent size ranges
  pub few : length ranges ≤ most_ranges
  pub short : total_bytes ranges ≤ most_bytes

-- the calls that undo a log: so many reads of it, its ranges written back, and the gate closed
abbrev pub undo_calls : ℕ → List Range → List Call
undo_calls looks ranges = reads looks ++ (writes_back ranges ++ Flush ∷ Write (gate_byte 0) ∷ Flush ∷ [])

-- the calls of whoever reads a gate: no more where it is closed, and else those that undo what a log may tell
abbrev pub IsUndoneBy : {S : Type 0} → (S → Call → S → Type 0) → ℕ → List Call → S → S → Type 0
IsUndoneBy did size before old new =
    Runs did before old new ⊎ ((looks : ℕ) × ((ranges : List Range) × (IsLogged size ranges × Runs did (before ++ undo_calls looks ranges) old new)))

-- What a run of reads leaves: the image, and no more that a crash may leave.
pub record OnlyLooks (f g : Image) (may_leave may_leave_now : Image → Type 0) (before now : ℕ) (past since : ℕ → Image → Type 0) : Type 0 where
  pub image : g ≡ f
  pub crash : NoMore may_leave may_leave_now
  pub time : LeavesOnly before now past since may_leave

-- Each image that may be left now is attached to with the content of one that could be left before, or with
-- that content and the ranges over it.
abbrev pub ComesFrom : ℕ → List Range → (Image → Type 0) → (Image → Type 0) → Type 0
ComesFrom size ranges old new = (c : Image) → new c →
    (d : Image) × (old d × (SameContent (settled size c) (settled size d) ⊎ SameContent (settled size c) (all_over ranges (settled size d))))
