-- Where a log isn't well formed.
use Rattle.std.specs.Prelude.{◌≡◌, ◌⊎◌, ◌≤◌, ℕ, zero, suc, Bool, true, cond, ◌+◌, ◌-◌, ◌*◌, ◌==◌, ◌&&◌, nat_le, List, [], ◌∷◌, length, drop, Option, Some, None, Result, Ok, Err, if◌then◌else◌}
use Rattle.base_outside.specs.Images.{Image, bytes_at}
use Rattle.std.specs.Option.{unwrap_or}
use Rattle.base_outside.specs.Causes.{Rose}
use Rattle.pmem_undo.specs.Layout.{are_content, gate, log_place, most_bytes, most_ranges}
use Rattle.pmem_undo.specs.Log.{logged_count, logged_length, number_in}
use Rattle.vos_check_base.specs.vos_image.Places.{magic, read_bytes}
use Rattle.vos_check_base.specs.declared.refusal.CheckNo.{CheckNo}
use Rattle.vos_check_base.specs.declared.refusal.CheckNo.TheVariants.{Stopped, Foreign, Memory}

-- A range that is told from a place on, in so many bytes: how long it is. Or the place of the field at fault: the second number of the log where
-- its bytes don't reach so far, the range's own place where that lies outside the content, and else its length.
unfoldable pub next_range : ℕ → ℕ → List ℕ → Result ℕ ℕ
next_range size at bytes =
    let place = number_in bytes in
    let long = number_in (drop 4 bytes) in
    if nat_le 8 (length bytes)
    then (if are_content size place 0
    then (if nat_le long (length bytes - 8) && are_content size place long then Ok long else Err (at + 4))
    else Err at)
    else Err (log_place + 4)

abbrev pub after_range : Result ℕ ℕ → (ℕ → Option ℕ) → Option ℕ
after_range (Ok long) rest = rest long
after_range (Err at) rest = Some at

-- so many ranges, which are all that the bytes tell: else the second number is at fault
unfoldable pub ranges_fault : ℕ → ℕ → ℕ → List ℕ → Option ℕ
ranges_fault size zero at [] = None
ranges_fault size zero at (b ∷ bytes) = Some (log_place + 4)
ranges_fault size (suc n) at bytes = after_range (next_range size at bytes) (λ long. ranges_fault size n (at + 8 + long) (drop long (drop 8 bytes)))

-- The place of the first field of a log that breaks a rule: how many ranges it has, how many bytes they take, and the ranges, one by one.
unfoldable pub log_fault : ℕ → Image → Option ℕ
log_fault size f =
    if nat_le (logged_count f) most_ranges
    then (if nat_le (logged_length f) (8 * logged_count f + most_bytes)
    then ranges_fault size (logged_count f) (log_place + 8) (bytes_at f (log_place + 8) (logged_length f))
    else Some (log_place + 4))
    else Some log_place

-- that of a log whose gate is open
unfoldable pub open_fault : ℕ → Image → Option ℕ
open_fault size f = cond (f gate == 0) None (log_fault size f)

abbrev pub fault_of : {A : Type 0} → Result A ℕ → Option ℕ
fault_of (Ok x) = None
fault_of (Err at) = Some at

-- the first of the first eight bytes that isn't a pool's
unfoldable pub magic_fault : Image → Option ℕ
magic_fault f = fault_of (read_bytes f 0 magic [])

abbrev pub judged_first : Option ℕ → Option ℕ → Option ℕ
judged_first None first = None
judged_first (Some at) first = Some (unwrap_or first at)

-- The byte at fault of an image whose log isn't well formed: the first eight bytes are judged first, then the log.
unfoldable pub raw_fault : ℕ → Image → Option ℕ
raw_fault size f = judged_first (open_fault size f) (magic_fault f)

-- ---- what a check answers

-- the byte at a place is shown, or a read failed
abbrev pub Shows : ℕ → Image → CheckNo → Type 0
Shows place f (Foreign at byte) = (at ≡ place) × (byte ≡ f at)
Shows place f Stopped = Unit {0}
Shows place f Memory = ⊥

-- nothing is shown
abbrev pub IsUnshown : CheckNo → Type 0
IsUnshown (Foreign at byte) = ⊥
IsUnshown Stopped = Unit {0}
IsUnshown Memory = Unit {0}

-- there is no fault, or it is shown; or no answer was found
abbrev pub TellsFault : Option ℕ → Image → Result (Unit {0}) CheckNo → Type 0
TellsFault fault f (Ok u) = fault ≡ None
TellsFault fault f (Err (Foreign at byte)) = (fault ≡ Some at) × (byte ≡ f at)
TellsFault fault f (Err Stopped) = Unit {0}
TellsFault fault f (Err Memory) = Unit {0}

-- no count falls, and an answer says that a read failed only where one of them rose
pub record IsCaused (faults_before faults_now burns_before burns_now : ℕ) (stops : Bool) : Type 0 where
  pub later_faults : faults_before ≤ faults_now
  pub later_burns : burns_before ≤ burns_now
  pub cause : stops ≡ true → Rose faults_before faults_now ⊎ Rose burns_before burns_now
