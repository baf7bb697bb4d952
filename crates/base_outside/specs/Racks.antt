-- What a rack tells of the regions that it keeps, and regions that are at home or handed out.
use Rattle.std.specs.Prelude.{◌≡◌, ◌≢◌, ℕ, zero, suc, ◌≤◌, Bool, true, false, List, [], ◌∷◌, Option, Some, None, slice_get, slice_set, unwrap_or, refl}
use Rattle.std.specs.Option.{option_flatten}
use Rattle.std.proofs.Common.{ap}
use Rattle.base_outside.specs.Images.{Image, NoMore}

-- of a region that isn't handed out a rack tells what it told before
pub record IsKept (image image' : Image) (leaves leaves' : Image → Type 0) (faults faults' size size' : ℕ) (out out' : Bool) : Type 0 where
  pub same_image : image' ≡ image
  pub crash : NoMore leaves leaves'
  pub same_faults : faults' ≡ faults
  pub same_size : size' ≡ size
  pub stays : out' ≡ out

-- of all regions but that of target t it does
abbrev pub OthersAreKept : ℕ → (ℕ → Image) → (ℕ → Image) → (ℕ → Image → Type 0) → (ℕ → Image → Type 0) → (ℕ → ℕ) → (ℕ → ℕ) → (ℕ → ℕ) → (ℕ → ℕ) → (ℕ → Bool) → (ℕ → Bool) → Type 0
OthersAreKept t image image' leaves leaves' faults faults' size size' out out' =
    (u : ℕ) → u ≢ t → IsKept (image u) (image' u) (leaves u) (leaves' u) (faults u) (faults' u) (size u) (size' u) (out u) (out' u)

-- of all regions it does
abbrev pub AllAreKept : (ℕ → Image) → (ℕ → Image) → (ℕ → Image → Type 0) → (ℕ → Image → Type 0) → (ℕ → ℕ) → (ℕ → ℕ) → (ℕ → ℕ) → (ℕ → ℕ) → (ℕ → Bool) → (ℕ → Bool) → Type 0
AllAreKept image image' leaves leaves' faults faults' size size' out out' =
    (u : ℕ) → IsKept (image u) (image' u) (leaves u) (leaves' u) (faults u) (faults' u) (size u) (size' u) (out u) (out' u)

-- A region wasn't handed out: what it will read stays, and it may have failed more often.
pub record IsHeldBack (image image' : Image) (leaves leaves' : Image → Type 0) (faults faults' size size' : ℕ) (out out' : Bool) : Type 0 where
  pub same_image : image' ≡ image
  pub crash : NoMore leaves leaves'
  pub later : faults ≤ faults'
  pub same_size : size' ≡ size
  pub stays : out' ≡ out

-- A region was taken back: it will read one of the images that a crash may leave of it.
pub record IsTakenBack (may_leave : Image → Type 0) (faults extent : ℕ) (image : Image) (leaves : Image → Type 0) (faults' size : ℕ) (out : Bool) : Type 0 where
  pub reads : may_leave image
  pub crash : NoMore may_leave leaves
  pub same_faults : faults' ≡ faults
  pub same_size : size ≡ extent
  pub home : out ≡ false

-- of each target it may hand out no clock that it might not have handed out before
abbrev pub ClocksAreKept : {C : Type 0} → (ℕ → C → Type 0) → (ℕ → C → Type 0) → Type 0
ClocksAreKept {C} gives gives' = (u : ℕ) (c : C) → gives' u c → gives u c

-- of each target but t
abbrev pub OtherClocksAreKept : {C : Type 0} → ℕ → (ℕ → C → Type 0) → (ℕ → C → Type 0) → Type 0
OtherClocksAreKept {C} t gives gives' = (u : ℕ) (c : C) → u ≢ t → gives' u c → gives u c

-- the region of a target, where there is such a target and its region is at home
abbrev pub at_home : {X : Type 0} → List (Option X) → ℕ → Option X
at_home regions t = option_flatten (slice_get regions t)

-- there is such a target, and its region is handed out
abbrev pub is_away : {X : Type 0} → Option (Option X) → Bool
is_away None = false
is_away (Some None) = true
is_away (Some (Some x)) = false

pub set_other : {X : Type 0} (xs : List X) (t u : ℕ) (y : X) → u ≢ t → slice_get (slice_set xs t y) u ≡ slice_get xs u
set_other [] t u y ne = refl
set_other (x ∷ xs) zero zero y ne = absurd (ne refl)
set_other (x ∷ xs) zero (suc u) y ne = refl
set_other (x ∷ xs) (suc t) zero y ne = refl
set_other (x ∷ xs) (suc t) (suc u) y ne = set_other xs t u y (λ e. ne (ap suc e))

-- a region put where one is away is at home
pub put_home : {X : Type 0} (xs : List (Option X)) (t : ℕ) (y : X) → is_away (slice_get xs t) ≡ true → slice_get (slice_set xs t (Some y)) t ≡ Some (Some y)
put_home [] t y away = absurd (cc)
put_home (x ∷ xs) zero y away = refl
put_home (x ∷ xs) (suc t) y away = put_home xs t y away

-- a region taken out of those at home is away
pub take_away : {X : Type 0} (xs : List (Option X)) (t : ℕ) (y : X) → at_home xs t ≡ Some y → slice_get (slice_set xs t None) t ≡ Some None
take_away [] t y home = absurd (cc)
take_away (x ∷ xs) zero y home = refl
take_away (x ∷ xs) (suc t) y home = take_away xs t y home
