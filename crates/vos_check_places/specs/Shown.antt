-- Bytes in memory that an image has, and where a reading of it stops.
use Rattle.std.specs.Prelude.{◌≡◌, ◌≤◌, ◌<◌, ◌+◌, ℕ, List, Result, Err, slice_index}
use Rattle.base_outside.specs.Images.{Image, bytes_at}
use Rattle.vos_image.specs.Content.{number}
use Rattle.vos_check_places.specs.declared.conts.ContFields.{ContFields}
use Rattle.vos_check_places.specs.declared.fault.Fault.{Fault}
use Rattle.vos_check_places.specs.declared.fault.Fault.TheVariants.{Foreign, Memory}
use Rattle.vos_check_places.specs.declared.header.Header.{Header}
use Rattle.vos_check_places.specs.declared.snaps.SnapFields.{SnapFields}

-- an image has these bytes from one place up to another, by their places
abbrev pub IsShown : Image → List ℕ → ℕ → ℕ → Type 0
IsShown f bs from to = (i : ℕ) → from ≤ i → i < to → f i ≡ slice_index bs i

-- an image has these bytes at its fixed places but for the gate byte, and these as its map of blocks
pub record Shows (f : Image) (fixed map : List ℕ) : Type 0 where
  pub low : IsShown f fixed 0 32768
  pub high : IsShown f fixed 32769 36864
  pub blocks : bytes_at f 307200 16384 ≡ map

-- a reading stops at a place, where the image has this byte
pub record IsForeign {A : Type 0} (read : Result (A × List ℕ) ℕ) (f : Image) (at byte : ℕ) : Type 0 where
  pub stops : read ≡ Err at
  pub shown : byte ≡ f at

-- want of memory says nothing
abbrev pub StopsAt : {A : Type 0} → Result (A × List ℕ) ℕ → Image → Fault → Type 0
StopsAt read f (Foreign at byte) = IsForeign read f at byte
StopsAt read f Memory = Unit {0}

-- ---- fields as they stand

pub record AreHeaderFields (f : Image) (h : Header) : Type 0 where
  pub layout : number f 8 4 ≡ h.layout
  pub target : f 12 ≡ h.target
  pub targets : f 13 ≡ h.targets
  pub incarnation : number f 24 8 ≡ h.incarnation
  pub lease : number f 32 8 ≡ h.lease
  pub objects : number f 40 4 ≡ h.objects
  pub entries : number f 44 4 ≡ h.entries

pub record AreContFields (f : Image) (p : ℕ) (x : ContFields) : Type 0 where
  pub used : f p ≡ x.used
  pub why : f (p + 1) ≡ x.why
  pub floor : number f (p + 8) 8 ≡ x.floor
  pub reason : number f (p + 16) 8 ≡ x.reason
  pub aggregated : number f (p + 24) 8 ≡ x.aggregated
  pub ordinal : number f (p + 32) 8 ≡ x.number
  pub uuid : number f (p + 48) 16 ≡ x.uuid

pub record AreSnapFields (f : Image) (p : ℕ) (x : SnapFields) : Type 0 where
  pub used : f p ≡ x.used
  pub epoch : number f (p + 8) 8 ≡ x.epoch
  pub uuid : number f (p + 16) 16 ≡ x.uuid
