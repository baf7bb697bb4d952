-- What a rack in memory shows.
use Rattle.std.specs.Prelude.{◌≡◌, ℕ, Bool, List, [], Option, slice_get, length, unwrap_or}
use Rattle.base_outside.specs.Images.{Image, image_of}
use Rattle.base_outside.specs.Racks.{at_home, is_away}

-- each target's region where it is at home, and how often the rack was asked for one that isn't
pub record RackState : Type 0 where
  pub regions : List (Option (List ℕ))
  pub faults : ℕ

-- the region of a target, where there is such a target and its region is at home
abbrev pub region_at_home : RackState → ℕ → Option (List ℕ)
region_at_home rack t = at_home rack.regions t

-- its bytes, its image, its size, and whether it is handed out
abbrev pub bytes_at_home : RackState → ℕ → List ℕ
bytes_at_home rack t = unwrap_or (region_at_home rack t) []

abbrev pub image_at_home : RackState → ℕ → Image
image_at_home rack t = image_of (bytes_at_home rack t)

abbrev pub size_at_home : RackState → ℕ → ℕ
size_at_home rack t = length (bytes_at_home rack t)

abbrev pub is_out_of_home : RackState → ℕ → Bool
is_out_of_home rack t = is_away (slice_get rack.regions t)
