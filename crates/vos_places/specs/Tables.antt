-- The fixed places of an image one by one: what each of them holds, used or not.
use Rattle.std.specs.Prelude.{◌≡◌, ◌≢◌, ℕ, ◌+◌, Bool, false, true, List, [], ◌∷◌, ◌++◌, length, Option, Some, None, Ok}
use Rattle.std.specs.List.{list_any}
use Rattle.base_types.specs.declared.epoch.Epoch.{Epoch}
use Rattle.base_types.specs.declared.id.ContId.{ContId}
use Rattle.base_types.specs.declared.snapshot.Snap.{Snap}
use Rattle.daos_model.specs.declared.durable.ContRow.{ContRow}
use Rattle.daos_model.specs.Durables.{is_row_of, is_snap_at, new_row}
use Rattle.vos_image.specs.Content.{Content, is_taken}
use Rattle.vos_image.specs.Laws.{root_blocks}
use Rattle.vos_image.specs.Places.{Header, Places, is_new_snap, read_cont, read_header, read_map, read_snap, snap_in, zeros_at}

-- what an image says of itself, and what each of the places of containers and of snapshots holds, in their order
pub record Table : Type 0 where
  pub header : Header
  pub conts : List (Option ContRow)
  pub snaps : List (Option Snap)

-- those that are there
abbrev pub those : {A : Type 0} → List (Option A) → List A
those [] = []
those (None ∷ os) = those os
those (Some a ∷ os) = a ∷ those os

-- a place is unused, has a container, has a snapshot
abbrev pub is_unused : {A : Type 0} → Option A → Bool
is_unused None = true
is_unused (Some a) = false

abbrev pub is_cont_at : ContId → Option ContRow → Bool
is_cont_at c None = false
is_cont_at c (Some r) = is_row_of c r

abbrev pub is_held_at : ContId → Epoch → Option Snap → Bool
is_held_at c e None = false
is_held_at c e (Some s) = is_snap_at c e s

-- what is read of them all
abbrev pub places_of : Table → Places
places_of t = record { header = t.header; conts = those t.conts; snaps = those t.snaps }

-- a place holds this container, or none, where it is read by itself
abbrev pub HoldsCont : Content → ℕ → Option ContRow → Type 0
HoldsCont c p o = read_cont c p [] [] ≡ Ok (those (o ∷ []), [])

abbrev pub HoldConts : Content → ℕ → List (Option ContRow) → Type 0
HoldConts c p [] = Unit {0}
HoldConts c p (o ∷ os) = HoldsCont c p o × HoldConts c (p + 64) os

-- a place holds this snapshot, or none, where it is read with its container alone
abbrev pub HoldsSnap : Content → ℕ → Option Snap → Type 0
HoldsSnap c p o = read_snap c (new_row (snap_in c.bytes p).cont ∷ []) p [] [] ≡ Ok (those (o ∷ []), [])

abbrev pub HoldSnaps : Content → ℕ → List (Option Snap) → Type 0
HoldSnaps c p [] = Unit {0}
HoldSnaps c p (o ∷ os) = HoldsSnap c p o × HoldSnaps c (p + 32) os

-- each container is none of those before it
abbrev pub AreNewConts : List ContRow → List ContRow → Type 0
AreNewConts before [] = Unit {0}
AreNewConts before (r ∷ rs) = (list_any (is_row_of r.cont) before ≡ false) × AreNewConts (before ++ r ∷ []) rs

-- each snapshot is of a container that is there, and none of those before it
abbrev pub AreNewSnaps : List ContRow → List Snap → List Snap → Type 0
AreNewSnaps rows before [] = Unit {0}
AreNewSnaps rows before (s ∷ ss) = (is_new_snap rows before s ≡ true) × AreNewSnaps rows (before ++ s ∷ []) ss

-- blocks of two roots, or 0 for none: taken, and not the same
pub record AreRoots (c : Content) (a b : ℕ) : Type 0 where
  pub first : a ≢ 0 → is_taken c a ≡ true
  pub second : b ≢ 0 → is_taken c b ≡ true
  pub apart : a ≢ 0 → b ≢ a

-- The fixed places of a content hold this, place by place, and are as the layout asks.
pub record TableStands (target : ℕ) (c : Content) (t : Table) : Type 0 where
  pub header : read_header target c [] ≡ Ok (t.header, root_blocks t.header)
  pub many_conts : length t.conts ≡ 256
  pub conts : HoldConts c 4096 t.conts
  pub new_conts : AreNewConts [] (those t.conts)
  pub many_snaps : length t.snaps ≡ 256
  pub snaps : HoldSnaps c 20480 t.snaps
  pub new_snaps : AreNewSnaps (those t.conts) [] (those t.snaps)
  pub low_zeros : zeros_at c.bytes 28672 4096 [] ≡ Ok (tt, [])
  pub high_zeros : zeros_at c.bytes 32769 4095 [] ≡ Ok (tt, [])
  pub map : read_map c 0 16384 [] ≡ Ok (tt, [])
