-- The fixed places of an image: what it says of itself, containers, snapshots, and the map of blocks.
use Rattle.std.specs.Prelude.{ℕ, zero, suc, Bool, true, ◌+◌, ◌*◌, ◌/◌, ◌%◌, ◌^◌, ◌==◌, ◌&&◌, ◌||◌, not, min, nat_le, nat_lt, List, [], ◌∷◌, ◌++◌, if◌then◌else◌}
use Rattle.std.specs.List.{list_any}
use Rattle.std.specs.Int.{bit_at}
use Rattle.base_outside.specs.Images.{Image, bytes_at}
use Rattle.base_types.specs.declared.outcome.FloorWhy.{FloorWhy}
use Rattle.base_types.specs.declared.outcome.FloorWhy.TheVariants.{Aggregate, Opening, Snapshot}
use Rattle.base_types.specs.declared.snapshot.Snap.{Snap}
use Rattle.daos_model.specs.declared.durable.ContRow.{ContRow}
use Rattle.daos_model.specs.Durables.{is_row_of, is_snap_at}
use Rattle.vos_image.specs.Steps.{Step, ◌>>=◌, give, rule, zeros}
use Rattle.vos_image.specs.Content.{Content, link, number}

-- ---- what an image says of itself

-- DAOSVOS1
abbrev pub magic : List ℕ
magic = 68 ∷ 65 ∷ 79 ∷ 83 ∷ 86 ∷ 79 ∷ 83 ∷ 49 ∷ []

-- these bytes stand from a place on; the first that differs is at fault
abbrev pub read_bytes : Image → ℕ → List ℕ → Step (Unit {0})
read_bytes f at [] = give tt
read_bytes f at (b ∷ bs) = rule at (f at == b) >>= λ _. read_bytes f (at + 1) bs

-- so many bytes from a place on are zero
abbrev pub zeros_at : Image → ℕ → ℕ → Step (Unit {0})
zeros_at f at n = zeros at (bytes_at f at n)

pub record Header : Type 0 where
  pub layout : ℕ
  pub target : ℕ
  pub targets : ℕ
  pub incarnation : ℕ
  pub lease : ℕ
  pub objects : ℕ
  pub entries : ℕ

-- what stands there, whether it is right or not
unfoldable pub header_in : Image → Header
header_in f = record { layout = number f 8 4; target = f 12; targets = f 13; incarnation = number f 24 8; lease = number f 32 8; objects = number f 40 4; entries = number f 44 4 }

abbrev pub is_layout : ℕ → Bool
is_layout n = (n == 1) || (n == 2)

-- the first eight bytes, layout, target, the region's size, a lease below 2^56, the roots of objects and entries, and zeros
unfoldable pub read_header : ℕ → Content → Step Header
read_header target c =
    let h = header_in c.bytes in
    read_bytes c.bytes 0 magic
    >>= λ _. rule 8 (is_layout h.layout)
    >>= λ _. rule 12 (h.target == target)
    >>= λ _. zeros_at c.bytes 14 2
    >>= λ _. rule 16 (number c.bytes 16 8 == c.size)
    >>= λ _. rule 32 (nat_lt h.lease (2 ^ 56))
    >>= λ _. link c 40 h.objects
    >>= λ _. link c 44 h.entries
    >>= λ _. zeros_at c.bytes 48 4048
    >>= λ _. give h

-- ---- containers: 256 places of 64 bytes from 4096 on

-- the reason of a stored floor: none, a snapshot with its epoch, or an aggregation with its number
abbrev pub why_of : ℕ → ℕ → FloorWhy
why_of why n = if why == 2 then Snapshot (record { 0 = n }) else if why == 3 then Aggregate n else Opening

-- a floor without a reason counts as none
abbrev pub floor_of : ℕ → ℕ → ℕ
floor_of why floor = if why == 0 then 0 else floor

-- what a place says of a container
unfoldable pub cont_in : Image → ℕ → ContRow
cont_in f p = record {
  cont = record { 0 = number f (p + 48) 16 };
  floor = record { 0 = floor_of (f (p + 1)) (number f (p + 8) 8) };
  why = why_of (f (p + 1)) (number f (p + 16) 8);
  aggregated = record { 0 = number f (p + 24) 8 };
  number = number f (p + 32) 8;
}

-- 0 for none, 2 for a snapshot, 3 for an aggregation
abbrev pub is_why : ℕ → Bool
is_why n = (n == 0) || ((n == 2) || (n == 3))

-- The fields of a place: in use or not, the reason of its floor, zeros, a floor that the lease covers, the reason's epoch or number,
-- an aggregated-to epoch that the lease covers and its number, zeros, and the uuid, which no place before it in use has.
unfoldable pub read_cont : Content → ℕ → List ContRow → Step (List ContRow)
read_cont c p rows =
    rule p (nat_le (c.bytes p) 1)
    >>= λ _. rule (p + 1) (is_why (c.bytes (p + 1)))
    >>= λ _. zeros_at c.bytes (p + 2) 6
    >>= λ _. rule (p + 8) (nat_le (number c.bytes (p + 8) 8) c.covered)
    >>= λ _. rule (p + 16) (not (c.bytes (p + 1) == 3) || nat_lt (number c.bytes (p + 16) 8) (2 ^ 32))
    >>= λ _. rule (p + 24) (nat_le (number c.bytes (p + 24) 8) c.covered)
    >>= λ _. rule (p + 32) (nat_lt (number c.bytes (p + 32) 8) (2 ^ 32))
    >>= λ _. zeros_at c.bytes (p + 40) 8
    >>= λ _. rule (p + 48) ((c.bytes p == 0) || not (list_any (is_row_of (cont_in c.bytes p).cont) rows))
    >>= λ _. give (if c.bytes p == 0 then rows else rows ++ cont_in c.bytes p ∷ [])

-- so many places, from one on, after some rows
abbrev pub read_conts : Content → ℕ → ℕ → List ContRow → Step (List ContRow)
read_conts c zero p rows = give rows
read_conts c (suc k) p rows = read_cont c p rows >>= λ more. read_conts c k (p + 64) more

-- ---- snapshots: 256 places of 32 bytes from 20480 on

-- what a place says of a snapshot: 1 is frozen, 2 created
unfoldable pub snap_in : Image → ℕ → Snap
snap_in f p = record { cont = record { 0 = number f (p + 16) 16 }; epoch = record { 0 = number f (p + 8) 8 }; created = f p == 2 }

-- a snapshot is one of a container there, and not the same as one before it
abbrev pub is_new_snap : List ContRow → List Snap → Snap → Bool
is_new_snap rows snaps x = list_any (is_row_of x.cont) rows && not (list_any (is_snap_at x.cont x.epoch) snaps)

-- the fields of a place: unused, frozen or created, zeros, an epoch, and the uuid, which with the epoch makes it new
unfoldable pub read_snap : Content → List ContRow → ℕ → List Snap → Step (List Snap)
read_snap c rows p snaps =
    rule p (nat_le (c.bytes p) 2)
    >>= λ _. zeros_at c.bytes (p + 1) 7
    >>= λ _. rule (p + 16) ((c.bytes p == 0) || is_new_snap rows snaps (snap_in c.bytes p))
    >>= λ _. give (if c.bytes p == 0 then snaps else snaps ++ snap_in c.bytes p ∷ [])

abbrev pub read_snaps : Content → List ContRow → ℕ → ℕ → List Snap → Step (List Snap)
read_snaps c rows zero p snaps = give snaps
read_snaps c rows (suc k) p snaps = read_snap c rows p snaps >>= λ more. read_snaps c rows k (p + 32) more

-- ---- the map of blocks: 16,384 bytes from 307200 on

-- blocks before 1264, and those that don't lie in the region whole, have their bits set
abbrev pub is_bit_right : Content → ℕ → Bool
is_bit_right c b = (nat_le 1264 b && nat_lt b (min (c.size / 256) 131072)) || (bit_at (c.bytes (307200 + b / 8)) (b % 8) == 1)

-- so many bits from a block's on
abbrev pub are_bits_right : Content → ℕ → ℕ → Bool
are_bits_right c b zero = true
are_bits_right c b (suc k) = is_bit_right c b && are_bits_right c (b + 1) k

-- so many bytes of the map from one on
abbrev pub read_map : Content → ℕ → ℕ → Step (Unit {0})
read_map c j zero = give tt
read_map c j (suc k) = rule (307200 + j) (are_bits_right c (8 * j) 8) >>= λ _. read_map c (j + 1) k

-- ---- all of them

pub record Places : Type 0 where
  pub header : Header
  pub conts : List ContRow
  pub snaps : List Snap

-- by place up to 323583; the gate byte and the log body, which the content has as zero, aren't looked at
unfoldable pub read_places : ℕ → Content → Step Places
read_places target c =
    read_header target c
    >>= λ h. read_conts c 256 4096 []
    >>= λ rows. read_snaps c rows 256 20480 []
    >>= λ snaps. zeros_at c.bytes 28672 4096
    >>= λ _. zeros_at c.bytes 32769 4095
    >>= λ _. read_map c 0 16384
    >>= λ _. give (record { header = h; conts = rows; snaps = snaps })
