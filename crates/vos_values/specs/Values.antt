-- Values of the trees: roots of further trees, log entries, versions, entries of attempts.
use Rattle.std.specs.Prelude.{◌≡◌, ◌<◌, ◌^◌, ◌==◌, ◌&&◌, ◌||◌, ℕ, Bool, true, not, nat_le, [], ◌∷◌, drop, Option, Some, None, if◌then◌else◌}
use Rattle.byteorder.specs.Endian.{big_number}
use Rattle.pmem_pages.specs.declared.node.Value.{Value}
use Rattle.vos_values.specs.declared.values.Roots.{Roots}
use Rattle.vos_values.specs.declared.values.AkeyRoots.{AkeyRoots}
use Rattle.vos_values.specs.declared.values.LogMark.{LogMark}
use Rattle.vos_values.specs.declared.values.VersionMark.{VersionMark}
use Rattle.vos_values.specs.declared.values.EntryMark.{EntryMark}
use Rattle.vos_values.specs.Fields.{Fields, packed, value_of}
use Rattle.vos_values.specs.Keys.{IsAttempt, attempt_at, attempt_fields}

-- ---- an object or a dkey: the roots of its log and of the dkeys or akeys below it

abbrev pub roots_fields : Roots → Fields
roots_fields r = (4, r.log) ∷ (4, r.below) ∷ []

unfoldable pub roots_value : Roots → Value
roots_value r = value_of (packed (roots_fields r))

pub record IsRoots (r : Roots) : Type 0 where
  pub log : r.log < 2 ^ 32
  pub below : r.below < 2 ^ 32

unfoldable pub roots_in : Value → Option Roots
roots_in v = if v.len == 8 then Some (record { log = big_number 4 v.bytes; below = big_number 4 (drop 4 v.bytes) }) else None

-- ---- an akey: the roots of its log, its single versions and its extents

abbrev pub akey_fields : AkeyRoots → Fields
akey_fields r = (4, r.log) ∷ (4, r.singles) ∷ (4, r.extents) ∷ []

unfoldable pub akey_value : AkeyRoots → Value
akey_value r = value_of (packed (akey_fields r))

pub record IsAkeyRoots (r : AkeyRoots) : Type 0 where
  pub log : r.log < 2 ^ 32
  pub singles : r.singles < 2 ^ 32
  pub extents : r.extents < 2 ^ 32

unfoldable pub akey_in : Value → Option AkeyRoots
akey_in v =
    if v.len == 12 then Some (record { log = big_number 4 v.bytes; singles = big_number 4 (drop 4 v.bytes); extents = big_number 4 (drop 8 v.bytes) }) else None

-- ---- what is one of two is kept as 1 or 2

abbrev pub state_of : Bool → ℕ
state_of b = if b then 2 else 1

abbrev pub is_state : ℕ → Bool
is_state n = (n == 1) || (n == 2)

-- ---- a log entry: a creation or a punch, unsettled or done, and whose

abbrev pub log_fields : LogMark → Fields
log_fields m = (1, state_of m.punch) ∷ (1, state_of m.done) ∷ attempt_fields m.by

unfoldable pub log_value : LogMark → Value
log_value m = value_of (packed (log_fields m))

pub record IsLogMark (m : LogMark) : Type 0 where
  pub by : IsAttempt m.by

unfoldable pub log_in : Value → Option LogMark
log_in v =
    if (v.len == 9) && is_state (big_number 1 v.bytes) && is_state (big_number 1 (drop 1 v.bytes))
    then Some (record { punch = big_number 1 v.bytes == 2; done = big_number 1 (drop 1 v.bytes) == 2; by = attempt_at 2 v.bytes })
    else None

-- ---- a single version or an extent: unsettled or done, whose, how many bytes, and the first block of their chain

abbrev pub version_fields : VersionMark → Fields
version_fields m = (1, state_of m.done) ∷ (2, m.by.client) ∷ (4, m.by.command) ∷ (1, m.by.attempt) ∷ (2, m.length) ∷ (4, m.chain) ∷ []

unfoldable pub version_value : VersionMark → Value
version_value m = value_of (packed (version_fields m))

-- values have from 1 to 1,024 bytes
abbrev pub is_length : ℕ → Bool
is_length n = nat_le 1 n && nat_le n 1024

pub record IsVersionMark (m : VersionMark) : Type 0 where
  pub by : IsAttempt m.by
  pub length : is_length m.length ≡ true
  pub chain : m.chain < 2 ^ 32

unfoldable pub version_in : Value → Option VersionMark
version_in v =
    if (v.len == 14) && is_state (big_number 1 v.bytes) && is_length (big_number 2 (drop 8 v.bytes))
    then Some (record { done = big_number 1 v.bytes == 2; by = attempt_at 1 v.bytes; length = big_number 2 (drop 8 v.bytes); chain = big_number 4 (drop 10 v.bytes) })
    else None

-- ---- an entry of an attempt: prepared or committed, leader, members, those that confirmed, epoch, and the first block
-- of the list of its nodes, which a committed one doesn't have

abbrev pub entry_fields : EntryMark → Fields
entry_fields m = (1, state_of m.committed) ∷ (1, m.leader) ∷ (8, m.members) ∷ (8, m.confirmed) ∷ (8, m.epoch.0) ∷ (4, m.chain) ∷ []

unfoldable pub entry_value : EntryMark → Value
entry_value m = value_of (packed (entry_fields m))

abbrev pub is_chain_for : Bool → ℕ → Bool
is_chain_for committed chain = not committed || chain == 0

pub record IsEntryMark (m : EntryMark) : Type 0 where
  pub leader : m.leader < 2 ^ 8
  pub members : m.members < 2 ^ 64
  pub confirmed : m.confirmed < 2 ^ 64
  pub epoch : m.epoch.0 < 2 ^ 64
  pub chain : m.chain < 2 ^ 32
  pub listed : is_chain_for m.committed m.chain ≡ true

unfoldable pub entry_in : Value → Option EntryMark
entry_in v =
    if (v.len == 30) && is_state (big_number 1 v.bytes) && is_chain_for (big_number 1 v.bytes == 2) (big_number 4 (drop 26 v.bytes))
    then Some (record { committed = big_number 1 v.bytes == 2; leader = big_number 1 (drop 1 v.bytes); members = big_number 8 (drop 2 v.bytes); confirmed = big_number 8 (drop 10 v.bytes); epoch = record { 0 = big_number 8 (drop 18 v.bytes) }; chain = big_number 4 (drop 26 v.bytes) })
    else None
