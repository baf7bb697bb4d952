-- How the trees and chains of a target are read.
use Rattle.std.specs.Prelude.{ℕ, zero, suc, Bool, true, ◌+◌, ◌-◌, ◌*◌, ◌/◌, ◌^◌, min, ◌==◌, ◌&&◌, ◌||◌, not, nat_le, nat_lt, List, [], ◌∷◌, ◌++◌, drop, take, slice_index, if◌then◌else◌}
use Rattle.std.specs.List.{list_any}
use Rattle.byteorder.specs.Endian.{big_number}
use Rattle.base_types.specs.declared.id.AttemptId.{AttemptId}
use Rattle.daos_model.specs.Forms.{fits_records}
use Rattle.pmem_pages.specs.declared.node.TreeKey.{TreeKey}
use Rattle.pmem_pages.specs.declared.node.Value.{Value}
use Rattle.vos_values.specs.declared.keys.ExtentKey.{ExtentKey}
use Rattle.vos_values.specs.declared.keys.Moment.{Moment}
use Rattle.vos_values.specs.declared.keys.ObjectKey.{ObjectKey}
use Rattle.vos_values.specs.declared.values.AkeyRoots.{AkeyRoots}
use Rattle.vos_values.specs.declared.values.EntryMark.{EntryMark}
use Rattle.vos_values.specs.declared.values.LogMark.{LogMark}
use Rattle.vos_values.specs.declared.values.Roots.{Roots}
use Rattle.vos_values.specs.declared.values.VersionMark.{VersionMark}
use Rattle.vos_values.specs.Keys.{attempt_in, extent_in, has_sizes, moment_in, name_in, object_in}
use Rattle.vos_values.specs.Values.{akey_in, entry_in, is_state, log_in, roots_in, version_in}
use Rattle.vos_entries.specs.vos_chain.Chains.{Chain}
use Rattle.vos_entries.specs.vos_chain.Made.{chain_blocks}
use Rattle.vos_path.specs.vos_ilog.declared.ilog.LogEntry.{LogEntry}
use Rattle.vos_path.specs.vos_ilog.Logs.{entry_from}
use Rattle.vos_path.specs.vos_single.Singles.{Stored as StoredSingle}
use Rattle.vos_path.specs.vos_extent.Extents.{Stored as StoredExtent}
use Rattle.vos_path.specs.Objects.{Akey, Dkey, Object}
use Rattle.vos_entries.specs.Entries.{Stored as StoredEntry}
use Rattle.vos_image.specs.Steps.{Step, ◌>>=◌, fail, give, is_among, rule, says, zeros}
use Rattle.vos_image.specs.Content.{Content, block, link}
use Rattle.vos_image.specs.Trees.{Kind, read_tree}
use Rattle.vos_image.specs.Nodes.{Node, is_of}

-- ---- chains

-- So many bytes in a chain of so many blocks: each says 8 and three zeros, and leads to the next, but the last to none; zeros stand
-- behind the last bytes.
abbrev pub read_links : Content → ℕ → ℕ → ℕ → Step Chain
read_links c zero b n = give (record { blocks = []; bytes = [] })
read_links c (suc k) b n =
    let at = 256 * b in
    let next = big_number 4 (drop 4 (block c b)) in
    let part = min n 248 in
    rule at (slice_index (block c b) 0 == 8)
    >>= λ _. zeros (at + 1) (take 3 (drop 1 (block c b)))
    >>= λ _. link c (at + 4) next
    >>= λ _. rule (at + 4) (if k == 0 then next == 0 else not (next == 0))
    >>= λ _. zeros (at + 8 + part) (drop (8 + part) (block c b))
    >>= λ _. read_links c k next (n - 248)
    >>= λ rest. give (record { blocks = b ∷ rest.blocks; bytes = take part (drop 8 (block c b)) ++ rest.bytes })

-- as many blocks as the bytes need
unfoldable pub read_chain : Content → ℕ → ℕ → Step Chain
read_chain c b n = read_links c (chain_blocks n) b n

-- ---- logs

-- 8 bytes epoch, which the lease covers, and 1 byte number below 64
abbrev pub read_moment : Content → ℕ → TreeKey → Step Moment
read_moment c at k = rule at (nat_le (big_number 8 k.bytes) c.covered) >>= λ _. says (at + 8) (moment_in k)

-- a creation or a punch, unsettled or done, and the attempt
abbrev pub read_mark : Content → ℕ → Moment → Value → Step LogMark
read_mark c at m v = rule at (is_state (big_number 1 v.bytes)) >>= λ _. says (at + 1) (log_in v)

abbrev pub logs : Kind Moment LogMark LogEntry
logs = record { kind = 4; is_length = λ c n. n == 9; name = read_moment; value = read_mark; thing = λ c m v. give (entry_from m v) }

-- ---- versions

-- Unsettled or done, the attempt, the length, and a chain: of a length, whatever is asked of it besides, that isn't 0 there is one.
abbrev pub read_version : Content → ℕ → (ℕ → Bool) → Value → Step VersionMark
read_version c at fits v =
    rule at (is_state (big_number 1 v.bytes))
    >>= λ _. says (at + 8) (version_in v)
    >>= λ mark. rule (at + 8) (fits mark.length)
    >>= λ _. link c (at + 10) mark.chain
    >>= λ _. rule (at + 10) (not (mark.chain == 0))
    >>= λ _. give mark

abbrev pub any_length : ℕ → Bool
any_length n = true

abbrev pub stored_single : Moment → VersionMark → Chain → StoredSingle
stored_single m v x = record { version = record { epoch = m.epoch; minor = m.minor; by = v.by; done = v.done; bytes = x.bytes }; blocks = x.blocks }

abbrev pub singles : Kind Moment VersionMark StoredSingle
singles = record {
  kind = 5;
  is_length = λ c n. n == 9;
  name = read_moment;
  value = λ c at m v. read_version c at any_length v;
  thing = λ c m v. read_chain c v.chain v.length >>= λ x. give (stored_single m v x);
}

-- 4 bytes index of the first record, and then epoch and number
abbrev pub read_extent : Content → ℕ → TreeKey → Step ExtentKey
read_extent c at k = rule (at + 4) (nat_le (big_number 8 (drop 4 k.bytes)) c.covered) >>= λ _. says (at + 12) (extent_in k)

abbrev pub stored_extent : ExtentKey → VersionMark → Chain → StoredExtent
stored_extent p v x = record { extent = record { low = p.low; epoch = p.epoch; minor = p.minor; by = v.by; done = v.done; bytes = x.bytes }; blocks = x.blocks }

-- the bytes of an extent are whole records of its object, which end at the index 2^32 - 1 at most
abbrev pub extents : ℕ → Kind ExtentKey VersionMark StoredExtent
extents unit = record {
  kind = 6;
  is_length = λ c n. n == 13;
  name = read_extent;
  value = λ c at p v. read_version c at (fits_records unit p.low) v;
  thing = λ c p v. read_chain c v.chain v.length >>= λ x. give (stored_extent p v x);
}

-- ---- akeys, dkeys, objects

abbrev pub is_name_length : Content → ℕ → Bool
is_name_length c n = nat_le 1 n && nat_le n 64

abbrev pub read_name : Content → ℕ → TreeKey → Step (List ℕ)
read_name c at k = says at (name_in k)

-- the roots of a log, of single versions and of extents
abbrev pub read_akey_roots : Content → ℕ → List ℕ → Value → Step AkeyRoots
read_akey_roots c at name v =
    says at (akey_in v)
    >>= λ r. link c at r.log
    >>= λ _. link c (at + 4) r.singles
    >>= λ _. link c (at + 8) r.extents
    >>= λ _. give r

-- the roots of a log, and of what is below
abbrev pub read_roots : {N : Type 0} → Content → ℕ → N → Value → Step Roots
read_roots c at name v =
    says at (roots_in v)
    >>= λ r. link c at r.log
    >>= λ _. link c (at + 4) r.below
    >>= λ _. give r

abbrev pub akeys : ℕ → Kind (List ℕ) AkeyRoots Akey
akeys unit = record {
  kind = 3;
  is_length = is_name_length;
  name = read_name;
  value = read_akey_roots;
  thing = λ c name r.
      read_tree logs c r.log
      >>= λ log. read_tree singles c r.singles
      >>= λ one. read_tree (extents unit) c r.extents
      >>= λ many. give (record { name = name; holds = (log, (one, many)) });
}

abbrev pub dkeys : ℕ → Kind (List ℕ) Roots Dkey
dkeys unit = record {
  kind = 2;
  is_length = is_name_length;
  name = read_name;
  value = read_roots;
  thing = λ c name r. read_tree logs c r.log >>= λ log. read_tree (akeys unit) c r.below >>= λ below. give (record { name = name; holds = (log, below) });
}

-- 25 bytes, or in the second layout also 26
abbrev pub is_object_length : Content → ℕ → Bool
is_object_length c n = (n == 25) || (has_sizes c.layout && (n == 26))

abbrev pub is_class : ℕ → Bool
is_class n = nat_le 1 n && nat_le n 8

-- 16 bytes uuid, 1 byte class, 8 bytes number, and 1 byte record size where that isn't 1
abbrev pub read_object : Content → ℕ → TreeKey → Step ObjectKey
read_object c at k = rule (at + 16) (is_class (big_number 1 (drop 16 k.bytes))) >>= λ _. says (at + 25) (object_in c.layout k)

abbrev pub objects : Kind ObjectKey Roots Object
objects = record {
  kind = 1;
  is_length = is_object_length;
  name = read_object;
  value = read_roots;
  thing = λ c name r. read_tree logs c r.log >>= λ log. read_tree (dkeys name.obj.unit) c r.below >>= λ below. give (record { name = name; holds = (log, below) });
}

-- ---- entries

-- So many numbers at most, from the front and each once, of blocks that pass a test; zeros follow, but only in the last block of a
-- list.
abbrev pub read_numbers : (ℕ → Bool) → Bool → ℕ → ℕ → List ℕ → List ℕ → Step (List ℕ)
read_numbers is_node last zero at bs so_far = give so_far
read_numbers is_node last (suc k) at bs so_far =
    let n = big_number 4 bs in
    if n == 0 then (rule at last >>= λ _. zeros at bs >>= λ _. give so_far)
    else (rule at (is_node n && not (is_among n so_far)) >>= λ _. read_numbers is_node last k (at + 4) (drop 4 bs) (so_far ++ n ∷ []))

-- those of a block, 62 at most
unfoldable pub read_part : (ℕ → Bool) → Bool → ℕ → List ℕ → List ℕ → Step (List ℕ)
read_part is_node last at bs so_far = read_numbers is_node last 62 at bs so_far

-- the numbers that a list says, and the blocks that it stands in
pub record Listed : Type 0 where
  pub nodes : List ℕ
  pub blocks : List ℕ

-- A list in a chain of at most so many blocks, each of which has a number at least.
abbrev pub read_list : Content → (ℕ → Bool) → ℕ → ℕ → List ℕ → Step Listed
read_list c is_node zero b so_far = if b == 0 then give (record { nodes = so_far; blocks = [] }) else fail (256 * b)
read_list c is_node (suc k) b so_far =
    let at = 256 * b in
    let next = big_number 4 (drop 4 (block c b)) in
    if b == 0 then give (record { nodes = so_far; blocks = [] })
    else (rule at (slice_index (block c b) 0 == 8)
    >>= λ _. zeros (at + 1) (take 3 (drop 1 (block c b)))
    >>= λ _. link c (at + 4) next
    >>= λ _. rule (at + 8) (not (big_number 4 (drop 8 (block c b)) == 0))
    >>= λ _. read_part is_node (next == 0) (at + 8) (drop 8 (block c b)) so_far
    >>= λ more. read_list c is_node k next more
    >>= λ rest. give (record { nodes = rest.nodes; blocks = b ∷ rest.blocks }))

-- a number has a bit for no target but those there are
abbrev pub fits_targets : Content → ℕ → Bool
fits_targets c bits = nat_lt bits (2 ^ c.targets)

abbrev pub read_attempt : Content → ℕ → TreeKey → Step AttemptId
read_attempt c at k = says at (attempt_in k)

-- prepared or committed, leader, members, confirmed members, epoch, and the list, which a committed one doesn't have
abbrev pub read_entry : Content → ℕ → AttemptId → Value → Step EntryMark
read_entry c at a v =
    rule at (is_state (big_number 1 v.bytes))
    >>= λ _. rule (at + 1) (nat_lt (big_number 1 (drop 1 v.bytes)) c.targets)
    >>= λ _. rule (at + 2) (fits_targets c (big_number 8 (drop 2 v.bytes)))
    >>= λ _. rule (at + 10) (fits_targets c (big_number 8 (drop 10 v.bytes)))
    >>= λ _. rule (at + 18) (nat_le (big_number 8 (drop 18 v.bytes)) c.covered)
    >>= λ _. says (at + 26) (entry_in v)
    >>= λ mark. link c (at + 26) mark.chain
    >>= λ _. give mark

abbrev pub stored_entry : AttemptId → EntryMark → Listed → StoredEntry
stored_entry a m x = record {
  entry = record { attempt = a; epoch = m.epoch; leader = m.leader; members = m.members; confirmed = m.confirmed; committed = m.committed };
  nodes = x.nodes;
  blocks = x.blocks;
}

-- an entry lists nodes of its attempt and epoch, where there are these in the trees of objects
abbrev pub entries : List Node → Kind AttemptId EntryMark StoredEntry
entries nodes = record {
  kind = 7;
  is_length = λ c n. n == 7;
  name = read_attempt;
  value = read_entry;
  thing = λ c a m. read_list c (λ b. list_any (is_of a m.epoch b) nodes) (c.size / 256) m.chain [] >>= λ x. give (stored_entry a m x);
}
