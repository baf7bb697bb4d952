-- Entries of attempts in the order of attempts, each with the chain that lists the blocks of its nodes.
use Rattle.std.specs.Prelude.{◌≡◌, ◌<◌, ◌+◌, ◌^◌, ◌||◌, ℕ, Bool, false, true, bit_or, length, List, [], ◌∷◌, ◌++◌, map}
use Rattle.std.specs.List.{list_any}
use Rattle.base_types.specs.declared.entry.Entry.{Entry}
use Rattle.base_types.specs.declared.id.AttemptId.{AttemptId}
use Rattle.byteorder.specs.Endian.{big_bytes}
use Rattle.pmem_pages.specs.Owners.{Owner}
use Rattle.pmem_pages.specs.declared.node.TreeKey.{TreeKey}
use Rattle.pmem_pages.specs.declared.node.Value.{Value}
use Rattle.vos_values.specs.declared.values.EntryMark.{EntryMark}
use Rattle.vos_values.specs.Keys.{IsAttempt, attempt_key}
use Rattle.vos_values.specs.Values.{IsEntryMark, entry_value}
use Rattle.vos_versions.specs.vos_levels.Changes.{same_attempt, sum_those}
use Rattle.vos_versions.specs.vos_levels.Levels.{Hung, Level, hung, in_part, map_those, things, without_those}
use Rattle.vos_versions.specs.vos_chain.Chains.{Chain, chain_owner, first_of}

-- an entry, the blocks of the nodes that its attempt has in other trees, and the blocks of the chain that lists them
pub record Stored : Type 0 where
  pub entry : Entry
  pub nodes : List ℕ
  pub blocks : List ℕ

-- numbers of blocks, four bytes each
abbrev pub list_bytes : List ℕ → List ℕ
list_bytes [] = []
list_bytes (n ∷ ns) = big_bytes 4 n ++ list_bytes ns

abbrev pub list_of : Stored → Chain
list_of s = record { blocks = s.blocks; bytes = list_bytes s.nodes }

-- what the tree says of an entry whose list begins at a block
abbrev pub mark_with : Entry → ℕ → EntryMark
mark_with e chain = record { committed = e.committed; leader = e.leader; members = e.members; confirmed = e.confirmed; epoch = e.epoch; chain = chain }

abbrev pub mark_of : Stored → EntryMark
mark_of s = mark_with s.entry (first_of s.blocks)

abbrev pub key_of_stored : Stored → TreeKey
key_of_stored s = attempt_key s.entry.attempt

abbrev pub value_of_stored : Stored → Value
value_of_stored s = entry_value (mark_of s)

-- numbers of blocks that a chain can list: none is 0, which ends a list
abbrev pub AreListed : List ℕ → Type 0
AreListed [] = Unit {0}
AreListed (n ∷ ns) = (0 < n) × (n < 2 ^ 32) × AreListed ns

pub record IsStored (s : Stored) : Type 0 where
  pub attempt : IsAttempt s.entry.attempt
  pub mark : IsEntryMark (mark_of s)
  pub listed : AreListed s.nodes

abbrev pub entry_level : Level Stored
entry_level = record { kind = 7; owner = in_part list_of chain_owner; key = key_of_stored; value = value_of_stored; Good = IsStored }

abbrev pub Entries : Type 0
Entries = Hung Stored

abbrev pub entries_owner : Owner Entries
entries_owner = hung entry_level

abbrev pub entry_of : Stored → Entry
entry_of s = s.entry

-- the entries that stand there
abbrev pub entries_in : Entries → List Entry
entries_in g = map entry_of (things g)

-- ---- what is said of entries

-- an entry, and the blocks of the nodes that it lists
pub record Listing : Type 0 where
  pub entry : Entry
  pub nodes : List ℕ

abbrev pub listing_of : Stored → Listing
listing_of s = record { entry = s.entry; nodes = s.nodes }

abbrev pub listings : Entries → List Listing
listings g = map listing_of (things g)

-- that of an attempt
abbrev pub is_listing_at : AttemptId → Listing → Bool
is_listing_at a l = same_attempt l.entry.attempt a

abbrev pub is_at : AttemptId → Stored → Bool
is_at a s = same_attempt s.entry.attempt a

abbrev pub has_entry_at : AttemptId → List Stored → Bool
has_entry_at a xs = list_any (is_at a) xs

-- it lists nothing any more, and is committed, or as committed as it was
abbrev pub ended : Bool → Listing → Listing
ended commits l = record { entry = record { attempt = l.entry.attempt; epoch = l.entry.epoch; leader = l.entry.leader; members = l.entry.members; confirmed = l.entry.confirmed; committed = commits || l.entry.committed }; nodes = [] }

-- committed, it lists nothing
abbrev pub committed : Listing → Listing
committed l = ended true l

-- its list is gone, and it is as it was
abbrev pub unlisted : Listing → Listing
unlisted l = ended false l

-- with one more confirmed member
abbrev pub confirmed_by : ℕ → Listing → Listing
confirmed_by t l = record { entry = record { attempt = l.entry.attempt; epoch = l.entry.epoch; leader = l.entry.leader; members = l.entry.members; confirmed = bit_or l.entry.confirmed (2 ^ t); committed = l.entry.committed }; nodes = l.nodes }

-- what the tree says then
abbrev pub ended_mark : Bool → EntryMark → EntryMark
ended_mark commits m = record { committed = commits || m.committed; leader = m.leader; members = m.members; confirmed = m.confirmed; epoch = m.epoch; chain = 0 }

abbrev pub confirmed_mark : ℕ → EntryMark → EntryMark
confirmed_mark t m = record { committed = m.committed; leader = m.leader; members = m.members; confirmed = bit_or m.confirmed (2 ^ t); epoch = m.epoch; chain = m.chain }

-- the entry of an attempt lost its list, and became committed or not; it was confirmed by a member, or went
abbrev pub IsEndedAt : Bool → AttemptId → List Listing → List Listing → Type 0
IsEndedAt commits a xs ys = ys ≡ map_those (is_listing_at a) (ended commits) xs

abbrev pub IsCommittedAt : AttemptId → List Listing → List Listing → Type 0
IsCommittedAt a xs ys = ys ≡ map_those (is_listing_at a) committed xs

abbrev pub IsUnlistedAt : AttemptId → List Listing → List Listing → Type 0
IsUnlistedAt a xs ys = ys ≡ map_those (is_listing_at a) unlisted xs

abbrev pub IsConfirmedAt : AttemptId → ℕ → List Listing → List Listing → Type 0
IsConfirmedAt a t xs ys = ys ≡ map_those (is_listing_at a) (confirmed_by t) xs

abbrev pub IsGoneAt : AttemptId → List Listing → List Listing → Type 0
IsGoneAt a xs ys = ys ≡ without_those (is_listing_at a) xs

-- how many blocks the list of an attempt's entry stands in, and those and the entry's own
abbrev pub blocks_in_list : Stored → ℕ
blocks_in_list s = length s.blocks

abbrev pub blocks_of_entry : Stored → ℕ
blocks_of_entry s = length s.blocks + 1

abbrev pub list_blocks_at : AttemptId → List Stored → ℕ
list_blocks_at a xs = sum_those (is_at a) blocks_in_list xs

abbrev pub entry_blocks_at : AttemptId → List Stored → ℕ
entry_blocks_at a xs = sum_those (is_at a) blocks_of_entry xs
