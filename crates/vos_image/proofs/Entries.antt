-- Entries are read, with their lists.
use Rattle.std.proofs.Common.{◌≡◌, ◌≢◌, ℕ, ◌+◌, ◌/◌, ◌≤◌, ◌<◌, ◌==◌, ◌&&◌, nat_le, nat_lt, Bool, true, false, List, [], length, drop, Ok, refl, ap, ◌∙◌, arith}
use Rattle.std.specs.Prelude.{All}
use Rattle.std.specs.List.{list_any}
use Rattle.std.proofs.lemmas.Bool.Decides.{nat_tests}
use Rattle.byteorder.specs.Endian.{big_number}
use Rattle.base_types.specs.declared.id.AttemptId.{AttemptId}
use Rattle.pmem_pages.specs.Counts.{at_most, times_none}
use Rattle.pmem_pages.specs.Owners.{Holds, times}
use Rattle.vos_values.specs.declared.values.EntryMark.{EntryMark}
use Rattle.vos_values.specs.Fields.{key_of}
use Rattle.vos_values.specs.Keys.{IsAttempt, attempt_fields, attempt_key}
use Rattle.vos_values.specs.Values.{IsEntryMark, entry_in, entry_value, is_state}
use Rattle.vos_values.proofs.KeyLaws.{attempts_exact}
use Rattle.vos_values.proofs.Reading.{chosen_is, chosen_test, length_packed}
use Rattle.vos_values.proofs.ValueLaws.{entries_exact}
use Rattle.vos_entries.specs.vos_levels.Levels.{hung_root, things}
use Rattle.vos_entries.specs.vos_chain.Chains.{chain_owner, chain_taken, first_of}
use Rattle.vos_entries.specs.Entries.{Entries, Stored, entries_owner, entry_level, list_bytes, list_of, mark_of}
use Rattle.vos_image.specs.Steps.{says}
use Rattle.vos_image.specs.Content.{Content, is_taken, shown}
use Rattle.vos_image.specs.Fits.{EntryFits}
use Rattle.vos_image.specs.Kinds.{entries, fits_targets, read_attempt, read_entry, read_list}
use Rattle.vos_image.specs.Nodes.{Node, is_of}
use Rattle.vos_image.specs.Trees.{read_tree}
use Rattle.vos_image.proofs.Chains.{first_taken}
use Rattle.vos_image.proofs.Codecs.{at_most_test}
use Rattle.vos_image.proofs.Lists.{list_read}
use Rattle.vos_image.proofs.Steps.{Passes, given, go_on, linked, none, root_tally, ruled, said, shown_there, some_block}
use Rattle.vos_image.proofs.Trees.{Takes, tree_read}

same : (a b : ℕ) → a ≡ b → (a == b) ≡ true
same a b e = grind (arith, nat_tests)

below_test : (a b : ℕ) → a < b → nat_lt a b ≡ true
below_test a b h = grind (arith, nat_tests)

-- ---- keys and values

attempt_length : (a : AttemptId) → (attempt_key a).len ≡ 7
unfolding attempt_key key_of
attempt_length a = length_packed (attempt_fields a)

attempt_read : (c : Content) (at : ℕ) (a : AttemptId) → IsAttempt a → (led : List ℕ) → read_attempt c at (attempt_key a) led ≡ Ok (a, led)
unfolding says
attempt_read c at a h led = rw (attempts_exact.again a h) refl

mid_of_three : (a b c : Bool) → (a && b && c) ≡ true → b ≡ true
mid_of_three true true c h = refl
mid_of_three true false c h = let no : ⊥ = cc in absurd no
mid_of_three false b c h = let no : ⊥ = cc in absurd no

-- what the bytes of the value of an entry say
record Says (m : EntryMark) : Type 0 where
  pub state : is_state (big_number 1 (entry_value m).bytes) ≡ true
  pub leader : big_number 1 (drop 1 (entry_value m).bytes) ≡ m.leader
  pub members : big_number 8 (drop 2 (entry_value m).bytes) ≡ m.members
  pub confirmed : big_number 8 (drop 10 (entry_value m).bytes) ≡ m.confirmed
  pub epoch : big_number 8 (drop 18 (entry_value m).bytes) ≡ m.epoch.0

entry_says : (m : EntryMark) → IsEntryMark m → Says m
unfolding entry_in
entry_says m h =
    let again = entries_exact.again m h in
    let is = chosen_is _ _ m again in
    record {
      state = mid_of_three _ _ _ (chosen_test _ _ m again);
      leader = ap (λ (z : EntryMark). z.leader) is;
      members = ap (λ (z : EntryMark). z.members) is;
      confirmed = ap (λ (z : EntryMark). z.confirmed) is;
      epoch = ap (λ (z : EntryMark). z.epoch.0) is;
    }

entry_read : (c : Content) (at : ℕ) (a : AttemptId) (m : EntryMark) → IsEntryMark m → m.leader < c.targets → fits_targets c m.members ≡ true → fits_targets c m.confirmed ≡ true → m.epoch.0 ≤ c.covered → (m.chain ≢ 0 → is_taken c m.chain ≡ true)
    → Passes (read_entry c at a (entry_value m)) m none (λ q. times q (some_block m.chain))
entry_read c at a m h leader members confirmed epoch taken =
    let s = entry_says m h in
    let one : nat_lt (big_number 1 (drop 1 (entry_value m).bytes)) c.targets ≡ true = ap (λ z. nat_lt z c.targets) s.leader ∙ below_test m.leader c.targets leader in
    let two : fits_targets c (big_number 8 (drop 2 (entry_value m).bytes)) ≡ true = ap (fits_targets c) s.members ∙ members in
    let three : fits_targets c (big_number 8 (drop 10 (entry_value m).bytes)) ≡ true = ap (fits_targets c) s.confirmed ∙ confirmed in
    let four : nat_le (big_number 8 (drop 18 (entry_value m).bytes)) c.covered ≡ true = ap (λ z. nat_le z c.covered) s.epoch ∙ at_most_test m.epoch.0 c.covered epoch in
    ruled _ _ _ _ _ _ s.state
    (ruled _ _ _ _ _ _ one
    (ruled _ _ _ _ _ _ two
    (ruled _ _ _ _ _ _ three
    (ruled _ _ _ _ _ _ four
    (said _ _ _ m _ _ _ (entries_exact.again m h)
    (go_on _ _ tt _ none (root_tally m.chain) (root_tally m.chain) (linked c (at + 26) m.chain taken) (given m (root_tally m.chain))))))))

-- ---- a list has no more blocks than the region

taken_below : (c : Content) (b : ℕ) → is_taken c b ≡ true → b < c.size / 256
unfolding is_taken
taken_below c b h = grind (arith, nat_tests)

blocks_fit : (c : Content) (s : Stored) → Holds chain_owner (shown c) (list_of s) → length s.blocks ≤ c.size / 256
blocks_fit c s held = at_most (c.size / 256) s.blocks held.apart (λ q own. let taken = chain_taken (shown c) s.blocks (list_bytes s.nodes) held.here q own in taken_below c q (shown_there c q taken.bytes taken.holds).taken)

-- ---- entries

entries_taken : (c : Content) (nodes : List Node) → Takes (entries nodes) entry_level c (EntryFits c nodes) (λ s. s.entry.attempt) mark_of (λ s. some_block (first_of s.blocks))
entries_taken c nodes = record {
  kind = refl;
  length = λ s good fits. same _ 7 (attempt_length s.entry.attempt);
  key = λ s good fits at led. attempt_read c at s.entry.attempt good.attempt led;
  leads = λ s good fits held at. entry_read c at s.entry.attempt (mark_of s) good.mark fits.leader fits.members fits.confirmed fits.epoch (first_taken c s.blocks (list_bytes s.nodes) held.here);
  below = λ s good fits held.
      let is_node : ℕ → Bool = λ b. list_any (is_of s.entry.attempt s.entry.epoch b) nodes in
      let list = list_read c is_node (c.size / 256) s.blocks s.nodes [] held.here (blocks_fit c s (record { here = held.here; apart = held.apart })) good.listed fits.are_nodes (λ q. omega (arith, fits.once q, times_none q)) held.apart in
      go_on (read_list c is_node (c.size / 256) (first_of s.blocks) []) _ (record { nodes = s.nodes; blocks = s.blocks }) s _ _ _ list (given s (λ q. times q s.blocks));
}

-- Entries that stand are read below their root, with their lists.
pub entries_read : (c : Content) (nodes : List Node) (g : Entries) → Holds entries_owner (shown c) g → All (EntryFits c nodes) (things g) → Passes (read_tree (entries nodes) c (hung_root g)) g (root_tally (hung_root g)) (λ q. times q (entries_owner.owned g))
entries_read c nodes g held fits = tree_read (entries nodes) entry_level c (EntryFits c nodes) (λ s. s.entry.attempt) mark_of (λ s. some_block (first_of s.blocks)) (entries_taken c nodes) g held fits
