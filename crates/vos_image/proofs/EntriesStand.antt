-- Entries that are read stand, with their lists.
use Rattle.std.proofs.Common.{◌≡◌, ℕ, ◌/◌, ◌≤◌, ◌<◌, nat_le, nat_lt, Bool, true, List, [], drop, Some, refl, sym, ap, ◌∙◌, subst, arith}
use Rattle.std.specs.Prelude.{All}
use Rattle.std.specs.List.{list_any}
use Rattle.std.proofs.lemmas.Bool.Decides.{nat_tests}
use Rattle.byteorder.specs.Endian.{big_number}
use Rattle.base_types.specs.declared.id.AttemptId.{AttemptId}
use Rattle.pmem_pages.specs.Counts.{times_none}
use Rattle.pmem_pages.specs.Owners.{times}
use Rattle.pmem_pages.specs.declared.node.TreeKey.{TreeKey}
use Rattle.pmem_pages.specs.declared.node.Value.{Value}
use Rattle.vos_values.specs.declared.values.EntryMark.{EntryMark}
use Rattle.vos_values.specs.Fields.{IsByteKey, IsByteValue}
use Rattle.vos_values.specs.Keys.{IsAttempt, attempt_key}
use Rattle.vos_values.specs.Values.{IsEntryMark, entry_in, entry_value}
use Rattle.vos_values.proofs.KeyLaws.{attempts_exact}
use Rattle.vos_values.proofs.Reading.{chosen_is}
use Rattle.vos_values.proofs.ValueLaws.{entries_exact}
use Rattle.vos_entries.specs.vos_chain.Chains.{Links, first_of}
use Rattle.vos_entries.specs.Entries.{AreListed, entries_owner, entry_level, list_bytes}
use Rattle.vos_image.specs.Laws.{IsOfBytes}
use Rattle.vos_image.specs.Content.{Content, shown}
use Rattle.vos_image.specs.Fits.{EntryFits}
use Rattle.vos_image.specs.Kinds.{entries, fits_targets, read_attempt, read_entry, stored_entry}
use Rattle.vos_image.specs.Nodes.{Node, is_of}
use Rattle.vos_image.specs.Trees.{read_tree}
use Rattle.vos_image.proofs.LevelsStand.{at_most_is, small}
use Rattle.vos_image.proofs.ListsStand.{list_stands}
use Rattle.vos_image.proofs.Reading.{IsLink, Tells, says_what, tells_given, tells_linked, tells_on, tells_ruled, tells_said}
use Rattle.vos_image.proofs.Standing.{Gives, StandsRead, tree_stands}
use Rattle.vos_image.proofs.Steps.{Tally, none, root_tally}

-- ---- keys and values

pub record AttemptRead (a : AttemptId) (k : TreeKey) : Type 0 where
  pub good : IsAttempt a
  pub is : attempt_key a ≡ k

attempt_told : (c : Content) (at : ℕ) (k : TreeKey) → Tells (read_attempt c at k) (λ a. IsByteKey k → AttemptRead a k) none (λ _. none)
attempt_told c at k = says_what _ _ _ (λ a e byte. let both = attempts_exact.back k a byte e in record { good = both.0; is = both.1 })

pub record EntryRead (c : Content) (m : EntryMark) (v : Value) : Type 0 where
  pub good : IsEntryMark m
  pub is : entry_value m ≡ v
  pub leader : m.leader < c.targets
  pub members : fits_targets c m.members ≡ true
  pub confirmed : fits_targets c m.confirmed ≡ true
  pub epoch : m.epoch.0 ≤ c.covered
  pub taken : IsLink c m.chain

abbrev pub EntryValued : Content → AttemptId → EntryMark → Value → Type 0
EntryValued c a m v = EntryRead c m v

-- what a mark says is in its bytes
record Said (m : EntryMark) (v : Value) : Type 0 where
  leader : big_number 1 (drop 1 v.bytes) ≡ m.leader
  members : big_number 8 (drop 2 v.bytes) ≡ m.members
  confirmed : big_number 8 (drop 10 v.bytes) ≡ m.confirmed
  epoch : big_number 8 (drop 18 v.bytes) ≡ m.epoch.0

said_of : (m : EntryMark) (v : Value) → entry_in v ≡ Some m → Said m v
unfolding entry_in
said_of m v e =
    let is = chosen_is _ _ m e in
    record {
      leader = ap (λ (z : EntryMark). z.leader) is;
      members = ap (λ (z : EntryMark). z.members) is;
      confirmed = ap (λ (z : EntryMark). z.confirmed) is;
      epoch = ap (λ (z : EntryMark). z.epoch.0) is;
    }

below_is : (a b : ℕ) → nat_lt a b ≡ true → a < b
below_is a b h = grind (arith, nat_tests)

abbrev pub list_root : EntryMark → Tally
list_root m = root_tally m.chain

entry_told : (c : Content) (at : ℕ) (a : AttemptId) (v : Value) → Tells (read_entry c at a v) (λ m. IsByteValue 7 v → EntryRead c m v) none list_root
entry_told c at a v =
    tells_ruled _ _ _ _ _ _ (λ state.
    tells_ruled _ _ _ _ _ _ (λ leader.
    tells_ruled _ _ _ _ _ _ (λ members.
    tells_ruled _ _ _ _ _ _ (λ confirmed.
    tells_ruled _ _ _ _ _ _ (λ epoch.
    tells_said _ _ _ _ _ _ (λ m e.
    tells_linked c _ m.chain _ _ _ _ (λ taken.
    tells_given m _ _ _
    (λ byte.
    let both = entries_exact.back v m byte e in
    let s = said_of m v e in
    record {
      good = both.0;
      is = both.1;
      leader = below_is m.leader c.targets (ap (λ z. nat_lt z c.targets) (sym s.leader) ∙ leader);
      members = ap (fits_targets c) (sym s.members) ∙ members;
      confirmed = ap (fits_targets c) (sym s.confirmed) ∙ confirmed;
      epoch = at_most_is m.epoch.0 c.covered (ap (λ z. nat_le z c.covered) (sym s.epoch) ∙ epoch);
      taken = taken;
    })
    (λ q. omega arith))))))))

-- ---- entries

-- what an entry says of the list that was read
listing : (m : EntryMark) (chain : ℕ) → chain ≡ m.chain → record { committed = m.committed; leader = m.leader; members = m.members; confirmed = m.confirmed; epoch = m.epoch; chain = chain } ≡ m
listing m chain e = λ i. record { committed = m.committed; leader = m.leader; members = m.members; confirmed = m.confirmed; epoch = m.epoch; chain = e i }

pub entries_given : (c : Content) (nodes : List Node) → IsOfBytes c.bytes → Gives (entries nodes) entry_level c (EntryFits c nodes) AttemptRead (EntryValued c) list_root
entries_given c nodes of_bytes = record {
  kind = refl;
  short = λ n h. small n 7 (omega arith) h;
  name = attempt_told c;
  value = entry_told c;
  thing = λ a m k v named valued.
      let is_node : ℕ → Bool = λ b. list_any (is_of a m.epoch b) nodes in
      tells_on _ _ _ _ _ _ _ (list_stands c of_bytes is_node (c.size / 256) m.chain [] valued.taken) (λ x list.
      let is = listing m (first_of x.blocks) list.first in
      tells_given (stored_entry a m x) _ _ _
      (record {
        key = sym named.is;
        value = sym valued.is ∙ ap entry_value (sym is);
        good = record { attempt = named.good; mark = subst IsEntryMark (sym is) valued.good; listed = subst (λ z. AreListed z) (sym list.nodes_are) list.listed };
        fits = record {
          leader = valued.leader;
          members = valued.members;
          confirmed = valued.confirmed;
          epoch = valued.epoch;
          are_nodes = subst (λ z. All (λ b. is_node b ≡ true) z) (sym list.nodes_are) list.pass;
          once = λ q. let once = list.once (λ q. omega (arith, times_none q)) q in omega (arith, ap (times q) list.nodes_are, once);
        };
        here = subst (λ z. Links (shown c) x.blocks (list_bytes z)) (sym list.nodes_are) list.links;
      })
      (λ q. refl));
}

-- Entries that are read stand below their root, with their lists.
pub entries_stand : (c : Content) (nodes : List Node) (b : ℕ) → IsOfBytes c.bytes → IsLink c b → Tells (read_tree (entries nodes) c b) (StandsRead entry_level c (EntryFits c nodes) b) (root_tally b) (λ g q. times q (entries_owner.owned g))
entries_stand c nodes b of_bytes link = tree_stands (entries nodes) entry_level c (EntryFits c nodes) AttemptRead (EntryValued c) list_root (entries_given c nodes of_bytes) of_bytes b link
