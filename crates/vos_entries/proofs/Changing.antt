-- An entry comes, is committed, confirmed or removed.
use Rattle.std.proofs.Common.{◌≡◌, ℕ, ◌+◌, ◌<◌, ◌^◌, ◌⊎◌, ◌==◌, ◌&&◌, ◌||◌, Bool, true, false, Some, None, List, [], ◌∷◌, ◌++◌, map, refl, sym, ap, ◌∙◌, subst, arith, inl, inr}
use Rattle.std.specs.Prelude.{bit_or}
use Rattle.std.specs.List.{find, list_any}
use Rattle.std.specs.Ordering.{nat_cmp, ordering_then}
use Rattle.std.specs.declared.cmp.Ordering.TheVariants.{Equal}
use Rattle.std.specs.Option.{option_and_then, option_map}
use Rattle.std.proofs.lemmas.Bool.{cases_lt}
use Rattle.std.proofs.lemmas.Bool.Decides.{nat_tests}
use Rattle.base_types.specs.declared.id.AttemptId.{AttemptId}
use Rattle.base_types.specs.declared.entry.Entry as stored_entry
use Rattle.pmem_pages.specs.Blocks.{Blocks, Budget, IsSpent}
use Rattle.pmem_pages.specs.Counts.{times_none}
use Rattle.pmem_pages.specs.Owners.{Changed, Holds, maybe, times}
use Rattle.pmem_pages.specs.Shape.{Entry, IsTree, Shape, chosen, entries, entry_at}
use Rattle.pmem_pages.specs.declared.node.TreeKey.{TreeKey}
use Rattle.pmem_pages.proofs.Shapes.{is_tree_on}
use Rattle.vos_versions.specs.pmem_tree.Calls.{StagesAtMost, TooFew}
use Rattle.vos_versions.specs.pmem_tree.Changes.{Inserts, Puts, Removes}
use Rattle.vos_versions.specs.pmem_tree_base.Find.{value_of}
use Rattle.vos_values.specs.declared.values.EntryMark.{EntryMark}
use Rattle.vos_values.specs.Keys.{IsAttempt, attempt_key}
use Rattle.vos_values.specs.Values.{IsEntryMark, entry_in, entry_value, is_chain_for}
use Rattle.vos_values.proofs.KeyLaws.{attempts_order}
use Rattle.vos_values.proofs.ValueLaws.{entries_exact}
use Rattle.vos_versions.specs.vos_levels.Calls.{Becomes}
use Rattle.vos_versions.specs.vos_levels.Changes.{sum_those}
use Rattle.vos_versions.specs.vos_levels.Levels.{HasMore, TellsKey, hung_root, map_those, things, without_those}
use Rattle.vos_versions.proofs.vos_levels.Changing.{hung_less, hung_more, hung_other, hung_tree, stays}
use Rattle.vos_versions.proofs.vos_levels.Settling.{Says, becomes_shown, given_part, made_part, missing_key, says, says_none, shown_changed, spot_apart, spot_at, spot_stands, stays_part, still_thing, sum_none, sum_spot}
use Rattle.vos_versions.proofs.vos_levels.Spots.{Spot, mapped_none, value_found, without_none}
use Rattle.vos_versions.proofs.vos_levels.Testing.{all_good, found_good, read_option}
use Rattle.vos_versions.specs.vos_chain.Chains.{chain_owner}
use Rattle.vos_versions.specs.vos_chain.Made.{HasFewer, MadeChain}
use Rattle.vos_entries.specs.Entries.{AreListed, Entries, IsConfirmedAt, IsEndedAt, IsGoneAt, IsStored, Listing, Stored, confirmed_by, confirmed_mark, ended, ended_mark, entries_owner, entry_level, has_entry_at, is_at, is_listing_at, list_bytes, list_of, listing_of, listings, mark_of, mark_with}
use Rattle.vos_entries.specs.Lists.{FewerThan, FewerToRemove, IsListAt, StagesToRemove}

-- ---- keys

three_level : (a b c x y z : ℕ) → ((x == a) && (y == b) && (z == c)) ≡ chosen (ordering_then (nat_cmp a x) (ordering_then (nat_cmp b y) (ordering_then (nat_cmp c z) Equal))) false true false
three_level a b c x y z = grind (arith, nat_tests)

pub tells_at : (a : AttemptId) → IsAttempt a → TellsKey entry_level (attempt_key a) (is_at a)
tells_at a h s good =
    let b = s.entry.attempt in
    three_level a.client a.command a.attempt b.client b.command b.attempt ∙ ap (λ o. chosen o false true false) (sym (attempts_order a b h good.attempt))

pub entry_tree : (m : Blocks) (kind root : ℕ) (g : Entries) → kind ≡ 7 → Holds entries_owner m g → root ≡ hung_root g → IsTree m kind root g.0
entry_tree m kind root g e h at = subst (λ k. IsTree m k root g.0) (sym e) (hung_tree entry_level m root g h at)

-- ---- what becomes of an entry

ended_stored : Bool → Stored → Stored
ended_stored commits s = record { entry = record { attempt = s.entry.attempt; epoch = s.entry.epoch; leader = s.entry.leader; members = s.entry.members; confirmed = s.entry.confirmed; committed = commits || s.entry.committed }; nodes = []; blocks = [] }

confirmed_stored : ℕ → Stored → Stored
confirmed_stored t s = record { entry = record { attempt = s.entry.attempt; epoch = s.entry.epoch; leader = s.entry.leader; members = s.entry.members; confirmed = bit_or s.entry.confirmed (2 ^ t); committed = s.entry.committed }; nodes = s.nodes; blocks = s.blocks }

map_append : (xs ys : List Stored) → map listing_of (xs ++ ys) ≡ map listing_of xs ++ map listing_of ys
map_append [] ys = refl
map_append (x ∷ xs) ys = ap (λ z. listing_of x ∷ z) (map_append xs ys)

more_listings : (s : Stored) (xs ys : List Stored) → HasMore s xs ys → HasMore (listing_of s) (map listing_of xs) (map listing_of ys)
more_listings s xs ys h = record {
  left = map listing_of h.left;
  right = map listing_of h.right;
  before_is = ap (map listing_of) h.before_is ∙ map_append h.left h.right;
  after_is = ap (map listing_of) h.after_is ∙ map_append h.left (s ∷ h.right);
}

pub missing_at : (a : AttemptId) (key : TreeKey) (m : Blocks) (g : Entries) → IsAttempt a → key ≡ attempt_key a → Holds entries_owner m g → has_entry_at a (things g) ≡ false → entry_at key (entries g.0) ≡ None
missing_at a key m g fits is h none = ap (λ k. entry_at k (entries g.0)) is ∙ missing_key entry_level (attempt_key a) (is_at a) (tells_at a fits) m g h none

-- what begins nowhere is no list, whether or not an entry is committed
no_chain : (committed : Bool) → is_chain_for committed 0 ≡ true
no_chain committed = elim committed as (λ c. is_chain_for c 0 ≡ true) [ true ↦ refl | false ↦ refl ]

-- ---- sums

pub few_list : (n : ℕ) (b : Budget) → HasFewer n n b → FewerThan n b
few_list n b h = elim h [ inl r ↦ inl (omega (arith, r)) | inr r ↦ inr (omega (arith, r)) ]

pub few_then : (n : ℕ) (b c : Budget) → IsSpent n n b c → (c.ranges < 1) ⊎ (c.bytes < 256) → FewerThan n b
few_then n b c s h = elim h [ inl r ↦ inl (omega (arith, r, s.ranges_most)) | inr r ↦ inr (omega (arith, r, s.bytes_most)) ]

pub spent_then : (n : ℕ) (a b c : Budget) → IsSpent n n a b → IsSpent 1 256 b c → IsSpent (n + 1) (n + 256) a c
spent_then n a b c s r = record { ranges_most = omega (arith, s.ranges_most, r.ranges_most); ranges_least = omega (arith, s.ranges_least, r.ranges_least); bytes_most = omega (arith, s.bytes_most, r.bytes_most); bytes_least = omega (arith, s.bytes_least, r.bytes_least) }

pub spent_none : (n k : ℕ) (a b : Budget) → b ≡ a → IsSpent n k a b
spent_none n k a b e = let r = ap (λ (z : Budget). z.ranges) e in let s = ap (λ (z : Budget). z.bytes) e in record { ranges_most = omega (arith, r); ranges_least = omega (arith, r); bytes_most = omega (arith, s); bytes_least = omega (arith, s) }

pub few_removed : (n : ℕ) (t : Shape) (b : Budget) → TooFew t b → FewerToRemove n t b
few_removed n t b h d few = elim (h d few) [ inl r ↦ inl (omega (arith, r)) | inr r ↦ inr (omega (arith, r)) ]

pub few_given : (n : ℕ) (t : Shape) (b c : Budget) → StagesAtMost 8 16 t b c → HasFewer n n c → FewerToRemove n t b
few_given n t b c s h d few =
    let r = s d few in
    elim h [ inl x ↦ inl (omega (arith, x, r.ranges_most)) | inr x ↦ inr (omega (arith, x, r.bytes_most)) ]

pub stages_given : (n : ℕ) (t : Shape) (a b c : Budget) → StagesAtMost 8 16 t a b → IsSpent n n b c → StagesToRemove n t a c
stages_given n t a b c r s d few =
    let x = r d few in
    record { ranges_most = omega (arith, s.ranges_most, x.ranges_most); ranges_least = omega (arith, s.ranges_least, x.ranges_least); bytes_most = omega (arith, s.bytes_most, x.bytes_most); bytes_least = omega (arith, s.bytes_least, x.bytes_least) }

module _ (a : AttemptId) (fits : IsAttempt a) (m : Blocks) (g : Entries) (h : Holds entries_owner m g) where
  pub mark_found : option_and_then entry_in (value_of (entry_at (attempt_key a) (entries g.0))) ≡ option_map mark_of (find (is_at a) (things g))
  mark_found =
      let leads = h.here.1.leads in
      ap (option_and_then entry_in) (value_found entry_level (attempt_key a) (is_at a) (tells_at a fits) (entries g.0) g.1 leads h.here.1.rises)
      ∙ read_option (find (is_at a) (things g)) (λ s. entry_value (mark_of s)) entry_in mark_of (λ s e. entries_exact.again (mark_of s) (found_good entry_level (is_at a) g.1 s (all_good entry_level (entries g.0) g.1 leads) e).mark)

  pub said : (mark : EntryMark) → Some mark ≡ option_map mark_of (find (is_at a) (things g)) → Says mark_of (is_at a) mark (things g)
  said mark e = says mark_of (is_at a) mark (things g) (sym e)

  spot_of : (mark : EntryMark) (s : Says mark_of (is_at a) mark (things g)) → (e : Entry) × Spot entry_level (attempt_key a) (is_at a) (entries g.0) g.1 e s.thing
  spot_of mark s = spot_at entry_level (attempt_key a) (is_at a) (tells_at a fits) m g s.thing h s.found

  pub key_there : (mark : EntryMark) → Says mark_of (is_at a) mark (things g) → (e : Entry) × (entry_at (attempt_key a) (entries g.0) ≡ Some e)
  key_there mark s = let spot = spot_of mark s in (spot.0, spot.1.at)

  pub list_there : (mark : EntryMark) (s : Says mark_of (is_at a) mark (things g)) → IsListAt m mark.chain (list_of s.thing)
  list_there mark s =
      let spot = spot_of mark s in
      let mine = spot_stands entry_level (attempt_key a) (is_at a) m g spot.0 s.thing h spot.1 in
      record { holds = record { here = mine.here; apart = mine.apart }; first_is = ap (λ (z : EntryMark). z.chain) (sym s.mark_is) }

  pub list_left : (n : Blocks) (root : ℕ) (mark : EntryMark) (s : Says mark_of (is_at a) mark (things g)) → ((e : Entry) → entry_at (attempt_key a) (entries g.0) ≡ Some e → Removes m 7 g.0 (attempt_key a) e n root) → IsListAt n mark.chain (list_of s.thing)
  list_left n root mark s gone =
      let spot = spot_of mark s in
      let mine = still_thing entry_level (attempt_key a) (is_at a) m n g spot.0 s.thing root h spot.1 (gone spot.0 spot.1.at) in
      record { holds = record { here = mine.here; apart = mine.apart }; first_is = ap (λ (z : EntryMark). z.chain) (sym s.mark_is) }

  -- the tree stands where the list was given back
  pub tree_left : (n : Blocks) (mark : EntryMark) (s : Says mark_of (is_at a) mark (things g)) (root : ℕ) → root ≡ hung_root g → Changed (maybe chain_owner) m (Some (list_of s.thing)) n None → IsTree n 7 root g.0
  tree_left n mark s root at c =
      let spot = spot_of mark s in
      is_tree_on m n 7 root g.0 (λ q own. elim (cases_lt 0 (times q s.thing.blocks)) [
        | inl mine ↦ absurd (omega (arith, own, spot_apart entry_level (attempt_key a) (is_at a) m g spot.0 s.thing h spot.1 q mine))
        | inr none ↦ c.outside q (omega (arith, none)) (times_none q)
      ]) (hung_tree entry_level m root g h at)

  -- ---- nothing to change

  pub same_still : (n : Blocks) (root : ℕ) (R : List Listing → List Listing → Type 0) → n ≡ m → root ≡ hung_root g → R (listings g) (listings g) → Becomes entries_owner hung_root listings m g n root R
  same_still n root R same at r = record { now = g; changed = subst (λ z. Changed entries_owner m g z g) (sym same) (stays entries_owner m g h); root_is = at; shown_is = r }

  none_at : None ≡ option_map mark_of (find (is_at a) (things g)) → list_any (is_at a) (things g) ≡ false
  none_at e = says_none mark_of (is_at a) (things g) e

  mapped_same : (f : Stored → Stored) (f2 : Listing → Listing) → ((s : Stored) → listing_of (f s) ≡ f2 (listing_of s)) → None ≡ option_map mark_of (find (is_at a) (things g)) → listings g ≡ map_those (is_listing_at a) f2 (listings g)
  mapped_same f f2 same e = ap (map listing_of) (sym (mapped_none (is_at a) f (things g) (none_at e))) ∙ shown_changed listing_of (is_listing_at a) f f2 same true (things g)

  pub none_ended : (commits : Bool) → None ≡ option_map mark_of (find (is_at a) (things g)) → IsEndedAt commits a (listings g) (listings g)
  unfolding ended_stored
  none_ended commits e = mapped_same (ended_stored commits) (ended commits) (λ s. refl) e

  pub none_confirmed : (t : ℕ) → None ≡ option_map mark_of (find (is_at a) (things g)) → IsConfirmedAt a t (listings g) (listings g)
  unfolding confirmed_stored
  none_confirmed t e = mapped_same (confirmed_stored t) (confirmed_by t) (λ s. refl) e

  pub none_gone : None ≡ option_map mark_of (find (is_at a) (things g)) → IsGoneAt a (listings g) (listings g)
  unfolding ended_stored
  none_gone e = ap (map listing_of) (sym (without_none (is_at a) (things g) (none_at e))) ∙ shown_changed listing_of (is_listing_at a) (ended_stored true) (ended true) (λ s. refl) false (things g)

  pub none_freed : (size : Stored → ℕ) → None ≡ option_map mark_of (find (is_at a) (things g)) → sum_those (is_at a) size (things g) ≡ 0
  none_freed size e = sum_none (is_at a) size (things g) (none_at e)

  pub one_freed : (size : Stored → ℕ) (mark : EntryMark) (s : Says mark_of (is_at a) mark (things g)) → sum_those (is_at a) size (things g) ≡ size s.thing
  one_freed size mark s =
      let spot = (spot_of mark s).1 in
      ap (sum_those (is_at a) size) spot.things_are ∙ sum_spot (is_at a) size spot.left s.thing spot.right spot.none_left spot.passes spot.none_right

  -- ---- one more

  pub entry_added : (n o : Blocks) (root first : ℕ) (e : stored_entry.Entry) (nodes : List ℕ) → e.attempt ≡ a → AreListed nodes → has_entry_at a (things g) ≡ false → IsEntryMark (mark_with e first) → MadeChain m (list_bytes nodes) n first → Inserts n 7 g.0 (attempt_key a) (entry_value (mark_with e first)) o root
      → Becomes entries_owner hung_root listings m g o root (HasMore (record { entry = e; nodes = nodes }))
  entry_added n o root first e nodes is listed none good made i =
      let s : Stored = record { entry = e; nodes = nodes; blocks = made.blocks } in
      let first_is = made.first_is in
      let good2 : IsEntryMark (mark_of s) = subst (λ z. IsEntryMark (mark_with e z)) first_is good in
      let i2 : Inserts n 7 g.0 (attempt_key e.attempt) (entry_value (mark_of s)) o root = subst (λ z. Inserts n 7 g.0 (attempt_key z) (entry_value (mark_of s)) o root) (sym is) (subst (λ z. Inserts n 7 g.0 (attempt_key a) (entry_value (mark_with e z)) o root) first_is i) in
      let missing : entry_at (attempt_key e.attempt) (entries g.0) ≡ None = ap (λ z. entry_at (attempt_key z) (entries g.0)) is ∙ missing_key entry_level (attempt_key a) (is_at a) (tells_at a fits) m g h none in
      becomes_shown things (HasMore s) listings (HasMore (listing_of s)) (λ x more. more_listings s (things g) (things x) more)
      (hung_more entry_level m n o g s root h (made_part list_of chain_owner m n s made.changed) (record { attempt = subst IsAttempt (sym is) fits; mark = good2; listed = listed }) missing i2)

  -- ---- committed, confirmed, removed

  pub entry_ended : (commits : Bool) (n o : Blocks) (root : ℕ) (mark : EntryMark) (s : Says mark_of (is_at a) mark (things g)) → Changed (maybe chain_owner) m (Some (list_of s.thing)) n None → ((e : Entry) → entry_at (attempt_key a) (entries g.0) ≡ Some e → Puts n 7 g.0 (attempt_key a) (entry_value (ended_mark commits mark)) o root)
      → Becomes entries_owner hung_root listings m g o root (IsEndedAt commits a)
  unfolding ended_stored
  entry_ended commits n o root mark s c puts =
      let spot = spot_of mark s in
      let good = spot.1.leads.good in
      let value : entry_value (ended_mark commits mark) ≡ entry_value (mark_of (ended_stored commits s.thing)) = ap (λ z. entry_value (ended_mark commits z)) (sym s.mark_is) in
      let put = subst (λ z. Puts n 7 g.0 (attempt_key a) z o root) value (puts spot.0 spot.1.at) in
      let gone : Changed entry_level.owner m s.thing n (ended_stored commits s.thing) = record { holds = record { here = refl; apart = c.holds.apart }; outside = c.outside; taken = c.taken; given = c.given } in
      let fine : IsStored (ended_stored commits s.thing) = record { attempt = good.attempt; mark = record { leader = good.mark.leader; members = good.mark.members; confirmed = good.mark.confirmed; epoch = good.mark.epoch; chain = omega arith; listed = no_chain (commits || s.thing.entry.committed) }; listed = tt } in
      becomes_shown things (λ xs ys. ys ≡ map_those (is_at a) (ended_stored commits) xs) listings (IsEndedAt commits a) (λ x e. ap (map listing_of) e ∙ shown_changed listing_of (is_listing_at a) (ended_stored commits) (ended commits) (λ z. refl) true (things g))
      (hung_other entry_level (attempt_key a) (is_at a) (ended_stored commits) m n o g spot.0 s.thing root h spot.1 gone refl fine put)

  pub entry_confirmed : (o : Blocks) (root t : ℕ) (mark : EntryMark) (s : Says mark_of (is_at a) mark (things g)) → bit_or mark.confirmed (2 ^ t) < 2 ^ 64 → ((e : Entry) → entry_at (attempt_key a) (entries g.0) ≡ Some e → Puts m 7 g.0 (attempt_key a) (entry_value (confirmed_mark t mark)) o root)
      → Becomes entries_owner hung_root listings m g o root (IsConfirmedAt a t)
  unfolding confirmed_stored
  entry_confirmed o root t mark s low puts =
      let spot = spot_of mark s in
      let good = spot.1.leads.good in
      let value : entry_value (confirmed_mark t mark) ≡ entry_value (mark_of (confirmed_stored t s.thing)) = ap (λ z. entry_value (confirmed_mark t z)) (sym s.mark_is) in
      let put = subst (λ z. Puts m 7 g.0 (attempt_key a) z o root) value (puts spot.0 spot.1.at) in
      let stood = stays_part list_of chain_owner m s.thing (confirmed_stored t s.thing) refl (spot_stands entry_level (attempt_key a) (is_at a) m g spot.0 s.thing h spot.1) in
      let few : bit_or s.thing.entry.confirmed (2 ^ t) < 2 ^ 64 = subst (λ (z : EntryMark). bit_or z.confirmed (2 ^ t) < 2 ^ 64) (sym s.mark_is) low in
      let fine : IsStored (confirmed_stored t s.thing) = record { attempt = good.attempt; mark = record { leader = good.mark.leader; members = good.mark.members; confirmed = few; epoch = good.mark.epoch; chain = good.mark.chain; listed = good.mark.listed }; listed = good.listed } in
      becomes_shown things (λ xs ys. ys ≡ map_those (is_at a) (confirmed_stored t) xs) listings (IsConfirmedAt a t) (λ x e. ap (map listing_of) e ∙ shown_changed listing_of (is_listing_at a) (confirmed_stored t) (confirmed_by t) (λ z. refl) true (things g))
      (hung_other entry_level (attempt_key a) (is_at a) (confirmed_stored t) m m o g spot.0 s.thing root h spot.1 stood refl fine put)

  pub entry_gone : (n o : Blocks) (root : ℕ) (mark : EntryMark) (s : Says mark_of (is_at a) mark (things g)) → ((e : Entry) → entry_at (attempt_key a) (entries g.0) ≡ Some e → Removes m 7 g.0 (attempt_key a) e n root) → Changed (maybe chain_owner) n (Some (list_of s.thing)) o None
      → Becomes entries_owner hung_root listings m g o root (IsGoneAt a)
  unfolding ended_stored
  entry_gone n o root mark s gone c =
      let spot = spot_of mark s in
      becomes_shown things (λ xs ys. ys ≡ without_those (is_at a) xs) listings (IsGoneAt a) (λ x e. ap (map listing_of) e ∙ shown_changed listing_of (is_listing_at a) (ended_stored true) (ended true) (λ z. refl) false (things g))
      (hung_less entry_level (attempt_key a) (is_at a) m n o g spot.0 s.thing root h spot.1 (gone spot.0 spot.1.at) (given_part list_of chain_owner n o s.thing c))
