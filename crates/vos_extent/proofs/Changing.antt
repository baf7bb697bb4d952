-- An extent comes, becomes done, or goes.
use Rattle.std.proofs.Common.{◌≡◌, ℕ, ◌≤◌, true, false, None, List, [], ◌∷◌, ◌++◌, length, map, refl, sym, ap, ◌∙◌, subst, arith}
use Rattle.std.proofs.lemmas.Bool.Decides.{nat_tests}
use Rattle.base_types.specs.declared.id.AttemptId.{AttemptId}
use Rattle.pmem_pages.specs.Blocks.{Blocks}
use Rattle.pmem_pages.specs.Owners.{Holds}
use Rattle.pmem_pages.specs.Shape.{entries, entry_at}
use Rattle.pmem_pages.specs.declared.node.TreeKey.{TreeKey}
use Rattle.vos_values.specs.declared.keys.ExtentKey.{ExtentKey}
use Rattle.vos_values.specs.Keys.{IsAttempt, IsExtentKey, extent_key}
use Rattle.vos_values.specs.Values.{is_length}
use Rattle.vos_moments.specs.vos_levels.declared.change.Change.{Change}
use Rattle.vos_moments.specs.vos_levels.Calls.{Becomes}
use Rattle.vos_moments.specs.vos_levels.Changes.{changed_by, keeps}
use Rattle.vos_moments.specs.vos_levels.Levels.{HasMore, hung_root, things}
use Rattle.vos_moments.proofs.vos_levels.Settling.{becomes_shown, missing_key, shown_changed, shown_freed}
use Rattle.vos_versions.specs.Marks.{Adds, Changes, HasBytesAt, freed_of, mark_at}
use Rattle.vos_versions.proofs.Levels.{HasMade, Versions, has_bytes, taken_of, versions_changed, versions_freed, versions_more}
use Rattle.vos_extent.specs.Extents.{IsChangedAt, IsStored, Extents, Stored, blocks_of_extent, chain_of, done_stored, done_extent, freed_at, has_extent_at, is_at, is_taken, key_of_stored, mark_of, new_extent, extent_level, extent_owner, extent_of, extents}
use Rattle.vos_extent.proofs.Places.{tells_at}

done_good : (s : Stored) → IsStored s → IsStored (done_stored s)
done_good s h = record { place = h.place; mark = record { by = h.mark.by; length = h.mark.length; chain = h.mark.chain } }

-- how extents stand in their tree
abbrev extent_versions : Versions Stored
extent_versions = record {
  kind = 6;
  key = key_of_stored;
  mark = mark_of;
  chain = chain_of;
  done = done_stored;
  Good = IsStored;
  mark_good = λ s h. h.mark;
  first_is = λ s. refl;
  count_is = λ s. refl;
  done_key = λ s. refl;
  done_chain = λ s. refl;
  done_mark_is = λ s. refl;
  done_good = done_good;
}

pub missing_at : (at : ExtentKey) (key : TreeKey) (m : Blocks) (g : Extents) → IsExtentKey at → key ≡ extent_key at → Holds extent_owner m g → has_extent_at at (things g) ≡ false → entry_at key (entries g.0) ≡ None
missing_at at key m g place is h none = ap (λ k. entry_at k (entries g.0)) is ∙ missing_key extent_level (extent_key at) (is_at at) (tells_at at place) m g h none

-- ---- one more

-- the extent that was written
abbrev stored_with : ExtentKey → AttemptId → List ℕ → List ℕ → Stored
stored_with m by bytes blocks = record { extent = new_extent m by bytes; blocks = blocks }

length_is : (n : ℕ) → 1 ≤ n → n ≤ 1024 → is_length n ≡ true
length_is n some most = grind (arith, nat_tests)

map_append : (xs ys : List Stored) → map extent_of (xs ++ ys) ≡ map extent_of xs ++ map extent_of ys
map_append [] ys = refl
map_append (x ∷ xs) ys = ap (λ z. extent_of x ∷ z) (map_append xs ys)

more_extents : (s : Stored) (xs ys : List Stored) → HasMore s xs ys → HasMore (extent_of s) (map extent_of xs) (map extent_of ys)
more_extents s xs ys h = record {
  left = map extent_of h.left;
  right = map extent_of h.right;
  before_is = ap (map extent_of) h.before_is ∙ map_append h.left h.right;
  after_is = ap (map extent_of) h.after_is ∙ map_append h.left (s ∷ h.right);
}

pub extent_added : (m o : Blocks) (g : Extents) (at : ExtentKey) (by : AttemptId) (bytes : List ℕ) (kind root : ℕ) (key : TreeKey)
    → kind ≡ 6 → IsExtentKey at → IsAttempt by → 1 ≤ length bytes → length bytes ≤ 1024 → key ≡ extent_key at → Holds extent_owner m g → has_extent_at at (things g) ≡ false → Adds m kind g.0 key by bytes o root
    → Becomes extent_owner hung_root extents m g o root (HasMore (new_extent at by bytes))
extent_added m o g at by bytes kind root key k place attempt some most is h none adds =
    let adds2 : Adds m 6 g.0 (extent_key at) by bytes o root = subst (λ z. Adds m 6 g.0 z by bytes o root) is (subst (λ z. Adds m z g.0 key by bytes o root) k adds) in
    becomes_shown things (HasMade (stored_with at by bytes)) extents (HasMore (new_extent at by bytes)) (λ x more. more_extents (stored_with at by bytes more.0) (things g) (things x) more.1)
    (versions_more extent_versions (extent_key at) (is_at at) (tells_at at place) m g h (stored_with at by bytes) by bytes o root (λ bs. refl) (λ bs. refl) (λ bs. refl)
    (λ bs low. record { place = place; mark = record { by = attempt; length = length_is (length bytes) some most; chain = low } }) none adds2)

-- ---- settled or pruned

pub bytes_there : (m : Blocks) (g : Extents) (at : ExtentKey) (key : TreeKey) → IsExtentKey at → key ≡ extent_key at → Holds extent_owner m g → HasBytesAt m g.0 key
bytes_there m g at key place is h = subst (λ z. HasBytesAt m g.0 z) (sym is) (has_bytes extent_versions (extent_key at) (is_at at) (tells_at at place) m g h)

pub extent_changed : (m o : Blocks) (g : Extents) (at : ExtentKey) (c : Change) (kind root : ℕ) (key : TreeKey) → kind ≡ 6 → IsExtentKey at → key ≡ extent_key at → Holds extent_owner m g → Changes c (mark_at key (entries g.0)) m kind g.0 key o root
    → Becomes extent_owner hung_root extents m g o root (IsChangedAt c at)
extent_changed m o g at c kind root key k place is h made =
    let made2 : Changes c (mark_at (extent_key at) (entries g.0)) m 6 g.0 (extent_key at) o root = subst (λ z. Changes c (mark_at z (entries g.0)) m 6 g.0 z o root) is (subst (λ z. Changes c (mark_at key (entries g.0)) m z g.0 key o root) k made) in
    becomes_shown things (λ xs ys. ys ≡ changed_by (keeps c) (taken_of extent_versions c (is_at at)) done_stored xs) extents (IsChangedAt c at)
    (λ x e. ap (map extent_of) e ∙ shown_changed extent_of (is_taken c at) done_stored done_extent (λ s. refl) (keeps c) (things g))
    (versions_changed extent_versions (extent_key at) (is_at at) (tells_at at place) m g h c o root made2)

pub extent_freed : (m : Blocks) (g : Extents) (at : ExtentKey) (c : Change) (key : TreeKey) → IsExtentKey at → key ≡ extent_key at → Holds extent_owner m g → freed_of c (mark_at key (entries g.0)) ≡ freed_at c at (extents g)
extent_freed m g at c key place is h =
    ap (λ k. freed_of c (mark_at k (entries g.0))) is
    ∙ (versions_freed extent_versions (extent_key at) (is_at at) (tells_at at place) m g h c
    ∙ sym (shown_freed extent_of (is_taken c at) blocks_of_extent (keeps c) (things g)))
