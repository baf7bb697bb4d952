-- A version of a single value comes, becomes done, or goes.
use Rattle.std.proofs.Common.{◌≡◌, ℕ, ◌≤◌, true, false, None, List, [], ◌∷◌, ◌++◌, length, map, refl, sym, ap, ◌∙◌, subst, arith}
use Rattle.std.proofs.lemmas.Bool.Decides.{nat_tests}
use Rattle.base_types.specs.declared.id.AttemptId.{AttemptId}
use Rattle.pmem_pages.specs.Blocks.{Blocks}
use Rattle.pmem_pages.specs.Owners.{Holds}
use Rattle.pmem_pages.specs.Shape.{entries, entry_at}
use Rattle.pmem_pages.specs.declared.node.TreeKey.{TreeKey}
use Rattle.vos_values.specs.declared.keys.Moment.{Moment}
use Rattle.vos_values.specs.Keys.{IsAttempt, IsMoment, moment_key}
use Rattle.vos_values.specs.Values.{is_length}
use Rattle.vos_moments.specs.vos_levels.declared.change.Change.{Change}
use Rattle.vos_moments.specs.vos_levels.Calls.{Becomes}
use Rattle.vos_moments.specs.vos_levels.Changes.{changed_by, keeps}
use Rattle.vos_moments.specs.vos_levels.Levels.{HasMore, hung_root, things}
use Rattle.vos_moments.proofs.vos_levels.Settling.{becomes_shown, missing_key, shown_changed, shown_freed}
use Rattle.vos_versions.specs.Marks.{Adds, Changes, HasBytesAt, freed_of, mark_at}
use Rattle.vos_versions.proofs.Levels.{HasMade, Versions, has_bytes, taken_of, versions_changed, versions_freed, versions_more}
use Rattle.vos_single.specs.Singles.{IsChangedAt, IsStored, Singles, Stored, blocks_of_version, chain_of, done_stored, done_version, freed_at, has_version_at, is_at, is_taken, key_of_stored, mark_of, new_version, single_level, single_owner, version_of, versions}
use Rattle.vos_single.proofs.Reading.{tells_at}

pub done_good : (s : Stored) → IsStored s → IsStored (done_stored s)
done_good s h = record { moment = h.moment; mark = record { by = h.mark.by; length = h.mark.length; chain = h.mark.chain } }

-- how versions of a single value stand in their tree
abbrev pub single_versions : Versions Stored
single_versions = record {
  kind = 5;
  key = key_of_stored;
  mark = mark_of;
  chain = chain_of;
  done = done_stored;
  Good = IsStored;
  mark_good = λ s h. h.mark;
  first_is = λ s. refl;
  count_is = λ s. refl;
  done_key = λ s. refl;
  done_chain = λ s. refl;
  done_mark_is = λ s. refl;
  done_good = done_good;
}

pub missing_at : (at : Moment) (key : TreeKey) (m : Blocks) (g : Singles) → IsMoment at → key ≡ moment_key at → Holds single_owner m g → has_version_at at (things g) ≡ false → entry_at key (entries g.0) ≡ None
missing_at at key m g moment is h none = ap (λ k. entry_at k (entries g.0)) is ∙ missing_key single_level (moment_key at) (is_at at) (tells_at at moment) m g h none

-- ---- one more

-- the version that was written
abbrev stored_with : Moment → AttemptId → List ℕ → List ℕ → Stored
stored_with m by bytes blocks = record { version = new_version m by bytes; blocks = blocks }

length_is : (n : ℕ) → 1 ≤ n → n ≤ 1024 → is_length n ≡ true
length_is n some most = grind (arith, nat_tests)

map_append : (xs ys : List Stored) → map version_of (xs ++ ys) ≡ map version_of xs ++ map version_of ys
map_append [] ys = refl
map_append (x ∷ xs) ys = ap (λ z. version_of x ∷ z) (map_append xs ys)

more_versions : (s : Stored) (xs ys : List Stored) → HasMore s xs ys → HasMore (version_of s) (map version_of xs) (map version_of ys)
more_versions s xs ys h = record {
  left = map version_of h.left;
  right = map version_of h.right;
  before_is = ap (map version_of) h.before_is ∙ map_append h.left h.right;
  after_is = ap (map version_of) h.after_is ∙ map_append h.left (s ∷ h.right);
}

pub version_added : (m o : Blocks) (g : Singles) (at : Moment) (by : AttemptId) (bytes : List ℕ) (kind root : ℕ) (key : TreeKey)
    → kind ≡ 5 → IsMoment at → IsAttempt by → 1 ≤ length bytes → length bytes ≤ 1024 → key ≡ moment_key at → Holds single_owner m g → has_version_at at (things g) ≡ false → Adds m kind g.0 key by bytes o root
    → Becomes single_owner hung_root versions m g o root (HasMore (new_version at by bytes))
version_added m o g at by bytes kind root key k moment attempt some most is h none adds =
    let adds2 : Adds m 5 g.0 (moment_key at) by bytes o root = subst (λ z. Adds m 5 g.0 z by bytes o root) is (subst (λ z. Adds m z g.0 key by bytes o root) k adds) in
    becomes_shown things (HasMade (stored_with at by bytes)) versions (HasMore (new_version at by bytes)) (λ x more. more_versions (stored_with at by bytes more.0) (things g) (things x) more.1)
    (versions_more single_versions (moment_key at) (is_at at) (tells_at at moment) m g h (stored_with at by bytes) by bytes o root (λ bs. refl) (λ bs. refl) (λ bs. refl)
    (λ bs low. record { moment = moment; mark = record { by = attempt; length = length_is (length bytes) some most; chain = low } }) none adds2)

-- ---- settled or pruned

pub bytes_there : (m : Blocks) (g : Singles) (at : Moment) (key : TreeKey) → IsMoment at → key ≡ moment_key at → Holds single_owner m g → HasBytesAt m g.0 key
bytes_there m g at key moment is h = subst (λ z. HasBytesAt m g.0 z) (sym is) (has_bytes single_versions (moment_key at) (is_at at) (tells_at at moment) m g h)

pub version_changed : (m o : Blocks) (g : Singles) (at : Moment) (c : Change) (kind root : ℕ) (key : TreeKey) → kind ≡ 5 → IsMoment at → key ≡ moment_key at → Holds single_owner m g → Changes c (mark_at key (entries g.0)) m kind g.0 key o root
    → Becomes single_owner hung_root versions m g o root (IsChangedAt c at)
version_changed m o g at c kind root key k moment is h made =
    let made2 : Changes c (mark_at (moment_key at) (entries g.0)) m 5 g.0 (moment_key at) o root = subst (λ z. Changes c (mark_at z (entries g.0)) m 5 g.0 z o root) is (subst (λ z. Changes c (mark_at key (entries g.0)) m z g.0 key o root) k made) in
    becomes_shown things (λ xs ys. ys ≡ changed_by (keeps c) (taken_of single_versions c (is_at at)) done_stored xs) versions (IsChangedAt c at)
    (λ x e. ap (map version_of) e ∙ shown_changed version_of (is_taken c at) done_stored done_version (λ s. refl) (keeps c) (things g))
    (versions_changed single_versions (moment_key at) (is_at at) (tells_at at moment) m g h c o root made2)

pub version_freed : (m : Blocks) (g : Singles) (at : Moment) (c : Change) (key : TreeKey) → IsMoment at → key ≡ moment_key at → Holds single_owner m g → freed_of c (mark_at key (entries g.0)) ≡ freed_at c at (versions g)
version_freed m g at c key moment is h =
    ap (λ k. freed_of c (mark_at k (entries g.0))) is
    ∙ (versions_freed single_versions (moment_key at) (is_at at) (tells_at at moment) m g h c
    ∙ sym (shown_freed version_of (is_taken c at) blocks_of_version (keeps c) (things g)))
