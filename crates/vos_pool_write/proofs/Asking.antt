-- What is asked of what a pool keeps says what is asked of what stands in it.
use Rattle.std.specs.Prelude.{◌≢◌, All, filter, find, if◌then◌else◌, ◌||◌, IsTrue, slice_index}
use Rattle.std.specs.List.{list_any}
use Rattle.std.specs.List.Sorted.{IsStrictlyIncreasing}
use Rattle.std.specs.Option.{ForSome}
use Rattle.std.proofs.Common.{◌≡◌, ℕ, suc, ◌+◌, ◌<◌, ◌≤◌, Bool, true, false, List, [], ◌∷◌, map, Some, None, refl, sym, ap, ◌∙◌, subst, arith}
use Rattle.std.proofs.lemmas.List.Elements.{All-cons, All-head, All-nil, All-tail}
use Rattle.base_outside.specs.Images.{Image}
use Rattle.base_types.specs.declared.entry.Entry.{Entry}
use Rattle.base_types.specs.declared.id.AttemptId.{AttemptId}
use Rattle.base_types.specs.declared.operation.MinorWrite.{MinorWrite}
use Rattle.base_types.specs.declared.operation.Write.{Write}
use Rattle.base_types.specs.declared.operation.Write.TheVariants.{Extent, PunchAkey, PunchDkey, PunchObject, Single}
use Rattle.daos_model.specs.declared.durable.Version.{Version}
use Rattle.daos_model.specs.Answers.{is_before}
use Rattle.daos_model.specs.Blocks.{blocks, write_blocks}
use Rattle.daos_model.specs.Durables.{entry_key, entry_of, is_entry_of, same_attempt, version_key}
use Rattle.daos_model.specs.Forms.{minor_of}
use Rattle.daos_model.specs.Ordered.{in_order, put}
use Rattle.daos_model.specs.Versions.{version_of, versions_of}
use Rattle.pmem_undo.specs.Layout.{gate}
use Rattle.vos_commits.specs.Kept.{kept_in}
use Rattle.vos_entries.specs.Entries.{Stored as StoredEntry, entries_in, entry_of as entry_in, has_entry_at, is_at}
use Rattle.vos_image.specs.Kept.{Stored, counts, durable_of, kept}
use Rattle.vos_levels.specs.Levels.{things}
use Rattle.vos_path.specs.Objects.{objects_versions}
use Rattle.vos_places.specs.Tables.{places_of}
use Rattle.vos_pool_base.specs.Pool.{OpenedState, kept_by, kept_of}
use Rattle.vos_pool_base.specs.Tidy.{AllCount, IsTidy}
use Rattle.vos_pool_write.specs.Asked.{IsUnwritten}
use Rattle.vos_pool_write.specs.Lists.{AreNew}
use Rattle.vos_pool_write.specs.Preparing.{HasNoneOf}
use Rattle.vos_pool_write.specs.Several.{sum_at_most}
use Rattle.vos_pool_write.specs.Written.{blocks_at_most}
use Rattle.vos_pool_write.proofs.Lists.{filter_all}
use Rattle.vos_pool_base.proofs.vos_standing.Committed.{closed_it_is_kept}
use Rattle.vos_tables.proofs.Places.{any_in_order}

-- ---- entries

none_found : {A : Type 0} (p : A → Bool) (xs : List A) → find p xs ≡ None → list_any p xs ≡ false
none_found p [] h = refl
none_found p (x ∷ xs) h = by (p x) refl (none_found p xs)
  where
    by : (t : Bool) → p x ≡ t → (find p xs ≡ None → list_any p xs ≡ false) → list_any p (x ∷ xs) ≡ false
    by true is more = let some : find p (x ∷ xs) ≡ Some x = rw is refl in let no : Some x ≡ None = sym some ∙ h in let never : ⊥ = cc in absurd never
    by false is more = let rest : find p (x ∷ xs) ≡ find p xs = rw is refl in rw is (more (sym rest ∙ h))

any_entries : (a : AttemptId) (xs : List StoredEntry) → list_any (is_entry_of a) (map entry_in xs) ≡ has_entry_at a xs
unfolding same_attempt
any_entries a [] = refl
any_entries a (s ∷ xs) = ap (λ (b : Bool). is_at a s || b) (any_entries a xs)

-- ---- versions

module _ {A : Type 0} (key : A → List ℕ) (P : A → Type 0) where
  all_put : (v : A) (us : List A) → All P (put key v us) → P v × All P us
  all_put v [] h = (All-head P v [] h, All-nil P)
  all_put v (u ∷ us) h = by (is_before (key u) (key v)) refl (all_put v us)
    where
      by : (t : Bool) → is_before (key u) (key v) ≡ t → (All P (put key v us) → P v × All P us) → P v × All P (u ∷ us)
      by true is more =
          let k = subst (All P) (ap (λ (b : Bool). if b then u ∷ put key v us else v ∷ u ∷ us) is) h in
          let rest = more (All-tail P u (put key v us) k) in
          (rest.0, All-cons P u us (All-head P u (put key v us) k) rest.1)
      by false is more =
          let k = subst (All P) (ap (λ (b : Bool). if b then u ∷ put key v us else v ∷ u ∷ us) is) h in
          (All-head P v (u ∷ us) k, All-tail P v (u ∷ us) k)

  all_ordered : (vs : List A) → All P (in_order key vs) → All P vs
  unfolding in_order
  all_ordered [] h = All-nil P
  all_ordered (v ∷ vs) h = let k = all_put v (in_order key vs) h in All-cons P v vs k.0 (all_ordered vs k.1)

rising_rest : (x : ℕ) (xs : List ℕ) → IsStrictlyIncreasing (x ∷ xs) → IsStrictlyIncreasing xs
rising_rest x xs h k low = let e : suc k + 1 ≡ suc (k + 1) = omega arith in subst (λ (n : ℕ). slice_index (x ∷ xs) (suc k) < slice_index (x ∷ xs) n) e (h (suc k) (omega (arith, low)))

all_above : (x : ℕ) (ws : List MinorWrite) → IsStrictlyIncreasing (x ∷ map minor_of ws) → All (λ (w : MinorWrite). x < w.minor) ws
all_above x [] h = All-nil (λ (w : MinorWrite). x < w.minor)
all_above x (w ∷ ws) h =
    let first : x < w.minor = h 0 (omega arith) in
    All-cons (λ (u : MinorWrite). x < u.minor) w ws first (lower ws (all_above w.minor ws (rising_rest x (w.minor ∷ map minor_of ws) h)) first)
  where
    lower : (us : List MinorWrite) → All (λ (u : MinorWrite). w.minor < u.minor) us → x < w.minor → All (λ (u : MinorWrite). x < u.minor) us
    lower [] all low = All-nil (λ (u : MinorWrite). x < u.minor)
    lower (u ∷ us) all low = let one = All-head (λ (z : MinorWrite). w.minor < z.minor) u us all in All-cons (λ (z : MinorWrite). x < z.minor) u us (omega (arith, one, low)) (lower us (All-tail (λ (z : MinorWrite). w.minor < z.minor) u us all) low)

apart_keys : (e : Entry) (w : MinorWrite) (ws : List MinorWrite) → All (λ (u : MinorWrite). w.minor < u.minor) ws → All (λ u. version_key u ≢ version_key (version_of e w)) (versions_of e ws)
apart_keys e w [] h = All-nil (λ u. version_key u ≢ version_key (version_of e w))
apart_keys e w (u ∷ us) h =
    let above = All-head (λ (z : MinorWrite). w.minor < z.minor) u us h in
    All-cons (λ z. version_key z ≢ version_key (version_of e w)) (version_of e u) (versions_of e us) (λ is. let same : u.minor ≡ w.minor = cc in omega (arith, above, same)) (apart_keys e w us (All-tail (λ (z : MinorWrite). w.minor < z.minor) u us h))

new_keys : (e : Entry) (ws : List MinorWrite) (xs : List Version) → IsStrictlyIncreasing (map minor_of ws) → All (λ w. All (λ v. version_key v ≢ version_key (version_of e w)) xs) ws → AreNew version_key (versions_of e ws) xs
new_keys e [] xs rising h = tt
new_keys e (w ∷ ws) xs rising h = (
  All-head (λ w. All (λ v. version_key v ≢ version_key (version_of e w)) xs) w ws h,
  (apart_keys e w ws (all_above w.minor ws rising), new_keys e ws xs (rising_rest w.minor (map minor_of ws) rising) (All-tail (λ w. All (λ v. version_key v ≢ version_key (version_of e w)) xs) w ws h)),
)

each_new : (e : Entry) (ws : List MinorWrite) (x : Stored) → AllCount x → All (λ w. All (λ v. version_key v ≢ version_key (version_of e w)) (in_order version_key (filter (counts (entries_in x.1)) (objects_versions x.0)))) ws → All (λ w. All (λ v. version_key v ≢ version_key (version_of e w)) (objects_versions x.0)) ws
each_new e [] x counted h = All-nil (λ w. All (λ v. version_key v ≢ version_key (version_of e w)) (objects_versions x.0))
each_new e (w ∷ ws) x counted h =
    let kept_ones = in_order version_key (filter (counts (entries_in x.1)) (objects_versions x.0)) in
    All-cons (λ w. All (λ v. version_key v ≢ version_key (version_of e w)) (objects_versions x.0)) w ws
    (all_ordered version_key (λ v. version_key v ≢ version_key (version_of e w)) (objects_versions x.0)
    (subst (λ vs. All (λ v. version_key v ≢ version_key (version_of e w)) (in_order version_key vs)) (filter_all (counts (entries_in x.1)) (objects_versions x.0) counted) (All-head (λ w. All (λ v. version_key v ≢ version_key (version_of e w)) kept_ones) w ws h)))
    (each_new e ws x counted (All-tail (λ w. All (λ v. version_key v ≢ version_key (version_of e w)) kept_ones) w ws h))

-- ---- together

pub has_none : {R : Type 0} (extent : R → ℕ) (image : R → Image) (p : OpenedState R) (e : Entry) (ws : List MinorWrite) → (k : IsTidy (extent p.blocks.undo.region) (image p.blocks.undo.region) p.table) → IsStrictlyIncreasing (map minor_of ws)
    → IsUnwritten e ws (durable_of (record { places = places_of p.table; stored = k.stored })) → HasNoneOf extent image p e ws k.stored
unfolding durable_of entry_of
has_none extent image p e ws k rising h = record {
  stands = k.stands;
  layout = k.layout;
  counted = k.counted;
  unlisted = k.unlisted;
  few = k.few;
  absent =
      sym (any_entries e.attempt (things k.stored.1))
      ∙ (sym (any_in_order entry_key (is_entry_of e.attempt) (entries_in k.stored.1)) ∙ none_found (is_entry_of e.attempt) (in_order entry_key (entries_in k.stored.1)) h.absent);
  new = new_keys e ws (objects_versions k.stored.0) rising (each_new e ws k.stored k.counted h.new);
  leased = let low = h.leased in omega (arith, low);
}

-- ---- blocks

fewer_blocks : (w : Write) → blocks_at_most w < write_blocks w
fewer_blocks (Single p bytes) = omega arith
fewer_blocks (Extent p low bytes) = omega arith
fewer_blocks (PunchObject p) = omega arith
fewer_blocks (PunchDkey p) = omega arith
fewer_blocks (PunchAkey p) = omega arith

pub fewer_than_blocks : (ws : List MinorWrite) → sum_at_most ws + 1 ≤ blocks ws
unfolding blocks
fewer_than_blocks [] = omega arith
fewer_than_blocks (w ∷ ws) = let one = fewer_blocks w.write in let rest = fewer_than_blocks ws in omega (arith, one, rest)

-- ---- what is kept

told_kept : (tells : Bool) (target size : ℕ) (f : Image) → IsTrue tells → kept_by tells target size f ≡ Some (kept_in (kept target size) size f)
told_kept true target size f tell = refl
told_kept false target size f tell = let no : ⊥ = cc in absurd no

pub kept_has_none : {R : Type 0} (extent : R → ℕ) (tells : Bool) (image : R → Image) (p : OpenedState R) (e : Entry) (ws : List MinorWrite) → IsTrue tells → (k : IsTidy (extent p.blocks.undo.region) (image p.blocks.undo.region) p.table) → image p.blocks.undo.region gate ≡ 0
    → IsStrictlyIncreasing (map minor_of ws) → ForSome (kept_of tells extent image p) (IsUnwritten e ws) → (x : Stored) × HasNoneOf extent image p e ws x
kept_has_none extent tells image p e ws tell k closed rising h =
    let size = extent p.blocks.undo.region in
    let f = image p.blocks.undo.region in
    let asked = h (kept_in (kept p.table.header.target size) size f) (told_kept tells p.table.header.target size f tell) in
    (k.stored, has_none extent image p e ws k rising (subst (IsUnwritten e ws) (closed_it_is_kept p.table.header.target size f p.table k.stored closed k.stands) asked))
