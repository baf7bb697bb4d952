-- Levels of versions: those of a single value, and extents.
use Rattle.std.proofs.Common.{◌≡◌, ℕ, ◌+◌, ◌<◌, ◌^◌, ◌&&◌, Bool, true, false, Option, Some, None, List, length, refl, sym, ap, ◌∙◌, subst}
use Rattle.std.specs.Prelude.{if◌then◌else◌}
use Rattle.std.specs.List.{find, list_any}
use Rattle.std.specs.Option.{option_and_then, option_map}
use Rattle.base_types.specs.declared.id.AttemptId.{AttemptId}
use Rattle.pmem_pages.specs.Blocks.{Blocks}
use Rattle.pmem_pages.specs.Owners.{Changed, Holds, maybe}
use Rattle.pmem_pages.specs.Shape.{Entry, entries, entry_at}
use Rattle.pmem_pages.specs.declared.node.TreeKey.{TreeKey}
use Rattle.vos_chain.specs.pmem_tree.Changes.{Inserts, Puts}
use Rattle.vos_chain.specs.vos_values.declared.values.VersionMark.{VersionMark}
use Rattle.vos_chain.specs.vos_values.Values.{IsVersionMark, version_in, version_value}
use Rattle.vos_chain.proofs.vos_values.ValueLaws.{singles_exact}
use Rattle.vos_chain.specs.vos_levels.declared.change.Change.{Change}
use Rattle.vos_chain.specs.vos_levels.Calls.{Becomes}
use Rattle.vos_chain.specs.vos_levels.Changes.{changed_by, freed_by, keeps, takes}
use Rattle.vos_chain.specs.vos_levels.Levels.{HasMore, Hung, Level, TellsKey, hung, hung_root, in_part, map_those, things, without_those}
use Rattle.vos_chain.proofs.vos_levels.Changing.{hung_less, hung_more, hung_other, stays}
use Rattle.vos_chain.proofs.vos_levels.Settling.{Says, becomes_shown, given_part, kept_freed, list_freed, list_gone, list_kept, list_same, made_part, missing_key, none_freed, says, says_none, spot_apart, spot_at, spot_stands, stays_part, still_thing}
use Rattle.vos_chain.proofs.vos_levels.Spots.{Spot, value_found}
use Rattle.vos_chain.proofs.vos_levels.Testing.{all_good, fewer_none, found_good, read_option, spot_none}
use Rattle.vos_chain.specs.Chains.{Chain, chain_owner, first_of}
use Rattle.vos_chain.specs.Made.{IsChainAt, chain_blocks}
use Rattle.vos_chain.proofs.Reading.{first_low}
use Rattle.vos_versions.specs.Marks.{Adds, ByTest, Changes, Drops, HasBytesAt, Same, done_mark, freed_of, mark_at, new_mark}

-- How versions of some kind stand in their tree, with the chains of their bytes, and what each is when done.
pub record Versions (A : Type 0) : Type 1 where
  pub kind : ℕ
  pub key : A → TreeKey
  pub mark : A → VersionMark
  pub chain : A → Chain
  pub done : A → A
  pub Good : A → Type 0
  pub mark_good : (a : A) → Good a → IsVersionMark (mark a)
  pub first_is : (a : A) → (mark a).chain ≡ first_of (chain a).blocks
  pub count_is : (a : A) → (mark a).length ≡ length (chain a).bytes
  pub done_key : (a : A) → key (done a) ≡ key a
  pub done_chain : (a : A) → chain a ≡ chain (done a)
  pub done_mark_is : (a : A) → mark (done a) ≡ done_mark (mark a)
  pub done_good : (a : A) → Good a → Good (done a)

abbrev pub level_of : {A : Type 0} → Versions A → Level A
level_of V = record { kind = V.kind; owner = in_part V.chain chain_owner; key = V.key; value = λ a. version_value (V.mark a); Good = V.Good }

-- a change takes the version of a key
abbrev pub taken_of : {A : Type 0} → Versions A → Change → (A → Bool) → A → Bool
taken_of V c at x = at x && takes c (V.mark x).by (V.mark x).done

-- a list of versions with one more, whose bytes are in some blocks
abbrev pub HasMade : {A : Type 0} → (List ℕ → A) → List A → List A → Type 0
HasMade make xs ys = (blocks : List ℕ) × HasMore (make blocks) xs ys

module _ {A : Type 0} (V : Versions A) (k : TreeKey) (at : A → Bool) (tells : TellsKey (level_of V) k at) (m : Blocks) (g : Hung A) (h : Holds (hung (level_of V)) m g) where
  -- what the tree says of the version of the key
  pub mark_found : mark_at k (entries g.0) ≡ option_map V.mark (find at (things g))
  mark_found =
      let leads = h.here.1.leads in
      let found = value_found (level_of V) k at tells (entries g.0) g.1 leads h.here.1.rises in
      ap (option_and_then version_in) found
      ∙ read_option (find at (things g)) (λ a. version_value (V.mark a)) version_in V.mark (λ a e. singles_exact.again (V.mark a) (V.mark_good a (found_good (level_of V) at g.1 a (all_good (level_of V) (entries g.0) g.1 leads) e)))

  pub says_at : (mark : VersionMark) → mark_at k (entries g.0) ≡ Some mark → Says V.mark at mark (things g)
  says_at mark e = says V.mark at mark (things g) (sym mark_found ∙ e)

  spot_of : (mark : VersionMark) (s : Says V.mark at mark (things g)) → (e : Entry) × Spot (level_of V) k at (entries g.0) g.1 e s.thing
  spot_of mark s = spot_at (level_of V) k at tells m g s.thing h s.found

  chain_at : (n : Blocks) (mark : VersionMark) (s : Says V.mark at mark (things g)) → Holds (level_of V).owner n s.thing → IsChainAt n mark.chain mark.length (V.chain s.thing)
  chain_at n mark s mine = record {
    holds = record { here = mine.here; apart = mine.apart };
    first_is = ap (λ (z : VersionMark). z.chain) (sym s.mark_is) ∙ V.first_is s.thing;
    count_is = ap (λ (z : VersionMark). z.length) (sym s.mark_is) ∙ V.count_is s.thing;
  }

  -- the bytes of a version stand in no block of the tree
  pub has_bytes : HasBytesAt m g.0 k
  has_bytes mark e =
      let s = says_at mark e in
      let spot = spot_of mark s in
      record {
        chain = V.chain s.thing;
        stands = chain_at m mark s (spot_stands (level_of V) k at m g spot.0 s.thing h spot.1);
        apart = spot_apart (level_of V) k at m g spot.0 s.thing h spot.1;
      }

  none_at : None ≡ mark_at k (entries g.0) → (c : Change) → list_any (taken_of V c at) (things g) ≡ false
  none_at e c = fewer_none at (λ x. takes c (V.mark x).by (V.mark x).done) (things g) (says_none V.mark at (things g) (e ∙ mark_found))

  takes_it : (c : Change) (mark : VersionMark) (s : Says V.mark at mark (things g)) (t : Bool) → takes c mark.by mark.done ≡ t → takes c (V.mark s.thing).by (V.mark s.thing).done ≡ t
  takes_it c mark s t e = ap (λ (z : VersionMark). takes c z.by z.done) s.mark_is ∙ e

  none_taken : (c : Change) (mark : VersionMark) → Says V.mark at mark (things g) → takes c mark.by mark.done ≡ false → list_any (taken_of V c at) (things g) ≡ false
  none_taken c mark s e =
      let spot = spot_of mark s in
      spot_none (level_of V) k at (λ x. takes c (V.mark x).by (V.mark x).done) (entries g.0) g.1 spot.0 s.thing spot.1 (takes_it c mark s false e)

  -- ---- one more

  pub versions_more : (make : List ℕ → A) (by : AttemptId) (bytes : List ℕ) (o : Blocks) (root : ℕ) → ((bs : List ℕ) → V.key (make bs) ≡ k) → ((bs : List ℕ) → record { blocks = bs; bytes = bytes } ≡ V.chain (make bs)) → ((bs : List ℕ) → V.mark (make bs) ≡ new_mark by (length bytes) (first_of bs))
      → ((bs : List ℕ) → first_of bs < 2 ^ 32 → V.Good (make bs)) → list_any at (things g) ≡ false → Adds m V.kind g.0 k by bytes o root → Becomes (hung (level_of V)) hung_root things m g o root (HasMade make)
  versions_more make by bytes o root key chain mark good none a =
      let bs = a.made.blocks in
      let made = subst (λ (c : Chain). Changed (maybe chain_owner) m None a.between (Some c)) (chain bs) a.made.changed in
      let value : version_value (new_mark by (length bytes) a.first) ≡ version_value (V.mark (make bs)) = ap (λ z. version_value (new_mark by (length bytes) z)) a.made.first_is ∙ ap version_value (sym (mark bs)) in
      let i : Inserts a.between V.kind g.0 (V.key (make bs)) (version_value (V.mark (make bs))) o root = subst (λ z. Inserts a.between V.kind g.0 z (version_value (V.mark (make bs))) o root) (sym (key bs)) (subst (λ z. Inserts a.between V.kind g.0 k z o root) value a.inserts) in
      let missing : entry_at (V.key (make bs)) (entries g.0) ≡ None = ap (λ z. entry_at z (entries g.0)) (key bs) ∙ missing_key (level_of V) k at tells m g h none in
      becomes_shown things (HasMore (make bs)) things (HasMade make) (λ x more. (bs, more))
      (hung_more (level_of V) m a.between o g (make bs) root h (made_part V.chain chain_owner m a.between (make bs) made) (good bs (first_low a.between bs bytes a.made.changed.holds.here)) missing i)

  -- ---- settled or pruned

  same_still : (c : Change) (o : Blocks) (root : ℕ) → Same m g.0 o root → list_any (taken_of V c at) (things g) ≡ false → Becomes (hung (level_of V)) hung_root things m g o root (λ xs ys. ys ≡ changed_by (keeps c) (taken_of V c at) V.done xs)
  same_still c o root s n = record {
    now = g;
    changed = subst (λ z. Changed (hung (level_of V)) m g z g) (sym s.blocks) (stays (hung (level_of V)) m g h);
    root_is = s.root_is;
    shown_is = list_same (taken_of V c at) V.done (keeps c) (things g) n;
  }

  kept_done : (c : Change) (o : Blocks) (root : ℕ) (mark : VersionMark) (s : Says V.mark at mark (things g)) → takes c mark.by mark.done ≡ true → keeps c ≡ true → ((e : Entry) → entry_at k (entries g.0) ≡ Some e → Puts m V.kind g.0 k (version_value (done_mark mark)) o root)
      → Becomes (hung (level_of V)) hung_root things m g o root (λ xs ys. ys ≡ changed_by (keeps c) (taken_of V c at) V.done xs)
  kept_done c o root mark s taken kept puts =
      let spot = spot_of mark s in
      let value : version_value (done_mark mark) ≡ version_value (V.mark (V.done s.thing)) = ap (λ z. version_value (done_mark z)) (sym s.mark_is) ∙ ap version_value (sym (V.done_mark_is s.thing)) in
      let put = subst (λ z. Puts m V.kind g.0 k z o root) value (puts spot.0 spot.1.at) in
      let stood = stays_part V.chain chain_owner m s.thing (V.done s.thing) (V.done_chain s.thing) (spot_stands (level_of V) k at m g spot.0 s.thing h spot.1) in
      let same = list_kept (level_of V) k at (λ x. takes c (V.mark x).by (V.mark x).done) (entries g.0) g.1 spot.0 s.thing spot.1 V.done (keeps c) (takes_it c mark s true taken) kept in
      becomes_shown things (λ xs ys. ys ≡ map_those at V.done xs) things (λ xs ys. ys ≡ changed_by (keeps c) (taken_of V c at) V.done xs) (λ x e. e ∙ same)
      (hung_other (level_of V) k at V.done m m o g spot.0 s.thing root h spot.1 stood (V.done_key s.thing) (V.done_good s.thing spot.1.leads.good) put)

  gone_dropped : (c : Change) (o : Blocks) (root : ℕ) (mark : VersionMark) (s : Says V.mark at mark (things g)) → takes c mark.by mark.done ≡ true → keeps c ≡ false → ((e : Entry) → entry_at k (entries g.0) ≡ Some e → Drops m V.kind g.0 k mark e o root)
      → Becomes (hung (level_of V)) hung_root things m g o root (λ xs ys. ys ≡ changed_by (keeps c) (taken_of V c at) V.done xs)
  gone_dropped c o root mark s taken other drops =
      let spot = spot_of mark s in
      let d = drops spot.0 spot.1.at in
      let left = still_thing (level_of V) k at m d.between g spot.0 s.thing root h spot.1 d.removes in
      let given = given_part V.chain chain_owner d.between o s.thing (d.given (V.chain s.thing) (chain_at d.between mark s left)) in
      let same = list_gone (level_of V) k at (λ x. takes c (V.mark x).by (V.mark x).done) (entries g.0) g.1 spot.0 s.thing spot.1 V.done (keeps c) (takes_it c mark s true taken) other in
      becomes_shown things (λ xs ys. ys ≡ without_those at xs) things (λ xs ys. ys ≡ changed_by (keeps c) (taken_of V c at) V.done xs) (λ x e. e ∙ same)
      (hung_less (level_of V) k at m d.between o g spot.0 s.thing root h spot.1 d.removes given)

  pub versions_changed : (c : Change) (o : Blocks) (root : ℕ) → Changes c (mark_at k (entries g.0)) m V.kind g.0 k o root → Becomes (hung (level_of V)) hung_root things m g o root (λ xs ys. ys ≡ changed_by (keeps c) (taken_of V c at) V.done xs)
  versions_changed c o root made = by (mark_at k (entries g.0)) refl made
    where
      taken : (mark : VersionMark) → Says V.mark at mark (things g) → (t p : Bool) → takes c mark.by mark.done ≡ t → keeps c ≡ p
          → ByTest t (ByTest p ((e : Entry) → entry_at k (entries g.0) ≡ Some e → Puts m V.kind g.0 k (version_value (done_mark mark)) o root) ((e : Entry) → entry_at k (entries g.0) ≡ Some e → Drops m V.kind g.0 k mark e o root)) (Same m g.0 o root)
          → Becomes (hung (level_of V)) hung_root things m g o root (λ xs ys. ys ≡ changed_by (keeps c) (taken_of V c at) V.done xs)
      taken mark s false p e f d = same_still c o root d (none_taken c mark s e)
      taken mark s true true e f d = kept_done c o root mark s e f d
      taken mark s true false e f d = gone_dropped c o root mark s e f d

      by : (x : Option VersionMark) → mark_at k (entries g.0) ≡ x → Changes c x m V.kind g.0 k o root → Becomes (hung (level_of V)) hung_root things m g o root (λ xs ys. ys ≡ changed_by (keeps c) (taken_of V c at) V.done xs)
      by None e d = same_still c o root d (none_at (sym e) c)
      by (Some mark) e d = taken mark (says_at mark e) (takes c mark.by mark.done) (keeps c) refl refl d

  -- the blocks given back are those of the version, and its pair's
  pub versions_freed : (c : Change) → freed_of c (mark_at k (entries g.0)) ≡ freed_by (keeps c) (taken_of V c at) (λ x. chain_blocks (V.mark x).length + 1) (things g)
  versions_freed c = by (mark_at k (entries g.0)) refl
    where
      taken : (mark : VersionMark) → Says V.mark at mark (things g) → (t p : Bool) → takes c mark.by mark.done ≡ t → keeps c ≡ p
          → (if t then (if p then 0 else chain_blocks mark.length + 1) else 0) ≡ freed_by (keeps c) (taken_of V c at) (λ x. chain_blocks (V.mark x).length + 1) (things g)
      taken mark s false p e f = sym (none_freed (taken_of V c at) (λ x. chain_blocks (V.mark x).length + 1) (keeps c) (things g) (none_taken c mark s e))
      taken mark s true true e f = sym (kept_freed (taken_of V c at) (λ x. chain_blocks (V.mark x).length + 1) (keeps c) (things g) f)
      taken mark s true false e f =
          let spot = spot_of mark s in
          sym (list_freed (level_of V) k at (λ x. takes c (V.mark x).by (V.mark x).done) (entries g.0) g.1 spot.0 s.thing spot.1 (λ x. chain_blocks (V.mark x).length + 1) (keeps c) (takes_it c mark s true e) f
          ∙ ap (λ (z : VersionMark). chain_blocks z.length + 1) s.mark_is)

      by : (x : Option VersionMark) → mark_at k (entries g.0) ≡ x → freed_of c x ≡ freed_by (keeps c) (taken_of V c at) (λ x. chain_blocks (V.mark x).length + 1) (things g)
      by None e = sym (none_freed (taken_of V c at) (λ x. chain_blocks (V.mark x).length + 1) (keeps c) (things g) (none_at (sym e) c))
      by (Some mark) e = taken mark (says_at mark e) (takes c mark.by mark.done) (keeps c) refl refl
