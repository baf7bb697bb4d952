-- A write, or an entry, always fits an empty stage, and leaves room for the counters.
use Rattle.std.specs.Prelude.{IsErrOf, IsTrue, OnOk, Result, Ok, Err, is_err}
use Rattle.std.proofs.Common.{◌≡◌, ℕ, ◌≤◌, ◌<◌, Bool, true, false, [], length, refl, sym, ap, subst, arith}
use Rattle.base_outside.specs.Images.{Image, all_over}
use Rattle.base_types.specs.declared.entry.Entry.{Entry}
use Rattle.base_types.specs.declared.operation.Write.{Write}
use Rattle.pmem_alloc.specs.Blocks.{BlocksState, free_count}
use Rattle.pmem_alloc.specs.Map.{blocks_end}
use Rattle.pmem_alloc.specs.Pages.{left, shown}
use Rattle.pmem_tree_base.specs.declared.refusal.TreeNo.{TreeNo}
use Rattle.pmem_tree_base.specs.declared.refusal.TreeNo.TheVariants as no
use Rattle.pmem_undo.specs.Layout.{total_bytes}
use Rattle.vos_chain.specs.Made.{chain_blocks}
use Rattle.vos_entries.specs.Entries.{entries_owner, has_entry_at}
use Rattle.vos_levels.specs.Calls.{HasThing, OfThing}
use Rattle.vos_levels.specs.Levels.{hung_root, things}
use Rattle.vos_path.specs.declared.stamp.Stamp.{Stamp}
use Rattle.vos_path.specs.Calls.{LacksFor, SpendsAtMost, for_pair}
use Rattle.vos_path.specs.Objects.{objects_owner}
use Rattle.base_types.specs.Operations.{write_path}
use Rattle.vos_path.specs.Small.{PathIsSmall}
use Rattle.vos_path.proofs.AllSmall.{path_small}
use Rattle.vos_path.specs.Writes.{IsNewIn, IsSmall, ObjectsAreSmall, below_object_pairs, data_blocks, fresh, object_pairs}
use Rattle.vos_pool_write.specs.Written.{EntrySpends, MayBeStaged, WriteSpends, blocks_at_most}
use Rattle.vos_small.proofs.Fitting.{entries_fit_in, few_data, few_pairs, writes_fit}
use Rattle.vos_versions.specs.Marks.{TooFewFor}
use Rattle.vos_small.proofs.Smallness.{entries_in_regions_are_small, maps_are_of_regions, objects_in_regions_are_small}

-- with nothing staged all is left
pub all_left : {R : Type 0} (b : BlocksState R) → b.undo.staged ≡ [] → ((left b).ranges ≡ 1024) × ((left b).bytes ≡ 256000)
all_left b none = (let e = ap length none in omega (arith, e), let e = ap total_bytes none in omega (arith, e))

-- what is known of a write that was staged, or not
pub record Tried {R : Type 0} (extent : R → ℕ) (tells : Bool) (image : R → Image) (b n : BlocksState R) (root : ℕ) (s : Stamp) (w : Write) (r : Result (Unit {0}) TreeNo) : Type 0 where
  pub end : b.map.end ≡ blocks_end (extent b.undo.region)
  pub unstaged : b.undo.staged ≡ []
  pub write : MayBeStaged s w
  pub here : HasThing tells objects_owner hung_root (shown image b) root (IsNewIn (fresh s w))
  pub room : blocks_at_most w ≤ free_count b
  pub no_block : IsErrOf r no.NoBlock → free_count b < blocks_at_most w
  pub too_much : IsErrOf r no.TooMuch → OfThing tells objects_owner hung_root (shown image b) root (λ g. IsNewIn (fresh s w) g → (d : ℕ) → PathIsSmall d (write_path w) g → LacksFor (data_blocks w) (below_object_pairs w (for_pair d)) d (left b))
  pub staged : OnOk r (WriteSpends tells image root s w b n)
  pub stopped : IsErrOf r no.Stopped → n.undo.stopped ≡ true

-- so much is left
pub record IsDone {R : Type 0} (n : BlocksState R) (r : Result (Unit {0}) TreeNo) : Type 0 where
  pub well : is_err r ≡ false
  pub ranges : 1 ≤ (left n).ranges
  pub bytes : 24 ≤ (left n).bytes

spent_few : {R : Type 0} (b n : BlocksState R) (w : Write) → b.undo.staged ≡ [] → data_blocks w ≤ 5 → below_object_pairs w 76 ≤ 456 → SpendsAtMost (data_blocks w) (object_pairs w 76) (left b) (left n) → (1 ≤ (left n).ranges) × (24 ≤ (left n).bytes)
spent_few b n w none pieces pairs s =
    let all = all_left b none in
    let ranges = s.ranges_most in
    let bytes = s.bytes_most in
    let all_ranges = all.0 in
    let all_bytes = all.1 in
    (omega (arith, ranges, all_ranges, pieces, pairs), omega (arith, bytes, all_bytes, pieces, pairs))

pub write_is_done : {R : Type 0} (extent : R → ℕ) (tells : Bool) (image : R → Image) (b n : BlocksState R) (root : ℕ) (s : Stamp) (w : Write) (r : Result (Unit {0}) TreeNo) → Tried extent tells image b n root s w r → IsTrue tells → n.undo.stopped ≡ false → IsDone n r
write_is_done {R = R} extent tells image b n root s w r k tell going = by r refl
  where
    small : ObjectsAreSmall 17 (k.here tell).0
    small = objects_in_regions_are_small (shown image b) (k.here tell).0 (maps_are_of_regions (extent b.undo.region) b.map (all_over b.undo.staged (image b.undo.region)) k.end) (k.here tell).1.0

    by : (q : Result (Unit {0}) TreeNo) → r ≡ q → IsDone n r
    by (Ok x) is =
        let g = k.here tell in
        let spends = subst (λ o. OnOk o (WriteSpends tells image root s w b n)) is k.staged tell g.0 g.1.0 g.1.1.0 g.1.1.1 17 (path_small 17 (write_path w) (k.here tell).0 small) in
        let enough = spent_few b n w k.unstaged (few_data w k.write.form) (few_pairs w) spends in
        record { well = ap is_err is; ranges = enough.0; bytes = enough.1 }
    by (Err no.NoBlock) is = let few = k.no_block (subst (λ o. IsErrOf o no.NoBlock) (sym is) refl) in let room = k.room in absurd (omega (arith, few, room))
    by (Err no.TooMuch) is =
        let g = k.here tell in
        let lack = k.too_much (subst (λ o. IsErrOf o no.TooMuch) (sym is) refl) tell g.0 g.1.0 g.1.1.0 g.1.1.1 17 (path_small 17 (write_path w) (k.here tell).0 small) in
        let all = all_left b k.unstaged in
        let all_ranges = all.0 in
        let all_bytes = all.1 in
        absurd (writes_fit w (left b) k.write.form (record { ranges = omega (arith, all_ranges); bytes = omega (arith, all_bytes) }) lack)
    by (Err no.Stopped) is = let on = k.stopped (subst (λ o. IsErrOf o no.Stopped) (sym is) refl) in let off : ⊥ = cc in absurd off

-- ---- an entry

-- what is known of an entry that was staged, or not
pub record TriedEntry {R : Type 0} (extent : R → ℕ) (tells : Bool) (image : R → Image) (b n : BlocksState R) (root : ℕ) (e : Entry) (r : Result (Unit {0}) TreeNo) : Type 0 where
  pub end : b.map.end ≡ blocks_end (extent b.undo.region)
  pub unstaged : b.undo.staged ≡ []
  pub here : HasThing tells entries_owner hung_root (shown image b) root (λ g. has_entry_at e.attempt (things g) ≡ false)
  pub room : 1 ≤ free_count b
  pub no_block : IsErrOf r no.NoBlock → free_count b < 1
  pub too_much : IsErrOf r no.TooMuch → OfThing tells entries_owner hung_root (shown image b) root (λ g. has_entry_at e.attempt (things g) ≡ false → TooFewFor (chain_blocks 0) g.0 (left b))
  pub staged : OnOk r (EntrySpends tells image root e b n)
  pub stopped : IsErrOf r no.Stopped → n.undo.stopped ≡ true

pub entry_is_done : {R : Type 0} (extent : R → ℕ) (tells : Bool) (image : R → Image) (b n : BlocksState R) (root : ℕ) (e : Entry) (r : Result (Unit {0}) TreeNo) → TriedEntry extent tells image b n root e r → IsTrue tells → n.undo.stopped ≡ false → IsDone n r
entry_is_done {R = R} extent tells image b n root e r k tell going = by r refl
  where
    small : IsSmall 17 (k.here tell).0
    small = entries_in_regions_are_small (shown image b) (k.here tell).0 (maps_are_of_regions (extent b.undo.region) b.map (all_over b.undo.staged (image b.undo.region)) k.end) (k.here tell).1.0

    by : (q : Result (Unit {0}) TreeNo) → r ≡ q → IsDone n r
    by (Ok x) is =
        let g = k.here tell in
        let spends = subst (λ o. OnOk o (EntrySpends tells image root e b n)) is k.staged tell g.0 g.1.0 g.1.1.0 g.1.1.1 17 small in
        let all = all_left b k.unstaged in
        let all_ranges = all.0 in
        let all_bytes = all.1 in
        let ranges = spends.ranges_most in
        let bytes = spends.bytes_most in
        record { well = ap is_err is; ranges = omega (arith, ranges, all_ranges); bytes = omega (arith, bytes, all_bytes) }
    by (Err no.NoBlock) is = let few = k.no_block (subst (λ o. IsErrOf o no.NoBlock) (sym is) refl) in let room = k.room in absurd (omega (arith, few, room))
    by (Err no.TooMuch) is =
        let g = k.here tell in
        let lack = k.too_much (subst (λ o. IsErrOf o no.TooMuch) (sym is) refl) tell g.0 g.1.0 g.1.1.0 g.1.1.1 in
        let all = all_left b k.unstaged in
        let all_ranges = all.0 in
        let all_bytes = all.1 in
        absurd (entries_fit_in g.0 (left b) small (record { ranges = omega (arith, all_ranges); bytes = omega (arith, all_bytes) }) lack)
    by (Err no.Stopped) is = let on = k.stopped (subst (λ o. IsErrOf o no.Stopped) (sym is) refl) in let off : ⊥ = cc in absurd off
