-- The entry of a moment becomes done, or goes.
use Rattle.std.proofs.Common.{◌≡◌, ℕ, Bool, true, false, Some, None, refl, sym, ap, ◌∙◌, subst}
use Rattle.std.specs.List.{find, list_any}
use Rattle.std.specs.Option.{option_map}
use Rattle.pmem_pages.specs.Blocks.{Blocks}
use Rattle.pmem_pages.specs.Owners.{Changed, Holds}
use Rattle.pmem_pages.specs.Shape.{Entry, entries, entry_at}
use Rattle.pmem_pages.specs.declared.node.TreeKey.{TreeKey}
use Rattle.pmem_pages.specs.declared.node.Value.{Value}
use Rattle.vos_moments.specs.pmem_tree.Changes.{Puts, Removes}
use Rattle.vos_values.specs.declared.keys.Moment.{Moment}
use Rattle.vos_values.specs.declared.values.LogMark.{LogMark}
use Rattle.vos_values.specs.Keys.{IsMoment, moment_key}
use Rattle.vos_values.specs.Values.{log_value}
use Rattle.vos_moments.specs.vos_levels.declared.change.Change.{Change}
use Rattle.vos_moments.specs.vos_levels.Calls.{Becomes}
use Rattle.vos_moments.specs.vos_levels.Changes.{keeps, takes}
use Rattle.vos_moments.specs.vos_levels.Levels.{hung_root, things}
use Rattle.vos_moments.proofs.vos_levels.Changing.{hung_less, hung_other, none_changes, none_given, stays}
use Rattle.vos_moments.proofs.vos_levels.Settling.{Says, becomes_shown, kept_freed, list_freed, list_gone, list_kept, list_same, none_freed, says, says_none, spot_at}
use Rattle.vos_moments.proofs.vos_levels.Spots.{Spot}
use Rattle.vos_moments.proofs.vos_levels.Testing.{fewer_none, spot_none}
use Rattle.vos_ilog.specs.Logs.{IsChangedAt, IsDoneAt, IsGoneAt, Log, SaysAt, done_entry, freed_at, is_at, is_taken, log_level, log_owner, mark_of, one_block, value_of_entry}
use Rattle.vos_ilog.proofs.Adding.{tells_at}

module _ (m : Blocks) (g : Log) (at : Moment) (mark : LogMark) (good : IsMoment at) (h : Holds log_owner m g) (s : SaysAt at mark (things g)) where
  it : Says mark_of (is_at at) mark (things g)
  it = says mark_of (is_at at) mark (things g) s

  spot : (e : Entry) × Spot log_level (moment_key at) (is_at at) (entries g.0) g.1 e it.thing
  spot = spot_at log_level (moment_key at) (is_at at) (tells_at at good) m g it.thing h it.found

  -- the tree has the key
  pub has_key : (key : TreeKey) → key ≡ moment_key at → (e : Entry) × (entry_at key (entries g.0) ≡ Some e)
  has_key key is = (spot.0, ap (λ k. entry_at k (entries g.0)) is ∙ spot.1.at)

  pub entry_done : (o : Blocks) (kind root : ℕ) (key : TreeKey) (value : Value) → kind ≡ 4 → key ≡ moment_key at → value ≡ log_value (record { punch = mark.punch; done = true; by = mark.by })
      → ((e : Entry) → entry_at key (entries g.0) ≡ Some e → Puts m kind g.0 key value o root) → Becomes log_owner hung_root things m g o root (IsDoneAt at)
  entry_done o kind root key value k is value_is puts =
      let v = it.thing in
      let same : value ≡ value_of_entry (done_entry v) = value_is ∙ ap (λ (z : LogMark). log_value (record { punch = z.punch; done = true; by = z.by })) (sym it.mark_is) in
      let put = puts spot.0 (ap (λ z. entry_at z (entries g.0)) is ∙ spot.1.at) in
      let put2 : Puts m 4 g.0 (moment_key at) (value_of_entry (done_entry v)) o root = subst (λ z. Puts m 4 g.0 (moment_key at) z o root) same (subst (λ z. Puts m 4 g.0 z value o root) is (subst (λ z. Puts m z g.0 key value o root) k put)) in
      hung_other log_level (moment_key at) (is_at at) done_entry m m o g spot.0 v root h spot.1 (none_changes m v (done_entry v)) refl (record { moment = spot.1.leads.good.moment; by = spot.1.leads.good.by }) put2

  pub entry_gone : (o : Blocks) (kind root : ℕ) (key : TreeKey) → kind ≡ 4 → key ≡ moment_key at → ((e : Entry) → entry_at key (entries g.0) ≡ Some e → Removes m kind g.0 key e o root) → Becomes log_owner hung_root things m g o root (IsGoneAt at)
  entry_gone o kind root key k is removes =
      let gone = removes spot.0 (ap (λ z. entry_at z (entries g.0)) is ∙ spot.1.at) in
      let gone2 : Removes m 4 g.0 (moment_key at) spot.0 o root = subst (λ z. Removes m 4 g.0 z spot.0 o root) is (subst (λ z. Removes m z g.0 key spot.0 o root) k gone) in
      hung_less log_level (moment_key at) (is_at at) m o o g spot.0 it.thing root h spot.1 gone2 (none_given o it.thing)

  -- ---- what a change makes of it

  takes_it : (c : Change) (t : Bool) → takes c mark.by mark.done ≡ t → takes c it.thing.by it.thing.done ≡ t
  takes_it c t e = ap (λ (z : LogMark). takes c z.by z.done) it.mark_is ∙ e

  pub committed : (o : Blocks) (c : Change) (root : ℕ) → takes c mark.by mark.done ≡ true → keeps c ≡ true → Becomes log_owner hung_root things m g o root (IsDoneAt at) → Becomes log_owner hung_root things m g o root (IsChangedAt c at)
  committed o c root taken kept b =
      let same = list_kept log_level (moment_key at) (is_at at) (λ v. takes c v.by v.done) (entries g.0) g.1 spot.0 it.thing spot.1 done_entry (keeps c) (takes_it c true taken) kept in
      becomes_shown things (IsDoneAt at) things (IsChangedAt c at) (λ x e. e ∙ same) b

  pub went : (o : Blocks) (c : Change) (root : ℕ) → takes c mark.by mark.done ≡ true → keeps c ≡ false → Becomes log_owner hung_root things m g o root (IsGoneAt at) → Becomes log_owner hung_root things m g o root (IsChangedAt c at)
  went o c root taken kept b =
      let same = list_gone log_level (moment_key at) (is_at at) (λ v. takes c v.by v.done) (entries g.0) g.1 spot.0 it.thing spot.1 done_entry (keeps c) (takes_it c true taken) kept in
      becomes_shown things (IsGoneAt at) things (IsChangedAt c at) (λ x e. e ∙ same) b

  pub went_free : (c : Change) → takes c mark.by mark.done ≡ true → keeps c ≡ false → freed_at c at (things g) ≡ 1
  went_free c taken kept = list_freed log_level (moment_key at) (is_at at) (λ v. takes c v.by v.done) (entries g.0) g.1 spot.0 it.thing spot.1 one_block (keeps c) (takes_it c true taken) kept

  -- it isn't taken
  pub not_taken : (c : Change) → takes c mark.by mark.done ≡ false → list_any (is_taken c at) (things g) ≡ false
  not_taken c other = spot_none log_level (moment_key at) (is_at at) (λ v. takes c v.by v.done) (entries g.0) g.1 spot.0 it.thing spot.1 (takes_it c false other)

-- there is none
pub none_there : (g : Log) (at : Moment) (c : Change) → None ≡ option_map mark_of (find (is_at at) (things g)) → list_any (is_taken c at) (things g) ≡ false
none_there g at c n = fewer_none (is_at at) (λ v. takes c v.by v.done) (things g) (says_none mark_of (is_at at) (things g) n)

pub stays_so : (m o : Blocks) (g : Log) (c : Change) (at : Moment) (root : ℕ) → o ≡ m → Holds log_owner m g → root ≡ hung_root g → list_any (is_taken c at) (things g) ≡ false → Becomes log_owner hung_root things m g o root (IsChangedAt c at)
stays_so m o g c at root e h is n = record {
  now = g;
  changed = subst (λ z. Changed log_owner m g z g) (sym e) (stays log_owner m g h);
  root_is = is;
  shown_is = list_same (is_taken c at) done_entry (keeps c) (things g) n;
}

pub none_free : (g : Log) (at : Moment) (c : Change) → list_any (is_taken c at) (things g) ≡ false → freed_at c at (things g) ≡ 0
none_free g at c n = none_freed (is_taken c at) one_block (keeps c) (things g) n

pub kept_free : (g : Log) (at : Moment) (c : Change) → keeps c ≡ true → freed_at c at (things g) ≡ 0
kept_free g at c kept = kept_freed (is_taken c at) one_block (keeps c) (things g) kept
