-- A version that comes to a pool by one commit: it is quiet, and what came stands.
use Rattle.std.specs.Prelude.{filter, is_ok, IsTrue, OnErr, OnOk, Result, Ok, Err}
use Rattle.std.proofs.Common.{◌≡◌, ℕ, Bool, true, false, List, [], refl, sym, ap, ◌∙◌, subst}
use Rattle.base_outside.specs.Images.{Image}
use Rattle.base_types.specs.declared.entry.Entry.{Entry}
use Rattle.base_types.specs.declared.operation.Write.{Write}
use Rattle.daos_model.specs.declared.durable.Durable.{Durable}
use Rattle.daos_model.specs.declared.durable.Version.{Version}
use Rattle.daos_model.specs.Durables.{entry_key, version_key}
use Rattle.daos_model.specs.Ordered.{in_order}
use Rattle.pmem_alloc.specs.Blocks.{BlocksState, IsBlocks, free_count}
use Rattle.pmem_alloc.specs.Map.{MapState, free_of}
use Rattle.pmem_alloc.specs.Pages.{shown}
use Rattle.pmem_alloc.specs.Sets.{count_below}
use Rattle.pmem_alloc.specs.Still.{IsStill}
use Rattle.pmem_undo.specs.Layout.{gate}
use Rattle.vos_commits.specs.Kept.{kept_in}
use Rattle.vos_entries.specs.Entries.{Entries, entries_in, entries_owner, has_entry_at, listings}
use Rattle.vos_image.specs.Kept.{Stored, counts, durable_of, kept}
use Rattle.vos_levels.specs.Calls.{OfThing}
use Rattle.vos_levels.specs.Levels.{HasMore, hung_root, things}
use Rattle.vos_path.specs.declared.stamp.Stamp.{Stamp}
use Rattle.vos_path.specs.Objects.{objects_owner, objects_versions}
use Rattle.vos_path.specs.Writes.{IsNewIn, fresh}
use Rattle.vos_places.specs.declared.codec.Counters.{Counters}
use Rattle.vos_places.specs.Laws.{counted}
use Rattle.vos_places.specs.Tables.{Table, places_of}
use Rattle.vos_pool_base.specs.Pool.{OpenedState}
use Rattle.vos_pool_stage.specs.Staged.{IsToStandOn, StandsInPool, free_then}
use Rattle.vos_pool_write.specs.Coming.{EntryMakes, HasCome, HasEntered, MayCome, MayEnter}
use Rattle.vos_pool_write.specs.Written.{EntryComes, MayBeStaged, WriteComes}
use Rattle.vos_pool_write.proofs.Coming.{entries_here, entry_to_stand, objects_here, version_to_stand}
use Rattle.vos_pool_write.proofs.Lists.{filter_none}
use Rattle.vos_pool_base.specs.vos_standing.Standing.{Stand}
use Rattle.vos_pool_base.proofs.vos_standing.Committed.{closed_it_is_kept}
use Rattle.vos_tables.specs.Kept.{Makes, kept_with}

-- what was free at the last commit is what was free
pub free_as : {R : Type 0} (p b : BlocksState R) → p.map ≡ p.lasting → b.lasting ≡ p.lasting → free_then b ≡ free_count p
free_as p b unchanged lasting = ap (λ (m : MapState). count_below (free_of m) m.end) (lasting ∙ sym unchanged)

pub on_both : {T E : Type 0} (A B C : Type 0) (r : Result T E) → OnOk r A → OnOk r B → (A → B → C) → OnOk r C
on_both A B C (Ok x) a b h = h a b
on_both A B C (Err e) a b h = tt

pub on_each : {T E : Type 0} (A B C : Type 0) (r : Result T E) → OnOk r A → OnErr r B → (A → C) → (B → C) → C
on_each A B C (Ok x) a b h k = h a
on_each A B C (Err e) a b h k = k b

-- where a call may go well only if it stopped or bytes aren't told, and it went well, they aren't told
pub untold_of : {T E : Type 0} (tells s : Bool) (r : Result T E) → OnOk r (s ≡ false) → (IsTrue tells → s ≡ false → ⊥) → is_ok r ≡ true → tells ≡ false
untold_of true s (Ok x) running none ok = absurd (none refl running)
untold_of false s (Ok x) running none ok = refl
untold_of tells s (Err e) running none ok = let no : ⊥ = cc in absurd no

-- counters that say the same but for the roots keep the lease
pub lease_same : (t u : Table) → Makes (λ d. d) t u → u.header.lease ≡ t.header.lease
lease_same t u same = ap (λ (d : Durable). d.lease) (same [] [])

-- what is kept with the same rows, versions and entries
pub durable_same : (t u : Table) (x y : Stored) → Makes (λ d. d) t u → in_order version_key (filter (counts (entries_in y.1)) (objects_versions y.0)) ≡ in_order version_key (filter (counts (entries_in x.1)) (objects_versions x.0))
    → in_order entry_key (entries_in y.1) ≡ in_order entry_key (entries_in x.1) → durable_of (record { places = places_of u; stored = y }) ≡ durable_of (record { places = places_of t; stored = x })
unfolding durable_of
durable_same t u x y same versions entries =
    ap (λ (vs : List Version). kept_with u vs (in_order entry_key (entries_in y.1))) versions
    ∙ (ap (λ (es : List Entry). kept_with u (in_order version_key (filter (counts (entries_in x.1)) (objects_versions x.0))) es) entries
    ∙ same (in_order version_key (filter (counts (entries_in x.1)) (objects_versions x.0))) (in_order entry_key (entries_in x.1)))

unseen_same : (t u : Table) (x y : Stored) (v : Version) → Makes (λ d. d) t u → y.1 ≡ x.1 → HasMore v (objects_versions x.0) (objects_versions y.0) → counts (entries_in x.1) v ≡ false
    → durable_of (record { places = places_of u; stored = y }) ≡ durable_of (record { places = places_of t; stored = x })
unseen_same t u x y v same entries more unseen =
    durable_same t u x y same
    (ap (λ (e : Entries). in_order version_key (filter (counts (entries_in e)) (objects_versions y.0))) entries ∙ ap (in_order version_key) (filter_none (counts (entries_in x.1)) v (objects_versions x.0) (objects_versions y.0) more unseen))
    (ap (λ (e : Entries). in_order entry_key (entries_in e)) entries)

-- what is known of a pool of which nothing is staged
pub record IsAtRest {R : Type 0} (extent : R → ℕ) (tells : Bool) (image : R → Image) (p : OpenedState R) : Type 0 where
  pub unstaged : p.blocks.undo.staged ≡ []
  pub unchanged : p.blocks.map ≡ p.blocks.lasting
  pub running : p.blocks.undo.stopped ≡ false
  pub holds : IsBlocks (extent p.blocks.undo.region) tells (image p.blocks.undo.region) p.blocks.undo.staged p.blocks.undo.stopped p.blocks.map p.blocks.lasting
  pub closed : IsTrue tells → image p.blocks.undo.region gate ≡ 0

-- what a pool keeps, in blocks on which changes are staged
pub kept_now : {R : Type 0} (extent : R → ℕ) (tells : Bool) (image : R → Image) (may_leave : R → Image → Type 0) (p : OpenedState R) (x : Stored) (b : BlocksState R) → IsAtRest extent tells image p → StandsInPool extent image p x → IsStill extent tells image may_leave p.blocks b → IsTrue tells
    → kept_in (kept p.table.header.target (extent b.undo.region)) (extent b.undo.region) (image b.undo.region) ≡ durable_of (record { places = places_of p.table; stored = x })
kept_now extent tells image may_leave p x b rest stands still tell =
    ap (λ (n : ℕ). kept_in (kept p.table.header.target n) n (image b.undo.region)) still.size
    ∙ (ap (λ (f : Image). kept_in (kept p.table.header.target (extent p.blocks.undo.region)) (extent p.blocks.undo.region) f) (still.read tell)
    ∙ closed_it_is_kept p.table.header.target (extent p.blocks.undo.region) (image p.blocks.undo.region) p.table x (rest.closed tell) stands)

-- what is known once a version was staged on its blocks
pub record Came {R : Type 0} (extent : R → ℕ) (tells : Bool) (image : R → Image) (may_leave : R → Image → Type 0) (p : OpenedState R) (s : Stamp) (w : Write) (b : BlocksState R) (c : Counters) (at : ℕ) : Type 0 where
  pub rest : IsAtRest extent tells image p
  pub write : MayBeStaged s w
  pub still : IsStill extent tells image may_leave p.blocks b
  pub after : IsBlocks (extent b.undo.region) tells (image b.undo.region) b.undo.staged b.undo.stopped b.map b.lasting
  pub comes : OfThing tells objects_owner hung_root (shown image p.blocks) p.table.header.objects (λ g. IsNewIn (fresh s w) g → WriteComes s w (shown image p.blocks) g (shown image b) at)
  pub objects : c.objects ≡ at
  pub entries : c.entries ≡ p.table.header.entries
  pub same : Makes (λ d. d) p.table (counted c p.table)

module _ {R : Type 0} (extent : R → ℕ) (tells : Bool) (image : R → Image) (may_leave : R → Image → Type 0) (p : OpenedState R) (s : Stamp) (w : Write) (b : BlocksState R) (c : Counters) (at : ℕ) (k : Came extent tells image may_leave p s w b c at) where
  pub came_to_stand : IsTrue tells → b.undo.stopped ≡ false → (x : Stored) → MayCome extent image p s w x
      → (y : Stored) × (IsToStandOn extent image b p.table c y × ((y.1 ≡ x.1) × HasMore (fresh s w) (objects_versions x.0) (objects_versions y.0)))
  came_to_stand tell going x may =
      let here = objects_here extent tells image may_leave p k.rest.unstaged x may.stands k.rest.holds tell k.rest.running in
      version_to_stand extent tells image may_leave p k.rest.unstaged x may.stands k.rest.holds tell k.rest.running b k.still k.rest.unchanged k.after going c s w at k.write may
      (k.comes tell x.0 here may.stands.objects may.new) k.objects k.entries

  pub came_is_same : IsTrue tells → b.undo.stopped ≡ false → (x : Stored) → MayCome extent image p s w x
      → (y : Stored) × (IsToStandOn extent image b p.table c y × (durable_of (record { places = places_of (counted c p.table); stored = y }) ≡ kept_in (kept p.table.header.target (extent b.undo.region)) (extent b.undo.region) (image b.undo.region)))
  came_is_same tell going x may =
      let y = came_to_stand tell going x may in
      (y.0, (y.1.0, unseen_same p.table (counted c p.table) x y.0 (fresh s w) k.same y.1.1.0 y.1.1.1 may.unseen ∙ sym (kept_now extent tells image may_leave p x b k.rest may.stands k.still tell)))

  -- what came stands in the pool that is open then
  pub came_stands : {T E : Type 0} (r : Result T E) (n : OpenedState R) → OnOk r (b.undo.stopped ≡ false) → OnOk r (n.table ≡ counted c p.table)
      → OnOk r (IsTrue tells → (y : Stored) → IsToStandOn extent image b p.table c y → Stand p.table.header.target (extent n.blocks.undo.region) (image n.blocks.undo.region) (counted c p.table) y)
      → OnOk r (IsTrue tells → (x : Stored) → MayCome extent image p s w x → HasCome extent image n s w x)
  came_stands (Err e) n running table stands = tt
  came_stands (Ok o) n running table stands = λ tell x may.
      let y = came_to_stand tell running x may in
      record {
        now = y.0;
        stands = subst (λ (t : Table). Stand t.header.target (extent n.blocks.undo.region) (image n.blocks.undo.region) t y.0) (sym table) (stands tell y.0 y.1.0);
        entries = y.1.1.0;
        versions = y.1.1.1;
      }

-- ---- an entry

-- what is known once an entry was staged on its blocks
pub record Entered {R : Type 0} (extent : R → ℕ) (tells : Bool) (image : R → Image) (may_leave : R → Image → Type 0) (p : OpenedState R) (e : Entry) (b : BlocksState R) (c : Counters) (at : ℕ) : Type 0 where
  pub rest : IsAtRest extent tells image p
  pub still : IsStill extent tells image may_leave p.blocks b
  pub after : IsBlocks (extent b.undo.region) tells (image b.undo.region) b.undo.staged b.undo.stopped b.map b.lasting
  pub comes : OfThing tells entries_owner hung_root (shown image p.blocks) p.table.header.entries (λ g. has_entry_at e.attempt (things g) ≡ false → EntryComes e (shown image p.blocks) g (shown image b) at)
  pub objects : c.objects ≡ p.table.header.objects
  pub entries : c.entries ≡ at
  pub same : Makes (λ d. d) p.table (counted c p.table)

module _ {R : Type 0} (extent : R → ℕ) (tells : Bool) (image : R → Image) (may_leave : R → Image → Type 0) (p : OpenedState R) (e : Entry) (b : BlocksState R) (c : Counters) (at : ℕ) (k : Entered extent tells image may_leave p e b c at) where
  pub entered_to_stand : IsTrue tells → b.undo.stopped ≡ false → (x : Stored) → MayEnter extent image p e x
      → (y : Stored) × (IsToStandOn extent image b p.table c y × ((y.0 ≡ x.0) × HasMore (record { entry = e; nodes = [] }) (listings x.1) (listings y.1)))
  entered_to_stand tell going x may =
      let here = entries_here extent tells image may_leave p k.rest.unstaged x may.stands k.rest.holds tell k.rest.running in
      entry_to_stand extent tells image may_leave p k.rest.unstaged x may.stands k.rest.holds tell k.rest.running b k.still k.rest.unchanged k.after going c e at may
      (k.comes tell x.1 here may.stands.entries may.absent) k.entries k.objects

  pub entered_makes : (change : Durable → Durable) → IsTrue tells → b.undo.stopped ≡ false → (x : Stored) → MayEnter extent image p e x → EntryMakes p.table e x change
      → (y : Stored) × (IsToStandOn extent image b p.table c y × (durable_of (record { places = places_of (counted c p.table); stored = y }) ≡ change (kept_in (kept p.table.header.target (extent b.undo.region)) (extent b.undo.region) (image b.undo.region))))
  entered_makes change tell going x may makes =
      let y = entered_to_stand tell going x may in
      (y.0, (y.1.0, durable_same p.table (counted c p.table) y.0 y.0 k.same refl refl ∙ (makes y.0 y.1.1.0 y.1.1.1 ∙ ap change (sym (kept_now extent tells image may_leave p x b k.rest may.stands k.still tell)))))

  pub entered_stands : {T E : Type 0} (r : Result T E) (n : OpenedState R) → OnOk r (b.undo.stopped ≡ false) → OnOk r (n.table ≡ counted c p.table)
      → OnOk r (IsTrue tells → (y : Stored) → IsToStandOn extent image b p.table c y → Stand p.table.header.target (extent n.blocks.undo.region) (image n.blocks.undo.region) (counted c p.table) y)
      → OnOk r (IsTrue tells → (x : Stored) → MayEnter extent image p e x → HasEntered extent image n e x)
  entered_stands (Err q) n running table stands = tt
  entered_stands (Ok o) n running table stands = λ tell x may.
      let y = entered_to_stand tell running x may in
      record {
        now = y.0;
        stands = subst (λ (t : Table). Stand t.header.target (extent n.blocks.undo.region) (image n.blocks.undo.region) t y.0) (sym table) (stands tell y.0 y.1.0);
        objects = y.1.1.0;
        entries = y.1.1.1;
      }
