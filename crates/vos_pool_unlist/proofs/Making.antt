-- A list that is given back on staged blocks, and committed, is one of the pool.
use Rattle.std.proofs.Common.{◌≡◌, ℕ, ◌≤◌, Bool, true, false, List, [], ◌∷◌, map, Ok, Err, Result, refl, sym, ap, ◌∙◌, subst, arith, inl, inr}
use Rattle.std.specs.Prelude.{◌⊎◌, filter, is_ok, IsTrue, OnErr, OnOk, ⊤}
use Rattle.base_outside.specs.Causes.{Rose}
use Rattle.base_outside.specs.Images.{Image, Range, all_over}
use Rattle.base_types.specs.declared.entry.Entry.{Entry}
use Rattle.base_types.specs.declared.id.AttemptId.{AttemptId}
use Rattle.daos_model.specs.BoolLaws.{clash}
use Rattle.daos_model.specs.Durables.{entry_key, version_key}
use Rattle.daos_model.specs.Ordered.{in_order}
use Rattle.pmem_alloc.specs.Blocks.{BlocksState, IsBlocks, free_count}
use Rattle.pmem_alloc.specs.Map.{MapState, free_of, shown_in}
use Rattle.pmem_alloc.specs.Pages.{shown}
use Rattle.pmem_alloc.specs.Sets.{count_below}
use Rattle.pmem_alloc.specs.Still.{IsStill}
use Rattle.pmem_pages.specs.Blocks.{Blocks, Stops}
use Rattle.pmem_pages.specs.Owners.{Holds}
use Rattle.pmem_tree_base.specs.Calls.{Goes}
use Rattle.pmem_undo.specs.Undo.{IsUndo}
use Rattle.vos_check_entries.specs.declared.entry.EntryRow.{EntryRow}
use Rattle.vos_check_entries.specs.Rows.{entry_row}
use Rattle.vos_commits.specs.Kept.{kept_in}
use Rattle.vos_entries.specs.Entries.{Entries, IsUnlistedAt, entries_in, entries_owner, listings}
use Rattle.vos_keeping.proofs.Settling.{kept_parts}
use Rattle.vos_keeping.specs.Keeping.{SameRows, kept_so, versions_in}
use Rattle.vos_keeping.specs.vos_places.declared.codec.Counters.{Counters}
use Rattle.vos_keeping.specs.vos_places.Laws.{counted}
use Rattle.vos_keeping.specs.vos_places.Tables.{Table, places_of}
use Rattle.vos_levels.specs.Calls.{Becomes, OfThing}
use Rattle.vos_levels.specs.Levels.{hung_root, things}
use Rattle.vos_pool_stage.proofs.Lifting.{none_leaves, still_finds, still_keeps, still_then}
use Rattle.vos_pool_stage.proofs.Staging.{entries_are_staged, staged_are_shown, staging_begins}
use Rattle.vos_pool_stage.proofs.vos_standing.Committed.{closed_it_is_kept}
use Rattle.vos_pool_stage.proofs.vos_standing.Standing.{what_stands_stands}
use Rattle.vos_pool_stage.proofs.vos_standing.vos_places.vos_image.Whole.{no_other_stands}
use Rattle.vos_pool_stage.specs.Staged.{IsQuietCall, IsStaged, IsToStand, IsToStandOn, StandsInPool, WhereTold, pool_of}
use Rattle.vos_pool_stage.specs.vos_pool_base.Pool.{HasStood, OpenedState, kept_of, may_of}
use Rattle.vos_pool_stage.specs.vos_pool_base.Tidy.{LeavesBut}
use Rattle.vos_pool_stage.specs.vos_standing.Standing.{IsReadOf, Stand, content}
use Rattle.vos_pool_steps.specs.Quiet.{IsQuietStep}
use Rattle.vos_pool_turns.proofs.Making.{first_read, shown_is}
use Rattle.vos_pool_turns.specs.vos_turns.declared.entries.EntryStep.TheVariants as step
use Rattle.vos_pool_turns.specs.vos_turns.vos_image.Kept.{Stored, Whole, counts, durable_of, kept}
use Rattle.vos_pool_turns.specs.vos_turns.vos_image.Places.{Places}
use Rattle.vos_pool_unlist.proofs.Lists.{AreLeft, all_left, fits_unlisted, given, none_left, passed, same_entries}
use Rattle.vos_pool_unlist.specs.declared.refusal.UnlistNo.{UnlistNo}
use Rattle.vos_pool_unlist.specs.Unlisted.{HasNoLists, HasUnlisted, answered, says_stopped}
use Rattle.vos_store.specs.declared.refusal.Stopped.{Stopped}

-- ---- quiet calls

on_running : (P : Type 0) (r : Result (Unit {0}) Stopped) (is : Bool) → OnOk r P → OnErr r (is ≡ true) → is ≡ false → P
on_running P (Ok x) is done stopped going = done
on_running P (Err e) is done stopped going = absurd (clash is stopped going)

why : (was is : Bool) (f g b c : ℕ) (r : Result (Unit {0}) Stopped) → Stops was is f g b c r → is ≡ true → (was ≡ true) ⊎ (Rose f g ⊎ Rose b c)
why was is f g b c (Ok x) s stopped = inl (s.went_on ∙ stopped)
why was is f g b c (Err e) s stopped = s.cause

-- a call that is quiet is a quiet step
pub quiet_step : {R : Type 0} (extent : R → ℕ) (tells : Bool) (image : R → Image) (may_leave : R → Image → Type 0) (count burns : R → ℕ) (p q : OpenedState R) (r : Result (Unit {0}) Stopped)
    → IsQuietCall r (kept_of tells extent image p) (kept_of tells extent image q) (may_of tells extent may_leave p) (may_of tells extent may_leave q) → SameRows (places_of p.table) (places_of q.table)
    → LeavesBut tells extent may_leave 0 p q → free_count p.blocks ≤ free_count q.blocks → extent q.blocks.undo.region ≡ extent p.blocks.undo.region
    → Stops p.blocks.undo.stopped q.blocks.undo.stopped (count p.blocks.undo.region) (count q.blocks.undo.region) (burns p.blocks.undo.region) (burns q.blocks.undo.region) r
    → IsQuietStep tells extent count burns image may_leave p q
quiet_step extent tells image may_leave count burns p q r quiet rows left free size stops = record {
  kept = λ going. on_running (kept_of tells extent image q ≡ kept_of tells extent image p) r q.blocks.undo.stopped quiet.done stops.stopped going;
  found = quiet.left;
  rows = rows;
  left = left;
  free = free;
  size = size;
  later_faults = stops.later_faults;
  later_burns = stops.later_burns;
  stays = stops.once;
  cause = why p.blocks.undo.stopped q.blocks.undo.stopped (count p.blocks.undo.region) (count q.blocks.undo.region) (burns p.blocks.undo.region) (burns q.blocks.undo.region) r stops;
}

-- what follows where a commit went well, of the answer that is made of it
pub when_answered : {P Q C : Type 0} (r : Result (Unit {0}) Stopped) (s : Result (Unit {0}) UnlistNo) → s ≡ answered r → (P → Q → C) → OnOk r P → OnOk r Q → OnOk s C
when_answered {P = P} {Q = Q} {C = C} r s is made p q = subst (λ (z : Result (Unit {0}) UnlistNo). OnOk z C) (sym is) (by r p q)
  where
    by : (r : Result (Unit {0}) Stopped) → OnOk r P → OnOk r Q → OnOk (answered r) C
    by (Ok x) p q = made p q
    by (Err e) p q = tt

-- ---- staged

read_of : (size : ℕ) (tells : Bool) (f : Image) (staged : List Range) (stopped : Bool) (m l : MapState) → IsBlocks size tells f staged stopped m l → IsTrue tells → stopped ≡ false → IsReadOf size (all_over staged f) m
read_of size tells f staged stopped m l k tell going = record { end = k.end; bytes = k.read tell going }

-- what is kept goes by the objects and the entries, and not by lists
same_kept : (p q : Places) (x y : Stored) → SameRows p q → y.0 ≡ x.0 → entries_in y.1 ≡ entries_in x.1 → kept_so q y ≡ kept_so p x
unfolding durable_of
same_kept p q x y rows objects entries =
    kept_parts p q x (kept_so p x).versions (kept_so p x).entries rows y
    (ap (λ (es : List Entry). in_order version_key (filter (counts es) (versions_in y))) entries ∙ ap (λ o. in_order version_key (filter (counts (entries_in x.1)) (versions_in (o, x.1)))) objects)
    (ap (in_order entry_key) entries)

module _ {R : Type 0} (extent : R → ℕ) (tells : Bool) (image : R → Image) (b : BlocksState R) (t : Table) (none : b.undo.staged ≡ []) (holds : IsBlocks (extent b.undo.region) tells (image b.undo.region) b.undo.staged b.undo.stopped b.map b.lasting) (going : b.undo.stopped ≡ false) (tell : IsTrue tells) where
  was : IsReadOf (extent b.undo.region) (image b.undo.region) b.map
  was = first_read extent tells image b t step.Keep none holds going tell

  begun : (x : Stored) → StandsInPool extent image (pool_of b t) x → IsStaged (extent b.undo.region) (image b.undo.region) b.map [] b.map x
  begun x stands = staging_begins t.header.target (extent b.undo.region) (image b.undo.region) b.map t x stands was

  -- the entries that stand there are shown
  entries_shown : (x : Stored) → StandsInPool extent image (pool_of b t) x → Holds entries_owner (shown image b) x.1
  entries_shown x stands =
      subst (λ (m : Blocks). Holds entries_owner m x.1) (sym (shown_is extent tells image b t step.Keep none holds going)) (staged_are_shown (extent b.undo.region) (image b.undo.region) b.map [] b.map x (begun x stands)).1

  pub entries_here : HasStood (extent b.undo.region) (image b.undo.region) t → (at : ℕ) → at ≡ t.header.entries → (g : Entries) × (Holds entries_owner (shown image b) g × ((at ≡ hung_root g) × ⊤))
  entries_here h at is = (h.stored.1, (entries_shown h.stored h.stands, (is ∙ h.stands.entries, tt)))

-- What is known once the list of an entry was given back on blocks, and the counters were planned.
pub record IsGiven {R : Type 0} (extent : R → ℕ) (tells : Bool) (image : R → Image) (may_leave : R → Image → Type 0) (a : AttemptId) (b : BlocksState R) (t : Table) (e : BlocksState R) (d : Counters) : Type 0 where
  pub at : ℕ
  pub none : b.undo.staged ≡ []
  pub unchanged : b.map ≡ b.lasting
  pub holds : IsBlocks (extent b.undo.region) tells (image b.undo.region) b.undo.staged b.undo.stopped b.map b.lasting
  pub going : b.undo.stopped ≡ false
  pub held : IsBlocks (extent e.undo.region) tells (image e.undo.region) e.undo.staged e.undo.stopped e.map e.lasting
  pub still : IsStill extent tells image may_leave b e
  pub on : e.undo.stopped ≡ b.undo.stopped
  pub objects_are : d.objects ≡ t.header.objects
  pub entries_are : d.entries ≡ at
  pub at_is : at ≡ t.header.entries
  pub unlisted : OfThing tells entries_owner hung_root (shown image b) at (λ g. Becomes entries_owner hung_root listings (shown image b) g (shown image e) at (IsUnlistedAt a))

module _ {R : Type 0} (extent : R → ℕ) (tells : Bool) (image : R → Image) (may_leave : R → Image → Type 0) (a : AttemptId) (b : BlocksState R) (t : Table) (e : BlocksState R) (d : Counters) (k : IsGiven extent tells image may_leave a b t e d) where
  abbrev size : ℕ
  size = extent b.undo.region

  abbrev f : Image
  f = image b.undo.region

  pub becomes : IsTrue tells → (x : Stored) → StandsInPool extent image (pool_of b t) x → Becomes entries_owner hung_root listings (shown_in b.map f) x.1 (shown_in e.map (all_over e.undo.staged f)) k.at (IsUnlistedAt a)
  becomes tell x stands =
      let T = k.unlisted tell x.1 (entries_shown extent tells image b t k.none k.holds k.going tell x stands) (k.at_is ∙ stands.entries) in
      subst (λ (g : Image). Becomes entries_owner hung_root listings (shown_in b.map f) x.1 (shown_in e.map (all_over e.undo.staged g)) k.at (IsUnlistedAt a)) (k.still.read tell)
      (subst (λ (m : Blocks). Becomes entries_owner hung_root listings m x.1 (shown image e) k.at (IsUnlistedAt a)) (shown_is extent tells image b t step.Keep k.none k.holds k.going) T)

  abbrev now_of : IsTrue tells → (x : Stored) → StandsInPool extent image (pool_of b t) x → Stored
  now_of tell x stands = (x.0, (becomes tell x stands).now)

  pub ready : (tell : IsTrue tells) (x : Stored) (stands : StandsInPool extent image (pool_of b t) x) → IsToStandOn extent image e t d (x.0, (becomes tell x stands).now)
  ready tell x stands =
      let now = subst (λ (n : ℕ). IsReadOf n (all_over e.undo.staged (image e.undo.region)) e.map) k.still.size (read_of (extent e.undo.region) tells (image e.undo.region) e.undo.staged e.undo.stopped e.map e.lasting k.held tell (k.on ∙ k.going)) in
      let then_now = subst (λ (g : Image). IsReadOf size (all_over e.undo.staged g) e.map) (k.still.read tell) now in
      let T = becomes tell x stands in
      let y = now_of tell x stands in
      let to_stand : IsToStand size f b.map e.undo.staged e.map t d y = record {
        before = x;
        stood = stands;
        staged_is = entries_are_staged size f b.map [] b.map x e.undo.staged e.map T.now (begun extent tells image b t k.none k.holds k.going tell x stands) then_now T.changed;
        objects = k.objects_are ∙ stands.objects;
        entries = k.entries_are ∙ T.root_is;
        fits = fits_unlisted (content size f) a x.0 x.1 T.now T.shown_is stands.fits;
      } in
      subst (λ (n : ℕ). IsToStand n (image e.undo.region) e.lasting e.undo.staged e.map t d y) (sym k.still.size)
      (subst (λ (g : Image). IsToStand size g e.lasting e.undo.staged e.map t d y) (sym (k.still.read tell))
      (subst (λ (m : MapState). IsToStand size f m e.undo.staged e.map t d y) (k.unchanged ∙ sym k.still.lasting) to_stand))

  -- what stands in the pool that has this table then
  pub has_unlisted : (q : OpenedState R) → q.table ≡ counted d t → (IsTrue tells → (y : Stored) → IsToStandOn extent image e t d y → Stand t.header.target (extent q.blocks.undo.region) (image q.blocks.undo.region) (counted d t) y)
      → IsTrue tells → (x : Stored) → StandsInPool extent image (pool_of b t) x → HasUnlisted extent image a x q
  has_unlisted q is stand tell x stands =
      let y = now_of tell x stands in
      record {
        now = y;
        stands = subst (λ (u : Table). Stand u.header.target (extent q.blocks.undo.region) (image q.blocks.undo.region) u y) (sym is) (stand tell y (ready tell x stands));
        objects = refl;
        entries = (becomes tell x stands).shown_is;
      }

  -- what is kept then
  pub kept_then : IsUndo size tells f (may_leave b.undo.region) b.undo.staged b.undo.stopped → SameRows (places_of t) (places_of (counted d t)) → (IsTrue tells → HasStood size f t)
      → WhereTold tells e ((y : Stored) × (IsToStandOn extent image e t d y × (durable_of (record { places = places_of (counted d t); stored = y }) ≡ kept_in (kept t.header.target (extent e.undo.region)) (extent e.undo.region) (image e.undo.region))))
  kept_then undo rows here tell running =
      let h = here tell in
      let x = h.stored in
      let y = now_of tell x h.stands in
      let closed = (undo.rest tell k.going).closed in
      let was_kept : kept_in (kept t.header.target size) size f ≡ kept_so (places_of t) x = closed_it_is_kept t.header.target size f t x closed h.stands in
      let same = same_kept (places_of t) (places_of (counted d t)) x y rows refl (same_entries a x.1 y.1 (becomes tell x h.stands).shown_is) in (
        y,
        (
          ready tell x h.stands,
          subst (λ (n : ℕ). kept_so (places_of (counted d t)) y ≡ kept_in (kept t.header.target n) n (image e.undo.region)) (sym k.still.size)
              (subst (λ (g : Image). kept_so (places_of (counted d t)) y ≡ kept_in (kept t.header.target size) size g) (sym (k.still.read tell)) (same ∙ sym was_kept)),
        ),
      )

-- ---- dropped

-- what stood stands once what was staged is dropped
pub stood_still : {R : Type 0} (extent : R → ℕ) (tells : Bool) (image : R → Image) (may_leave : R → Image → Type 0) (b e : BlocksState R) (t : Table) → IsStill extent tells image may_leave b e → IsTrue tells → HasStood (extent b.undo.region) (image b.undo.region) t → HasStood (extent e.undo.region) (image e.undo.region) t
stood_still extent tells image may_leave b e t still tell stood =
    subst (λ (n : ℕ). HasStood n (image e.undo.region) t) (sym still.size) (subst (λ (g : Image). HasStood (extent b.undo.region) g t) (sym (still.read tell)) stood)

module _ {R : Type 0} (extent : R → ℕ) (tells : Bool) (image : R → Image) (may_leave : R → Image → Type 0) (count burns : R → ℕ) (b : BlocksState R) (t : Table) (e : BlocksState R) (q : OpenedState R)
    (still : IsStill extent tells image may_leave b e) (again : IsStill extent tells image may_leave e q.blocks) (unchanged : b.map ≡ b.lasting) (table : q.table ≡ t) (map : q.blocks.map ≡ e.lasting) (stopped : q.blocks.undo.stopped ≡ e.undo.stopped)
    (faults : count q.blocks.undo.region ≡ count e.undo.region) (burnt : burns q.blocks.undo.region ≡ burns e.undo.region)
    (goes : Goes (λ (z : BlocksState R). z.undo.stopped) (λ (z : BlocksState R). count z.undo.region) (λ (z : BlocksState R). burns z.undo.region) b e) where
  whole : IsStill extent tells image may_leave b q.blocks
  whole = still_then extent tells image may_leave b e q.blocks still again

  rose : (f g h : ℕ) → h ≡ g → Rose f g → Rose f h
  rose f g h same up = omega (arith, same, up)

  kept_dropped : IsQuietStep tells extent count burns image may_leave (pool_of b t) (pool_of q.blocks t)
  kept_dropped = record {
    kept = λ running. still_keeps extent tells image may_leave (pool_of b t) q.blocks whole;
    found = still_finds extent tells image may_leave (pool_of b t) q.blocks whole;
    rows = record { conts = refl; snaps = refl; lease = refl; incarnation = refl };
    left = none_leaves extent tells image may_leave (pool_of b t) q.blocks whole 0;
    free = (let same : free_count q.blocks ≡ free_count b = ap (λ (m : MapState). count_below (free_of m) m.end) (map ∙ (still.lasting ∙ sym unchanged)) in omega (arith, same));
    size = whole.size;
    later_faults = (let up = goes.later_faults in omega (arith, up, faults));
    later_burns = (let up = goes.later_burns in omega (arith, up, burnt));
    stays = λ before. stopped ∙ goes.once before;
    cause = λ is. elim (goes.cause (sym stopped ∙ is)) [
      | inl before ↦ inl before
      | inr up ↦ inr (elim up [ inl fault ↦ inl (rose (count b.undo.region) (count e.undo.region) (count q.blocks.undo.region) faults fault) | inr burn ↦ inr (rose (burns b.undo.region) (burns e.undo.region) (burns q.blocks.undo.region) burnt burn) ])
    ];
  }

  -- a pool to which nothing was done made a quiet step
  pub dropped : IsQuietStep tells extent count burns image may_leave (pool_of b t) q
  dropped = subst (λ (u : Table). IsQuietStep tells extent count burns image may_leave (pool_of b t) (pool_of q.blocks u)) (sym table) kept_dropped

-- ---- one row after another

-- where it went well the pool hasn't stopped
pub not_stopped : (r : Result (Unit {0}) UnlistNo) → is_ok r ≡ true → says_stopped r ≡ false
not_stopped (Ok x) well = refl
not_stopped (Err e) well = absurd (clash false well refl)

-- no two things stand with one table
same_stored : (target size : ℕ) (f : Image) (t : Table) (x y : Stored) → Stand target size f t x → Stand target size f t y → x ≡ y
same_stored target size f t x y s k =
    let one : Whole = record { places = places_of t; stored = x } in
    let other : Whole = record { places = places_of t; stored = y } in
    ap (λ (w : Whole). w.stored) (no_other_stands target size _ one other (what_stands_stands target size f t x s) (what_stands_stands target size f t y k))

-- These objects and entries stand in a pool, and for an entry that lists nodes a row is left.
pub record IsPartUnlisted {R : Type 0} (extent : R → ℕ) (image : R → Image) (rows : List EntryRow) (x : Stored) (p : OpenedState R) : Type 0 where
  pub now : Stored
  pub stands : StandsInPool extent image p now
  pub objects : now.0 ≡ x.0
  pub entries : entries_in now.1 ≡ entries_in x.1
  pub left : AreLeft rows now.1

module _ {R : Type 0} (extent : R → ℕ) (image : R → Image) (o : OpenedState R) (x : Stored) where
  pub begins : (rows : List EntryRow) → (h : (y : Stored) × (StandsInPool extent image o y × (rows ≡ map entry_row (things y.1)))) → StandsInPool extent image o x → IsPartUnlisted extent image rows x o
  begins rows h stands =
      let is = same_stored o.table.header.target (extent o.blocks.undo.region) (image o.blocks.undo.region) o.table h.0 x h.1.0 stands in
      record { now = x; stands = stands; objects = refl; entries = refl; left = subst (λ (s : Stored). AreLeft rows s.1) is (all_left h.0.1 rows h.1.1) }

  pub passes : (r : EntryRow) (rows : List EntryRow) (p : OpenedState R) → r.listed ≡ 0 → IsPartUnlisted extent image (r ∷ rows) x p → IsPartUnlisted extent image rows x p
  passes r rows p none k = record { now = k.now; stands = k.stands; objects = k.objects; entries = k.entries; left = passed k.now.1 r rows none k.left }

  pub gives : (r : EntryRow) (rows : List EntryRow) (p q : OpenedState R) → (k : IsPartUnlisted extent image (r ∷ rows) x p) → HasUnlisted extent image r.entry.attempt k.now q → IsPartUnlisted extent image rows x q
  gives r rows p q k h = record {
    now = h.now;
    stands = h.stands;
    objects = h.objects ∙ k.objects;
    entries = same_entries r.entry.attempt k.now.1 h.now.1 h.entries ∙ k.entries;
    left = given r rows k.now.1 h.now.1 h.entries k.left;
  }

  pub ends : (p : OpenedState R) → IsPartUnlisted extent image [] x p → HasNoLists extent image x p
  ends p k = record { now = k.now; stands = k.stands; objects = k.objects; entries = k.entries; nothing = none_left k.now.1 k.left }
