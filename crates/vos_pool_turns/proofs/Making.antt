-- A turn that is staged and committed is one of the pool.
use Rattle.std.proofs.Common.{rules, ◌≡◌, ℕ, ◌+◌, ◌≤◌, Bool, true, false, List, [], Ok, Err, Result, refl, sym, ap, ◌∙◌, subst, arith, inl, inr}
use Rattle.std.specs.Prelude.{length, IsErrOf, IsTrue, OnErr, OnOk, is_ok}
use Rattle.base_outside.specs.Images.{Image, Range, all_over}
use Rattle.base_types.specs.declared.id.AttemptId.{AttemptId}
use Rattle.daos_model.specs.BoolLaws.{clash}
use Rattle.daos_model.specs.declared.durable.Durable.{Durable}
use Rattle.daos_model.specs.declared.durable.Version.{Version}
use Rattle.pmem_alloc.specs.Blocks.{BlocksState, IsBlocks, free_count}
use Rattle.pmem_alloc.specs.Map.{MapState, free_of, shown_in}
use Rattle.pmem_alloc.specs.Sets.{count_below}
use Rattle.pmem_alloc.specs.Pages.{left, shown}
use Rattle.pmem_alloc.specs.Still.{IsStill}
use Rattle.pmem_pages.specs.Blocks.{Stops}
use Rattle.pmem_tree_base.specs.Calls.{Goes}
use Rattle.pmem_tree_base.specs.declared.refusal.TreeNo.{TreeNo}
use Rattle.pmem_tree_base.specs.declared.refusal.TreeNo.TheVariants as tree
use Rattle.pmem_undo.specs.Layout.{total_bytes}
use Rattle.pmem_undo.specs.Undo.{IsUndo}
use Rattle.vos_commits.specs.Kept.{kept_in}
use Rattle.vos_turns.specs.vos_fitting.Fitting.{ListNothing}
use Rattle.vos_turns.specs.vos_image.Kept.{Stored, durable_of, kept, stored_owner}
use Rattle.vos_keeping.specs.Keeping.{SameRows, kept_so, versions_in}
use Rattle.vos_levels.specs.declared.change.Change.{Change}
use Rattle.vos_keeping.specs.vos_places.declared.codec.Counters.{Counters}
use Rattle.vos_keeping.specs.vos_places.Laws.{counted}
use Rattle.vos_keeping.specs.vos_places.Tables.{Table, places_of}
use Rattle.vos_pool_stage.specs.vos_pool_base.Pool.{OpenedState}
use Rattle.vos_pool_stage.proofs.Lifting.{none_leaves, none_made, none_quiet, still_then}
use Rattle.vos_pool_stage.specs.Staged.{IsToStand, IsToStandOn, WhereTold, free_then, pool_of}
use Rattle.vos_pool_turns.specs.Pool.{CanTurn, HasTurned, IsOneTurn, TurnsKept}
use Rattle.vos_turns.proofs.vos_small.Smallness.{maps_are_of_regions, stored_in_regions_are_small}
use Rattle.vos_turns.specs.vos_small.Rooms.{HasLeft}
use Rattle.vos_pool_stage.proofs.vos_standing.Changing.{blocks_are_shown, blocks_change}
use Rattle.vos_pool_stage.proofs.vos_standing.Committed.{closed_it_is_kept}
use Rattle.vos_pool_stage.specs.vos_standing.Standing.{IsReadOf, Stand, content}
use Rattle.vos_store.specs.declared.refusal.Stopped.{Stopped}
use Rattle.vos_keeping.specs.vos_tables.Kept as tables
use Rattle.vos_turns.specs.declared.entries.EntryStep.{EntryStep}
use Rattle.vos_turns.specs.Turns.{StandsBelow, StepMayStand, TurnsTo, after_each}

-- ---- before

read_of : (size : ℕ) (tells : Bool) (f : Image) (staged : List Range) (stopped : Bool) (m l : MapState) → IsBlocks size tells f staged stopped m l → IsTrue tells → stopped ≡ false → IsReadOf size (all_over staged f) m
read_of size tells f staged stopped m l k tell going = record { end = k.end; bytes = k.read tell going }

below : (size : ℕ) (f : Image) (m : MapState) (t : Table) (x : Stored) (s : EntryStep) → Stand t.header.target size f t x → IsReadOf size f m → (nothing : ListNothing x.1) → StandsBelow (shown_in m f) t.header.objects t.header.entries x
below size f m t x s stands read nothing =
    let held = blocks_are_shown stored_owner size f m x read stands.holds in
    record { holds = held; objects_root = stands.objects; entries_root = stands.entries; nothing = nothing; small = stored_in_regions_are_small (shown_in m f) x (maps_are_of_regions size m f read.end) held }

-- with nothing staged
abbrev ShownOf : {R : Type 0} → (R → Image) → BlocksState R → List Range → Type 0
ShownOf image b staged = shown_in b.map (all_over staged (image b.undo.region)) ≡ shown_in b.map (image b.undo.region)

module _ {R : Type 0} (extent : R → ℕ) (tells : Bool) (image : R → Image) (b : BlocksState R) (t : Table) (s : EntryStep) (none : b.undo.staged ≡ []) (holds : IsBlocks (extent b.undo.region) tells (image b.undo.region) b.undo.staged b.undo.stopped b.map b.lasting) (going : b.undo.stopped ≡ false) where
  pub shown_is : shown image b ≡ shown_in b.map (image b.undo.region)
  shown_is = ap (λ (z : List Range). shown_in b.map (all_over z (image b.undo.region))) none

  pub first_read : IsTrue tells → IsReadOf (extent b.undo.region) (image b.undo.region) b.map
  first_read tell = subst (λ (z : List Range). IsReadOf (extent b.undo.region) (all_over z (image b.undo.region)) b.map) none (read_of (extent b.undo.region) tells (image b.undo.region) b.undo.staged b.undo.stopped b.map b.lasting holds tell going)

  pub stands_below : IsTrue tells → (x : Stored) → CanTurn extent image s (pool_of b t) x → StandsBelow (shown image b) t.header.objects t.header.entries x
  stands_below tell x can =
      subst (λ m. StandsBelow m t.header.objects t.header.entries x) (sym shown_is) (below (extent b.undo.region) (image b.undo.region) b.map t x s can.stands (first_read tell) can.nothing)

pub empty_room : {R : Type 0} (b : BlocksState R) → b.undo.staged ≡ [] → HasLeft 1024 256000 (left b)
empty_room b none =
    let ranges = ap length none in
    let bytes = ap total_bytes none in
    record { ranges = omega (arith, ranges); bytes = omega (arith, bytes) }

-- ---- after

to_stand : (c : Change) (us : List Version) (a : AttemptId) (s : EntryStep) (size : ℕ) (f : Image) (m n : MapState) (staged : List Range) (t : Table) (x : Stored) (d : Counters) (objects entries : ℕ)
    → Stand t.header.target size f t x → IsReadOf size f m → IsReadOf size (all_over staged f) n → (T : TurnsTo c us a s (shown_in m f) x (shown_in n (all_over staged f)) objects entries)
    → d.objects ≡ objects → d.entries ≡ entries → StepMayStand s (content size f) → IsToStand size f m staged n t d T.now
to_stand c us a s size f m n staged t x d objects entries stands was now T o e may =
    let k = blocks_change stored_owner size f (all_over staged f) m n x T.now was now (now.end ∙ sym was.end) stands.holds T.changed in
    record {
      before = x;
      stood = stands;
      staged_is = record { was = was; now = now; beside = k.1; holds = k.0.holds };
      objects = o ∙ T.objects_root;
      entries = e ∙ T.entries_root;
      fits = (T.fits (content size f) may stands.fits).fits;
    }

-- rows stay where the counters say the same of what is kept
pub same_rows : (t : Table) (d : Counters) → tables.Makes (λ z. z) t (counted d t) → SameRows (places_of t) (places_of (counted d t))
same_rows t d makes = record { conts = refl; snaps = refl; lease = ap (λ (z : Durable). z.lease) (makes [] []); incarnation = ap (λ (z : Durable). z.incarnation) (makes [] []) }

module _ {R : Type 0} (extent : R → ℕ) (tells : Bool) (image : R → Image) (may_leave : R → Image → Type 0) (c : Change) (us : List Version) (a : AttemptId) (s : EntryStep) (b : BlocksState R) (t : Table) (e : BlocksState R) (d : Counters)
    (objects entries : ℕ) (none : b.undo.staged ≡ []) (unchanged : b.map ≡ b.lasting) (holds : IsBlocks (extent b.undo.region) tells (image b.undo.region) b.undo.staged b.undo.stopped b.map b.lasting) (going : b.undo.stopped ≡ false)
    (held : IsBlocks (extent e.undo.region) tells (image e.undo.region) e.undo.staged e.undo.stopped e.map e.lasting) (still : IsStill extent tells image may_leave b e) (on : e.undo.stopped ≡ false)
    (objects_are : d.objects ≡ objects) (entries_are : d.entries ≡ entries)
    (turned : IsTrue tells → (x : Stored) → StandsBelow (shown image b) t.header.objects t.header.entries x → TurnsTo c us a s (shown image b) x (shown image e) objects entries) where
  abbrev size : ℕ
  size = extent b.undo.region

  abbrev f : Image
  f = image b.undo.region

  pub turn_of : IsTrue tells → (x : Stored) → CanTurn extent image s (pool_of b t) x → TurnsTo c us a s (shown_in b.map f) x (shown_in e.map (all_over e.undo.staged f)) objects entries
  turn_of tell x can =
      let T = turned tell x (stands_below extent tells image b t s none holds going tell x can) in
      subst (λ (g : Image). TurnsTo c us a s (shown_in b.map f) x (shown_in e.map (all_over e.undo.staged g)) objects entries) (still.read tell)
      (subst (λ m. TurnsTo c us a s m x (shown image e) objects entries) (shown_is extent tells image b t s none holds going) T)

  pub ready : (tell : IsTrue tells) (x : Stored) (can : CanTurn extent image s (pool_of b t) x) → IsToStandOn extent image e t d (turn_of tell x can).now
  ready tell x can =
      let now = subst (λ (n : ℕ). IsReadOf n (all_over e.undo.staged (image e.undo.region)) e.map) still.size (read_of (extent e.undo.region) tells (image e.undo.region) e.undo.staged e.undo.stopped e.map e.lasting held tell on) in
      let then_now = subst (λ (g : Image). IsReadOf size (all_over e.undo.staged g) e.map) (still.read tell) now in
      let T = turn_of tell x can in
      let k = to_stand c us a s size f b.map e.map e.undo.staged t x d objects entries can.stands (first_read extent tells image b t s none holds going tell) then_now T objects_are entries_are can.step in
      subst (λ (n : ℕ). IsToStand n (image e.undo.region) e.lasting e.undo.staged e.map t d T.now) (sym still.size)
      (subst (λ (g : Image). IsToStand size g e.lasting e.undo.staged e.map t d T.now) (sym (still.read tell))
      (subst (λ (m : MapState). IsToStand size f m e.undo.staged e.map t d T.now) (unchanged ∙ sym still.lasting) k))

  pub now_of : IsTrue tells → (x : Stored) → CanTurn extent image s (pool_of b t) x → Stored
  now_of tell x can = (turn_of tell x can).now

  -- what stands in the pool that has this table then
  pub has_turned : (q : OpenedState R) → q.table ≡ counted d t → ((y : Stored) → IsToStandOn extent image e t d y → Stand t.header.target (extent q.blocks.undo.region) (image q.blocks.undo.region) (counted d t) y)
      → IsTrue tells → (x : Stored) → CanTurn extent image s (pool_of b t) x → HasTurned extent image c us a s x q
  has_turned q is stands tell x can =
      let T = turn_of tell x can in
      record {
        now = T.now;
        stands = subst (λ (u : Table). Stand u.header.target (extent q.blocks.undo.region) (image q.blocks.undo.region) u T.now) (sym is) (stands T.now (ready tell x can));
        turned = T.turned;
        nothing = (T.fits (content size f) can.step can.stands.fits).nothing;
      }

  -- what is kept then
  pub kept_then : (change : Durable → Durable) → (IsTrue tells → IsUndo size tells f (may_leave b.undo.region) b.undo.staged b.undo.stopped) → (rows : SameRows (places_of t) (places_of (counted d t))) → TurnsKept tells extent image c us a s (pool_of b t) change
      → (here : IsTrue tells → (x : Stored) × CanTurn extent image s (pool_of b t) x) → WhereTold tells e ((y : Stored) × (IsToStandOn extent image e t d y × (durable_of (record { places = places_of (counted d t); stored = y }) ≡ change (kept_in (kept t.header.target (extent e.undo.region)) (extent e.undo.region) (image e.undo.region)))))
  kept_then change undo rows turns here tell running =
      let x = here tell in
      let T = turn_of tell x.0 x.1 in
      let closed = ((undo tell).rest tell going).closed in
      let was : kept_in (kept t.header.target size) size f ≡ kept_so (places_of t) x.0 = closed_it_is_kept t.header.target size f t x.0 closed x.1.stands in
      let same = turns tell going x.0 T.now x.1 T.turned (places_of (counted d t)) rows in (
        T.now,
        (
          ready tell x.0 x.1,
          subst (λ (n : ℕ). kept_so (places_of (counted d t)) T.now ≡ change (kept_in (kept t.header.target n) n (image e.undo.region))) (sym still.size)
              (subst (λ (g : Image). kept_so (places_of (counted d t)) T.now ≡ change (kept_in (kept t.header.target size) size g)) (sym (still.read tell)) (same ∙ ap change (sym was))),
        ),
      )

-- ---- how calls stop

pub stops_then : (was mid is : Bool) (f0 f1 f2 b0 b1 b2 : ℕ) (r : Result (Unit {0}) Stopped) → mid ≡ was → f0 ≤ f1 → b0 ≤ b1 → Stops mid is f1 f2 b1 b2 r → Stops was is f0 f2 b0 b2 r
stops_then was mid is f0 f1 f2 b0 b1 b2 (Ok x) same faults burns k = record { later_faults = omega (arith, faults, k.later_faults); later_burns = omega (arith, burns, k.later_burns); cause = tt; stopped = tt; again = λ w. k.again (same ∙ w); once = λ w. k.once (same ∙ w); went_on = sym same ∙ k.went_on }
stops_then was mid is f0 f1 f2 b0 b1 b2 (Err x) same faults burns k = record {
  later_faults = omega (arith, faults, k.later_faults);
  later_burns = omega (arith, burns, k.later_burns);
  cause = elim k.cause [
    | inl stopped ↦ inl (sym same ∙ stopped)
    | inr rose ↦ inr (elim rose [ inl fault ↦ inl (omega (arith, faults, fault)) | inr burn ↦ inr (omega (arith, burns, burn)) ])
  ];
  stopped = k.stopped;
  again = λ w. k.again (same ∙ w);
  once = λ w. k.once (same ∙ w);
  went_on = tt;
}

-- ---- by the answer

pub both_ok : {T E A B P : Type 0} (r : Result T E) → (A → B → P) → OnOk r A → OnOk r B → OnOk r P
both_ok (Ok x) f a b = f a b
both_ok (Err e) f a b = tt

pub by_answer : {T E A : Type 0} (P : A → Type 0) (r : Result T E) (u v w : A) → OnOk r (u ≡ v) → OnErr r (u ≡ w) → P v → P w → P u
by_answer P (Ok x) u v w ok err p q = subst P (sym ok) p
by_answer P (Err e) u v w ok err p q = subst P (sym err) q

pub free_as : {R : Type 0} (b e : BlocksState R) → e.lasting ≡ b.lasting → b.map ≡ b.lasting → free_then e ≡ free_count b
free_as b e lasting unchanged = ap (λ (m : MapState). count_below (free_of m) m.end) (lasting ∙ sym unchanged)

pub free_in_map : {R : Type 0} (b : BlocksState R) (r : Result (Unit {0}) Stopped) (u v w : MapState) (n : ℕ) → OnOk r (u ≡ v) → OnErr r (u ≡ w) → n ≤ count_below (free_of v) v.end → n ≤ count_below (free_of w) w.end → n ≤ count_below (free_of u) u.end
free_in_map b r u v w n ok err p q = by_answer (λ (m : MapState). n ≤ count_below (free_of m) m.end) r u v w ok err p q

-- a turn that isn't staged whole, or that there is no room for, is one of a region that stopped or doesn't tell its bytes
pub no_excuse : (r : Result (Unit {0}) TreeNo) → (is_ok r ≡ true → ⊥) → (IsErrOf r tree.NoBlock → ⊥) → (IsErrOf r tree.TooMuch → ⊥) → (IsErrOf r tree.Stopped → ⊥) → ⊥
no_excuse (Ok x) made block much stopped = made refl
no_excuse (Err tree.NoBlock) made block much stopped = block refl
no_excuse (Err tree.TooMuch) made block much stopped = much refl
no_excuse (Err tree.Stopped) made block much stopped = stopped refl

untold : (tells : Bool) → (IsTrue tells → ⊥) → tells ≡ false
untold true none = absurd (none refl)
untold false none = refl

-- ---- given up

module _ {R : Type 0} (extent : R → ℕ) (tells : Bool) (image : R → Image) (may_leave : R → Image → Type 0) (count burns : R → ℕ) (c : Change) (us : List Version) (a : AttemptId) (s : EntryStep) (b : BlocksState R) (t : Table) (e : BlocksState R) (q : OpenedState R)
    (still : IsStill extent tells image may_leave b e) (again : IsStill extent tells image may_leave e q.blocks) (unchanged : b.map ≡ b.lasting) (table : q.table ≡ t) (map : q.blocks.map ≡ e.lasting) (stopped : q.blocks.undo.stopped ≡ e.undo.stopped)
    (faults : count q.blocks.undo.region ≡ count e.undo.region) (burnt : burns q.blocks.undo.region ≡ burns e.undo.region) (going : b.undo.stopped ≡ false)
    (goes : Goes (λ (z : BlocksState R). z.undo.stopped) (λ (z : BlocksState R). count z.undo.region) (λ (z : BlocksState R). burns z.undo.region) b e) where
  whole : IsStill extent tells image may_leave b q.blocks
  whole = still_then extent tells image may_leave b e q.blocks still again

  given : (r : Result (Unit {0}) Stopped) → (is_ok r ≡ true → tells ≡ false) → Stops b.undo.stopped q.blocks.undo.stopped (count b.undo.region) (count q.blocks.undo.region) (burns b.undo.region) (burns q.blocks.undo.region) r
      → IsOneTurn tells extent image may_leave count burns c us a s (pool_of b t) (pool_of q.blocks t) r
  given r not_told stops = record {
    turned = by r not_told;
    rows = record { conts = refl; snaps = refl; lease = refl; incarnation = refl };
    kept = λ change turns. none_made extent tells image may_leave (pool_of b t) q.blocks whole change r not_told;
    quiet = λ turns. none_quiet extent tells image may_leave (pool_of b t) q.blocks whole r;
    left = none_leaves extent tells image may_leave (pool_of b t) q.blocks whole 0;
    free = (let same : free_count q.blocks ≡ free_count b = ap (λ (m : MapState). count_below (free_of m) m.end) (map ∙ (still.lasting ∙ sym unchanged)) in omega (arith, same));
    gives = none_gone r not_told;
    size = whole.size;
    stops = stops;
  }
    where
      none_gone : (r : Result (Unit {0}) Stopped) → (is_ok r ≡ true → tells ≡ false) → OnOk r (IsTrue tells → (x : Stored) → CanTurn extent image s (pool_of b t) x → free_count b + length (versions_in x) ≤ free_count q.blocks + length (after_each c us (versions_in x)))
      none_gone (Ok z) never = λ told x can. absurd (clash tells told (never refl))
      none_gone (Err z) never = tt

      by : (r : Result (Unit {0}) Stopped) → (is_ok r ≡ true → tells ≡ false) → OnOk r (IsTrue tells → (x : Stored) → CanTurn extent image s (pool_of b t) x → HasTurned extent image c us a s x (pool_of q.blocks t))
      by (Ok z) never = λ told x can. absurd (clash tells told (never refl))
      by (Err z) never = tt

  pub given_up_stopped : (r : Result (Unit {0}) Stopped) (z : Stopped) → e.undo.stopped ≡ true → r ≡ Err z → IsOneTurn tells extent image may_leave count burns c us a s (pool_of b t) q r
  given_up_stopped r z is answer =
      let k = given (Err z) (λ ok. absurd (cc)) (record {
        later_faults = (let f = goes.later_faults in omega (arith, f, faults));
        later_burns = (let f = goes.later_burns in omega (arith, f, burnt));
        cause = elim (goes.cause is) [
          | inl was ↦ inl was
          | inr rose ↦ inr (elim rose [ inl fault ↦ inl (omega (arith, fault, faults)) | inr burn ↦ inr (omega (arith, burn, burnt)) ])
        ];
        stopped = stopped ∙ is;
        again = λ w. search rules;
        once = λ w. stopped ∙ is;
        went_on = tt;
      }) in
      subst (λ (o : Result (Unit {0}) Stopped). IsOneTurn tells extent image may_leave count burns c us a s (pool_of b t) q o) (sym answer) (subst (λ (u : Table). IsOneTurn tells extent image may_leave count burns c us a s (pool_of b t) (pool_of q.blocks u) (Err z)) (sym table) k)

  pub given_up_untold : (r : Result (Unit {0}) Stopped) → e.undo.stopped ≡ false → r ≡ Ok tt → WhereTold tells e ⊥ → IsOneTurn tells extent image may_leave count burns c us a s (pool_of b t) q r
  given_up_untold r is answer none =
      let k = given (Ok tt) (λ ok. untold tells (λ told. none told is)) (record {
        later_faults = (let f = goes.later_faults in omega (arith, f, faults));
        later_burns = (let f = goes.later_burns in omega (arith, f, burnt));
        cause = tt;
        stopped = tt;
        again = λ w. absurd (clash b.undo.stopped w going);
        once = λ w. absurd (clash b.undo.stopped w going);
        went_on = going ∙ sym (stopped ∙ is);
      }) in
      subst (λ (o : Result (Unit {0}) Stopped). IsOneTurn tells extent image may_leave count burns c us a s (pool_of b t) q o) (sym answer) (subst (λ (u : Table). IsOneTurn tells extent image may_leave count burns c us a s (pool_of b t) (pool_of q.blocks u) (Ok tt)) (sym table) k)
