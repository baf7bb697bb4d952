-- A commit of what is staged is a change of what a pool keeps.
use Rattle.std.specs.Prelude.{◌≡◌, ◌++◌, ◌∷◌, ℕ, Bool, true, false, IsTrue, List, [], OnOk, Option, Some, None, Result, Ok, Err, is_ok, refl}
use Rattle.std.proofs.Common.{◌∙◌, ap, sym, subst, inl, inr, arith, ◌+◌, ◌≤◌}
use Rattle.base_outside.specs.Images.{Image, Range, all_over}
use Rattle.daos_model.specs.declared.durable.Durable.{Durable}
use Rattle.daos_model.specs.BoolLaws.{clash}
use Rattle.base_outside.specs.ImageLaws.{all_over-push}
use Rattle.pmem_alloc.specs.Blocks.{BlocksState, IsBlocks, free_count}
use Rattle.pmem_alloc.specs.Map.{free_blocks}
use Rattle.pmem_alloc.specs.Sets.{count_below}
use Rattle.vos_commits.specs.Kept.{IsCommit, IsQuiet, MayFind, kept_in}
use Rattle.vos_commits.specs.Found.{quiet-finds, quiet-keeps}
use Rattle.vos_pool_base.specs.vos_image.Kept.{Stored, durable_of, kept}
use Rattle.vos_pool_base.specs.vos_places.declared.codec.Counters.{Counters}
use Rattle.vos_pool_base.specs.vos_places.Laws.{counted, counter_range}
use Rattle.vos_pool_base.specs.vos_places.Tables.{Table, places_of}
use Rattle.vos_pool_base.specs.Pool.{HasStood, IsOpened, MayBeFound, kept_by, kept_of, may_of}
use Rattle.vos_pool_base.specs.Tidy.{IsSamePool, LeavesBut, LeavesStanding}
use Rattle.vos_pool_base.proofs.Leaving.{counted_same, counters_free, free_at, leaves_at, left_after, left_no_more}
use Rattle.vos_pool_base.proofs.Staging.{with_ranges}
use Rattle.vos_pool_base.proofs.Writing.{IsCallOf}
use Rattle.vos_pool_stage.specs.Staged.{IsQuietCall, IsToStandOn, WhereTold, free_then, pool_of}
use Rattle.vos_pool_stage.proofs.Staging.{staged_stands}
use Rattle.vos_pool_base.specs.vos_standing.Standing.{Stand}
use Rattle.vos_pool_base.proofs.vos_standing.Committed.{closed_it_is_kept, commits_change, contents_stand}
use Rattle.vos_pool_base.proofs.vos_standing.Standing.{what_stands_is_kept}
use Rattle.vos_store.specs.declared.refusal.Stopped.{Stopped}
use Rattle.vos_store.specs.Calls.{Makes}
use Rattle.vos_store.specs.Refusals.{always_stop, refuses}
use Rattle.vos_pool_base.specs.vos_tables.Tables.{AreNext}

-- no answer of a call that may only stop is a refusal
never_refused : (result : Result (Unit {0}) Stopped) → refuses always_stop result ≡ false
never_refused (Ok x) = refl
never_refused (Err e) = refl

on-ok : {T E : Type 0} (P : Type 0) (result : Result T E) → is_ok result ≡ false → OnOk result P
on-ok P (Ok x) bad = absurd (clash true refl bad)
on-ok P (Err e) bad = tt

none : (o : Option Durable) (r : Result (Unit {0}) Stopped) → OnOk r (o ≡ o)
none o (Ok x) = refl
none o (Err e) = tt

-- something stands with a table, something else with another once these ranges are written, and what they keep is so related
pub record StandsInPlace (target size : ℕ) (f : Image) (ranges : List Range) (t u : Table) (change : Durable → Durable) : Type 0 where
  pub before : Stored
  pub after : Stored
  pub stood : Stand target size f t before
  pub stands : Stand target size (all_over ranges f) u after
  pub changes : durable_of (record { places = places_of u; stored = after }) ≡ change (kept_in (kept target size) size f)

module _ (target size : ℕ) (f g : Image) (old new : Image → Type 0) (t u : Table) (ranges : List Range) (result : Result (Unit {0}) Stopped) (change : Durable → Durable) where
  running : StandsInPlace target size f ranges t u change → IsCommit size ranges (is_ok result) f g old new
      → Makes false always_stop change result (Some (kept_in (kept target size) size f)) (Some (kept_in (kept target size) size g)) (MayFind (kept target size) size old) (MayFind (kept target size) size new)
  running s k =
      commits_change (Unit {0}) Stopped always_stop change result target size ranges f g old new t u s.before s.after k (never_refused result) s.stood s.stands
      (s.changes ∙ ap change (closed_it_is_kept target size f t s.before k.rest.closed s.stood))

pub staged_makes : (tells : Bool) (target size : ℕ) (f g : Image) (old new : Image → Type 0) (stopped : Bool) (t u : Table) (ranges : List Range) (result : Result (Unit {0}) Stopped) (change : Durable → Durable)
    → (IsTrue tells → stopped ≡ false → StandsInPlace target size f ranges t u change) → (IsTrue tells → stopped ≡ false → IsCommit size ranges (is_ok result) f g old new)
    → (stopped ≡ true → is_ok result ≡ false) → (IsTrue tells → stopped ≡ true → (c : Image) → new c → old c)
    → Makes stopped always_stop change result (kept_by tells target size f) (kept_by tells target size g) (MayBeFound tells target size old) (MayBeFound tells target size new)
staged_makes false target size f g old new stopped t u ranges result change s k again stays = record {
  told = refl;
  done = none None result;
  refused = λ no. absurd (clash (refuses always_stop result) no (never_refused result));
  left = λ x may. absurd (clash false may.0 refl);
}
staged_makes true target size f g old new true t u ranges result change s k again stays = record {
  told = refl;
  done = on-ok (Some (kept_in (kept target size) size g) ≡ Some (change (kept_in (kept target size) size f))) result (again refl);
  refused = λ no. absurd (clash (refuses always_stop result) no (never_refused result));
  left = λ x may. inl (may.0, (may.1.0, (stays may.0 refl may.1.0 may.1.1.0, may.1.1.1)));
}
staged_makes true target size f g old new false t u ranges result change s k again stays =
    let m = running target size f g old new t u ranges result change (s refl refl) (k refl refl) in
    record {
      told = m.told;
      done = m.done;
      refused = m.refused;
      left = λ x may. elim (m.left x may.1) [
        | inl before ↦ inl (may.0, before)
        | inr after ↦ inr after
      ];
    }

-- a change of nothing
abbrev pub same : Durable → Durable
same d = d

quiet_of : (target size : ℕ) (f : Image) (ranges : List Range) (t u : Table) → StandsInPlace target size f ranges t u same → IsQuiet (kept target size) size ranges f
quiet_of target size f ranges t u s = what_stands_is_kept target size (all_over ranges f) u s.after s.stands ∙ s.changes

on-done : {T E : Type 0} (P : Type 0) (result : Result T E) → (is_ok result ≡ true → P) → OnOk result P
on-done P (Ok x) h = h refl
on-done P (Err e) h = tt

pub staged_is_quiet : (tells : Bool) (target size : ℕ) (f g : Image) (old new : Image → Type 0) (stopped : Bool) (t u : Table) (ranges : List Range) (result : Result (Unit {0}) Stopped)
    → (IsTrue tells → stopped ≡ false → StandsInPlace target size f ranges t u same) → (IsTrue tells → stopped ≡ false → IsCommit size ranges (is_ok result) f g old new)
    → (stopped ≡ true → is_ok result ≡ false) → (IsTrue tells → stopped ≡ true → (c : Image) → new c → old c)
    → IsQuietCall result (kept_by tells target size f) (kept_by tells target size g) (MayBeFound tells target size old) (MayBeFound tells target size new)
staged_is_quiet false target size f g old new stopped t u ranges result s k again stays = record {
  told = refl;
  done = none None result;
  left = λ x may. absurd (clash false may.0 refl);
}
staged_is_quiet true target size f g old new true t u ranges result s k again stays = record {
  told = refl;
  done = on-ok (Some (kept_in (kept target size) size g) ≡ Some (kept_in (kept target size) size f)) result (again refl);
  left = λ x may. (may.0, (may.1.0, (stays may.0 refl may.1.0 may.1.1.0, may.1.1.1)));
}
staged_is_quiet true target size f g old new false t u ranges result s k again stays =
    let quiet = quiet_of target size f ranges t u (s refl refl) in
    record {
      told = refl;
      done = on-done (Some (kept_in (kept target size) size g) ≡ Some (kept_in (kept target size) size f)) result (λ ok. ap (λ d. Some d) (quiet-keeps (kept target size) size ranges (is_ok result) f g old new (k refl refl) quiet ok));
      left = λ x may. (may.0, quiet-finds (kept target size) size ranges (is_ok result) f g old new x (k refl refl) quiet may.1);
    }

-- ---- of blocks

-- one range more is staged
pub more_staged : {R : Type 0} (b s : BlocksState R) (place : ℕ) (bytes bytes' : List ℕ) → bytes ≡ bytes' → s ≡ with_ranges (b.undo.staged ++ record { place = place; bytes = bytes } ∷ []) b → s ≡ with_ranges (b.undo.staged ++ record { place = place; bytes = bytes' } ∷ []) b
more_staged b s place bytes bytes' same is = is ∙ ap (λ bs. let r : Range = record { place = place; bytes = bs } in with_ranges (b.undo.staged ++ r ∷ []) b) same

-- what is to stand, with the counters that are written
module _ {R : Type 0} (extent : R → ℕ) (image : R → Image) (b : BlocksState R) (t : Table) (c : Counters) where
  abbrev pub all_ranges : List Range
  all_ranges = b.undo.staged ++ counter_range c ∷ []

  pub stands_then : (y : Stored) → IsToStandOn extent image b t c y → AreNext t c → Stand t.header.target (extent b.undo.region) (all_over all_ranges (image b.undo.region)) (counted c t) y
  stands_then y k next = staged_stands (extent b.undo.region) (image b.undo.region) b.lasting b.undo.staged b.map t c y k next

  pub in_place : (change : Durable → Durable) → AreNext t c → (h : (y : Stored) × (IsToStandOn extent image b t c y × (durable_of (record { places = places_of (counted c t); stored = y }) ≡ change (kept_in (kept t.header.target (extent b.undo.region)) (extent b.undo.region) (image b.undo.region)))))
      → StandsInPlace t.header.target (extent b.undo.region) (image b.undo.region) all_ranges t (counted c t) change
  in_place change next h = record { before = h.1.0.before; after = h.0; stood = h.1.0.stood; stands = stands_then h.0 h.1.0 next; changes = h.1.1 }

-- the size and the target are as they were
makes_at : (stopped : Bool) (change : Durable → Durable) (result : Result (Unit {0}) Stopped) (old : Option Durable) (may : Durable → Type 0) (tells : Bool) (target target' size size' : ℕ) (image : Image) (leaves : Image → Type 0) → target' ≡ target → size' ≡ size
    → Makes stopped always_stop change result old (kept_by tells target size image) may (MayBeFound tells target size leaves) → Makes stopped always_stop change result old (kept_by tells target' size' image) may (MayBeFound tells target' size' leaves)
makes_at stopped change result old may tells target target' size size' image leaves same_target long m =
    subst (λ (n : ℕ). Makes stopped always_stop change result old (kept_by tells n size' image) may (MayBeFound tells n size' leaves)) (sym same_target) (subst (λ (n : ℕ). Makes stopped always_stop change result old (kept_by tells target n image) may (MayBeFound tells target n leaves)) (sym long) m)

quiet_at : (result : Result (Unit {0}) Stopped) (old : Option Durable) (may : Durable → Type 0) (tells : Bool) (target target' size size' : ℕ) (image : Image) (leaves : Image → Type 0) → target' ≡ target → size' ≡ size
    → IsQuietCall result old (kept_by tells target size image) may (MayBeFound tells target size leaves) → IsQuietCall result old (kept_by tells target' size' image) may (MayBeFound tells target' size' leaves)
quiet_at result old may tells target target' size size' image leaves same_target long m =
    subst (λ (n : ℕ). IsQuietCall result old (kept_by tells n size' image) may (MayBeFound tells n size' leaves)) (sym same_target) (subst (λ (n : ℕ). IsQuietCall result old (kept_by tells target n image) may (MayBeFound tells target n leaves)) (sym long) m)

-- A commit of what is staged, with the counters.
module _ {R : Type 0} (extent : R → ℕ) (tells : Bool) (image : R → Image) (may_leave : R → Image → Type 0) (b : BlocksState R) (t v : Table) (c : Counters) (after : BlocksState R) (result : Result (Unit {0}) Stopped) (done : Bool) (ok : is_ok result ≡ done)
    (staged : BlocksState R) (is : staged ≡ with_ranges (all_ranges extent image b t c) b) (call : IsCallOf extent tells image may_leave done staged after) (same : IsSamePool t v) (next : AreNext t c) where
  abbrev ranges : List Range
  ranges = all_ranges extent image b t c

  k : IsCallOf extent tells image may_leave done (with_ranges ranges b) after
  k = subst (λ (s : BlocksState R). IsCallOf extent tells image may_leave done s after) is call

  committed : IsTrue tells → b.undo.stopped ≡ false → IsCommit (extent b.undo.region) ranges (is_ok result) (image b.undo.region) (image after.undo.region) (may_leave b.undo.region) (may_leave after.undo.region)
  committed tell going = subst (λ d. IsCommit (extent b.undo.region) ranges d (image b.undo.region) (image after.undo.region) (may_leave b.undo.region) (may_leave after.undo.region)) (sym ok) (k.committed tell going)

  again : b.undo.stopped ≡ true → is_ok result ≡ false
  again stopped = ok ∙ not_done done b.undo.stopped k.running stopped
    where
      not_done : (d s : Bool) → (d ≡ true → s ≡ false) → s ≡ true → d ≡ false
      not_done true s on off = absurd (clash s off (on refl))
      not_done false s on off = refl

  stays : IsTrue tells → b.undo.stopped ≡ true → (i : Image) → may_leave after.undo.region i → may_leave b.undo.region i
  stays tell stopped i left = subst (λ r. may_leave r i) (k.untouched stopped) left

  pub commit_makes : (change : Durable → Durable) → WhereTold tells b ((y : Stored) × (IsToStandOn extent image b t c y × (durable_of (record { places = places_of (counted c t); stored = y }) ≡ change (kept_in (kept t.header.target (extent b.undo.region)) (extent b.undo.region) (image b.undo.region)))))
      → Makes b.undo.stopped always_stop change result (kept_of tells extent image (pool_of b t)) (kept_of tells extent image (pool_of after v)) (may_of tells extent may_leave (pool_of b t)) (may_of tells extent may_leave (pool_of after v))
  commit_makes change h =
      makes_at b.undo.stopped change result (kept_of tells extent image (pool_of b t)) (may_of tells extent may_leave (pool_of b t)) tells t.header.target v.header.target (extent b.undo.region) (extent after.undo.region) (image after.undo.region) (may_leave after.undo.region) same.target k.size
      (staged_makes tells t.header.target (extent b.undo.region) (image b.undo.region) (image after.undo.region) (may_leave b.undo.region) (may_leave after.undo.region) b.undo.stopped t (counted c t) ranges result change
      (λ tell going. in_place extent image b t c change next (h tell going)) committed again stays)

  pub commit_is_quiet : WhereTold tells b ((y : Stored) × (IsToStandOn extent image b t c y × (durable_of (record { places = places_of (counted c t); stored = y }) ≡ kept_in (kept t.header.target (extent b.undo.region)) (extent b.undo.region) (image b.undo.region))))
      → IsQuietCall result (kept_of tells extent image (pool_of b t)) (kept_of tells extent image (pool_of after v)) (may_of tells extent may_leave (pool_of b t)) (may_of tells extent may_leave (pool_of after v))
  commit_is_quiet h =
      quiet_at result (kept_of tells extent image (pool_of b t)) (may_of tells extent may_leave (pool_of b t)) tells t.header.target v.header.target (extent b.undo.region) (extent after.undo.region) (image after.undo.region) (may_leave after.undo.region) same.target k.size
      (staged_is_quiet tells t.header.target (extent b.undo.region) (image b.undo.region) (image after.undo.region) (may_leave b.undo.region) (may_leave after.undo.region) b.undo.stopped t (counted c t) ranges result
      (λ tell going. in_place extent image b t c (λ d. d) next (h tell going)) committed again stays)

  -- it takes so many free blocks at most
  pub commit_leaves : WhereTold tells b ((y : Stored) × IsToStandOn extent image b t c y) → IsBlocks (extent b.undo.region) tells (image b.undo.region) b.undo.staged b.undo.stopped b.map b.lasting → (cost : ℕ) → (IsTrue tells → free_then b ≤ free_count b + cost)
      → LeavesBut tells extent may_leave cost (pool_of b t) (pool_of after v)
  commit_leaves ready holds cost spent = record {
    same = same;
    left = λ few before less left tell. leaves_at (extent b.undo.region) (extent after.undo.region) few t v (may_leave after.undo.region) k.size same (by few before less (left tell) tell b.undo.stopped refl);
  }
    where
      by : (few before : ℕ) → few + cost ≤ before → LeavesStanding (extent b.undo.region) t.header.target t.header.targets t.header.layout before (may_leave b.undo.region) → IsTrue tells
          → (s : Bool) → b.undo.stopped ≡ s → LeavesStanding (extent b.undo.region) t.header.target t.header.targets t.header.layout few (may_leave after.undo.region)
      by few before less left tell true stopped = left_no_more _ _ _ _ few before (may_leave b.undo.region) (may_leave after.undo.region) (omega (arith, less)) (stays tell stopped) left
      by few before less left tell false going =
          let x = ready tell going in
          let spent_so = spent tell in
          let size = extent b.undo.region in
          let f = image b.undo.region in
          let were : free_then b ≡ free_at size f = ap (λ s. count_below s b.lasting.end) (holds.lasting_stored tell going) ∙ ap (λ (n : ℕ). count_below (free_blocks size f) n) holds.lasting_end in
          let are : free_count b ≡ free_at size (all_over b.undo.staged f) = ap (λ s. count_below s b.map.end) (holds.stored tell going) ∙ ap (λ (n : ℕ). count_below (free_blocks size (all_over b.undo.staged f)) n) holds.end in
          let then_free : free_at size (all_over ranges f) ≡ free_at size (all_over b.undo.staged f) = ap (free_at size) (all_over-push b.undo.staged (counter_range c) f) ∙ counters_free size c (all_over b.undo.staged f) in
          left_after size t.header.target few before cost f (image after.undo.region) (may_leave b.undo.region) (may_leave after.undo.region) t (counted c t) ranges (is_ok result) x.0
          (committed tell going) (stands_then extent image b t c x.0 x.1 next) (counted_same c t) (omega (arith, were, are, then_free, spent_so)) less left

-- and then what was staged stands
module _ {R : Type 0} (extent : R → ℕ) (tells : Bool) (image : R → Image) (may_leave : R → Image → Type 0) (b : BlocksState R) (t : Table) (c : Counters) (after staged : BlocksState R) (is : staged ≡ with_ranges (all_ranges extent image b t c) b)
    (call : IsCallOf extent tells image may_leave true staged after) (next : AreNext t c) where
  pub stands_after : IsTrue tells → (y : Stored) → IsToStandOn extent image b t c y → Stand t.header.target (extent after.undo.region) (image after.undo.region) (counted c t) y
  stands_after tell y h =
      let k = subst (λ (s : BlocksState R). IsCallOf extent tells image may_leave true s after) is call in
      subst (λ (n : ℕ). Stand t.header.target n (image after.undo.region) (counted c t) y) (sym k.size)
      (contents_stand t.header.target (extent b.undo.region) (all_over (all_ranges extent image b t c) (image b.undo.region)) (image after.undo.region) (counted c t) y ((k.committed tell (k.running refl)).written refl) (stands_then extent image b t c y h next))

  pub opened_then : (v : Table) → v ≡ counted c t → WhereTold tells b ((y : Stored) × IsToStandOn extent image b t c y) → after.undo.staged ≡ [] → after.map ≡ after.lasting
      → IsOpened (extent after.undo.region) tells (image after.undo.region) after.undo.staged after.undo.stopped after.map after.lasting v
  opened_then v last ready none unchanged = record {
    unstaged = none;
    unchanged = unchanged;
    stands = λ tell going.
        let k = subst (λ (s : BlocksState R). IsCallOf extent tells image may_leave true s after) is call in
        let x = ready tell (k.running refl) in
        subst (λ (w : Table). HasStood (extent after.undo.region) (image after.undo.region) w) (sym last) (record { stored = x.0; stands = stands_after tell x.0 x.1 });
  }
