-- A commit of changes of fixed places.
use Rattle.std.specs.Prelude.{◌≡◌, ℕ, Bool, true, false, IsErr, IsTrue, List, [], OnOk, Option, Some, None, Result, Ok, Err, is_ok, refl}
use Rattle.std.proofs.Common.{◌∙◌, ap, sym, subst, inl, inr}
use Rattle.base_outside.specs.Images.{Image, Range, all_over}
use Rattle.daos_model.specs.declared.durable.Durable.{Durable}
use Rattle.daos_model.specs.BoolLaws.{clash}
use Rattle.vos_commits.specs.Kept.{IsCommit, MayFind, kept_in}
use Rattle.vos_standing.specs.vos_image.Kept.{Stored, durable_of, kept}
use Rattle.vos_standing.specs.vos_places.Tables.{Table}
use Rattle.pmem_alloc.specs.Blocks.{BlocksState}
use Rattle.vos_pool_base.specs.Pool.{ChangesTo, HasStood, IsOpened, MayBeFound, OpenedState, kept_by, kept_of, may_of}
use Rattle.vos_pool_base.proofs.Staging.{with_ranges}
use Rattle.vos_standing.specs.Standing.{Stand}
use Rattle.vos_standing.proofs.Committed.{closed_it_is_kept, commits_change, contents_stand}
use Rattle.vos_store.specs.declared.refusal.Stopped.{Stopped}
use Rattle.vos_store.specs.Calls.{Makes}
use Rattle.vos_store.specs.Refusals.{always_stop, refuses}

-- no answer of a call that may only stop is a refusal
never_refused : (result : Result (Unit {0}) Stopped) → refuses always_stop result ≡ false
never_refused (Ok x) = refl
never_refused (Err e) = refl

on-ok : {T E : Type 0} (P : Type 0) (result : Result T E) → is_ok result ≡ false → OnOk result P
on-ok P (Ok x) bad = absurd (clash true refl bad)
on-ok P (Err e) bad = tt

none : (o : Option Durable) (r : Result (Unit {0}) Stopped) → OnOk r (o ≡ o)
none o (Ok x) = refl
none o (Err e) = tt

-- these ranges written, whatever stood with the first table stands with the second one
abbrev pub StandsThen : ℕ → ℕ → Image → List Range → Table → Table → Type 0
StandsThen target size f ranges t u = (x : Stored) → Stand target size f t x → Stand target size (all_over ranges f) u x

module _ (target size : ℕ) (f g : Image) (old new : Image → Type 0) (t u : Table) (ranges : List Range) (result : Result (Unit {0}) Stopped) (change : Durable → Durable) where
  running : HasStood size f t → t.header.target ≡ target → StandsThen target size f ranges t u → IsCommit size ranges (is_ok result) f g old new → ChangesTo change (Some (kept_in (kept target size) size f)) t u
      → Makes false always_stop change result (Some (kept_in (kept target size) size f)) (Some (kept_in (kept target size) size g)) (MayFind (kept target size) size old) (MayFind (kept target size) size new)
  unfolding durable_of
  running h same stand_then k makes =
      let s : Stand target size f t h.stored = subst (λ (n : ℕ). Stand n size f t h.stored) same h.stands in
      commits_change (Unit {0}) Stopped always_stop change result target size ranges f g old new t u h.stored h.stored k (never_refused result) s (stand_then h.stored s)
      (makes _ _ (ap Some (closed_it_is_kept target size f t h.stored k.rest.closed s)))

pub write_makes : (tells : Bool) (target size : ℕ) (f g : Image) (old new : Image → Type 0) (stopped : Bool) (t u : Table) (ranges : List Range) (result : Result (Unit {0}) Stopped) → t.header.target ≡ target → (IsTrue tells → stopped ≡ false → StandsThen target size f ranges t u)
    → (IsTrue tells → stopped ≡ false → HasStood size f t) → (IsTrue tells → stopped ≡ false → IsCommit size ranges (is_ok result) f g old new)
    → (stopped ≡ true → is_ok result ≡ false) → (IsTrue tells → stopped ≡ true → (c : Image) → new c → old c)
    → (change : Durable → Durable) → (stopped ≡ false → ChangesTo change (kept_by tells target size f) t u)
    → Makes stopped always_stop change result (kept_by tells target size f) (kept_by tells target size g) (MayBeFound tells target size old) (MayBeFound tells target size new)
write_makes false target size f g old new stopped t u ranges result same stand_then h k again stays change makes = record {
  told = refl;
  done = none None result;
  refused = λ no. absurd (clash (refuses always_stop result) no (never_refused result));
  left = λ x may. absurd (clash false may.0 refl);
}
write_makes true target size f g old new true t u ranges result same stand_then h k again stays change makes = record {
  told = refl;
  done = on-ok (Some (kept_in (kept target size) size g) ≡ Some (change (kept_in (kept target size) size f))) result (again refl);
  refused = λ no. absurd (clash (refuses always_stop result) no (never_refused result));
  left = λ x may. inl (may.0, (may.1.0, (stays may.0 refl may.1.0 may.1.1.0, may.1.1.1)));
}
write_makes true target size f g old new false t u ranges result same stand_then h k again stays change makes =
    let m = running target size f g old new t u ranges result change (h refl refl) same (stand_then refl refl) (k refl refl) (makes refl) in
    record {
      told = m.told;
      done = m.done;
      refused = m.refused;
      left = λ x may. elim (m.left x may.1) [
        | inl before ↦ inl (may.0, before)
        | inr after ↦ inr after
      ];
    }

-- the size and the target are as they were
makes_at : {T E : Type 0} (stopped : Bool) (stop : E → Bool) (change : Durable → Durable) (result : Result T E) (old : Option Durable) (may : Durable → Type 0) (tells : Bool) (target target' size size' : ℕ) (image : Image) (leaves : Image → Type 0) → target' ≡ target → size' ≡ size
    → Makes stopped stop change result old (kept_by tells target size image) may (MayBeFound tells target size leaves) → Makes stopped stop change result old (kept_by tells target' size' image) may (MayBeFound tells target' size' leaves)
makes_at stopped stop change result old may tells target target' size size' image leaves same long m =
    subst (λ (n : ℕ). Makes stopped stop change result old (kept_by tells n size' image) may (MayBeFound tells n size' leaves)) (sym same) (subst (λ (n : ℕ). Makes stopped stop change result old (kept_by tells target n image) may (MayBeFound tells target n leaves)) (sym long) m)

-- What is known of a call that stages ranges on an open pool and commits them, from the staged blocks to those after it.
pub record IsCallOf {R : Type 0} (extent : R → ℕ) (tells : Bool) (image : R → Image) (may_leave : R → Image → Type 0) (done : Bool) (staged after : BlocksState R) : Type 0 where
  pub committed : IsTrue tells → staged.undo.stopped ≡ false → IsCommit (extent staged.undo.region) staged.undo.staged done (image staged.undo.region) (image after.undo.region) (may_leave staged.undo.region) (may_leave after.undo.region)
  pub untouched : staged.undo.stopped ≡ true → after.undo.region ≡ staged.undo.region
  pub running : done ≡ true → staged.undo.stopped ≡ false
  pub size : extent after.undo.region ≡ extent staged.undo.region

-- It is a change of what the pool keeps, where what stands with the ranges makes that change.
module _ {R : Type 0} (extent : R → ℕ) (tells : Bool) (image : R → Image) (may_leave : R → Image → Type 0) (p : OpenedState R) (after : BlocksState R) (u v : Table) (ranges : List Range) (result : Result (Unit {0}) Stopped) where
  abbrev Moved : BlocksState R → Type 0
  Moved staged = (done : Bool) → is_ok result ≡ done → IsCallOf extent tells image may_leave done staged after → v.header.target ≡ p.table.header.target
      → (IsTrue tells → p.blocks.undo.stopped ≡ false → HasStood (extent p.blocks.undo.region) (image p.blocks.undo.region) p.table)
      → StandsThen p.table.header.target (extent p.blocks.undo.region) (image p.blocks.undo.region) ranges p.table u
      → (change : Durable → Durable) → (p.blocks.undo.stopped ≡ false → ChangesTo change (kept_of tells extent image p) p.table u)
      → Makes p.blocks.undo.stopped always_stop change result (kept_of tells extent image p) (kept_of tells extent image (record { blocks = after; table = v }))
      (may_of tells extent may_leave p) (may_of tells extent may_leave (record { blocks = after; table = v }))

  moved : Moved (with_ranges ranges p.blocks)
  moved done ok k aim h stand_then change makes =
      makes_at p.blocks.undo.stopped always_stop change result (kept_of tells extent image p) (may_of tells extent may_leave p) tells p.table.header.target v.header.target (extent p.blocks.undo.region) (extent after.undo.region) (image after.undo.region) (may_leave after.undo.region) aim k.size
      (write_makes tells p.table.header.target (extent p.blocks.undo.region) (image p.blocks.undo.region) (image after.undo.region) (may_leave p.blocks.undo.region) (may_leave after.undo.region) p.blocks.undo.stopped p.table u ranges result refl (λ t going. stand_then) h
      (λ t going. subst (λ d. IsCommit (extent p.blocks.undo.region) ranges d (image p.blocks.undo.region) (image after.undo.region) (may_leave p.blocks.undo.region) (may_leave after.undo.region)) (sym ok) (k.committed t going))
      (λ stopped. ok ∙ not_done done (p.blocks.undo.stopped) k.running stopped)
      (λ t stopped c left. subst (λ r. may_leave r c) (k.untouched stopped) left) change makes)
    where
      not_done : (d s : Bool) → (d ≡ true → s ≡ false) → s ≡ true → d ≡ false
      not_done true s on off = absurd (clash s off (on refl))
      not_done false s on off = refl

  pub call_makes : (staged : BlocksState R) → staged ≡ with_ranges ranges p.blocks → Moved staged
  call_makes staged is = subst (λ (s : BlocksState R). Moved s) (sym is) moved

pub err_is_not_ok : {T E : Type 0} (r : Result T E) → IsErr r → is_ok r ≡ false
err_is_not_ok (Ok x) bad = absurd (cc)
err_is_not_ok (Err e) bad = refl

-- The pool is open after it, with what it remembers then.
pub opened_after : {R : Type 0} (extent : R → ℕ) (tells : Bool) (image : R → Image) (may_leave : R → Image → Type 0) (b : BlocksState R) (t u v : Table) (ranges : List Range) (staged after : BlocksState R) → staged ≡ with_ranges ranges b
    → IsCallOf extent tells image may_leave true staged after → after.undo.staged ≡ [] → after.map ≡ after.lasting → v ≡ u → u.header.target ≡ t.header.target
    → (IsTrue tells → b.undo.stopped ≡ false → HasStood (extent b.undo.region) (image b.undo.region) t) → StandsThen t.header.target (extent b.undo.region) (image b.undo.region) ranges t u
    → IsOpened (extent after.undo.region) tells (image after.undo.region) after.undo.staged after.undo.stopped after.map after.lasting v
opened_after {R = R} extent tells image may_leave b t u v ranges staged after is k none same last aim h stand_then = record {
  unstaged = none;
  unchanged = same;
  stands = λ tell going.
      let c = subst (λ (s : BlocksState R). IsCallOf extent tells image may_leave true s after) is k in
      let x = h tell (c.running refl) in
      let s = contents_stand t.header.target (extent b.undo.region) (all_over ranges (image b.undo.region)) (image after.undo.region) u x.stored ((c.committed tell (c.running refl)).written refl) (stand_then x.stored x.stands) in
      subst (λ (w : Table). HasStood (extent after.undo.region) (image after.undo.region) w) (sym last)
      (subst (λ (n : ℕ). HasStood n (image after.undo.region) u) (sym c.size)
      (record { stored = x.stored; stands = subst (λ (n : ℕ). Stand n (extent b.undo.region) (image after.undo.region) u x.stored) (sym aim) s }));
}
