-- Which versions go from what is kept, and how many blocks they give back.
use Rattle.std.proofs.Common.{◌≡◌, ℕ, ◌+◌, ◌≤◌, ◌&&◌, Bool, true, false, not, cond, List, [], ◌∷◌, Option, Some, None, Ok, Err, Result, refl, sym, ap, ◌∙◌, subst, arith}
use Rattle.std.specs.Prelude.{All, OnOk, filter, find, map}
use Rattle.std.specs.Option.{ForSome}
use Rattle.std.proofs.lemmas.List.Elements.{All-cons, All-nil}
use Rattle.std.proofs.lemmas.Option.{none-some, same_Some}
use Rattle.base_outside.specs.Images.{Image}
use Rattle.base_types.specs.declared.epoch.Epoch.{Epoch}
use Rattle.base_types.specs.declared.id.ContId.{ContId}
use Rattle.daos_model.specs.Changes.{is_in_range}
use Rattle.daos_model.specs.declared.durable.Durable.{Durable}
use Rattle.daos_model.specs.declared.durable.Version.{Version}
use Rattle.daos_model.specs.Prunes.{is_going}
use Rattle.pmem_alloc.specs.Blocks.{free_count}
use Rattle.vos_pool_base.specs.Pool.{OpenedState, kept_of}
use Rattle.vos_pool_prune.specs.Order.{chosen}
use Rattle.vos_pool_prune.proofs.Chosen.{chosen-map}
use Rattle.vos_pool_prune.proofs.Joining.{asked_of}
use Rattle.vos_pool_settle.specs.Settling.{OfItsKept}
use Rattle.vos_store.specs.Answers.{discards, is_open_in, or_unsettled}
use Rattle.vos_store.specs.Calls.{going_count}
use Rattle.vos_store.specs.declared.refusal.Stopped.{Stopped}

-- where a test sets the marks
pub chosen_are : (ms : List Bool) (us vs : List Version) (p : Version → Bool) → ms ≡ map p vs → us ≡ vs → chosen ms us ≡ filter p vs
chosen_are ms us vs p marks same = ap (λ (z : List Bool). chosen z us) marks ∙ (ap (λ (z : List Version). chosen (map p vs) z) same ∙ chosen-map p vs)

-- so also by what is told
pub going_told : (c : ContId) (upto : Epoch) (ms : List Bool) (us : List Version) (memory d : Durable) (kept : Option Durable) → ms ≡ map (is_going c upto memory.versions memory.snaps) memory.versions → us ≡ memory.versions
    → kept ≡ Some memory → kept ≡ Some d → chosen ms us ≡ filter (is_going c upto d.versions d.snaps) d.versions
going_told c upto ms us memory d kept marks same is told =
    subst (λ (x : Durable). chosen ms us ≡ filter (is_going c upto x.versions x.snaps) x.versions) (same_Some memory d (sym is ∙ told)) (chosen_are ms us memory.versions (is_going c upto memory.versions memory.snaps) marks same)

pub range_told : (c : ContId) (lo hi : Epoch) (ms : List Bool) (us : List Version) (memory d : Durable) (kept : Option Durable) → ms ≡ map (is_in_range c lo hi) memory.versions → us ≡ memory.versions
    → kept ≡ Some memory → kept ≡ Some d → chosen ms us ≡ filter (is_in_range c lo hi) d.versions
range_told c lo hi ms us memory d kept marks same is told =
    subst (λ (x : Durable). chosen ms us ≡ filter (is_in_range c lo hi) x.versions) (same_Some memory d (sym is ∙ told)) (chosen_are ms us memory.versions (is_in_range c lo hi) marks same)

-- each that goes gives back a block at least
pub space_told : {R : Type 0} (extent : R → ℕ) (tells : Bool) (image : R → Image) (c : ContId) (upto : Epoch) (p q : OpenedState R) (free free' : ℕ) (r : Result (Unit {0}) Stopped) → p.blocks.undo.stopped ≡ false
    → free ≡ free_count p.blocks → free' ≡ free_count q.blocks → OnOk r (OfItsKept tells extent image p (λ d. free_count p.blocks + going_count c upto d ≤ free_count q.blocks))
    → OnOk r (ForSome (kept_of tells extent image p) (λ d. free + going_count c upto d ≤ free'))
space_told extent tells image c upto p q free free' (Ok z) run was now gave = λ d is. let more = asked_of extent tells image p (λ d. free_count p.blocks + going_count c upto d ≤ free_count q.blocks) gave run d is in omega (arith, more, was, now)
space_told extent tells image c upto p q free free' (Err z) run was now gave = tt

-- ---- a range in which none is unsettled

none_open : (c : ContId) (lo hi : Epoch) (vs : List Version) → find (is_open_in c lo hi) vs ≡ None → All (λ v. v.done ≡ true) (filter (is_in_range c lo hi) vs)
unfolding is_open_in
none_open c lo hi [] none = All-nil (λ v. v.done ≡ true)
none_open c lo hi (v ∷ vs) none = by (is_in_range c lo hi v) v.done refl none (none_open c lo hi vs)
  where
    by : (b t : Bool) → v.done ≡ t → cond (b && not t) (Some v) (find (is_open_in c lo hi) vs) ≡ None → (find (is_open_in c lo hi) vs ≡ None → All (λ v. v.done ≡ true) (filter (is_in_range c lo hi) vs)) → All (λ v. v.done ≡ true) (cond b (v ∷ filter (is_in_range c lo hi) vs) (filter (is_in_range c lo hi) vs))
    by true true is left rest = All-cons (λ v. v.done ≡ true) v (filter (is_in_range c lo hi) vs) is (rest left)
    by true false is left rest = absurd (none-some v (sym left))
    by false t is left rest = rest left

not_refused : (o : Option Version) (z : Unit {0}) → Ok z ≡ or_unsettled o → o ≡ None
not_refused None z settled = refl
not_refused (Some v) z settled = let never : ⊥ = cc in absurd never

-- all of it are done
pub range_done : (c : ContId) (lo hi : Epoch) (ms : List Bool) (us : List Version) (memory : Durable) (z : Unit {0}) → Ok z ≡ discards c lo hi memory → ms ≡ map (is_in_range c lo hi) memory.versions → us ≡ memory.versions → All (λ v. v.done ≡ true) (chosen ms us)
unfolding discards
range_done c lo hi ms us memory z settled marks same =
    subst (All (λ v. v.done ≡ true)) (sym (chosen_are ms us memory.versions (is_in_range c lo hi) marks same)) (none_open c lo hi memory.versions (not_refused (find (is_open_in c lo hi) memory.versions) z settled))
