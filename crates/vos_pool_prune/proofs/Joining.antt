-- Changes of an open pool that may be cut, one after another.
use Rattle.std.proofs.Common.{◌≡◌, ℕ, ◌+◌, ◌≤◌, Bool, true, false, Some, Result, Ok, Err, length, option_map, refl, sym, ap, ◌∙◌, subst, arith}
use Rattle.std.specs.Prelude.{IsErr, IsTrue, OnOk}
use Rattle.std.specs.Option.{ForSome}
use Rattle.base_outside.specs.Images.{Image}
use Rattle.daos_model.specs.declared.durable.Durable.{Durable}
use Rattle.pmem_alloc.specs.Blocks.{free_count}
use Rattle.vos_pool_settle.specs.vos_pool_base.Pool.{OpenedState, kept_by, kept_of, may_of}
use Rattle.vos_pool_settle.specs.vos_pool_base.Tidy.{IfTidy}
use Rattle.vos_pool_prune.specs.Changing.{IsPartChange}
use Rattle.vos_pool_prune.proofs.Partly.{makes_as, makes_stopped, makes_then, whole_makes}
use Rattle.vos_pool_settle.specs.Changing.{IsTidyChange}
use Rattle.vos_pool_settle.specs.Settling.{OfItsKept}
use Rattle.vos_pool_settle.proofs.vos_pool_turns.Making.{stops_then}
use Rattle.vos_pool_settle.proofs.vos_pool_turns.vos_pool_stage.Lifting.{leaves_then}
use Rattle.vos_store.specs.declared.refusal.Stopped.{Stopped}

-- what is kept is told where a pool tells its bytes
told_of : (tells : Bool) (target size : ℕ) (f : Image) (d : Durable) → kept_by tells target size f ≡ Some d → IsTrue tells
told_of true target size f d is = refl
told_of false target size f d is = let never : ⊥ = cc in absurd never

-- what holds of it then holds of whatever is kept
pub asked_of : {R : Type 0} (extent : R → ℕ) (tells : Bool) (image : R → Image) (p : OpenedState R) (P : Durable → Type 0) → OfItsKept tells extent image p P → p.blocks.undo.stopped ≡ false → ForSome (kept_of tells extent image p) P
asked_of extent tells image p P holds going d is = holds (told_of tells p.table.header.target (extent p.blocks.undo.region) (image p.blocks.undo.region) d is) going d is

-- a call that went well hadn't stopped before
went_well : (r : Result (Unit {0}) Stopped) (was : Bool) → (was ≡ true → IsErr r) → OnOk r (was ≡ false)
went_well (Ok z) false again = refl
went_well (Ok z) true again = let never = again refl in absurd (cc)
went_well (Err z) was again = tt

module _ {R : Type 0} (extent : R → ℕ) (tells : Bool) (image : R → Image) (may_leave : R → Image → Type 0) (count burns : R → ℕ) where
  -- one that is made whole or not at all
  pub part_of : (change : Durable → Durable) (p w : OpenedState R) (r : Result (Unit {0}) Stopped) → IsTidyChange tells extent image may_leave count burns change p w r
      → OnOk r (OfItsKept tells extent image p (λ d. free_count p.blocks + length d.versions ≤ free_count w.blocks + length (change d).versions)) → IsPartChange tells extent image may_leave count burns change (λ d x. x ≡ change d) p w r
  part_of change p w r m gives = record {
    kept = whole_makes p.blocks.undo.stopped change r (kept_of tells extent image p) (kept_of tells extent image w) (may_of tells extent may_leave p) (may_of tells extent may_leave w) m.kept;
    tidy = m.tidy;
    left = m.left;
    free = m.free;
    gives = gives;
    size = m.size;
    stops = m.stops;
  }

  pub part_then : (change step : Durable → Durable) (Cut Then Both : Durable → Durable → Type 0) (p q w : OpenedState R) (r : Result (Unit {0}) Stopped) → IsPartChange tells extent image may_leave count burns change Cut p q (Ok (tt {0}))
      → IsPartChange tells extent image may_leave count burns step Then q w r → ((d x : Durable) → Cut d x → Both d x) → ((d x : Durable) → Then (change d) x → Both d x)
      → IsPartChange tells extent image may_leave count burns (λ d. step (change d)) Both p w r
  part_then change step Cut Then Both p q w r k m first later = record {
    kept = makes_then p.blocks.undo.stopped q.blocks.undo.stopped change step Cut Then Both r (kept_of tells extent image p) (kept_of tells extent image q) (kept_of tells extent image w) (may_of tells extent may_leave p) (may_of tells extent may_leave q) (may_of tells extent may_leave w) k.kept m.kept (sym k.stops.went_on) first later;
    tidy = stays r m.tidy;
    left = leaves_then tells extent may_leave 0 0 p q w k.left m.left;
    free = (let one = k.free in let other = m.free in omega (arith, one, other));
    gives = both r m.gives;
    size = m.size ∙ k.size;
    stops = stops_then p.blocks.undo.stopped q.blocks.undo.stopped w.blocks.undo.stopped (count p.blocks.undo.region) (count q.blocks.undo.region) (count w.blocks.undo.region) (burns p.blocks.undo.region) (burns q.blocks.undo.region) (burns w.blocks.undo.region) r (sym k.stops.went_on) k.stops.later_faults k.stops.later_burns m.stops;
  }
    where
      stays : (r : Result (Unit {0}) Stopped) → OnOk r (IfTidy tells extent image q → IfTidy tells extent image w) → OnOk r (IfTidy tells extent image p → IfTidy tells extent image w)
      stays (Ok z) on = λ was. on (k.tidy was)
      stays (Err z) on = tt

      both : (r : Result (Unit {0}) Stopped) → OnOk r (OfItsKept tells extent image q (λ d. free_count q.blocks + length d.versions ≤ free_count w.blocks + length (step d).versions))
          → OnOk r (OfItsKept tells extent image p (λ d. free_count p.blocks + length d.versions ≤ free_count w.blocks + length (step (change d)).versions))
      both (Ok z) on = λ told going d is.
          let one = k.gives told going d is in
          let other = on told (sym k.stops.went_on ∙ going) (change d) (k.kept.done ∙ ap (option_map change) is) in
          omega (arith, one, other)
      both (Err z) on = tt

  -- the same said of what is kept
  pub part_as : (change other : Durable → Durable) (Cut Other : Durable → Durable → Type 0) (p w : OpenedState R) (r : Result (Unit {0}) Stopped) → OfItsKept tells extent image p (λ d. change d ≡ other d)
      → OfItsKept tells extent image p (λ d. (x : Durable) → Cut d x → Other d x) → IsPartChange tells extent image may_leave count burns change Cut p w r → IsPartChange tells extent image may_leave count burns other Other p w r
  part_as change other Cut Other p w r same cut m = record {
    kept = makes_as p.blocks.undo.stopped change other Cut Other r (kept_of tells extent image p) (kept_of tells extent image w) (may_of tells extent may_leave p) (may_of tells extent may_leave w) (went_well r p.blocks.undo.stopped m.stops.again) (λ going d is. same (told d is) going d is) (λ going d x is k. cut (told d is) going d is x k) m.kept;
    tidy = m.tidy;
    left = m.left;
    free = m.free;
    gives = by r m.gives;
    size = m.size;
    stops = m.stops;
  }
    where
      told : (d : Durable) → kept_of tells extent image p ≡ Some d → IsTrue tells
      told d is = told_of tells p.table.header.target (extent p.blocks.undo.region) (image p.blocks.undo.region) d is

      by : (r : Result (Unit {0}) Stopped) → OnOk r (OfItsKept tells extent image p (λ d. free_count p.blocks + length d.versions ≤ free_count w.blocks + length (change d).versions)) → OnOk r (OfItsKept tells extent image p (λ d. free_count p.blocks + length d.versions ≤ free_count w.blocks + length (other d).versions))
      by (Ok z) on = λ tell going d is. subst (λ (e : Durable). free_count p.blocks + length d.versions ≤ free_count w.blocks + length e.versions) (same tell going d is) (on tell going d is)
      by (Err z) on = tt

  -- where it stopped, whatever was to be made
  pub part_stopped : (change other : Durable → Durable) (Cut Other : Durable → Durable → Type 0) (p w : OpenedState R) (r : Result (Unit {0}) Stopped) (z : Stopped) → r ≡ Err z → ((d x : Durable) → Cut d x → Other d x)
      → IsPartChange tells extent image may_leave count burns change Cut p w r → IsPartChange tells extent image may_leave count burns other Other p w r
  part_stopped change other Cut Other p w r z is cut m = subst (λ (o : Result (Unit {0}) Stopped). IsPartChange tells extent image may_leave count burns other Other p w o) (sym is) (of_err (subst (λ (o : Result (Unit {0}) Stopped). IsPartChange tells extent image may_leave count burns change Cut p w o) is m))
    where
      of_err : IsPartChange tells extent image may_leave count burns change Cut p w (Err z) → IsPartChange tells extent image may_leave count burns other Other p w (Err z)
      of_err m = record {
        kept = makes_stopped p.blocks.undo.stopped change other Cut Other z (kept_of tells extent image p) (kept_of tells extent image w) (may_of tells extent may_leave p) (may_of tells extent may_leave w) cut m.kept;
        tidy = tt;
        left = m.left;
        free = m.free;
        gives = tt;
        size = m.size;
        stops = m.stops;
      }
