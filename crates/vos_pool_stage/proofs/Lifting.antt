-- What is known of blocks on which changes were staged is known of the pool that they came from.
use Rattle.std.specs.Prelude.{◌≡◌, ◌≤◌, ◌+◌, ℕ, Bool, true, false, IsTrue, OnOk, Option, Some, None, Result, Ok, Err, is_ok, is_some, refl}
use Rattle.std.specs.Option.{option_map}
use Rattle.std.proofs.Common.{◌∙◌, ap, sym, subst, inl, inr, arith}
use Rattle.base_outside.specs.Images.{Image, NoMore}
use Rattle.daos_model.specs.declared.durable.Durable.{Durable}
use Rattle.daos_model.specs.BoolLaws.{clash}
use Rattle.pmem_alloc.specs.Blocks.{BlocksState}
use Rattle.pmem_alloc.specs.Still.{IsStill}
use Rattle.vos_pool_base.specs.vos_places.Tables.{Table}
use Rattle.vos_pool_base.specs.Pool.{MayBeFound, OpenedState, kept_by, kept_of, may_of}
use Rattle.vos_pool_base.specs.Tidy.{IsSamePool, Leaves, LeavesBut, LeavesStanding}
use Rattle.vos_pool_base.proofs.Leaving.{left_no_more, same_pool}
use Rattle.vos_pool_stage.specs.Staged.{IsQuietCall, pool_of}
use Rattle.vos_store.specs.declared.refusal.Stopped.{Stopped}
use Rattle.vos_store.specs.Calls.{Makes}
use Rattle.vos_store.specs.Refusals.{always_stop, refuses}

pub still_then : {R : Type 0} (extent : R → ℕ) (tells : Bool) (image : R → Image) (may_leave : R → Image → Type 0) (a b c : BlocksState R) → IsStill extent tells image may_leave a b → IsStill extent tells image may_leave b c → IsStill extent tells image may_leave a c
still_then extent tells image may_leave a b c first next = record {
  size = next.size ∙ first.size;
  read = λ tell. next.read tell ∙ first.read tell;
  left = λ tell i may. first.left tell i (next.left tell i may);
  lasting = next.lasting ∙ first.lasting;
}

pub still_same : {R : Type 0} (extent : R → ℕ) (tells : Bool) (image : R → Image) (may_leave : R → Image → Type 0) (a : BlocksState R) → IsStill extent tells image may_leave a a
still_same extent tells image may_leave a = record { size = refl; read = λ tell. refl; left = λ tell i may. may; lasting = refl }

kept_as : (tells : Bool) (target size size' : ℕ) (f g : Image) → size' ≡ size → (IsTrue tells → g ≡ f) → kept_by tells target size' g ≡ kept_by tells target size f
kept_as false target size size' f g long same = refl
kept_as true target size size' f g long same = ap (λ (n : ℕ). kept_by true target n g) long ∙ ap (λ (h : Image). kept_by true target size h) (same refl)

may_as : (tells : Bool) (target size size' : ℕ) (m n : Image → Type 0) (x : Durable) → size' ≡ size → (IsTrue tells → NoMore m n) → MayBeFound tells target size' n x → MayBeFound tells target size m x
may_as tells target size size' m n x long less = subst (λ (k : ℕ). MayBeFound tells target size' n x → MayBeFound tells target k m x) long (λ may. (may.0, (may.1.0, (less may.0 may.1.0 may.1.1.0, may.1.1.1))))

module _ {R : Type 0} (extent : R → ℕ) (tells : Bool) (image : R → Image) (may_leave : R → Image → Type 0) (p : OpenedState R) (b : BlocksState R) (still : IsStill extent tells image may_leave p.blocks b) where
  -- what it keeps, and what openings may find of it
  pub still_keeps : kept_of tells extent image (pool_of b p.table) ≡ kept_of tells extent image p
  still_keeps = kept_as tells p.table.header.target (extent p.blocks.undo.region) (extent b.undo.region) (image p.blocks.undo.region) (image b.undo.region) still.size still.read

  pub still_finds : (x : Durable) → may_of tells extent may_leave (pool_of b p.table) x → may_of tells extent may_leave p x
  still_finds x = may_as tells p.table.header.target (extent p.blocks.undo.region) (extent b.undo.region) (may_leave p.blocks.undo.region) (may_leave b.undo.region) x still.size still.left

  -- a change, or a call that is quiet, is one from the pool on
  pub makes_from : (stopped : Bool) (change : Durable → Durable) (result : Result (Unit {0}) Stopped) (new : Option Durable) (may' : Durable → Type 0)
      → Makes stopped always_stop change result (kept_of tells extent image (pool_of b p.table)) new (may_of tells extent may_leave (pool_of b p.table)) may'
      → Makes stopped always_stop change result (kept_of tells extent image p) new (may_of tells extent may_leave p) may'
  makes_from stopped change result new may' m =
      let k = subst (λ (o : Option Durable). Makes stopped always_stop change result o new (may_of tells extent may_leave (pool_of b p.table)) may') still_keeps m in
      record {
        told = k.told;
        done = k.done;
        refused = k.refused;
        left = λ x may. elim (k.left x may) [
          | inl before ↦ inl (still_finds x before)
          | inr after ↦ inr after
        ];
      }

  pub quiet_from : (result : Result (Unit {0}) Stopped) (new : Option Durable) (may' : Durable → Type 0)
      → IsQuietCall result (kept_of tells extent image (pool_of b p.table)) new (may_of tells extent may_leave (pool_of b p.table)) may' → IsQuietCall result (kept_of tells extent image p) new (may_of tells extent may_leave p) may'
  quiet_from result new may' m =
      let k = subst (λ (o : Option Durable). IsQuietCall result o new (may_of tells extent may_leave (pool_of b p.table)) may') still_keeps m in
      record { told = k.told; done = k.done; left = λ x may. still_finds x (k.left x may) }

  still_leaves : (few : ℕ) → Leaves tells extent may_leave few p → Leaves tells extent may_leave few (pool_of b p.table)
  still_leaves few left tell =
      subst (λ (n : ℕ). LeavesStanding n p.table.header.target p.table.header.targets p.table.header.layout few (may_leave b.undo.region)) (sym still.size)
      (left_no_more (extent p.blocks.undo.region) p.table.header.target p.table.header.targets p.table.header.layout few few (may_leave p.blocks.undo.region) (may_leave b.undo.region) (omega arith) (still.left tell) (left tell))

  pub leaves_from : (cost : ℕ) (new : OpenedState R) → LeavesBut tells extent may_leave cost (pool_of b p.table) new → LeavesBut tells extent may_leave cost p new
  leaves_from cost new m = record { same = m.same; left = λ few before less left. m.left few before less (still_leaves before left) }

-- Nothing was committed: what is known then of a pool to which the blocks came back.
never_refused : (result : Result (Unit {0}) Stopped) → refuses always_stop result ≡ false
never_refused (Ok x) = refl
never_refused (Err e) = refl

module _ {R : Type 0} (extent : R → ℕ) (tells : Bool) (image : R → Image) (may_leave : R → Image → Type 0) (p : OpenedState R) (b : BlocksState R) (still : IsStill extent tells image may_leave p.blocks b) where
  told_as : is_some (kept_of tells extent image (pool_of b p.table)) ≡ is_some (kept_of tells extent image p)
  told_as = ap is_some (still_keeps extent tells image may_leave p b still)

  -- where it answers Ok the region doesn't tell its bytes
  pub none_made : (change : Durable → Durable) (result : Result (Unit {0}) Stopped) → (is_ok result ≡ true → tells ≡ false)
      → Makes p.blocks.undo.stopped always_stop change result (kept_of tells extent image p) (kept_of tells extent image (pool_of b p.table)) (may_of tells extent may_leave p) (may_of tells extent may_leave (pool_of b p.table))
  none_made change result untold = record {
    told = told_as;
    done = by result untold;
    refused = λ bad. absurd (clash (refuses always_stop result) bad (never_refused result));
    left = λ x may. inl (still_finds extent tells image may_leave p b still x may);
  }
    where
      nothing : (t : Bool) → t ≡ false → (size size' target : ℕ) (f g : Image) → kept_by t target size' g ≡ option_map change (kept_by t target size f)
      nothing false is size size' target f g = refl
      nothing true is size size' target f g = let no : ⊥ = cc in absurd no

      by : (r : Result (Unit {0}) Stopped) → (is_ok r ≡ true → tells ≡ false) → OnOk r (kept_of tells extent image (pool_of b p.table) ≡ option_map change (kept_of tells extent image p))
      by (Ok x) not_told = nothing tells (not_told refl) (extent p.blocks.undo.region) (extent b.undo.region) p.table.header.target (image p.blocks.undo.region) (image b.undo.region)
      by (Err e) not_told = tt

  pub none_quiet : (result : Result (Unit {0}) Stopped) → IsQuietCall result (kept_of tells extent image p) (kept_of tells extent image (pool_of b p.table)) (may_of tells extent may_leave p) (may_of tells extent may_leave (pool_of b p.table))
  none_quiet result = record { told = told_as; done = by result; left = still_finds extent tells image may_leave p b still }
    where
      by : (r : Result (Unit {0}) Stopped) → OnOk r (kept_of tells extent image (pool_of b p.table) ≡ kept_of tells extent image p)
      by (Ok x) = still_keeps extent tells image may_leave p b still
      by (Err e) = tt

  pub none_leaves : (cost : ℕ) → LeavesBut tells extent may_leave cost p (pool_of b p.table)
  none_leaves cost = record {
    same = same_pool p.table;
    left = λ few before less left tell.
        subst (λ (n : ℕ). LeavesStanding n p.table.header.target p.table.header.targets p.table.header.layout few (may_leave b.undo.region)) (sym still.size)
        (left_no_more (extent p.blocks.undo.region) p.table.header.target p.table.header.targets p.table.header.layout few before (may_leave p.blocks.undo.region) (may_leave b.undo.region) (omega (arith, less)) (still.left tell) (left tell));
  }

-- ---- one call after another

pub leaves_then : {R : Type 0} (tells : Bool) (extent : R → ℕ) (may_leave : R → Image → Type 0) (one other : ℕ) (a b c : OpenedState R) → LeavesBut tells extent may_leave one a b → LeavesBut tells extent may_leave other b c → LeavesBut tells extent may_leave (one + other) a c
leaves_then tells extent may_leave one other a b c first next = record {
  same = record { target = next.same.target ∙ first.same.target; targets = next.same.targets ∙ first.same.targets; layout = next.same.layout ∙ first.same.layout };
  left = λ few before less left. next.left few (few + other) (omega arith) (first.left (few + other) before (omega (arith, less)) left);
}

pub leaves_more : {R : Type 0} (tells : Bool) (extent : R → ℕ) (may_leave : R → Image → Type 0) (cost more : ℕ) (a b : OpenedState R) → cost ≤ more → LeavesBut tells extent may_leave cost a b → LeavesBut tells extent may_leave more a b
leaves_more tells extent may_leave cost more a b le m = record { same = m.same; left = λ few before less left. m.left few before (omega (arith, less, le)) left }

-- a quiet call before a change, or before another that is quiet
pub quiet_then_makes : (change : Durable → Durable) (result : Result (Unit {0}) Stopped) (old now new : Option Durable) (may may' may'' : Durable → Type 0) → IsQuietCall {T = Unit {0}} {E = Stopped} (Ok (tt {0})) old now may may' → Makes false always_stop change result now new may' may'' → Makes false always_stop change result old new may may''
quiet_then_makes change result old now new may may' may'' first m =
    let k = subst (λ (o : Option Durable). Makes false always_stop change result o new may' may'') first.done m in
    record {
      told = k.told;
      done = k.done;
      refused = k.refused;
      left = λ x found. elim (k.left x found) [
        | inl before ↦ inl (first.left x before)
        | inr after ↦ inr after
      ];
    }

pub quiet_then_quiet : (result : Result (Unit {0}) Stopped) (old now new : Option Durable) (may may' may'' : Durable → Type 0) → IsQuietCall {T = Unit {0}} {E = Stopped} (Ok (tt {0})) old now may may' → IsQuietCall result now new may' may'' → IsQuietCall result old new may may''
quiet_then_quiet result old now new may may' may'' first m =
    let k = subst (λ (o : Option Durable). IsQuietCall result o new may' may'') first.done m in
    record { told = k.told; done = k.done; left = λ x found. first.left x (k.left x found) }
