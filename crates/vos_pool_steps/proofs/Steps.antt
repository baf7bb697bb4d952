-- Quiet steps come one after another, and a turn that leaves what is kept is one.
use Rattle.std.specs.Prelude.{◌≡◌, ◌⊎◌, ◌≤◌, ◌+◌, ℕ, Bool, true, false, List, Ok, Err, OnErr, OnOk, Result}
use Rattle.std.proofs.Common.{inl, inr, refl, ◌∙◌, arith}
use Rattle.base_outside.specs.Causes.{Rose}
use Rattle.base_outside.specs.Images.{Image}
use Rattle.base_types.specs.declared.id.AttemptId.{AttemptId}
use Rattle.daos_model.specs.BoolLaws.{clash}
use Rattle.daos_model.specs.declared.durable.Version.{Version}
use Rattle.pmem_pages.specs.Blocks.{Stops}
use Rattle.vos_keeping.specs.Keeping.{SameRows}
use Rattle.vos_levels.specs.declared.change.Change.{Change}
use Rattle.vos_pool_steps.specs.Quiet.{IsQuietStep}
use Rattle.vos_pool_turns.specs.Pool.{IsOneTurn, TurnsKept}
use Rattle.vos_pool_turns.specs.vos_pool_stage.vos_pool_base.Pool.{OpenedState, kept_of}
use Rattle.vos_pool_turns.specs.vos_pool_stage.vos_pool_base.Tidy.{IsSamePool, Leaves, LeavesBut}
use Rattle.vos_pool_turns.proofs.vos_pool_stage.vos_pool_base.Leaving.{left_no_more}
use Rattle.vos_store.specs.declared.refusal.Stopped.{Stopped}
use Rattle.vos_turns.specs.declared.entries.EntryStep.{EntryStep}
use Rattle.vos_turns.specs.vos_image.Places.{Places}
use Rattle.vos_keeping.specs.vos_places.Tables.{Table}

abbrev Rises : ℕ → ℕ → ℕ → ℕ → Type 0
Rises faults faults' burns burns' = Rose faults faults' ⊎ Rose burns burns'

rose-before : (h m k : ℕ) → h ≤ m → Rose m k → Rose h k
rose-before h m k le rose = omega arith

rose-after : (h m k : ℕ) → Rose h m → m ≤ k → Rose h k
rose-after h m k rose le = omega arith

-- a later rise, and an earlier one
rises-before : (f f' f'' b b' b'' : ℕ) → f ≤ f' → b ≤ b' → Rises f' f'' b' b'' → Rises f f'' b b''
rises-before f f' f'' b b' b'' le le' (inl rose) = inl (rose-before f f' f'' le rose)
rises-before f f' f'' b b' b'' le le' (inr rose) = inr (rose-before b b' b'' le' rose)

rises-after : (f f' f'' b b' b'' : ℕ) → f' ≤ f'' → b' ≤ b'' → Rises f f' b b' → Rises f f'' b b''
rises-after f f' f'' b b' b'' le le' (inl rose) = inl (rose-after f f' f'' rose le)
rises-after f f' f'' b b' b'' le le' (inr rose) = inr (rose-after b b' b'' rose le')

same-rows : {p q r : Places} → SameRows p q → SameRows q r → SameRows p r
same-rows a b = record { conts = b.conts ∙ a.conts; snaps = b.snaps ∙ a.snaps; lease = b.lease ∙ a.lease; incarnation = b.incarnation ∙ a.incarnation }

same-pool : {t u v : Table} → IsSamePool t u → IsSamePool u v → IsSamePool t v
same-pool a b = record { target = b.target ∙ a.target; targets = b.targets ∙ a.targets; layout = b.layout ∙ a.layout }

leaves-after : {R : Type 0} (tells : Bool) (extent : R → ℕ) (may_leave : R → Image → Type 0) (p q r : OpenedState R) → LeavesBut tells extent may_leave 0 p q → LeavesBut tells extent may_leave 0 q r → LeavesBut tells extent may_leave 0 p r
leaves-after tells extent may_leave p q r a b = record {
  same = same-pool a.same b.same;
  left = λ few before le left. b.left few few (omega arith) (a.left few before le left);
}

fewer : {R : Type 0} (tells : Bool) (extent : R → ℕ) (may_leave : R → Image → Type 0) (p : OpenedState R) (few before : ℕ) → few + 0 ≤ before → Leaves tells extent may_leave before p → Leaves tells extent may_leave few p
fewer tells extent may_leave p few before le left tell =
    left_no_more (extent p.blocks.undo.region) p.table.header.target p.table.header.targets p.table.header.layout few before (may_leave p.blocks.undo.region) (may_leave p.blocks.undo.region) (omega arith) (λ i may. may) (left tell)

-- a pool that stays as it is made such a step,
pub quiet-begins : {R : Type 0} (tells : Bool) (extent count burns : R → ℕ) (image : R → Image) (may_leave : R → Image → Type 0) (p : OpenedState R) → IsQuietStep tells extent count burns image may_leave p p
quiet-begins tells extent count burns image may_leave p = record {
  kept = λ going. refl;
  found = λ x found. found;
  rows = record { conts = refl; snaps = refl; lease = refl; incarnation = refl };
  left = record { same = record { target = refl; targets = refl; layout = refl }; left = λ few before le left. fewer tells extent may_leave p few before le left };
  free = omega arith;
  size = refl;
  later_faults = omega arith;
  later_burns = omega arith;
  stays = λ was. was;
  cause = λ stopped. inl stopped;
}

-- and one more may follow.
pub quiet-follows : {R : Type 0} (tells : Bool) (extent count burns : R → ℕ) (image : R → Image) (may_leave : R → Image → Type 0) (p q r : OpenedState R) → IsQuietStep tells extent count burns image may_leave p q
    → IsQuietStep tells extent count burns image may_leave q r → IsQuietStep tells extent count burns image may_leave p r
quiet-follows tells extent count burns image may_leave p q r a b = record {
  kept = λ going. b.kept going ∙ a.kept (ran q.blocks.undo.stopped r.blocks.undo.stopped b.stays going);
  found = λ x found. a.found x (b.found x found);
  rows = same-rows a.rows b.rows;
  left = leaves-after tells extent may_leave p q r a.left b.left;
  free = let first = a.free in let next = b.free in omega (arith, first, next);
  size = b.size ∙ a.size;
  later_faults = let first = a.later_faults in let next = b.later_faults in omega (arith, first, next);
  later_burns = let first = a.later_burns in let next = b.later_burns in omega (arith, first, next);
  stays = λ was. b.stays (a.stays was);
  cause = λ stopped. elim (b.cause stopped) [
    | inl before ↦ elim (a.cause before) [
      | inl first ↦ inl first
      | inr rose ↦ inr (rises-after (count p.blocks.undo.region) (count q.blocks.undo.region) (count r.blocks.undo.region) (burns p.blocks.undo.region) (burns q.blocks.undo.region) (burns r.blocks.undo.region) b.later_faults b.later_burns rose)
    ]
    | inr rose ↦ inr (rises-before (count p.blocks.undo.region) (count q.blocks.undo.region) (count r.blocks.undo.region) (burns p.blocks.undo.region) (burns q.blocks.undo.region) (burns r.blocks.undo.region) a.later_faults a.later_burns rose)
  ];
}
  where
    ran : (was is : Bool) → (was ≡ true → is ≡ true) → is ≡ false → was ≡ false
    ran false is stays going = refl
    ran true is stays going = absurd (clash is (stays refl) going)

after-turn : (P : Type 0) (result : Result (Unit {0}) Stopped) (is : Bool) → OnOk result P → OnErr result (is ≡ true) → is ≡ false → P
after-turn P (Ok x) is done stopped going = done
after-turn P (Err e) is done stopped going = absurd (clash is stopped going)

why : (was is : Bool) (faults faults' burns burns' : ℕ) (result : Result (Unit {0}) Stopped) → Stops was is faults faults' burns burns' result → is ≡ true → (was ≡ true) ⊎ Rises faults faults' burns burns'
why was is faults faults' burns burns' (Ok x) s stopped = inl (s.went_on ∙ stopped)
why was is faults faults' burns burns' (Err e) s stopped = s.cause

-- A turn that leaves what is kept is such a step.
pub turn-is-quiet : {R : Type 0} (tells : Bool) (extent count burns : R → ℕ) (image : R → Image) (may_leave : R → Image → Type 0) (c : Change) (us : List Version) (a : AttemptId) (s : EntryStep) (p q : OpenedState R) (result : Result (Unit {0}) Stopped)
    → IsOneTurn tells extent image may_leave count burns c us a s p q result → TurnsKept tells extent image c us a s p (λ d. d) → IsQuietStep tells extent count burns image may_leave p q
turn-is-quiet tells extent count burns image may_leave c us a s p q result turn same =
    let quiet = turn.quiet same in record {
      kept = λ going. after-turn (kept_of tells extent image q ≡ kept_of tells extent image p) result q.blocks.undo.stopped quiet.done turn.stops.stopped going;
      found = quiet.left;
      rows = turn.rows;
      left = turn.left;
      free = turn.free;
      size = turn.size;
      later_faults = turn.stops.later_faults;
      later_burns = turn.stops.later_burns;
      stays = turn.stops.once;
      cause = λ stopped. why p.blocks.undo.stopped q.blocks.undo.stopped (count p.blocks.undo.region) (count q.blocks.undo.region) (burns p.blocks.undo.region) (burns q.blocks.undo.region) result turn.stops stopped;
    }
