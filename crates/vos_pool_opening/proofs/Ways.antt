-- The steps of an opening make its way.
use Rattle.std.specs.Prelude.{◌≡◌, ◌⊎◌, ◌≤◌, ℕ, Bool, true, false, Ok, Err, OnErr, OnOk, Result, is_err}
use Rattle.std.specs.Option.{option_map}
use Rattle.std.proofs.Common.{inl, inr, refl, sym, ap, subst, ◌∙◌, arith}
use Rattle.base_outside.specs.Causes.{Rose}
use Rattle.base_outside.specs.Images.{Image}
use Rattle.daos_model.specs.BoolLaws.{clash}
use Rattle.daos_model.specs.declared.durable.Durable.{Durable}
use Rattle.pmem_alloc.specs.Blocks.{free_count}
use Rattle.pmem_alloc.specs.Map.{MapState, free_of}
use Rattle.pmem_alloc.specs.Sets.{count_below}
use Rattle.pmem_pages.specs.Blocks.{Stops}
use Rattle.vos_pool_held.specs.vos_pool_base.Pool.{OpenedState, kept_of, may_of}
use Rattle.vos_pool_held.specs.vos_pool_base.Tidy.{IsLeftStanding, Leaves, LeavesBut}
use Rattle.vos_pool_held.specs.vos_pool_base.vos_places.Tables.{Table}
use Rattle.vos_pool_held.specs.vos_pool_base.vos_tables.Tables.{raised}
use Rattle.vos_pool_opening.specs.Beginning.{begun}
use Rattle.vos_pool_opening.specs.Ways.{IsWay}
use Rattle.vos_pool_site.specs.Left.{LeavesSome, StandsInSome}
use Rattle.vos_pool_opening.specs.declared.beginning.Beginning.{Beginning}
use Rattle.vos_pool_raise.specs.Raising.{LeavesEither}
use Rattle.vos_pool_steps.proofs.vos_pool_base.Leaving.{left_no_more}
use Rattle.vos_pool_steps.specs.Quiet.{IsQuietStep}
use Rattle.vos_store.specs.Calls.{Makes}
use Rattle.vos_store.specs.declared.refusal.Stopped.{Stopped}
use Rattle.vos_store.specs.Refusals.{always_stop}

rose-before : (h m k : ℕ) → h ≤ m → Rose m k → Rose h k
rose-before h m k le rose = omega arith

pub rises-before : (f f' f'' b b' b'' : ℕ) → f ≤ f' → b ≤ b' → Rose f' f'' ⊎ Rose b' b'' → Rose f f'' ⊎ Rose b b''
rises-before f f' f'' b b' b'' le le' (inl rose) = inl (rose-before f f' f'' le rose)
rises-before f f' f'' b b' b'' le le' (inr rose) = inr (rose-before b b' b'' le' rose)

-- ---- what stands with fewer blocks free

pub some-fewer : (size target targets few before : ℕ) (c : Image) → few ≤ before → StandsInSome size target targets before c → StandsInSome size target targets few c
some-fewer size target targets few before c less s = record {
  layout = s.layout;
  stands = left_no_more size target targets s.layout few before (λ d. d ≡ c) (λ d. d ≡ c) less (λ d is. is) (λ d is. subst (IsLeftStanding size target targets s.layout before) (sym is) s.stands) c refl;
}

pub leaves-some : {R : Type 0} (tells : Bool) (extent : R → ℕ) (may_leave : R → Image → Type 0) (few before : ℕ) (p : OpenedState R) → few ≤ before → Leaves tells extent may_leave before p → LeavesSome tells extent may_leave few p
leaves-some tells extent may_leave few before p less left tell c may =
    some-fewer (extent p.blocks.undo.region) p.table.header.target p.table.header.targets few before c less (record { layout = p.table.header.layout; stands = left tell c may })

-- ---- a way

module _ {R : Type 0} (b : Beginning) (tells : Bool) (extent count burns : R → ℕ) (image : R → Image) (may_leave : R → Image → Type 0) where
  abbrev IsWayTo : OpenedState R → OpenedState R → Type 0
  IsWayTo p q = IsWay b tells extent count burns image may_leave p q

  -- begins where a pool runs,
  pub way-begins : (p : OpenedState R) → p.blocks.undo.stopped ≡ false → Leaves tells extent may_leave (free_count p.blocks) p → IsWayTo p p
  way-begins p going left = record {
    found = λ x found. inl found;
    left = leaves-some tells extent may_leave (free_count p.blocks) (free_count p.blocks) p (omega arith) left;
    target = refl;
    targets = refl;
    free = omega arith;
    size = refl;
    later_faults = omega arith;
    later_burns = omega arith;
    cause = λ stopped. absurd (clash p.blocks.undo.stopped stopped going);
  }

  -- goes on by a quiet step,
  pub way-quiet : (p q r : OpenedState R) → IsWayTo p q → q.blocks.undo.stopped ≡ false → Leaves tells extent may_leave (free_count q.blocks) q → IsQuietStep tells extent count burns image may_leave q r → IsWayTo p r
  way-quiet p q r way going left step = record {
    found = λ x found. way.found x (step.found x found);
    left = let free = way.free in leaves-some tells extent may_leave (free_count p.blocks) (free_count q.blocks) r free (step.left.left (free_count q.blocks) (free_count q.blocks) (omega arith) left);
    target = step.left.same.target ∙ way.target;
    targets = step.left.same.targets ∙ way.targets;
    free = let first = way.free in let next = step.free in omega (arith, first, next);
    size = step.size ∙ way.size;
    later_faults = let first = way.later_faults in let next = step.later_faults in omega (arith, first, next);
    later_burns = let first = way.later_burns in let next = step.later_burns in omega (arith, first, next);
    cause = λ stopped. elim (step.cause stopped) [
      | inl was ↦ absurd (clash q.blocks.undo.stopped was going)
      | inr rose ↦ rises-before (count p.blocks.undo.region) (count q.blocks.undo.region) (count r.blocks.undo.region) (burns p.blocks.undo.region) (burns q.blocks.undo.region) (burns r.blocks.undo.region) way.later_faults way.later_burns rose
    ];
  }

  stopped-why : (was is : Bool) (faults faults' burnt burnt' : ℕ) (result : Result (Unit {0}) Stopped) → was ≡ false → Stops was is faults faults' burnt burnt' result → is ≡ true → Rose faults faults' ⊎ Rose burnt burnt'
  stopped-why was is faults faults' burnt burnt' (Ok x) going s stopped = absurd (clash was (s.went_on ∙ stopped) going)
  stopped-why was is faults faults' burnt burnt' (Err e) going s stopped = elim s.cause [
    | inl before ↦ absurd (clash was before going)
    | inr rose ↦ rose
  ]

  -- and ends with the opening counted.
  pub way-counted : (p q r : OpenedState R) (result : Result (Unit {0}) Stopped) → IsWayTo p q → q.blocks.undo.stopped ≡ false → Leaves tells extent may_leave (free_count q.blocks) q → kept_of tells extent image q ≡ kept_of tells extent image p
      → Makes q.blocks.undo.stopped always_stop (begun b) result (kept_of tells extent image q) (kept_of tells extent image r) (may_of tells extent may_leave q) (may_of tells extent may_leave r)
      → LeavesBut tells extent may_leave 0 q r → r.blocks.map ≡ q.blocks.map → extent r.blocks.undo.region ≡ extent q.blocks.undo.region
      → Stops q.blocks.undo.stopped r.blocks.undo.stopped (count q.blocks.undo.region) (count r.blocks.undo.region) (burns q.blocks.undo.region) (burns r.blocks.undo.region) result → IsWayTo p r
  way-counted p q r result way going left same made leaves map size stops =
      let free : free_count r.blocks ≡ free_count q.blocks = ap (λ (m : MapState). count_below (free_of m) m.end) map in
      let stops_rise : (r.blocks.undo.stopped ≡ true → Rose (count q.blocks.undo.region) (count r.blocks.undo.region) ⊎ Rose (burns q.blocks.undo.region) (burns r.blocks.undo.region)) =
      stopped-why q.blocks.undo.stopped r.blocks.undo.stopped (count q.blocks.undo.region) (count r.blocks.undo.region) (burns q.blocks.undo.region) (burns r.blocks.undo.region) result going stops in
      record {
        found = λ x found. elim (made.left x found) [
          | inl before ↦ way.found x before
          | inr after ↦ inr (after.1 ∙ ap (option_map (begun b)) same)
        ];
        left = let first = way.free in leaves-some tells extent may_leave (free_count p.blocks) (free_count q.blocks) r first (leaves.left (free_count q.blocks) (free_count q.blocks) (omega arith) left);
        target = leaves.same.target ∙ way.target;
        targets = leaves.same.targets ∙ way.targets;
        free = let first = way.free in omega (arith, first, free);
        size = size ∙ way.size;
        later_faults = let first = way.later_faults in let next = stops.later_faults in omega (arith, first, next);
        later_burns = let first = way.later_burns in let next = stops.later_burns in omega (arith, first, next);
        cause = λ stopped. rises-before (count p.blocks.undo.region) (count q.blocks.undo.region) (count r.blocks.undo.region) (burns p.blocks.undo.region) (burns q.blocks.undo.region) (burns r.blocks.undo.region) way.later_faults way.later_burns (stops_rise stopped);
      }

  -- The older layout was raised, or not.
  pub way-raised : (p q : OpenedState R) (result : Result (Unit {0}) Stopped) → p.blocks.undo.stopped ≡ false → Leaves tells extent may_leave (free_count p.blocks) p
      → OnOk result (q.table ≡ raised p.table) → OnErr result (q.table ≡ p.table) → ((x : Durable) → may_of tells extent may_leave q x → may_of tells extent may_leave p x)
      → ((few : ℕ) → Leaves tells extent may_leave few p → LeavesEither tells extent may_leave p.table.header.layout few q)
      → q.blocks.map ≡ p.blocks.map → extent q.blocks.undo.region ≡ extent p.blocks.undo.region
      → Stops p.blocks.undo.stopped q.blocks.undo.stopped (count p.blocks.undo.region) (count q.blocks.undo.region) (burns p.blocks.undo.region) (burns q.blocks.undo.region) result → IsWayTo p q
  way-raised p q result going leaves is_raised unraised may left map size stops =
      let free : free_count q.blocks ≡ free_count p.blocks = ap (λ (m : MapState). count_below (free_of m) m.end) map in
      let same : (q.table.header.target ≡ p.table.header.target) × (q.table.header.targets ≡ p.table.header.targets) = heads result is_raised unraised in record {
        found = λ x found. inl (may x found);
        left = λ tell c at. elim (left (free_count p.blocks) leaves tell c at) [
          | inl before ↦ record { layout = p.table.header.layout; stands = before }
          | inr after ↦ record { layout = 2; stands = after }
        ];
        target = same.0;
        targets = same.1;
        free = omega (arith, free);
        size = size;
        later_faults = stops.later_faults;
        later_burns = stops.later_burns;
        cause = stopped-why p.blocks.undo.stopped q.blocks.undo.stopped (count p.blocks.undo.region) (count q.blocks.undo.region) (burns p.blocks.undo.region) (burns q.blocks.undo.region) result going stops;
      }
    where
      heads : (r : Result (Unit {0}) Stopped) → OnOk r (q.table ≡ raised p.table) → OnErr r (q.table ≡ p.table) → (q.table.header.target ≡ p.table.header.target) × (q.table.header.targets ≡ p.table.header.targets)
      heads (Ok x) up same = (ap (λ (t : Table). t.header.target) up, ap (λ (t : Table). t.header.targets) up)
      heads (Err e) up same = (ap (λ (t : Table). t.header.target) same, ap (λ (t : Table). t.header.targets) same)

pub ran-ok : {P : Type 0} (result : Result (Unit {0}) Stopped) → is_err result ≡ false → OnOk result P → P
ran-ok (Ok x) went p = p
ran-ok (Err e) went p = absurd (clash true refl went)
