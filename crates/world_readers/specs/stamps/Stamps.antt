-- Whose the timestamps of running targets are.
use Rattle.std.specs.Prelude.{ℕ, ◌≡◌, ◌⊎◌, Any, false, List, Contains, slice_get, Some}
use Rattle.std.proofs.Common.{inl, inr, subst}
use Rattle.base_types.specs.declared.epoch.Epoch.{Epoch}
use Rattle.base_types.specs.declared.id.AttemptId.{AttemptId}
use Rattle.base_types.specs.declared.shown.Shown.{Shown}
use Rattle.daos_model.specs.CausesShown.{AsksAt}
use Rattle.daos_model.specs.Transactions.{attempt_ops}
use Rattle.world_base.specs.declared.target.Life.TheVariants.{Running}
use Rattle.world_base.specs.declared.target.TargetState.{TargetState}
use Rattle.world_base.specs.declared.world.World.{World}
use Rattle.world_base.specs.Events.{Rules}
use Rattle.world_making.specs.world_causes.causes.Premises.{AreOfReads}
use Rattle.world_ended.specs.world_letters.clients.Snapshots.{is_at_snapshot}

-- ---- the facts

-- each timestamp of a running target is of an attempt that was issued its epoch and asks there
abbrev pub StampsAreOwn : Rules → World → Type 0
StampsAreOwn r w = (t : ℕ) (s : TargetState) → slice_get w.targets t ≡ Some s → s.life ≡ Running → AreOfReads r w.issued s.memory.stamps

-- and of one that reads at no snapshot
abbrev pub StampsAreUnnamed : Rules → World → Type 0
StampsAreUnnamed r w = (t : ℕ) (s : TargetState) (z : Shown) → slice_get w.targets t ≡ Some s → s.life ≡ Running → Contains s.memory.stamps z → is_at_snapshot r z.by ≡ false

-- ---- one timestamp

-- it is of an attempt to which its epoch is among these issued ones, which asks there, and reads at no snapshot
pub record IsOwnStamp (r : Rules) (issued : List (AttemptId × Epoch)) (z : Shown) : Type 0 where
  pub dated : Contains issued (z.by, z.epoch)
  pub asks : Any (AsksAt z.path) (attempt_ops r.script z.by)
  pub unnamed : is_at_snapshot r z.by ≡ false

-- each timestamp after a turn is one of before, or such a one
abbrev pub AddsOwn : Rules → List (AttemptId × Epoch) → List Shown → List Shown → Type 0
AddsOwn r issued old new = (z : Shown) → Contains new z → Contains old z ⊎ IsOwnStamp r issued z

pub own-then : (r : Rules) (issued : List (AttemptId × Epoch)) (a b c : List Shown) → AddsOwn r issued a b → AddsOwn r issued b c → AddsOwn r issued a c
own-then r issued a b c one two z i = by (two z i)
  where
    by : Contains b z ⊎ IsOwnStamp r issued z → Contains a z ⊎ IsOwnStamp r issued z
    by (inl j) = one z j
    by (inr k) = inr k

pub own-more : (r : Rules) (issued more : List (AttemptId × Epoch)) (a b : List Shown) → ((i : AttemptId × Epoch) → Contains issued i → Contains more i) → AddsOwn r issued a b → AddsOwn r more a b
own-more r issued more a b grows own z i = by (own z i)
  where
    by : Contains a z ⊎ IsOwnStamp r issued z → Contains a z ⊎ IsOwnStamp r more z
    by (inl j) = inl j
    by (inr k) = inr (record { dated = grows (z.by, z.epoch) k.dated; asks = k.asks; unnamed = k.unnamed })

-- where the timestamps stay, none is added
pub own-same : (r : Rules) (issued : List (AttemptId × Epoch)) (old new : List Shown) → new ≡ old → AddsOwn r issued old new
own-same r issued old new same z i = inl (subst (λ x. Contains x z) same i)
