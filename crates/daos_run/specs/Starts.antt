-- The targets of a run before their first turns.
use Rattle.std.specs.Prelude.{ℕ, ◌≡◌, ◌*◌, ◌-◌, List, length, slice_get, Option, Some}
use Rattle.base_types.specs.declared.job.Job.{Job}
use Rattle.daos_model.specs.declared.durable.Durable.{Durable}
use Rattle.daos_model.specs.Durables.{empty_durable}
use Rattle.daos_run.specs.Opens.{IsNew}
use Rattle.daos_run.specs.Slots.{IsAt}
use Rattle.run_targets.specs.Below.{TargetOf}
use Rattle.vos_plain.specs.Plain.{new_state, plain_durable, plain_state}
use Rattle.vos_plain.specs.declared.store.PlainStore.{PlainStore}

-- a target started over this store, with this clock
pub record StartsOver {S C : Type 0} (durable : S → Option Durable) (j : Job) (t : ℕ) (pair : S × C) (x : TargetOf S C) : Type 0 where
  pub new : IsNew durable j.targets j.epsilon t x
  pub store : x.store ≡ pair.0
  pub clock : x.clock ≡ pair.1

-- so many targets started over the stores in their places, with the clocks there
pub record AreStarted {S C : Type 0} (durable : S → Option Durable) (j : Job) (n : ℕ) (slots : List (Option (S × C))) (xs : List (TargetOf S C)) : Type 0 where
  pub many : length xs ≡ n
  pub each : (t : ℕ) (x : TargetOf S C) (pair : S × C) → slice_get xs t ≡ Some x → IsAt slots t pair → StartsOver durable j t pair x

-- an empty store in memory, of so many MiB
pub record IsNewStore (size_mib : ℕ) (store : PlainStore) : Type 0 where
  pub kept : plain_durable store ≡ empty_durable 1
  pub state : plain_state store ≡ new_state (size_mib * 4096 - 1264)
