-- The stores of several targets before a run.
use Rattle.std.specs.Prelude.{ℕ, List, Option, Some}
use Rattle.daos_model.specs.declared.durable.Durable.{Durable}
use Rattle.daos_run.specs.Opens.{MayRun}
use Rattle.daos_run.specs.Slots.{HaveStores, stores_in}
use Rattle.run_opening.specs.All.{AreKept}
use Rattle.run_starts.specs.Starts.{CanOpen}
use Rattle.vos_plain.specs.Plain.{plain_durable, plain_state}
use Rattle.vos_plain.specs.declared.store.PlainStore.{PlainStore}

-- it tells what it keeps
abbrev pub told_by : PlainStore → Option Durable
told_by store = Some (plain_durable store)

-- any script may be run over the stores of so many targets
pub record AreReady {C : Type 0} (targets : ℕ) (slots : List (Option (PlainStore × C))) : Type 0 where
  pub have : HaveStores (λ t store. MayRun told_by plain_state targets store) targets slots
  pub open_any : (B : List Durable) → AreKept told_by (stores_in slots) B → CanOpen B
