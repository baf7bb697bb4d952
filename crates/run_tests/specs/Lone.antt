-- The store of one target before a run, and what a run leaves.
use Rattle.std.specs.Prelude.{◌≡◌, ◌≤◌, ◌<◌, ◌+◌, ◌^◌, false, List, [], ◌∷◌, Option, Some}
use Rattle.daos_model.specs.declared.durable.Durable.{Durable}
use Rattle.run_starts.specs.Starts.{CanOpen}
use Rattle.vos_plain.specs.Plain.{plain_durable, plain_state}
use Rattle.vos_plain.specs.declared.store.PlainStore.{PlainStore}

-- what is kept is what a run of any script may begin with
abbrev pub CanOpenAny : Durable → Type 0
CanOpenAny d = CanOpen (d ∷ [])

-- any script may be run over the store
pub record IsReady (store : PlainStore) : Type 0 where
  pub running : (plain_state store).stopped ≡ false
  pub seldom : (plain_durable store).incarnation ≤ 2 ^ 63 + 1
  pub opens : CanOpenAny (plain_durable store)

-- the store may be opened again, and then any script may be run over it
pub record IsLeft (store : PlainStore) : Type 0 where
  pub reopens : (plain_durable store).incarnation + 1 < 2 ^ 64
  pub opens : CanOpenAny (plain_durable store)

-- there is one place, with a store that is so, and a clock
pub record IsOver {C : Type 0} (P : PlainStore → Type 0) (slots : List (Option (PlainStore × C))) : Type 0 where
  pub store : PlainStore
  pub clock : C
  pub is : slots ≡ Some (store, clock) ∷ []
  pub so : P store
