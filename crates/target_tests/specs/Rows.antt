-- What the rows over targets name, and what holds of the stores on their way.
use Rattle.std.specs.Prelude.{ℕ, ◌≡◌, ◌≤◌, true, false, All, List, [], ◌∷◌, Option, Some, None}
use Rattle.std.specs.Option.{ForSome}
use Rattle.base_types.specs.declared.epoch.Epoch.{Epoch}
use Rattle.base_types.specs.declared.id.AttemptId.{AttemptId}
use Rattle.base_types.specs.declared.id.Class.TheVariants.{S1}
use Rattle.base_types.specs.declared.id.ContId.{ContId}
use Rattle.base_types.specs.declared.operation.Read.TheVariants as read
use Rattle.base_types.specs.declared.operation.Write.TheVariants as write
use Rattle.base_types.specs.declared.path.Path.{Path}
use Rattle.base_messages.specs.declared.message.Message.{Message}
use Rattle.base_messages.specs.declared.message.Message.TheVariants.{Fetch, Commit}
use Rattle.daos_model.specs.declared.durable.Durable.{Durable}
use Rattle.daos_model.specs.Durables.{is_enlisted}
use Rattle.vos_store.specs.Calls.{State}
use Rattle.world_base.specs.declared.target.TargetPlan.{TargetPlan}

abbrev pub cont : ContId
cont = record { 0 = 1 }

-- an akey of the object of class S1 and number 0, under the dkey d
abbrev pub akey : List ℕ → Path
akey name = record { cont = cont; obj = Some (record { class = S1; number = 0; unit = 1 }); dkey = Some (100 ∷ []); akey = Some name }

-- the only target
abbrev pub lone : TargetPlan
lone = record { me = 0; targets = 1; epsilon = 0 }

-- a read of an akey by an attempt that has no epoch yet
abbrev pub fetch : AttemptId → List ℕ → Message
fetch by key = Fetch by 0 0 None None (record { 0 = 0 }) (read.Single (akey key)) false

-- a write at an akey by an attempt
abbrev pub commit : AttemptId → Option Epoch → List ℕ → Message
commit by ep key = Commit by ep None (record { 0 = 0 }) (record { minor = 1; write = write.Single (akey key) (49 ∷ []) } ∷ [])

-- the container of the rows is here
abbrev pub IsHere : Durable → Type 0
IsHere d = is_enlisted d cont ≡ true

-- no version has this epoch, if it is known
abbrev pub IsUnused : Option Epoch → Durable → Type 0
IsUnused None d = Unit {0}
IsUnused (Some e) d = All (λ v. v.epoch.0 ≡ e.0 → ⊥) d.versions

-- nothing was written
pub record IsBlank (d : Durable) : Type 0 where
  pub versions : d.versions ≡ []
  pub entries : d.entries ≡ []

-- a store that was never used, in which no container is known
pub record IsNeverUsed (s : State) (kept : Option Durable) : Type 0 where
  pub runs : s.stopped ≡ false
  pub targets : 1 ≤ s.targets
  pub blank : ForSome kept IsBlank
  pub conts : ForSome kept (λ d. d.conts ≡ [])
