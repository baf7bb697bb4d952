-- What a run begins with.
use Rattle.std.specs.Prelude.{ℕ, ◌≡◌, ◌≤◌, ◌+◌, ◌^◌, true, false, List, [], length, slice_get, Option, Some}
use Rattle.std.specs.Option.{ForSome}
use Rattle.client_core.specs.Clients.{ClientNow}
use Rattle.base_types.specs.declared.epoch.Epoch.{Epoch}
use Rattle.base_types.specs.declared.job.Job.{Job}
use Rattle.base_types.specs.declared.script.Command.{Command}
use Rattle.base_types.specs.declared.script.Script.{Script}
use Rattle.base_types.specs.declared.snapshot.Snap.{Snap}
use Rattle.daos_model.specs.declared.durable.Durable.{Durable}
use Rattle.daos_model.specs.Finals.{opening_of}
use Rattle.daos_model.specs.Opening.{Given}
use Rattle.dtx_base.specs.Joining.{first_member}
use Rattle.dtx_base.specs.Leading.{first_memory}
use Rattle.run_targets.specs.Ends.{given_by}
use Rattle.run_targets.specs.Below.{TargetOf}
use Rattle.run_starts.specs.target_parts.Knowing.{IsHeard}
use Rattle.vos_store.specs.Calls.{State}
use Rattle.world_base.specs.ClientTurns.{at_first, plan_of}

-- a run of a script over stores that keep this, with so many blocks free on each
abbrev pub given : Script → Job → List Durable → (ℕ → ℕ) → Given
given s j B free = given_by s j (opening_of s B free)

module _ {S : Type 0} (durable : S → Option Durable) (state : S → State) (targets : ℕ) where
  -- a store that runs and was made for so many targets; where it tells what it keeps, it was opened so seldom that 2^63 openings more have
  -- their numbers
  pub record MayRun (store : S) : Type 0 where
    pub running : (state store).stopped ≡ false
    pub made : targets ≤ (state store).targets
    pub seldom : ForSome (durable store) (λ d. d.incarnation ≤ 2 ^ 63 + 1)

  -- one over which a target may start: where it tells what it keeps, nothing is left to settle, and its lease covers all versions
  pub record CanStart (store : S) : Type 0 where
    pub running : (state store).stopped ≡ false
    pub made : targets ≤ (state store).targets
    pub heard : ForSome (durable store) (λ d. IsHeard d.lease d)
    pub bare : ForSome (durable store) (λ d. d.entries ≡ [])

-- a target of this number among so many, which has just opened a store
pub record IsNew {S C : Type 0} (durable : S → Option Durable) (targets epsilon t : ℕ) (x : TargetOf S C) : Type 0 where
  pub plan : x.plan ≡ record { me = t; targets = targets; epsilon = epsilon }
  pub ticks : (d : Durable) → durable x.store ≡ Some d → x.memory.ticks ≡ d.lease
  pub unread : x.memory.stamps ≡ []
  pub leads : x.memory.leader ≡ first_memory []
  pub joins : x.memory.member ≡ (first_member t).memory
  pub making : x.memory.collecting ≡ []
  pub has_opened : x.opened ≡ true

-- the clients of a script before their first turns, where target 0 holds these snapshots
pub record AreFirst (s : Script) (held : List Snap) (attempts : ℕ) (tracker : Epoch) (clients : List ClientNow) : Type 0 where
  pub many : length clients ≡ length s.clients
  pub plans : (n : ℕ) (c : ClientNow) → slice_get clients n ≡ Some c → (list : List Command) × (slice_get s.clients n ≡ Some list) × (c.plan ≡ plan_of s n attempts list)
  pub states : (n : ℕ) (c : ClientNow) → slice_get clients n ≡ Some c → c.state ≡ at_first s held tracker
