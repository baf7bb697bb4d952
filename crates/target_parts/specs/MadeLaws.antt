-- What a change that is made where it is to be made comes to, and that a target goes on well then.
use Rattle.std.proofs.Common.{◌≡◌, refl, Bool, true, false, List, Option, Some, is_some, Result, Ok, Err}
use Rattle.std.specs.Prelude.{OnOk}
use Rattle.std.specs.Option.{ForSome}
use Rattle.base_types.specs.declared.entry.Entry.{Entry}
use Rattle.base_types.specs.declared.entry.Settle.{Settle}
use Rattle.base_types.specs.declared.id.AttemptId.{AttemptId}
use Rattle.daos_model.specs.declared.durable.Durable.{Durable}
use Rattle.daos_model.specs.Changes.{settled}
use Rattle.dtx_leader.specs.dtx_entries.Settling.{entries_settled}
use Rattle.vos_store.specs.Calls.{State}
use Rattle.vos_store.specs.declared.refusal.Stopped.{Stopped}
use Rattle.world_contents.specs.world_base.declared.target.TargetMemory.{TargetMemory}
use Rattle.world_contents.specs.world_base.declared.target.TargetPlan.{TargetPlan}
use Rattle.world_contents.specs.world_base.Changes.{Change, Settles}
use Rattle.target_parts.specs.Keeping.{MadeIf, MadeOrCut}
use Rattle.target_parts.specs.KeepingLaws.{leads-same, leads-settled}
use Rattle.target_parts.specs.Knowing.{IsApart, LeadsWell}
use Rattle.target_parts.specs.Running.{for_some_on}

pub made-not : (b : Bool) (c : Change) (d : Durable) (h : State) (new : Option Durable) (finds : Durable → Type 0) → b ≡ false → new ≡ Some d → MadeIf b c d h new h finds (Ok tt)
made-not true c d h new finds is at = absurd (let no : ⊥ = cc in no)
made-not false c d h new finds is at = record { kept_is = at; free = refl }

pub made-did : (b : Bool) (c : Change) (d : Durable) (h k : State) (new : Option Durable) (finds : Durable → Type 0) (result : Result (Unit {0}) Stopped) → b ≡ true → MadeOrCut c d h new k finds result
    → MadeIf b c d h new k finds result
made-did true c d h k new finds result is made = made
made-did false c d h k new finds result is made = absurd (let no : ⊥ = cc in no)

-- a target goes on well where an attempt was settled that it hasn't to decide or to settle
pub leads-after_step : (t : TargetPlan) (a : AttemptId) (step : Settle) (m : TargetMemory) (es fs : List Entry) (h k : State) (old new : Option Durable) (finds : Durable → Type 0) (result : Result (Unit {0}) Stopped)
    → is_some new ≡ is_some old → OnOk result (fs ≡ entries_settled a step es) → ((d : Durable) → old ≡ Some d → MadeOrCut (Settles a step) d h new k finds result)
    → ForSome old (λ _. IsApart a m.leader) → ForSome old (LeadsWell t m es) → OnOk result (ForSome new (LeadsWell t m fs))
leads-after_step t a step m es fs h k old new finds (Err e) told entries made apart leads = tt
leads-after_step t a step m es fs h k old new finds (Ok u) told entries made apart leads =
    for_some_on old new (LeadsWell t m fs) told (λ d at. (
      settled a step d,
      (made d at).kept_is,
      leads-same t m m (entries_settled a step es) fs (settled a step d) refl entries (leads-settled t a step m es d (apart d at) (leads d at)),
    ))
