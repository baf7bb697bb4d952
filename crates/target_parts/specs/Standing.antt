-- What stands of a target before each part of its turns, and after it.
use Rattle.std.proofs.Common.{◌≡◌, ◌<◌, ◌≤◌, ◌/◌, refl, sym, ◌∙◌, ap, subst, Bool, true, false, Option, Some, None, Result, Ok, Err}
use Rattle.std.specs.Prelude.{OnOk}
use Rattle.std.specs.Option.{ForSome}
use Rattle.base_types.specs.declared.epoch.Epoch.{Epoch}
use Rattle.daos_model.specs.declared.durable.Durable.{Durable}
use Rattle.daos_model.specs.Changes.{leased}
use Rattle.vos_store.specs.Calls.{State}
use Rattle.vos_store.specs.Refusals.{always_stop, says}
use Rattle.vos_store.specs.declared.refusal.Stopped.{Stopped}
use Rattle.world_contents.specs.world_base.declared.did.Did.{Did}
use Rattle.world_contents.specs.world_base.declared.target.TargetPlan.{TargetPlan}
use Rattle.target_parts.specs.declared.knows.Knows.{Knows}
use Rattle.target_parts.specs.declared.stop.TargetStop.{TargetStop}
use Rattle.target_parts.specs.Covers.{CoversOrCut, heard_of}
use Rattle.target_parts.specs.Knowing.{IsBeside, IsOwn, LeadsWell, memory_of}
use Rattle.target_parts.specs.KnowsLaws.{own-beside, with_clock}
use Rattle.target_parts.specs.Parts.{Runs}
use Rattle.target_parts.specs.Readying.{leads-covered, leases}
use Rattle.target_parts.specs.Running.{for_some_on}
use Rattle.target_parts.specs.Stops.{IsSilent, stop_foreign, stop_store}

-- a target is one of so many, which its store was made for
pub record IsPlaced (t : TargetPlan) (s : State) : Type 0 where
  pub me : t.me < t.targets
  pub made : t.targets ≤ s.targets

-- What holds of every target: it is one of at most 64, for which its store was made; what it knows is its own; and unless its store is
-- stopped, that fits what it keeps, where that is told.
pub record IsTarget (t : TargetPlan) (h : State) (old : Option Durable) (k : Knows) : Type 0 where
  pub placed : IsPlaced t h
  pub few : t.targets ≤ 64
  pub own : IsOwn t k
  pub leads : h.stopped ≡ false → ForSome old (LeadsWell t (memory_of k) k.entries.items)

-- What a part of a turn keeps in which entries and what is remembered as a leader alone may change: the store is as each part says; all
-- else that is known stays; and unless the store stopped, what is known fits what is kept.
pub record Keeps {T E : Type 0} (t : TargetPlan) (stop : E → Bool) (result : Result T E) (h k : State) (old new : Option Durable) (before after : Knows) : Type 0 where
  pub runs : Runs stop result h k old new
  pub beside : IsBeside before after
  pub leads : says stop result ≡ false → ForSome new (LeadsWell t (memory_of after) after.entries.items)

-- What a turn says whatever the store of its target keeps: of the store what each part of one says; that no foreign byte was found, since
-- nothing was opened; and that it tells no line.
pub record TurnRuns (result : Result Did TargetStop) (h k : State) (old new : Option Durable) : Type 0 where
  pub runs : Runs stop_store result h k old new
  pub native : says stop_foreign result ≡ false
  pub silent : IsSilent result

-- what holds after Ok holds where no stop was answered
pub by_ok : {T : Type 0} (result : Result T Stopped) (P : Type 0) → OnOk result P → says always_stop result ≡ false → P
by_ok (Ok x) P holds whole = holds
by_ok (Err e) P holds whole = absurd (let no : ⊥ = cc in no)

-- ---- a target after parts of a turn

module _ (t : TargetPlan) where
  -- what it knows then is its own, and fits what it keeps
  pub target-on : (h k : State) (old new : Option Durable) (before after : Knows) → IsTarget t h old before → k.targets ≡ h.targets → IsOwn t after
      → (k.stopped ≡ false → ForSome new (LeadsWell t (memory_of after) after.entries.items)) → IsTarget t k new after
  target-on h k old new before after x made own leads = record {
    placed = record { me = x.placed.me; made = subst (λ n. t.targets ≤ n) (sym made) x.placed.made };
    few = x.few;
    own = own;
    leads = leads;
  }

  -- parts of a turn that leave all but the entries and what is remembered as a leader
  pub target-beside : {T E : Type 0} (stop : E → Bool) (result : Result T E) (h k : State) (old new : Option Durable) (before after : Knows) → IsTarget t h old before → Runs stop result h k old new → IsBeside before after
      → (says stop result ≡ false → ForSome new (LeadsWell t (memory_of after) after.entries.items)) → IsTarget t k new after
  target-beside stop result h k old new before after x runs beside leads =
      target-on h k old new before after x runs.targets (own-beside t before after beside x.own) (λ running. leads (sym runs.stops ∙ running))

  pub target-kept : {T E : Type 0} (stop : E → Bool) (result : Result T E) (h k : State) (old new : Option Durable) (before after : Knows) → IsTarget t h old before → Keeps t stop result h k old new before after → IsTarget t k new after
  target-kept stop result h k old new before after x keeps = target-beside stop result h k old new before after x keeps.runs keeps.beside keeps.leads

  -- its store stopped
  pub target-stopped : {T E : Type 0} (stop : E → Bool) (result : Result T E) (h k : State) (old new : Option Durable) (before after : Knows) → IsTarget t h old before → Runs stop result h k old new → says stop result ≡ true → IsOwn t after → IsTarget t k new after
  target-stopped stop result h k old new before after x runs stopped own =
      target-on h k old new before after x runs.targets own (λ running. (let bad : true ≡ false = sym stopped ∙ sym runs.stops ∙ running in let no : ⊥ = cc in absurd no))

  -- its store did nothing
  pub target-known : (h : State) (old : Option Durable) (before after : Knows) → IsTarget t h old before → IsOwn t after → ((d : Durable) → LeadsWell t (memory_of before) before.entries.items d → LeadsWell t (memory_of after) after.entries.items d)
      → IsTarget t h old after
  target-known h old before after x own leads = target-on h h old old before after x refl own (λ running d at. leads d (x.leads running d at))

  own-heard : (heard : Option Epoch) (before after : Knows) → after ≡ with_clock (heard_of heard before.hlc) before → IsOwn t before → IsOwn t after
  own-heard heard before after is own = subst (IsOwn t) (sym is) (record { clock = same heard ∙ own.clock; member = own.member; parked = own.parked })
    where
      same : (heard : Option Epoch) → (heard_of heard before.hlc).target ≡ before.hlc.target
      same None = refl
      same (Some e) = refl

  -- an epoch was heard of, and the lease for it stored, or that was cut
  pub target-heard : (e : Epoch) (result : Result (Unit {0}) Stopped) (h k : State) (old new : Option Durable) (finds : Durable → Type 0) (before after : Knows) → IsTarget t h old before → h.stopped ≡ false → Runs always_stop result h k old new
      → after ≡ with_clock (heard_of (Some e) before.hlc) before → ((d : Durable) → old ≡ Some d → CoversOrCut (e.0 / 256) d h new k finds result) → IsTarget t k new after
  target-heard e (Err s) h k old new finds before after x running runs is covers = target-stopped always_stop (Err s) h k old new before after x runs refl (own-heard (Some e) before after is x.own)
  target-heard e (Ok u) h k old new finds before after x running runs is covers =
      target-on h k old new before after x runs.targets (own-heard (Some e) before after is x.own)
      (λ _. for_some_on old new (LeadsWell t (memory_of after) after.entries.items) runs.told (λ d at.
      let lease = leases (e.0 / 256) d h new k (covers d at) in (
        leased lease.lease d,
        lease.kept_is,
        leads-covered t lease.lease d (memory_of before) (memory_of after) after.entries.items e lease.rises lease.covers (ap (λ x. x.hlc.ticks) is) (ap (λ x. x.leader) is) (ap (λ x. x.member.memory) is)
            (subst (λ es. LeadsWell t (memory_of before) es d) (sym (ap (λ x. x.entries.items) is)) (x.leads running d at)),
      )))

  -- none was issued
  pub target-unheard : (h : State) (old : Option Durable) (before after : Knows) → IsTarget t h old before → after ≡ with_clock before.hlc before → IsTarget t h old after
  target-unheard h old before after x is = subst (IsTarget t h old) (sym is) (record { placed = x.placed; few = x.few; own = record { clock = x.own.clock; member = x.own.member; parked = x.own.parked }; leads = x.leads })
